-- The two passes of carrying a script out, and the count of its stores, an entry at a time.
use mathlib.Core.Path.{◌≡◌, refl, ap, sym, ◌∙◌}
use mathlib.Core.Bool.{Bool, true, false, cond, ◌&&◌}
use mathlib.Core.Logic.{◌≢◌}
use mathlib.Core.Option.{Option, none, some}
use mathlib.Core.List.{List, [], ◌∷◌}
use Prim.Native.Nat.{ℕ, zero, suc, ◌+◌, ◌%◌, ◌^◌, ◌≤◌, ◌<◌}
use native.Mathlib.Omega.{arith}
use native.Mathlib.Decide.{dec_lt, ℕ_discrete}
use lib.ListN.{length, get_or, drop, set, length-set}
use lib.Seq.{drop-cons}
use lib.Dec.{eqb, ltb}
use borrow.Author.Tests.{eq-eqb, ne_eqb, lt-ltb, le-ltb}
use Rattle.std.specs.Prelude.{All, Any, count_by}
use Rattle.std.proofs.lemmas.List.Sums.{sum_by-cons}
use Rattle.memory.specs.Script.{Entry, store, barrier, flush, barrier_word, flush_word, entry_of, onto, decode, stores_in}
use Rattle.memory.specs.Crash.{apply}
use Rattle.memory.specs.Apply.{is_some, outcome, applied, carry_out, is_entry, is_script, made_stores}
use Rattle.memory.proofs.Cases.{clash}
use Rattle.memory.proofs.Pairs.{Pairs, none, half, pair}
use Rattle.memory.proofs.Written.{Reads, as_barrier, as_flush, as_store, entry_reads}

-- ---- the check pass

some_if : {A : Type 0} (t : Bool) (a : A) → is_some (cond t (some a) none) ≡ t
some_if true a = refl
some_if false a = refl

pub barrier_entry : (n i v : ℕ) → i ≡ barrier_word → eqb v 0 ≡ is_entry n i v
unfolding is_entry entry_of
barrier_entry n i v h = rw (eq-eqb i barrier_word h) (sym (some_if (eqb v 0) barrier))

pub flush_entry : (n i v : ℕ) → i ≡ flush_word → true ≡ is_entry n i v
unfolding is_entry entry_of
flush_entry n i v f = rw f refl

pub store_entry : (n i v : ℕ) → i ≢ barrier_word → i ≢ flush_word → ltb i n ≡ is_entry n i v
unfolding is_entry entry_of
store_entry n i v h f = rw (ne_eqb i barrier_word h, ne_eqb i flush_word f) (sym (some_if (ltb i n) (store i v)))

both_there : (o : Option Entry) (os : Option (List Entry)) → is_some (onto o os) ≡ is_some o && is_some os
both_there none os = refl
both_there (some e) none = refl
both_there (some e) (some es) = refl

script_step : (n i v : ℕ) (ws : List ℕ) → is_script n (i ∷ v ∷ ws) ≡ is_entry n i v && is_script n ws
unfolding is_script is_entry decode
script_step n i v ws = both_there (entry_of n i v) (decode n ws)

-- of words that are in pairs, whole where no half is left: a script where each pair is an entry, and none where one is not
abbrev pub entry_is : ℕ → Bool → List ℕ → Type 0
entry_is n t w = is_entry n (get_or w 0 0) (get_or w 1 0) ≡ t

pub each_entry : (n : ℕ) {ws : List ℕ} {ps : List (List ℕ)} → Pairs ws ps → All (entry_is n true) ps → eqb (length ws % 2) 0 ≡ is_script n ws
unfolding is_script decode
each_entry n none a = refl
each_entry n half a = refl
each_entry n (pair {i = i} {v = v} {ws = ws} p) a =
    let two : length (i ∷ v ∷ ws) % 2 ≡ length ws % 2 = omega arith in
    rw (two, script_step n i v ws, a 0 [] (omega arith)) (each_entry n p (λ k d l. a (suc k) d (omega arith)))

nowhere : (t : Bool) → false ≡ t && false
nowhere true = refl
nowhere false = refl

pub no_entry : (n : ℕ) {ws : List ℕ} {ps : List (List ℕ)} → Pairs ws ps → Any (entry_is n false) ps → false ≡ is_script n ws
no_entry n none (k, x, l, e, f) = absurd (omega arith)
no_entry n half (k, x, l, e, f) = absurd (omega arith)
no_entry n (pair {i = i} {v = v} {ws = ws} p) (zero, x, l, e, f) =
    let first : is_entry n i v ≡ false = rw (← e) at f in rw (script_step n i v ws, first) refl
no_entry n (pair {i = i} {v = v} {ws = ws} p) (suc k, x, l, e, f) =
    let left : is_script n ws ≡ false = sym (no_entry n p (k, x, omega arith, e, f)) in rw (script_step n i v ws, left) (nowhere (is_entry n i v))

-- ---- the write pass

-- what is left of a script that was checked, after an entry is made
pub record Made (m m' ws ws' : List ℕ) : Type 0 where
  pub same_length : length m' ≡ length m
  pub checked : is_script (length m') ws' ≡ true
  pub same : made_stores m ws ≡ made_stores m' ws'

-- the image that the entry leaves
abbrev stepped : List ℕ → Entry → List ℕ
stepped m (store i v) = set m i v
stepped m barrier = m
stepped m (flush l) = m

length_stepped : (m : List ℕ) (e : Entry) → length (stepped m e) ≡ length m
length_stepped m (store i v) = length-set m i v
length_stepped m barrier = refl
length_stepped m (flush l) = refl

apply_stepped : (m : List ℕ) (e : Entry) (es : List Entry) → apply m (e ∷ es) ≡ apply (stepped m e) es
unfolding apply
apply_stepped m (store i v) es = refl
apply_stepped m barrier es = refl
apply_stepped m (flush l) es = refl

made : (m : List ℕ) (i v : ℕ) (ws : List ℕ) (e : Entry) (es : List Entry) → entry_of (length m) i v ≡ some e → decode (length m) ws ≡ some es
    → Made m (stepped m e) (i ∷ v ∷ ws) ws
unfolding is_script made_stores carry_out decode
made m i v ws e es one rest =
    let all : onto (entry_of (length m) i v) (decode (length m) ws) ≡ some (e ∷ es) = rw (one, rest) refl in
    let left : decode (length (stepped m e)) ws ≡ some es = rw (length_stepped m e) rest in
    record {
      same_length = length_stepped m e;
      checked = ap is_some left;
      same = ap (λ o. (applied m o).image) all ∙ apply_stepped m e es ∙ sym (ap (λ o. (applied (stepped m e) o).image) left);
    }

made_step : (m : List ℕ) (i v : ℕ) (ws : List ℕ) → is_script (length m) (i ∷ v ∷ ws) ≡ true
    → (e : Entry) × Reads (length m) i v e × Made m (stepped m e) (i ∷ v ∷ ws) ws
unfolding is_script decode
made_step m i v ws c = go (entry_of (length m) i v) (decode (length m) ws) refl refl c
  where
    go : (o : Option Entry) (os : Option (List Entry)) → entry_of (length m) i v ≡ o → decode (length m) ws ≡ os → is_some (onto o os) ≡ true
        → (e : Entry) × Reads (length m) i v e × Made m (stepped m e) (i ∷ v ∷ ws) ws
    go none os eo eos t = clash false t refl
    go (some e) none eo eos t = clash false t refl
    go (some e) (some es) eo eos t = (e, entry_reads _ _ _ e eo, made m i v ws e es eo eos)

-- a store, where the first word is below the two marks; a barrier or a flush, where it is not
pub made_store : (m : List ℕ) (i v : ℕ) (ws : List ℕ) → is_script (length m) (i ∷ v ∷ ws) ≡ true → i < flush_word
    → (i < length m) × Made m (set m i v) (i ∷ v ∷ ws) ws
made_store m i v ws c b = let s = made_step m i v ws c in go s.0 s.1 s.2
  where
    go : (e : Entry) → Reads (length m) i v e → Made m (stepped m e) (i ∷ v ∷ ws) ws → (i < length m) × Made m (set m i v) (i ∷ v ∷ ws) ws
    go barrier (as_barrier q z) d = absurd (omega arith)
    go (flush l) (as_flush q) d = absurd (omega arith)
    go (store i v) (as_store l q f) d = (l, d)

pub made_skip : (m : List ℕ) (i v : ℕ) (ws : List ℕ) → length m ≤ flush_word → is_script (length m) (i ∷ v ∷ ws) ≡ true → flush_word ≤ i
    → Made m m (i ∷ v ∷ ws) ws
made_skip m i v ws short c b = let s = made_step m i v ws c in go s.0 s.1 s.2
  where
    go : (e : Entry) → Reads (length m) i v e → Made m (stepped m e) (i ∷ v ∷ ws) ws → Made m m (i ∷ v ∷ ws) ws
    go barrier (as_barrier q z) d = d
    go (flush l) (as_flush q) d = d
    go (store i v) (as_store l q f) d = absurd (omega arith)

-- the last entry is made
pub made_last : (m ws : List ℕ) → length ws ≤ 1 → m ≡ made_stores m ws
unfolding made_stores carry_out apply decode
made_last m [] h = refl
made_last m (i ∷ []) h = refl
made_last m (i ∷ v ∷ ws) h = absurd (omega arith)

-- ---- the count

count_step : (at : ℕ) (ws : List ℕ) → at + 1 < length ws
    → let rest = stores_in (drop (at + 2) ws) in
    stores_in (drop at ws) ≡ cond (eqb (get_or ws at 0) barrier_word) rest (cond (eqb (get_or ws at 0) flush_word) rest (1 + rest))
unfolding stores_in
count_step at ws h =
    let two : at + 2 ≡ suc (suc at) = omega arith in
    rw (two, drop-cons ws at 0 (omega arith), drop-cons ws (suc at) 0 (omega arith)) refl

-- an entry is a store, where its first word is below the two marks
pub count_store : (at : ℕ) (ws : List ℕ) → at + 1 < length ws → get_or ws at 0 < flush_word → stores_in (drop at ws) ≡ 1 + stores_in (drop (at + 2) ws)
count_store at ws h b =
    count_step at ws h ∙ rw (ne_eqb (get_or ws at 0) barrier_word (λ q. omega arith), ne_eqb (get_or ws at 0) flush_word (λ q. omega arith)) refl

stored : (i v : ℕ) (ws : List ℕ) → i < 2 ^ 64 → cond (ltb i flush_word) 1 0 + stores_in ws ≡ stores_in (i ∷ v ∷ ws)
unfolding stores_in
stored i v ws u = elim (dec_lt i flush_word) [
  | yes l ↦ rw (lt-ltb i flush_word l) (sym (count_store 0 (i ∷ v ∷ ws) (omega arith) l))
  | no g ↦ elim (ℕ_discrete i barrier_word) [
    | yes q ↦ rw (le-ltb i flush_word (omega arith), eq-eqb i barrier_word q) (omega arith)
    | no q ↦ rw (le-ltb i flush_word (omega arith), ne_eqb i barrier_word q, eq-eqb i flush_word (omega arith)) (omega arith)
  ]
]

abbrev pub stores_word : List ℕ → Bool
stores_word w = ltb (get_or w 0 0) flush_word

pub count_pairs : {ws : List ℕ} {ps : List (List ℕ)} → Pairs ws ps → ((k : ℕ) → get_or ws k 0 < 2 ^ 64) → count_by stores_word ps ≡ stores_in ws
unfolding stores_in
count_pairs none u = refl
count_pairs half u = refl
count_pairs (pair {i = i} {v = v} {ws = ws} {ps = ps} p) u =
    sum_by-cons (λ (w : List ℕ). cond (stores_word w) 1 0) (i ∷ v ∷ []) ps ∙ rw (count_pairs p (λ k. u (suc (suc k)))) (stored i v ws (u 0))

-- ---- both passes

-- a script that is none is refused, and one that was checked is done once its stores are made
pub refused : (m ws : List ℕ) → is_script (length m) ws ≡ false → outcome 3 m ≡ carry_out m ws
unfolding is_script carry_out
refused m ws h = go (decode (length m) ws) h
  where
    go : (o : Option (List Entry)) → is_some o ≡ false → outcome 3 m ≡ applied m o
    go none h = refl
    go (some es) h = clash true refl h

pub done : (m m' ws : List ℕ) → is_script (length m) ws ≡ true → m' ≡ made_stores m ws → outcome 0 m' ≡ carry_out m ws
unfolding is_script made_stores carry_out
done m m' ws h e = rw e (go (decode (length m) ws) h)
  where
    go : (o : Option (List Entry)) → is_some o ≡ true → outcome 0 (applied m o).image ≡ applied m o
    go none h = clash false h refl
    go (some es) h = refl
