-- Laws of the heads: of the driver's records and of the table's.
use mathlib.Core.Path.{◌≡◌, refl, sym, ◌∙◌, ap}
use mathlib.Core.Bool.{Bool, true, false, not, and-false}
use mathlib.Core.Logic.{◌⊎◌, inl, inr, ◌↔◌, ◌≢◌}
use mathlib.Core.List.{List, [], ◌∷◌, ◌++◌}
use Prim.Native.Nat.{ℕ, zero, suc, ◌+◌, ◌-◌, ◌*◌, ◌≤◌, ◌<◌}
use native.Mathlib.Omega.{arith}
use native.Mathlib.Decide.{dec_lt}
use lib.ListN.{length, get_or, take, drop, replicate, length-append, length-drop, length-set, length-replicate, get_or-replicate}
use lib.ListN.{get_or-append, get_or-eq_default}
use lib.Seq.{length-take-le, get_or-append-add, get_or-take, get_or-drop, get_or-set_same, get_or-set_other}
use lib.Dec.{eqb, ltb}
use borrow.Author.Tests.{ltb-true, lt-ltb, eqb-true, eq-eqb, not-true}
use Rattle.tree.specs.Memory.{reads, first}
use Rattle.tree.specs.Lists.{every}
use Rattle.tree.proofs.Cases.{test, true_not_false, and-true, true_and, or-true, or_left, or_right}
use Rattle.tree.proofs.Memory.{first_laws}
use Rattle.tree.proofs.Laws.{pool_laws}
use Rattle.book.specs.declared.Target.{Target}
use Rattle.book.specs.declared.HeadState.{HeadState}
use Rattle.book.specs.declared.HeadState.TheVariants.{Idle, Claimed, Filled}
use Rattle.book.specs.Heads.{head_count, state_of, head_at, words_of, with_head, idle_heads, is_idle, is_claimed, is_filled, target_of, names, busy, any_head, conflicts}
use Rattle.book.specs.Table.{Table, TableHead, idle, table_head, any_table_head, with_table_head}
use Rattle.book.specs.Agrees.{About, by_claim, by_fill}

-- ---- words put in place of others

spliced : List ℕ → List ℕ → ℕ → List ℕ
spliced ws vs at = take at ws ++ (vs ++ drop (at + length vs) ws)

module _ (ws vs : List ℕ) (at : ℕ) (fits : at + length vs ≤ length ws) where
  front : length (take at ws) ≡ at
  front = length-take-le at ws (omega arith)

  length_spliced : length (spliced ws vs at) ≡ length ws
  unfolding spliced
  length_spliced = simp (length-append, front, length-drop) (omega arith)

  spliced_in : (j : ℕ) → j < length vs → get_or (spliced ws vs at) (at + j) 0 ≡ get_or vs j 0
  unfolding spliced
  spliced_in j h = rw front at (get_or-append-add (take at ws) (vs ++ drop (at + length vs) ws) j 0) ∙ get_or-append vs _ 0 j h

  spliced_out : (i : ℕ) → (i < at) ⊎ (at + length vs ≤ i) → get_or (spliced ws vs at) i 0 ≡ get_or ws i 0
  unfolding spliced
  spliced_out i (inl h) = get_or-append (take at ws) _ 0 i (rw front h) ∙ get_or-take at ws i 0 h
  spliced_out i (inr h) =
      let j = i - (at + length vs) in
      let q : at + (length vs + j) ≡ i = omega arith in
      let r : at + length vs + j ≡ i = omega arith in
      rw q at (rw front at (get_or-append-add (take at ws) (vs ++ drop (at + length vs) ws) (length vs + j) 0))
      ∙ get_or-append-add vs (drop (at + length vs) ws) j 0
      ∙ rw r at (get_or-drop (at + length vs) ws j 0)

-- ---- the driver's records

-- records with the same words have the same state
same_record : (ws ws' : List ℕ) (h h' : ℕ) → ((j : ℕ) → j < 5 → reads ws (5 * h + j) ≡ reads ws' (5 * h' + j)) → head_at ws h ≡ head_at ws' h'
unfolding head_at
same_record ws ws' h h' e =
    let z : 5 * h + 0 ≡ 5 * h = omega arith in
    let z' : 5 * h' + 0 ≡ 5 * h' = omega arith in
    let e0 : reads ws (5 * h) ≡ reads ws' (5 * h') = rw (z, z') at (e 0 (omega arith)) in
    rw (e0, e 1 (omega arith), e 2 (omega arith), e 3 (omega arith), e 4 (omega arith))

read_back : (x : HeadState) → head_at (words_of x) 0 ≡ x
unfolding head_at words_of state_of
read_back Idle = refl
read_back (Claimed t) = refl
read_back (Filled t) = refl

length_words : (x : HeadState) → length (words_of x) ≡ 5
unfolding words_of
length_words Idle = refl
length_words (Claimed t) = refl
length_words (Filled t) = refl

with_words : (ws : List ℕ) (h : ℕ) (x : HeadState) → with_head ws h x ≡ spliced ws (words_of x) (5 * h)
unfolding with_head spliced
with_words ws h x = rw length_words

module _ (ws : List ℕ) (h : ℕ) (x : HeadState) (inside : 5 * h + 5 ≤ length ws) where
  fits_words : 5 * h + length (words_of x) ≤ length ws
  fits_words = rw length_words inside

  pub length_with : length (with_head ws h x) ≡ length ws
  length_with = ap length (with_words ws h x) ∙ length_spliced ws (words_of x) (5 * h) fits_words

  -- the record's words, and the others
  pub word_written : (j : ℕ) → j < 5 → reads (with_head ws h x) (5 * h + j) ≡ get_or (words_of x) j 0
  word_written j l = ap (λ v. reads v (5 * h + j)) (with_words ws h x) ∙ spliced_in ws (words_of x) (5 * h) fits_words j (rw length_words l)

  pub word_stays : (i : ℕ) → (i < 5 * h) ⊎ (5 * h + 5 ≤ i) → reads (with_head ws h x) i ≡ reads ws i
  word_stays i o = ap (λ v. reads v i) (with_words ws h x) ∙ spliced_out ws (words_of x) (5 * h) fits_words i (rw length_words o)

  -- a record is read as written, and the others stay
  pub head_written : head_at (with_head ws h x) h ≡ x
  head_written =
      ap (λ v. head_at v h) (with_words ws h x)
      ∙ same_record (spliced ws (words_of x) (5 * h)) (words_of x) h 0 (λ j l.
      let z : 5 * 0 + j ≡ j = omega arith in
      rw z (spliced_in ws (words_of x) (5 * h) fits_words j (rw length_words l)))
      ∙ read_back x

  pub head_stays : (k : ℕ) → k ≢ h → head_at (with_head ws h x) k ≡ head_at ws k
  head_stays k d =
      ap (λ v. head_at v k) (with_words ws h x)
      ∙ same_record _ ws k k (λ j l. spliced_out ws (words_of x) (5 * h) fits_words (5 * k + j) (rw length_words (beside j l)))
    where
      beside : (j : ℕ) → j < 5 → (5 * k + j < 5 * h) ⊎ (5 * h + 5 ≤ 5 * k + j)
      beside j l = elim (dec_lt k h) [ yes b ↦ inl (omega arith) | no b ↦ inr (omega arith) ]

-- words all 0 are idle heads
pub zero_idle : (n h : ℕ) → head_at (replicate n 0) h ≡ Idle
unfolding head_at state_of
zero_idle n h = rw (pool_laws.clear_word n (5 * h))

pub idle_heads_lem : (h : ℕ) → head_at idle_heads h ≡ Idle
idle_heads_lem h = zero_idle (5 * head_count) h

pub length_idle : length idle_heads ≡ 5 * head_count
length_idle = length-replicate {A = ℕ} (5 * head_count) 0

-- ---- what a head is about

pub about_target : (x : HeadState) → is_idle x ≡ false → About (target_of x) x
about_target Idle h = absurd (true_not_false refl h)
about_target (Claimed t) h = by_claim
about_target (Filled t) h = by_fill

pub target_about : {t : Target} {x : HeadState} → About t x → (is_idle x ≡ false) × (target_of x ≡ t)
target_about by_claim = (refl, refl)
target_about by_fill = (refl, refl)

-- a head is about one target, an idle one about none
pub one_target : {a b : Target} {x : HeadState} → About a x → About b x → a ≡ b
one_target a b = sym (target_about a).1 ∙ (target_about b).1

pub idle_nothing : {t : Target} {x : HeadState} → is_idle x ≡ true → About t x → ⊥
idle_nothing h a = true_not_false h (target_about a).0

pub claimed_is : (x : HeadState) → is_claimed x ≡ true → x ≡ Claimed (target_of x)
claimed_is Idle h = absurd (true_not_false h refl)
claimed_is (Claimed t) h = refl
claimed_is (Filled t) h = absurd (true_not_false h refl)

pub filled_is : (x : HeadState) → is_filled x ≡ true → x ≡ Filled (target_of x)
filled_is Idle h = absurd (true_not_false h refl)
filled_is (Claimed t) h = absurd (true_not_false h refl)
filled_is (Filled t) h = refl

pub names_about : (s : ℕ) (x : HeadState) → (names s x ≡ true) ↔ ((t : Target) × About t x × (t.slot ≡ s))
names_about s x = (there x, λ p. back p.1 p.2)
  where
    there : (x : HeadState) → names s x ≡ true → (t : Target) × About t x × (t.slot ≡ s)
    there Idle h = absurd (true_not_false h refl)
    there (Claimed t) h = (t, by_claim, eqb-true t.slot s h)
    there (Filled t) h = (t, by_fill, eqb-true t.slot s h)

    back : {t : Target} {x : HeadState} → About t x → t.slot ≡ s → names s x ≡ true
    back {t = t} by_claim q = eq-eqb t.slot s q
    back {t = t} by_fill q = eq-eqb t.slot s q

-- a search ends below its bound exactly if the test holds somewhere below it
pub found_below : (p : ℕ → Bool) (n : ℕ) → (ltb (first p n) n ≡ true) ↔ ((i : ℕ) × (i < n) × (p i ≡ true))
found_below p n =
    let l = first_laws p n in (
      λ h. let b = ltb-true (first p n) n h in (first p n, b, l.holds b),
      λ t. lt-ltb (first p n) n (omega (arith, l.least t.0 t.1 t.2)),
    )

pub any_head_lem : (passes : HeadState → Bool) (ws : List ℕ)
    → (any_head passes ws ≡ true) ↔ ((h : ℕ) × (h < head_count) × (passes (head_at ws h) ≡ true))
unfolding any_head
any_head_lem passes ws = found_below (λ h. passes (head_at ws h)) head_count

-- where a slot is not busy, no head is about it
pub not_busy : (ws : List ℕ) {slot : ℕ} → busy ws slot ≡ false → {x : Target} (h : ℕ) → h < head_count → About x (head_at ws h) → x.slot ≢ slot
not_busy ws {slot} none {x} h l o q = true_not_false ((any_head_lem (names slot) ws).1 (h, l, (names_about slot _).1 (x, o, q))) none

-- ---- a head in a claim's way

-- it is about a target with the claim's slot, and with its frame or, if the claim uses one, at its node
pub conflicts_about : (t : Target) (uses : Bool) (x : HeadState)
    → (conflicts t uses x ≡ true)
    ↔ ((y : Target) × About y x × (y.slot ≡ t.slot) × ((y.frame ≡ t.frame) ⊎ ((uses ≡ true) × (y.node ≡ t.node))))
conflicts_about t uses x = (there, back)
  where
    there : conflicts t uses x ≡ true
        → (y : Target) × About y x × (y.slot ≡ t.slot) × ((y.frame ≡ t.frame) ⊎ ((uses ≡ true) × (y.node ≡ t.node)))
    there h =
        let b = and-true (names t.slot x) _ h in
        let n = (names_about t.slot x).0 b.0 in
        let q = (target_about n.1).1 in (
          n.0,
          n.1,
          n.2,
          elim (or-true (eqb (target_of x).frame t.frame) _ b.1) [
            | inl e ↦ inl (ap (λ y. y.frame) (sym q) ∙ eqb-true (target_of x).frame t.frame e)
            | inr e ↦
                let u = and-true uses _ e in
                inr (u.0, ap (λ y. y.node) (sym q) ∙ eqb-true (target_of x).node t.node u.1)
          ],
        )

    back : (y : Target) × About y x × (y.slot ≡ t.slot) × ((y.frame ≡ t.frame) ⊎ ((uses ≡ true) × (y.node ≡ t.node)))
        → conflicts t uses x ≡ true
    back p =
        let q = (target_about p.1).1 in
        true_and ((names_about t.slot x).1 (p.0, p.1, p.2)) (elim p.3 [
          | inl e ↦ or_left _ (eq-eqb (target_of x).frame t.frame (ap (λ y. y.frame) q ∙ e))
          | inr e ↦ or_right (eqb (target_of x).frame t.frame) (true_and e.0 (eq-eqb (target_of x).node t.node (ap (λ y. y.node) q ∙ e.1)))
        ])

-- where none is, a head of the slot has another frame and is at another node than the one that the claim uses
pub no_conflict : (t : Target) (uses : Bool) (ws : List ℕ) → any_head (conflicts t uses) ws ≡ false
    → (k : ℕ) {y : Target} → k < head_count → About y (head_at ws k) → y.slot ≡ t.slot → (y.frame ≢ t.frame) × (uses ≡ true → y.node ≢ t.node)
no_conflict t uses ws none k {y} l o q =
    let met : (y.frame ≡ t.frame) ⊎ ((uses ≡ true) × (y.node ≡ t.node)) → ⊥ =
    λ e. true_not_false ((any_head_lem (conflicts t uses) ws).1 (k, l, (conflicts_about t uses (head_at ws k)).1 (y, o, q, e))) none in
    (λ e. met (inl e), λ u e. met (inr (u, e)))

-- ---- the table's heads

pub table_head_written : (t : Table) (h : ℕ) (x : TableHead) → h < length t.heads → table_head (with_table_head t h x) h ≡ x
table_head_written t h x l = get_or-set_same t.heads h x idle l

pub table_head_stays : (t : Table) (h k : ℕ) (x : TableHead) → k ≢ h → table_head (with_table_head t h x) k ≡ table_head t k
table_head_stays t h k x d = get_or-set_other t.heads h k x idle d

pub length_with_table : (t : Table) (h : ℕ) (x : TableHead) → length (with_table_head t h x).heads ≡ length t.heads
length_with_table t h x = length-set t.heads h x

-- a list of the default value has it at every index
pub replicate_idle : (n h : ℕ) → get_or (replicate n idle) h idle ≡ idle
replicate_idle n h = elim (dec_lt h n) [
  | yes l ↦ get_or-replicate n h idle idle l
  | no l ↦ get_or-eq_default (replicate n idle) idle (rw length-replicate (omega arith))
]

-- a test fails at some element: its index
module _ {A : Type 0} (p : A → Bool) (d : A) where
  some_at : (xs : List A) → every (λ x. not (p x)) xs ≡ false → (i : ℕ) × (i < length xs) × (p (get_or xs i d) ≡ true)
  unfolding every
  some_at [] h = absurd (true_not_false refl h)
  some_at (x ∷ xs) h = go (test (p x)) (some_at xs)
    where
      go : (p x ≡ true) ⊎ (p x ≡ false) → (every (λ y. not (p y)) xs ≡ false → (i : ℕ) × (i < length xs) × (p (get_or xs i d) ≡ true))
          → (i : ℕ) × (i < suc (length xs)) × (p (get_or (x ∷ xs) i d) ≡ true)
      go (inl e) ih = (0, omega arith, e)
      go (inr e) ih = let t = ih (rw e at h) in (suc t.0, omega arith, t.2)

  at_some : (xs : List A) (i : ℕ) → i < length xs → p (get_or xs i d) ≡ true → every (λ x. not (p x)) xs ≡ false
  unfolding every
  at_some [] i l e = absurd (omega arith)
  at_some (x ∷ xs) zero l e = rw e
  at_some (x ∷ xs) (suc i) l e = rw (at_some xs i (omega arith) e) (and-false (not (p x)))

pub any_table_head_lem : (passes : TableHead → Bool) (t : Table)
    → (any_table_head passes t ≡ true) ↔ ((h : ℕ) × (h < length t.heads) × (passes (table_head t h) ≡ true))
unfolding any_table_head
any_table_head_lem passes t = (
  λ h. some_at passes idle t.heads (not-true _ h),
  λ r. rw (at_some passes idle t.heads r.0 r.1 r.2),
)
