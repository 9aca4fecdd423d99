-- A script translated entry by entry.
use mathlib.Core.Path.{◌≡◌, refl, ap, sym, ◌∙◌}
use mathlib.Core.Bool.{false}
use mathlib.Core.Logic.{◌≢◌}
use mathlib.Core.List.Memᴰ
use mathlib.Core.List.{List, [], ◌∷◌, ◌++◌, map, append-nil, append_assoc}
use Prim.Native.Nat.{ℕ, ◌+◌, ◌-◌, ◌*◌, ◌≤◌, ◌<◌}
use native.Mathlib.Omega.{arith}
use native.Mathlib.Decide.{ℕ_discrete}
use lib.ListN.{length, get_or, take, drop, length-append, length-drop, length-take}
use lib.Seq.{append_snoc, get_or-drop}
use borrow.Author.Tests.{eq-eqb, ne_eqb}
use borrow.Rule.Slice.PartMut.{mid_of, put_mid}
use Rattle.memory.specs.Script.{Entry, store, barrier, flush, barrier_word, flush_word, encode, written}
use Rattle.flushes.specs.Crash.{line_of}
use Rattle.flushes.specs.Translate.{firsts, lines_in, flushes, translated_from, translated, any_flush}
use Rattle.flushes.specs.Passes.{segment_start, entry_in, entries_in, line_words, line_flushes, piece_of}
use Rattle.memory.proofs.Laws.{written_rest}
use Rattle.flushes.proofs.Translator.{flush_free, length_flushes}
use Rattle.flushes.proofs.Passes.{lines_more, entries_step, entries_last, piece_few}

-- ---- one entry more

-- the entries since the last barrier, where `since` are those before es
pub since_after : List Entry → List Entry → List Entry
since_after since [] = since
since_after since (store i v ∷ es) = since_after (since ++ store i v ∷ []) es
since_after since (barrier ∷ es) = since_after [] es
since_after since (flush l ∷ es) = since_after since es

piece_for : List Entry → Entry → List Entry
piece_for since (store i v) = store i v ∷ []
piece_for since barrier = flushes since ++ barrier ∷ []
piece_for since (flush l) = flush l ∷ []

translated_more : (since ds : List Entry) (e : Entry) → translated_from since (ds ++ e ∷ []) ≡ translated_from since ds ++ piece_for (since_after since ds) e
unfolding translated_from since_after piece_for
translated_more since [] (store i v) = refl
translated_more since [] barrier = refl
translated_more since [] (flush l) = refl
translated_more since (store i v ∷ ds) e = ap (λ t. store i v ∷ t) (translated_more (since ++ store i v ∷ []) ds e)
translated_more since (barrier ∷ ds) e = rw (translated_more [] ds e) (sym (append_assoc (flushes since) (barrier ∷ translated_from [] ds) (piece_for (since_after [] ds) e)))
translated_more since (flush l ∷ ds) e = ap (λ t. flush l ∷ t) (translated_more since ds e)

since_more : (since ds : List Entry) (e : Entry) → since_after since (ds ++ e ∷ []) ≡ since_after (since_after since ds) (e ∷ [])
unfolding since_after
since_more since [] e = refl
since_more since (store i v ∷ ds) e = since_more (since ++ store i v ∷ []) ds e
since_more since (barrier ∷ ds) e = since_more [] ds e
since_more since (flush l ∷ ds) e = since_more since ds e

lines_append : (es fs : List Entry) → lines_in (es ++ fs) ≡ lines_in es ++ lines_in fs
unfolding lines_in
lines_append [] fs = refl
lines_append (store i v ∷ es) fs = ap (λ t. line_of i ∷ t) (lines_append es fs)
lines_append (barrier ∷ es) fs = lines_append es fs
lines_append (flush l ∷ es) fs = lines_append es fs

-- how long it is so far, with a flush for each entry of the segment still to come
long : (since ds : List Entry) → length (translated_from since ds) + length (since_after since ds) ≤ length since + 2 * length ds
unfolding translated_from since_after
long since [] = omega arith
long since (store i v ∷ ds) = omega (arith, long (since ++ store i v ∷ []) ds, length-append since (store i v ∷ []))
long since (barrier ∷ ds) = rw (length-append (flushes since) (barrier ∷ translated_from [] ds)) (omega (arith, length_flushes since, long [] ds))
long since (flush l ∷ ds) = omega (arith, long since ds)

entries_few : (ws : List ℕ) → 2 * length (entries_in ws) ≤ length ws
unfolding entries_in
entries_few [] = omega arith
entries_few (i ∷ []) = omega arith
entries_few (i ∷ v ∷ ws) = omega (arith, entries_few ws)

-- ---- so far

pub record Progress (script buffer₀ buffer : List ℕ) (used start at : ℕ) : Type 0 where
  pub ds : List Entry
  pub entries : entries_in script ≡ ds ++ entries_in (drop at script)
  pub lines : line_words (take (at - start) (drop start script)) ≡ lines_in (since_after [] ds)
  pub segment : at ≡ start + 2 * length (since_after [] ds)
  pub used_is : used ≡ 2 * length (translated ds)
  pub written_is : buffer ≡ written (translated ds) buffer₀

pub begins : (script buffer : List ℕ) → Progress script buffer buffer 0 0 0
unfolding line_words lines_in since_after translated translated_from written encode
begins script buffer = record { ds = []; entries = refl; lines = refl; segment = omega arith; used_is = refl; written_is = refl }

pub ends : (script buffer₀ buffer : List ℕ) (used start at : ℕ) → length script ≤ at + 1 → Progress script buffer₀ buffer used start at
    → (used ≡ 2 * length (translated (entries_in script))) × (buffer ≡ written (translated (entries_in script)) buffer₀)
ends script buffer₀ buffer used start at h p =
    let q : entries_in script ≡ p.ds = p.entries ∙ ap (λ t. p.ds ++ t) (entries_last at script h) ∙ append-nil p.ds in
    rw q (p.used_is, p.written_is)

-- there is room for what the next entry becomes
pub room : (script buffer₀ buffer : List ℕ) (used start at : ℕ) → length script ≤ 50 → at + 1 < length script → Progress script buffer₀ buffer used start at
    → used + (at - start) + 2 ≤ 98
unfolding translated
room script buffer₀ buffer used start at f h p =
    let one = ap length (entries_step at script h) in
    let all = ap length p.entries ∙ length-append p.ds (entries_in (drop at script)) in
    let few = entries_few script in
    let l = long [] p.ds in
    omega (arith, p.segment, p.used_is)

-- and that keeps to it
pub room_left : (script buffer₀ buffer seg : List ℕ) (used start at i v r : ℕ) → length script ≤ 50 → at + 1 < length script → Progress script buffer₀ buffer used start at
    → seg ≡ take (at - start) (drop start script) → r ≡ 2 * length (piece_of seg i v) → used + r ≤ 98
room_left script buffer₀ buffer seg used start at i v r f h p q e =
    omega (arith, room script buffer₀ buffer used start at f h p, piece_few seg i v, ap length q, length-take (at - start) (drop start script))

-- a piece by its entry
piece : (segment : List ℕ) (since : List Entry) (i v : ℕ) → line_words segment ≡ lines_in since → i ≢ flush_word → piece_of segment i v ≡ piece_for since (entry_in i v)
unfolding piece_of piece_for entry_in line_flushes flushes
piece segment since i v l n = elim (ℕ_discrete i barrier_word) [
  | yes b ↦ rw (eq-eqb i barrier_word b) (ap (λ (ls : List ℕ). map flush (firsts ls) ++ barrier ∷ []) l)
  | no b ↦ rw (ne_eqb i barrier_word b, ne_eqb i flush_word n) refl
]

no_mark : (script : List ℕ) (ds : List Entry) (i v : ℕ) (rest : List Entry) → any_flush (entries_in script) ≡ false → entries_in script ≡ ds ++ entry_in i v ∷ rest → i ≢ flush_word
unfolding entry_in
no_mark script ds i v rest f q e =
    let is : entry_in i v ≡ flush v = rw e refl in
    flush_free (entries_in script) f v (rw q (Memᴰ.append_right ds (Memᴰ.head (sym is))))

-- the segment, one entry on
segment_on : (script : List ℕ) (since : List Entry) (start at next i v : ℕ) → i ≡ get_or script at 0 → i ≢ flush_word → at + 1 < length script
    → line_words (take (at - start) (drop start script)) ≡ lines_in since → at ≡ start + 2 * length since → next ≡ segment_start i start (at + 2)
    → (line_words (take (at + 2 - next) (drop next script)) ≡ lines_in (since_after since (entry_in i v ∷ [])))
    × (at + 2 ≡ next + 2 * length (since_after since (entry_in i v ∷ [])))
unfolding segment_start entry_in since_after lines_in line_words
segment_on script since start at next i v iq n h l s nq = elim (ℕ_discrete i barrier_word) [
  | yes b ↦
      let t = eq-eqb i barrier_word b in
      let q : next ≡ at + 2 = rw t at nq in
      let z : at + 2 - next ≡ 0 = omega arith in
      rw (t, z) (refl, omega arith)
  | no b ↦
      let t = ne_eqb i barrier_word b in
      let u = ne_eqb i flush_word n in
      let q : next ≡ start = rw t at nq in
      let z : at + 2 - start ≡ at - start + 2 = omega arith in
      let k : start + (at - start) ≡ at = omega arith in
      let word : get_or (drop start script) (at - start) 0 ≡ i = get_or-drop start script (at - start) 0 ∙ ap (λ j. get_or script j 0) k ∙ sym iq in
      rw (t, u, q) (
        ap (λ j. line_words (take j (drop start script))) z ∙ lines_more (at - start) (drop start script) (omega arith) (omega (arith, length-drop start script))
            ∙ rw (l, word) (sym (lines_append since (store i v ∷ []))),
        omega (arith, length-append since (store i v ∷ [])),
      )
]

pub steps : (script buffer₀ buffer ys seg : List ℕ) (used start at r next : ℕ) → any_flush (entries_in script) ≡ false → at + 1 < length script
    → Progress script buffer₀ buffer used start at
    → let i = get_or script at 0 in let v = get_or script (at + 1) 0 in
    seg ≡ take (at - start) (drop start script)
    → (r ≡ 2 * length (piece_of seg i v)) × (ys ≡ written (piece_of seg i v) (mid_of used (length buffer - used) buffer))
    → next ≡ segment_start i start (at + 2)
    → Progress script buffer₀ (put_mid used (length buffer - used) buffer ys) (used + r) next (at + 2)
unfolding translated
steps script buffer₀ buffer ys seg used start at r next f h p sq w nq =
    let i = get_or script at 0 in
    let v = get_or script (at + 1) 0 in
    let e = entry_in i v in
    let since = since_after [] p.ds in
    let all : entries_in script ≡ p.ds ++ e ∷ entries_in (drop (at + 2) script) = p.entries ∙ ap (λ t. p.ds ++ t) (entries_step at script h) in
    let n = no_mark script p.ds i v (entries_in (drop (at + 2) script)) f all in
    let pq : piece_of seg i v ≡ piece_for since e = rw sq (piece (take (at - start) (drop start script)) since i v p.lines n) in
    let more = translated_more [] p.ds e in
    let z : (r ≡ 2 * length (piece_for since e)) × (ys ≡ written (piece_for since e) (mid_of used (length buffer - used) buffer)) = rw pq at w in
    let on = segment_on script since start at next i v refl n h p.lines p.segment nq in
    record {
      ds = p.ds ++ e ∷ [];
      entries = all ∙ sym (append_snoc p.ds e (entries_in (drop (at + 2) script)));
      lines = rw (since_more [] p.ds e) on.0;
      segment = rw (since_more [] p.ds e) on.1;
      used_is = rw (more, length-append (translated p.ds) (piece_for since e)) (omega (arith, p.used_is, z.0));
      written_is = rw more (written_rest (translated p.ds) (piece_for since e) used buffer₀ buffer ys (sym p.used_is) p.written_is z.1);
    }
