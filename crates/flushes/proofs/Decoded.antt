-- The translator's answers, by its tests.
use mathlib.Core.Path.{◌≡◌, refl, ap, sym, ◌∙◌}
use mathlib.Core.Bool.{true, false}
use mathlib.Core.Logic.{◌⊎◌, inl, inr}
use mathlib.Core.Option.{Option, none, some}
use mathlib.Core.List.{List, [], ◌∷◌}
use Prim.Native.Nat.{ℕ, ◌*◌, ◌%◌, ◌≤◌, ◌<◌}
use native.Mathlib.Omega.{arith}
use lib.ListN.{length}
use borrow.Author.Tests.{eq-eqb, ne_eqb, lt-ltb, le-ltb}
use Rattle.memory.specs.Script.{Entry, store, barrier, flush, barrier_word, flush_word, written, entry_of, onto, decode}
use Rattle.memory.specs.Apply.{is_some, is_script}
use Rattle.flushes.specs.Translate.{translated, any_flush, ends_fenced, translation, translated_into, translate}
use Rattle.flushes.specs.Passes.{entry_in, entries_in}
use Rattle.memory.proofs.Laws.{clash, script_laws, Reads, as_barrier, as_flush, as_store, entry_reads}

entry_in_lem : (n i v : ℕ) (e : Entry) → Reads n i v e → entry_in i v ≡ e
unfolding entry_in
entry_in_lem n i v barrier (as_barrier b z) = rw (eq-eqb i barrier_word b) refl
entry_in_lem n i v (flush w) (as_flush f) = rw f refl
entry_in_lem n i v (store j w) (as_store l b f) = rw (ne_eqb i barrier_word b, ne_eqb i flush_word f) refl

-- entries inside an image are the entries of their words
entries_of : (n : ℕ) (ws : List ℕ) (es : List Entry) → decode n ws ≡ some es → entries_in ws ≡ es
unfolding entries_in decode
entries_of n [] es q = cc
entries_of n (i ∷ []) es q = let z : ◌≡◌ {A = ℕ} 0 1 = cc in absurd (omega arith)
entries_of n (i ∷ v ∷ ws) es q = go (entry_of n i v) (decode n ws) refl refl q (λ rest r. entries_of n ws rest r)
  where
    go : (o : Option Entry) (os : Option (List Entry)) → entry_of n i v ≡ o → decode n ws ≡ os → onto o os ≡ some es
        → ((rest : List Entry) → decode n ws ≡ some rest → entries_in ws ≡ rest) → entry_in i v ∷ entries_in ws ≡ es
    go none os eo eos q rec = let z : ◌≡◌ {A = ℕ} 0 1 = cc in absurd (omega arith)
    go (some e) none eo eos q rec = let z : ◌≡◌ {A = ℕ} 0 1 = cc in absurd (omega arith)
    go (some e) (some rest) eo eos q rec =
        let a : entry_in i v ≡ e = entry_in_lem n i v e (entry_reads n i v e eo) in
        let b : entries_in ws ≡ rest = rec rest eos in
        let c : es ≡ e ∷ rest = cc in rw (a, b, c) refl

pub decoded : (n : ℕ) (ws : List ℕ) → is_script n ws ≡ true → decode n ws ≡ some (entries_in ws)
unfolding is_script
decoded n ws h = go (decode n ws) refl h
  where
    go : (o : Option (List Entry)) → decode n ws ≡ o → is_some o ≡ true → o ≡ some (entries_in ws)
    go none q h = clash false h refl
    go (some es) q h = ap some (sym (entries_of n ws es q))

pub undecoded : (n : ℕ) (ws : List ℕ) → is_script n ws ≡ false → decode n ws ≡ none
unfolding is_script
undecoded n ws h = go (decode n ws) h
  where
    go : (o : Option (List Entry)) → is_some o ≡ false → o ≡ none
    go none h = refl
    go (some es) h = clash true refl h

-- whole entries
pub even : (n : ℕ) (ws : List ℕ) → is_script n ws ≡ true → length ws % 2 ≡ 0
even n ws h =
    let w = script_laws.was_encoded n ws (entries_in ws) (decoded n ws h) in
    omega (arith, ap length w.0, script_laws.length_encode (entries_in ws))

-- ---- the answers

pub too_short : (n : ℕ) (ws buffer : List ℕ) → (length buffer < 98) ⊎ ((98 ≤ length buffer) × (50 < length ws)) → translation 3 0 buffer ≡ translate n ws buffer
unfolding translate
too_short n ws buffer (inl h) = rw (lt-ltb (length buffer) 98 h) refl
too_short n ws buffer (inr (b, h)) = rw (le-ltb (length buffer) 98 b, lt-ltb 50 (length ws) h) refl

module _ (n : ℕ) (ws buffer : List ℕ) (b : 98 ≤ length buffer) (l : length ws ≤ 50) where
  into : (o : Option (List Entry)) → decode n ws ≡ o → translated_into buffer o ≡ translate n ws buffer
  unfolding translate
  into o q = rw (le-ltb (length buffer) 98 b, le-ltb 50 (length ws) l, q) refl

  pub no_script : is_script n ws ≡ false → translation 3 0 buffer ≡ translate n ws buffer
  no_script h = into none (undecoded n ws h)

  pub with_flush : is_script n ws ≡ true → any_flush (entries_in ws) ≡ true → translation 3 0 buffer ≡ translate n ws buffer
  with_flush h f = (rw f refl) ∙ into (some (entries_in ws)) (decoded n ws h)

  pub unfenced : is_script n ws ≡ true → any_flush (entries_in ws) ≡ false → ends_fenced (entries_in ws) ≡ false → translation 3 0 buffer ≡ translate n ws buffer
  unfenced h f e = (rw (f, e) refl) ∙ into (some (entries_in ws)) (decoded n ws h)

  pub done : is_script n ws ≡ true → any_flush (entries_in ws) ≡ false → ends_fenced (entries_in ws) ≡ true → (r : ℕ) (ys : List ℕ)
      → (r ≡ 2 * length (translated (entries_in ws))) × (ys ≡ written (translated (entries_in ws)) buffer) → translation 0 r ys ≡ translate n ws buffer
  done h f e r ys q = (rw (q.0, q.1, f, e) refl) ∙ into (some (entries_in ws)) (decoded n ws h)
