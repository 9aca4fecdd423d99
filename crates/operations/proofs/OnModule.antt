-- What a driver carries out on either memory module, from the words that it was handed.
use mathlib.Core.Path.{◌≡◌, refl, sym, ◌∙◌, ap}
use mathlib.Core.Logic.{inl, inr}
use mathlib.Core.Option.{some}
use mathlib.Core.List.{List}
use Prim.Native.Nat.{ℕ, ◌*◌, ◌≤◌}
use native.Mathlib.Decide.{ℕ_discrete}
use lib.ListN.{length}
use Rattle.tree.specs.Memory.{Store, encode, written, decode, segmented, carry_out, outcome, Inside, translated, Translation, translation, translate, Module, plain, flushing, entries_on}
use Rattle.tree.proofs.Memory.{script_laws, translator_laws}
use Rattle.book.specs.State.{State, Operation}
use Rattle.book.specs.Perform.{perform}
use Rattle.book.specs.CarryOut.{carry}
use Rattle.book.proofs.Demands.{demand1, scripts}
use Rattle.operations.specs.Ends.{Buffers, ends}
use Rattle.operations.specs.Chain.{counted, words_in, words_on, Fits, CarriedOn}
use Rattle.operations.proofs.CallEnds.{no_entries, nothing_over, none_inside, answer_ends, after_ends, answered, refused}

-- words that are entries of ours, few enough, with a buffer long enough
module _ (n : ℕ) (buffer ws : List ℕ) (segs : List (List Store)) (room : 98 ≤ length buffer) (few : length (segmented segs) ≤ 25)
    (q : decode n ws ≡ some (segmented segs)) where
  is_translated : translate n ws buffer ≡ translation 0 (2 * length (translated (segmented segs))) (written (translated (segmented segs)) buffer)
  is_translated =
      let w = script_laws.was_encoded n ws (segmented segs) q in
      let ours = translator_laws.in_segments segs in
      rw (← w.0) (translator_laws.accepts n (segmented segs) buffer room few w.1 ours.0 ours.1)

  taken : (translate n ws buffer).answer ≡ 0
  taken = ap (λ (t : Translation). t.answer) is_translated

  words_there : words_on flushing n buffer ws ≡ encode (translated (segmented segs))
  words_there = rw is_translated (script_laws.take_written (translated (segmented segs)) buffer)

  pub entries_on_lem : (on : Module) → decode n (words_on on n buffer ws) ≡ some (entries_on on (segmented segs))
  entries_on_lem plain = q
  entries_on_lem flushing =
      let w = script_laws.was_encoded n ws (segmented segs) q in
      rw words_there (script_laws.read_back n (translated (segmented segs)) (translator_laws.inside_alike n (segmented segs) w.1))

  -- they leave the same image
  carried_on : (on : Module) (m : List ℕ) → Inside (length m) (segmented segs) → carry m (words_on on n buffer ws) ≡ carry m ws
  unfolding carry
  carried_on plain m i = refl
  carried_on flushing m i =
      let es = segmented segs in
      let same : carry_out m (encode (translated es)) ≡ carry_out m (encode es) =
      script_laws.carried_out m (translated es) (translator_laws.inside_alike (length m) es i) ∙ ap (outcome 0) (translator_laws.applied_alike m es)
      ∙ sym (script_laws.carried_out m es i) in
      rw (words_there, ← (script_laws.was_encoded n ws es q).0, same) refl

-- ---- a call

module _ (op : Operation) (s : State) (b : Buffers) (fit : Fits op s) where
  handed : decode (length s.image) (words_in (counted op) (ends op s b)) ≡ some (segmented (perform op s).work.script)
  handed = elim (ℕ_discrete (perform op s).answer 0) [
    | yes h ↦ (answered op s b h fit).entries
    | no h ↦ rw ((nothing_over (counted op) (ends op s b) (refused op s b h).count).0, (demand1.refused op s h).no_store) (no_entries _)
  ]

  pub carried_there : (on : Module) (buffer : List ℕ) → 98 ≤ length buffer → CarriedOn on op s (ends op s b) buffer
  carried_there on buffer room =
      let good = scripts op s fit.image fit.heads fit.numbers in
      let n = length s.image in
      let ws = words_in (counted op) (ends op s b) in
      let segs = (perform op s).work.script in
      let inside : Inside (length (ends op s b).after.image) (segmented segs) = rw (after_ends op s b) (elim good.one_way [
        | inl w ↦ rw w.1 (none_inside _)
        | inr q ↦ rw q good.inside
      ]) in
      record {
        taken = taken n buffer ws segs room good.short handed;
        entries = entries_on_lem n buffer ws segs room good.short handed on;
        carried_out = λ h. carried_on n buffer ws segs room good.short handed on (ends op s b).after.image inside
            ∙ (answered op s b (sym (answer_ends op s b) ∙ h) fit).carried_out;
      }
