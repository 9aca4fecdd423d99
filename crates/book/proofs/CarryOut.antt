-- Carry out: how it ends, over any words.
use mathlib.Core.Path.{◌≡◌, sym, ◌∙◌, subst}
use mathlib.Core.Bool.{false}
use mathlib.Core.Logic.{inl, inr}
use mathlib.Core.Option.{none, some}
use mathlib.Core.List.{List}
use Prim.Native.Nat.{ℕ}
use native.Mathlib.Omega.{arith}
use lib.ListN.{length}
use Rattle.tree.specs.Memory.{reads, Entry, encode, decode, apply, outcome, carry_out, Inside}
use Rattle.tree.specs.declared.layout.Geometry.{Geometry}
use Rattle.tree.specs.Test.{holds}
use Rattle.tree.specs.Layout.{bad_image, geometry_of}
use Rattle.tree.proofs.Memory.{script_laws}
use Rattle.tree.proofs.Cases.{test, seen, nothing, just}
use Rattle.book.specs.Due.{RightImage}
use Rattle.book.specs.CarryOut.{carry, wrong_image, no_script, entries, CarryLaws}
use Rattle.book.proofs.Refusals.{denies}
use Rattle.book.proofs.DueWords.{image_test}

right_image : (words : ℕ) (g : Geometry) → holds (bad_image words g) ≡ false → RightImage words g
unfolding bad_image
right_image words g e =
    let d = denies (bad_image words g) e in
    record {
      slots_from = omega (arith, d);
      slots_to = omega (arith, d);
      nodes_from = omega (arith, d);
      nodes_to = omega (arith, d);
      right_length = d.1;
    }

-- words that are not read as entries are those of none
no_entries : (n : ℕ) (ws : List ℕ) → decode n ws ≡ none → (es : List Entry) → Inside n es → encode es ≡ ws → ⊥
no_entries n ws q es i k =
    let z : none ≡ some es = sym q ∙ subst (λ xs. decode n xs ≡ some es) k (script_laws.read_back n es i) in
    let never : ◌≡◌ {A = ℕ} 0 1 = cc in
    omega arith

pub carry_laws : CarryLaws
unfolding carry
carry_laws image script = elim (test (holds (bad_image (length image) (geometry_of (reads image))))) [
  | inl e ↦ rw e (wrong_image ((image_test (length image) (geometry_of (reads image))).0 e))
  | inr e ↦
      let right = right_image (length image) (geometry_of (reads image)) e in
      elim (seen (decode (length image) script)) [
        | just es q ↦
            let w = script_laws.was_encoded (length image) script es q in
            let o = subst (λ ws. carry_out image ws ≡ outcome 0 (apply image es)) w.0 (script_laws.carried_out image es w.1) in
            rw (e, o) (entries es right w.1 w.0)
        | nothing q ↦
            let no = no_entries (length image) script q in
            rw (e, script_laws.refused image script no) (no_script right no)
      ]
]
