-- The places of a node that hold a frame, and the fingerprints met there.
use mathlib.Core.Path.{◌≡◌, refl, sym, ◌∙◌}
use mathlib.Core.Bool.{Bool, true, false, ◌&&◌}
use mathlib.Core.Logic.{inl, inr, ◌↔◌}
use mathlib.Core.List.{List}
use Prim.Native.Nat.{ℕ, ◌*◌, ◌<◌}
use native.Mathlib.Omega.{arith}
use native.Mathlib.Decide.{ℕ_discrete}
use lib.Count.{count_trailing_zeros}
use lib.Dec.{eqb}
use lib.ListN.{length}
use Rattle.memory.specs.Words.{Memory, is_set, without_bit}
use Rattle.memory.specs.Laws.{NoneBelow}
use Rattle.memory.specs.Search.{first}
use Rattle.memory.proofs.Laws.{bit_laws, trailing_first, first_laws}
use Rattle.tree.specs.Test.{Test, is, eq, ◌and◌}
use Rattle.tree.specs.declared.layout.Geometry.{Geometry}
use Rattle.tree.specs.Layout.{set_at}
use Rattle.tree.specs.Fingerprint.{fingerprint, rule_of}
use Rattle.tree.specs.Node.{held, frame}
use Rattle.tree.specs.Pool.{used, mark}
use Rattle.tree.proofs.Cases.{not-false, true_not_false}
use Rattle.tree.proofs.Tests.{says, said}
use Rattle.tree.proofs.Laws.{pool_laws}
use Rattle.fingerprints.proofs.Folds.{fingerprint_small}
use Rattle.settled.specs.Settled.{Met, holds_at}

module _ (g : Geometry) (m : Memory) (n : ℕ) where
  pub hold_facts : (f p : ℕ) → (holds_at g m n f p ≡ true) ↔ ((held g m n p ≡ true) × (frame g m n p ≡ f))
  unfolding holds_at
  hold_facts f p = let t : Test = is (held g m n p) and eq (frame g m n p) f in (says t, said t)

  -- as the code tests it
  pub hold_test : (f p : ℕ) {set own : ℕ} {b r : Bool} → set ≡ m (set_at g n) → b ≡ is_set set p → own ≡ frame g m n p
      → b && eqb own f ≡ r → holds_at g m n f p ≡ r
  unfolding holds_at
  hold_test f p s e o z = rw (← s, ← e, ← o) z

  -- no place below p holds a frame
  pub none_lower : (f p : ℕ) → ((q : ℕ) → q < p → held g m n q ≡ true → frame g m n q ≡ f → ⊥) → first (holds_at g m n f) p ≡ p
  none_lower f p o =
      sym ((first_laws (holds_at g m n f) p).stops p (omega arith) (λ q l. not-false (λ y. let t = (hold_facts f q).0 y in o q l t.0 t.1))
      (λ l. absurd (omega arith)))

  -- ---- the fingerprints of places passed

  pub met_none : {rest : ℕ} (map : List ℕ) → length map ≡ 4 → rest ≡ m (set_at g n) → Met g m n (λ q. is_set rest q ≡ false) map
  met_none map z e = record { bits = z; each = λ q l h. absurd (true_not_false (rw (← e) at h) l) }

  -- the places below the lowest that is left are passed
  pub met_lower : (rest : ℕ) {map : List ℕ} → Met g m n (λ q. is_set rest q ≡ false) map → Met g m n (λ q. q < count_trailing_zeros 64 rest) map
  met_lower rest a =
      let none : NoneBelow (is_set rest) (count_trailing_zeros 64 rest) = rw (trailing_first 64 rest) (first_laws (is_set rest) 64).none_before in
      record { bits = a.bits; each = λ q l. a.each q (none q l) }

  -- a frame with a fingerprint that none of them has is in none of them
  pub met_lone : (f : ℕ) {p print : ℕ} {map : List ℕ} {again : Bool} → Met g m n (λ q. q < p) map → print ≡ fingerprint (rule_of m) f
      → again ≡ used map print → again ≡ false → first (holds_at g m n f) p ≡ p
  met_lone f {p} a e u z = none_lower f p (λ q l h o. true_not_false (rw (o, ← e) at (a.each q l h)) (sym u ∙ z))

  -- one more is passed
  pub met_more : (rest p : ℕ) {map : List ℕ} → Met g m n (λ q. is_set rest q ≡ false) map
      → Met g m n (λ q. is_set (without_bit rest p) q ≡ false) (mark map (fingerprint (rule_of m) (frame g m n p)))
  met_more rest p {map} a = record {
    bits = pool_laws.length_mark map _ ∙ a.bits;
    each = λ q l h.
        let print = fingerprint (rule_of m) (frame g m n p) in
        let fits : print < 64 * length map = omega (arith, a.bits, fingerprint_small m (frame g m n p) refl) in
        let marks = (pool_laws.marks map print (fingerprint (rule_of m) (frame g m n q)) fits).1 in
        elim (ℕ_discrete q p) [ yes e ↦ marks (inl (rw e refl)) | no d ↦ marks (inr (a.each q (sym (bit_laws.without_keeps rest p q d) ∙ l) h)) ];
  }
