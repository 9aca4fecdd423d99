-- A list whose keys are distinct and below k has at most k elements.
use mathlib.Core.Path.{◌≡◌, refl, sym, ◌∙◌, ap}
use mathlib.Core.Bool.{true, not}
use mathlib.Core.Logic.{inl, inr}
use mathlib.Core.List.{List, [], ◌∷◌, Memᴰ}
use Prim.Native.Nat.{ℕ, zero, suc, ◌≤◌, ◌<◌}
use native.Mathlib.Omega.{arith}
use native.Mathlib.Decide.{dec_lt}
use lib.ListN.{length}
use lib.Dec.{eqb}
use borrow.Author.Tests.{eqb-true, eqb-false, ne_eqb, not-true, not-false}
use Rattle.memory.specs.Search.{first}
use Rattle.tree.specs.Lists.{range, up_to, keep, Distinct, empty, onto}
use Rattle.tree.specs.Laws.{RoomLaw}
use Rattle.tree.proofs.Cases.{test}
use Rattle.tree.proofs.Lists.{up_to_members, kept, keep_all}
use Rattle.tree.proofs.Distinct.{distinct_keep, distinct_by, distinct_up_to}
use Rattle.memory.proofs.Laws.{first_laws}

module _ {A : Type 0} where
  -- at most one element has the key k
  but_one : {key : A → ℕ} (k : ℕ) {xs : List A} → Distinct key xs → length xs ≤ suc (length (keep (λ x. not (eqb (key x) k)) xs))
  unfolding keep
  but_one k empty = omega arith
  but_one {key} k (onto {x} {xs} a d) = elim (test (eqb (key x) k)) [
    | inl e ↦
        let h = keep_all (λ y. not (eqb (key y) k)) xs (λ y z. rw (ne_eqb (key y) k (λ q. a y z (q ∙ sym (eqb-true (key x) k e))))) in
        rw (e, h) (omega arith)
    | inr e ↦ rw e (omega (arith, but_one k d))
  ]

  pub pigeon : (key : A → ℕ) (k : ℕ) (xs : List A) → Distinct key xs → ((x : A) → Memᴰ x xs → key x < k) → length xs ≤ k
  pigeon key zero [] d h = omega arith
  pigeon key zero (x ∷ xs) d h = absurd (omega (arith, h x (Memᴰ.head refl)))
  pigeon key (suc k) xs d h =
      let rest = keep (λ x. not (eqb (key x) k)) xs in
      let few = pigeon key k rest (distinct_keep _ d) (λ x z.
      let t = kept (λ x. not (eqb (key x) k)) xs z in
      let l = h x t.0 in
      let n = eqb-false (key x) k (not-true (eqb (key x) k) t.1) in
      omega arith) in
      omega (arith, but_one k d)

length_range : (from n : ℕ) → length (range from n) ≡ n
unfolding range
length_range from zero = refl
length_range from (suc n) = ap suc (length_range (suc from) n)

pub length_up_to : (n : ℕ) → length (up_to n) ≡ n
unfolding up_to
length_up_to n = length_range 0 n

pub room : RoomLaw
room = record {
  clear = λ set n b key few low one. elim (dec_lt (first (λ p. not (set p)) n) n) [
    | yes l ↦ l
    | no l ↦
        let all : (p : ℕ) → p < n → set p ≡ true = λ p h. not-false (set p) ((first_laws (λ p. not (set p)) n).none_before p (omega arith)) in
        let below : (p : ℕ) → Memᴰ p (up_to n) → p < n = λ p z. (up_to_members n).0 z in
        let d = distinct_by key (distinct_up_to n) (λ p q x y e. one p q (below p x) (below q y) (all p (below p x)) (all q (below q y)) e) in
        absurd (omega (arith, length_up_to n, pigeon key b (up_to n) d (λ p z. low p (below p z) (all p (below p z)))))
  ];
}
