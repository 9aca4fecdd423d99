-- A book's list of refusals and a table's, compared.
use mathlib.Core.Path.{◌≡◌, refl, sym, ◌∙◌, ap}
use mathlib.Core.Bool.{Bool, true, false, not}
use mathlib.Core.Logic.{inl, inr, ◌↔◌, ◌≢◌}
use mathlib.Core.List.{List, [], ◌∷◌}
use Prim.Native.Nat.{ℕ, ◌<◌}
use native.Mathlib.Omega.{arith}
use lib.Dec.{eqb}
use borrow.Author.Tests.{eqb-true, ne_eqb, not-true}
use Rattle.tree.specs.Test.{Test, is, ◌or◌, holds}
use Rattle.tree.proofs.Cases.{test, true_not_false, not-false, and-true, or_left, or_right}
use Rattle.book.specs.Refusals.{Refusal, ◌gives◌, refusal, comes_to}
use Rattle.book.specs.Table.{Fed, nothing, fed, is_no_run, is_same_node, is_no_group}
use Rattle.book.proofs.Refusals.{refused_here, refused_later}

-- test by test: equal tests with one number pair up, and a book's test that never holds is passed over. P decides the book's 8, G its 18,
-- Q its 13; at 8 and 18, and at the node in Claim's 13, the table takes the book's answer
pub data Paired (x : Fed) (P G Q : Type 0) : List Refusal → List Refusal → Type 0 where
  end : (P → ⊥) → (G → ⊥) → (Q → ⊥) → Paired x P G Q [] []
  same : {t u : Test} {rs qs : List Refusal} (n : ℕ) → fed n ≡ nothing → holds t ≡ holds u → (holds u ≡ false → Paired x P G Q rs qs)
      → Paired x P G Q ((t gives n) ∷ rs) ((u gives n) ∷ qs)
  skip : {t : Test} {n : ℕ} {rs qs : List Refusal} → holds t ≡ false → Paired x P G Q rs qs → Paired x P G Q ((t gives n) ∷ rs) qs
  busy : {t u : Test} {rs qs : List Refusal} → holds t ≡ holds u → (holds t ≡ true) ↔ Q → ((Q → ⊥) → Paired x P G Q rs qs)
      → Paired x P G Q ((t gives 13) ∷ rs) ((u gives 13) ∷ qs)
  -- the frame is the table's own; a claim that lacks a run has no other 13
  meets : {t u w : Test} → (G → ⊥) → (holds t ≡ true) ↔ Q → (holds u ≡ true → Q) → (holds u ≡ false → Q → P → ⊥) → (holds w ≡ true) ↔ P
      → Paired x P G Q ((t gives 13) ∷ (w gives 8) ∷ []) ((u or is (is_same_node x) gives 13) ∷ (is (is_no_run x) gives 8) ∷ [])
  run : {t : Test} → (G → ⊥) → (Q → ⊥) → (holds t ≡ true) ↔ P → Paired x P G Q ((t gives 8) ∷ []) ((is (is_no_run x) gives 8) ∷ [])
  group : {t : Test} → (P → ⊥) → (Q → ⊥) → (holds t ≡ true) ↔ G → Paired x P G Q ((t gives 18) ∷ []) ((is (is_no_group x) gives 18) ∷ [])

-- ---- the answers are the same, where the table is fed the book's

-- fed that there is no run, the book's answer is 8
pub fed_8 : (a : ℕ) → is_no_run (fed a) ≡ true → a ≡ 8
fed_8 a h = elim (test (eqb a 8)) [
  | inl e ↦ eqb-true a 8 e
  | inr e ↦ elim (test (eqb a 13)) [
    | inl e' ↦ absurd (true_not_false h (rw (e, e')))
    | inr e' ↦ elim (test (eqb a 18)) [
      | inl e'' ↦ absurd (true_not_false h (rw (e, e', e'')))
      | inr e'' ↦ absurd (true_not_false h (rw (e, e', e'')))
    ]
  ]
]

-- fed that another head is at the node, it is 13
pub fed_13 : (a : ℕ) → is_same_node (fed a) ≡ true → a ≡ 13
fed_13 a h = elim (test (eqb a 8)) [
  | inl e ↦ absurd (true_not_false h (rw e))
  | inr e ↦ elim (test (eqb a 13)) [
    | inl e' ↦ eqb-true a 13 e'
    | inr e' ↦ elim (test (eqb a 18)) [
      | inl e'' ↦ absurd (true_not_false h (rw (e, e', e'')))
      | inr e'' ↦ absurd (true_not_false h (rw (e, e', e'')))
    ]
  ]
]

-- where a number alone is left that the table takes from the book
last_answer : {x : Fed} (n : ℕ) (takes : Fed → Bool) → takes (fed n) ≡ true → takes nothing ≡ false → (t : Test) {a : ℕ}
    → refusal ((t gives n) ∷ []) ≡ a → x ≡ fed a → refusal ((is (takes x) gives n) ∷ []) ≡ a
unfolding refusal
last_answer {x} n takes on off t {a} h q = elim (test (holds t)) [
  | inl e ↦
      let w : n ≡ a = sym (refused_here (t gives n) [] e) ∙ h in
      refused_here (is (takes x) gives n) [] (ap takes q ∙ ap (λ k. takes (fed k)) (sym w) ∙ on) ∙ w
  | inr e ↦
      let w : 0 ≡ a = sym (refused_later (t gives n) [] e) ∙ h in
      refused_later (is (takes x) gives n) [] (ap takes q ∙ ap (λ k. takes (fed k)) (sym w) ∙ off) ∙ w
]

-- no other answer comes then
last_other : (n k : ℕ) (t : Test) → n ≢ k → 0 < k → refusal ((t gives n) ∷ []) ≢ k
unfolding refusal
last_other n k t d l q = elim (test (holds t)) [
  | inl e ↦ d (sym (refused_here (t gives n) [] e) ∙ q)
  | inr e ↦ let z : 0 ≡ k = sym (refused_later (t gives n) [] e) ∙ q in omega arith
]

pub paired_answer : {x : Fed} {P G Q : Type 0} {rs qs : List Refusal} {a : ℕ} → Paired x P G Q rs qs → refusal rs ≡ a → x ≡ fed a → refusal qs ≡ a
unfolding refusal
paired_answer (end np ng nq) h q = h
paired_answer (same {t} {u} {rs} {qs} n d k p) h q = elim (test (holds u)) [
  | inl e ↦ refused_here (u gives n) qs e ∙ sym (refused_here (t gives n) rs (k ∙ e)) ∙ h
  | inr e ↦ refused_later (u gives n) qs e ∙ paired_answer (p e) (sym (refused_later (t gives n) rs (k ∙ e)) ∙ h) q
]
paired_answer (skip {t} {n} {rs} e p) h q = paired_answer p (sym (refused_later (t gives n) rs e) ∙ h) q
paired_answer {Q = Q} (busy {t} {u} {rs} {qs} k i p) h q = elim (test (holds u)) [
  | inl e ↦ refused_here (u gives 13) qs e ∙ sym (refused_here (t gives 13) rs (k ∙ e)) ∙ h
  | inr e ↦
      let free : Q → ⊥ = λ y. true_not_false (i.1 y) (k ∙ e) in
      refused_later (u gives 13) qs e ∙ paired_answer (p free) (sym (refused_later (t gives 13) rs (k ∙ e)) ∙ h) q
]
paired_answer {x} {a = a} (meets {t} {u} {w} ng i f l j) h q = elim (test (holds t)) [
  | inl e ↦
      let z : 13 ≡ a = sym (refused_here (t gives 13) ((w gives 8) ∷ []) e) ∙ h in
      let y : is_same_node x ≡ true = ap is_same_node q ∙ ap (λ n. is_same_node (fed n)) (sym z) in
      refused_here (u or is (is_same_node x) gives 13) ((is (is_no_run x) gives 8) ∷ []) (or_right (holds u) y) ∙ z
  | inr e ↦
      let later = sym (refused_later (t gives 13) ((w gives 8) ∷ []) e) ∙ h in
      let own : holds u ≡ false = not-false (λ z. true_not_false (i.1 (f z)) e) in
      let fed-not : is_same_node x ≡ false = not-false (λ y. last_other 8 13 w (omega arith) (omega arith) (later ∙ fed_13 a (ap is_same_node (sym q) ∙ y))) in
      refused_later (u or is (is_same_node x) gives 13) ((is (is_no_run x) gives 8) ∷ []) (rw (own, fed-not)) ∙ last_answer 8 is_no_run refl refl w later q
]
paired_answer (run {t} ng nq i) h q = last_answer 8 is_no_run refl refl t h q
paired_answer (group {t} np nq i) h q = last_answer 18 is_no_group refl refl t h q

-- ---- where the table comes to a number

-- a test before it does not hold
passed : (n k : ℕ) (u : Test) (qs : List Refusal) → k ≢ n → comes_to n ((u gives k) ∷ qs) ≡ true → (holds u ≡ false) × (comes_to n qs ≡ true)
unfolding comes_to
passed n k u qs d h = let b = and-true (not (holds u)) (comes_to n qs) (rw (ne_eqb k n d) at h) in (not-true (holds u) b.0, b.1)

-- the table is fed nothing of a number that is not 8, 13 or 18
not_8 : {n : ℕ} → fed n ≡ nothing → n ≢ 8
not_8 d z = true_not_false (ap (λ k. is_no_run (fed k)) z) (ap is_no_run d)

not_13 : {n : ℕ} → fed n ≡ nothing → n ≢ 13
not_13 d z = true_not_false (ap (λ k. is_same_node (fed k)) z) (ap is_same_node d)

not_18 : {n : ℕ} → fed n ≡ nothing → n ≢ 18
not_18 d z = true_not_false (ap (λ k. is_no_group (fed k)) z) (ap is_no_group d)

-- where a number alone is left, it comes exactly if P
last_comes : {P : Type 0} (n : ℕ) (t : Test) → 0 < n → (holds t ≡ true) ↔ P → (refusal ((t gives n) ∷ []) ≡ n) ↔ P
unfolding refusal
last_comes n t l i = elim (test (holds t)) [
  | inl e ↦ rw e (λ q. i.0 e, λ q. refl)
  | inr e ↦ rw e (λ q. absurd (omega arith), λ q. absurd (true_not_false (i.1 q) e))
]

-- and another comes exactly if what can't be
last_never : {P : Type 0} (n k : ℕ) (t : Test) → n ≢ k → 0 < k → (P → ⊥) → (refusal ((t gives n) ∷ []) ≡ k) ↔ P
last_never n k t d l np = (λ q. absurd (last_other n k t d l q), λ y. absurd (np y))

-- to 8, the book's is 8 exactly if P
pub paired_run : {P G Q : Type 0} {rs qs : List Refusal} → Paired nothing P G Q rs qs → comes_to 8 qs ≡ true → (refusal rs ≡ 8) ↔ P
unfolding refusal
paired_run (end np ng nq) h = (λ q. absurd (omega arith), λ y. absurd (np y))
paired_run (same {t} {u} {rs} {qs} n d k p) h = let c = passed 8 n u qs (not_8 d) h in rw (k ∙ c.0) (paired_run (p c.0) c.1)
paired_run (skip {t} {n} {rs} e p) h = rw e (paired_run p h)
paired_run (busy {t} {u} {rs} {qs} k i p) h =
    let c = passed 8 13 u qs (omega arith) h in
    rw (k ∙ c.0) (paired_run (p (λ y. true_not_false (i.1 y) (k ∙ c.0))) c.1)
paired_run (meets {t} {u} {w} ng i f l j) h =
    let out = (passed 8 13 (u or is false) ((is false gives 8) ∷ []) (omega arith) h).0 in
    let own : holds u ≡ false = not-false (λ z. true_not_false (or_left false z) out) in
    elim (test (holds t)) [
      | inl m ↦ rw m (λ z. absurd (omega arith), λ z. absurd (l own (i.0 m) z))
      | inr m ↦ rw m (last_comes 8 w (omega arith) j)
    ]
paired_run (run {t} ng nq i) h = last_comes 8 t (omega arith) i
paired_run (group {t} np nq i) h = last_never 18 8 t (omega arith) (omega arith) np

-- to 18, the book's is 18 exactly if G
pub paired_group : {P G Q : Type 0} {rs qs : List Refusal} → Paired nothing P G Q rs qs → comes_to 18 qs ≡ true → (refusal rs ≡ 18) ↔ G
unfolding refusal
paired_group (end np ng nq) h = (λ q. absurd (omega arith), λ y. absurd (ng y))
paired_group (same {t} {u} {rs} {qs} n d k p) h = let c = passed 18 n u qs (not_18 d) h in rw (k ∙ c.0) (paired_group (p c.0) c.1)
paired_group (skip {t} {n} {rs} e p) h = rw e (paired_group p h)
paired_group (busy {t} {u} {rs} {qs} k i p) h =
    let c = passed 18 13 u qs (omega arith) h in
    rw (k ∙ c.0) (paired_group (p (λ y. true_not_false (i.1 y) (k ∙ c.0))) c.1)
paired_group (meets {t} {u} {w} ng i f l j) h = elim (test (holds t)) [
  | inl e ↦ rw e (λ q. absurd (omega arith), λ y. absurd (ng y))
  | inr e ↦ rw e (last_never 8 18 w (omega arith) (omega arith) ng)
]
paired_group (run {t} ng nq i) h = last_never 8 18 t (omega arith) (omega arith) ng
paired_group (group {t} np nq i) h = last_comes 18 t (omega arith) i

-- past a 13 that does not hold the answer is no other
no_more : {x : Fed} {P G Q : Type 0} {rs qs : List Refusal} → Paired x P G Q rs qs → (Q → ⊥) → refusal rs ≢ 13
unfolding refusal
no_more (end np ng nq) free h = omega arith
no_more (same {t} {u} {rs} n d k p) free h = elim (test (holds t)) [
  | inl e ↦ not_13 d (sym (refused_here (t gives n) rs e) ∙ h)
  | inr e ↦ no_more (p (sym k ∙ e)) free (sym (refused_later (t gives n) rs e) ∙ h)
]
no_more (skip {t} {n} {rs} e p) free h = no_more p free (sym (refused_later (t gives n) rs e) ∙ h)
no_more (busy {t} {u} {rs} k i p) free h = no_more (p free) free (sym (refused_later (t gives 13) rs (not-false (λ e. free (i.0 e)))) ∙ h)
no_more (meets {t} {u} {w} ng i f l j) free h =
    last_other 8 13 w (omega arith) (omega arith) (sym (refused_later (t gives 13) ((w gives 8) ∷ []) (not-false (λ e. free (i.0 e)))) ∙ h)
no_more (run {t} ng nq i) free h = last_other 8 13 t (omega arith) (omega arith) h
no_more (group {t} np nq i) free h = last_other 18 13 t (omega arith) (omega arith) h

-- to 13, the book's is 13 exactly if Q
pub paired_busy : {P G Q : Type 0} {rs qs : List Refusal} → Paired nothing P G Q rs qs → comes_to 13 qs ≡ true → (refusal rs ≡ 13) ↔ Q
unfolding refusal
paired_busy (end np ng nq) h = (λ q. absurd (omega arith), λ y. absurd (nq y))
paired_busy (same {t} {u} {rs} {qs} n d k p) h = let c = passed 13 n u qs (not_13 d) h in rw (k ∙ c.0) (paired_busy (p c.0) c.1)
paired_busy (skip {t} {n} {rs} e p) h = rw e (paired_busy p h)
paired_busy {Q = Q} (busy {t} {u} {rs} {qs} k i p) h = elim (test (holds t)) [
  | inl e ↦ rw e (λ q. i.0 e, λ q. refl)
  | inr e ↦ let free : Q → ⊥ = λ y. true_not_false (i.1 y) e in rw e (λ q. absurd (no_more (p free) free q), λ y. absurd (free y))
]
paired_busy (meets {t} {u} {w} ng i f l j) h = elim (test (holds t)) [
  | inl e ↦ rw e (λ q. i.0 e, λ q. refl)
  | inr e ↦ rw e (λ q. absurd (last_other 8 13 w (omega arith) (omega arith) q), λ q. absurd (true_not_false (i.1 q) e))
]
paired_busy (run {t} ng nq i) h = last_never 8 13 t (omega arith) (omega arith) nq
paired_busy (group {t} np nq i) h = last_never 18 13 t (omega arith) (omega arith) nq
