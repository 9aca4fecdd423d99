-- The array of heads and the driver's words that it was read from.
use mathlib.Core.Path.{◌≡◌, refl, sym, ◌∙◌, ap}
use mathlib.Core.Bool.{Bool, true, false}
use mathlib.Core.List.{List, map}
use Prim.Native.Nat.{ℕ, zero, suc, ◌+◌, ◌≤◌, ◌<◌}
use native.Mathlib.Omega.{arith}
use Rattle.std.specs.Bool.{MatchBool}
use Rattle.std.specs.List.{AllWithin, HoldsAt}
use lib.ListN.{length, get_or, get_or-eq_default}
use lib.Seq.{ext_get_or}
use lib.Dec.{ltb}
use borrow.Author.Tests.{le-ltb}
use Rattle.tree.specs.Memory.{NoneBelow}
use Rattle.tree.proofs.Memory.{first_laws}
use Rattle.tree.specs.Lists.{range, up_to}
use Rattle.book.specs.declared.HeadState.{HeadState}
use Rattle.book.specs.declared.HeadState.TheVariants.{Idle}
use Rattle.book.specs.declared.Head.{Head}
use Rattle.book.specs.Heads.{head_count, head_at, any_head}
use Rattle.book.proofs.Heads.{found_below}
use Rattle.operations.specs.HeadLists.{head_of, heads_in, state_in, any_in}

-- ---- the array, record by record

mapped : {A : Type 0} (f : ℕ → A) (d : A) (from n k : ℕ) → k < n → get_or (map f (range from n)) k d ≡ f (from + k)
unfolding range
mapped f d from zero k l = absurd (omega arith)
mapped f d from (suc n) zero l = let z : from ≡ from + 0 = omega arith in ap f z
mapped f d from (suc n) (suc k) l = let z : suc from + k ≡ from + suc k = omega arith in mapped f d (suc from) n k (omega arith) ∙ ap f z

length_mapped : {A : Type 0} (f : ℕ → A) (from n : ℕ) → length (map f (range from n)) ≡ n
unfolding range
length_mapped f from zero = refl
length_mapped f from (suc n) = ap suc (length_mapped f (suc from) n)

record_in : (ws : List ℕ) (h : ℕ) → h < head_count → get_or (heads_in ws) h (head_of Idle) ≡ head_of (head_at ws h)
unfolding heads_in up_to
record_in ws h l = let z : 0 + h ≡ h = omega arith in mapped (λ k. head_of (head_at ws k)) (head_of Idle) 0 head_count h l ∙ ap (λ k. head_of (head_at ws k)) z

records_count : (ws : List ℕ) → length (heads_in ws) ≡ head_count
unfolding heads_in up_to
records_count ws = length_mapped (λ k. head_of (head_at ws k)) 0 head_count

-- all are read once those below the number of heads are
pub all_read : (ws : List ℕ) (heads : List Head) → length heads ≡ head_count
    → ((k : ℕ) → k < head_count → get_or heads k (head_of Idle) ≡ head_of (head_at ws k)) → heads ≡ heads_in ws
all_read ws heads e h = ext_get_or (head_of Idle) heads (heads_in ws) (e ∙ sym (records_count ws)) (λ i l. h i (rw e at l) ∙ sym (record_in ws i (rw e at l)))

-- a head's state in the array is the one that its words have
pub state_read : (ws : List ℕ) (heads : List Head) (h : ℕ) → heads_in ws ≡ heads → h < head_count → state_in heads h ≡ head_at ws h
unfolding state_in
state_read ws heads h e l = rw (← e) (ap (λ (x : Head). x.state) (record_in ws h l))

-- a number that no head has is an idle one's
pub no_head : (ws : List ℕ) (h : ℕ) → head_count ≤ h → Idle ≡ state_in (heads_in ws) h
unfolding state_in
no_head ws h l = sym (ap (λ (x : Head). x.state) (get_or-eq_default (heads_in ws) (head_of Idle) (rw records_count l)))

pub any_read : (passes : HeadState → Bool) (ws : List ℕ) (heads : List Head) → heads_in ws ≡ heads → any_in passes heads ≡ any_head passes ws
unfolding any_in any_head
any_read passes ws heads e =
    ap (λ x. ltb x head_count)
    ((first_laws (λ h. passes (state_in heads h)) head_count).equal_tests (λ h. passes (head_at ws h)) (λ h l.
    ap passes (state_read ws heads h e l)))

-- ---- a search over the heads

pub any_at : (passes : HeadState → Bool) (heads : List Head) (h : ℕ) → h < head_count → passes (state_in heads h) ≡ true → true ≡ any_in passes heads
unfolding any_in
any_at passes heads h l e = sym ((found_below (λ k. passes (state_in heads k)) head_count).1 (h, l, e))

pub any_nowhere : (passes : HeadState → Bool) (heads : List Head) → NoneBelow (λ h. passes (state_in heads h)) head_count → false ≡ any_in passes heads
unfolding any_in
any_nowhere passes heads none =
    let all = (first_laws (λ h. passes (state_in heads h)) head_count).stops head_count (omega arith) none (λ l. absurd (omega arith)) in
    sym (rw (← all) (le-ltb head_count head_count (omega arith)))

-- what `any` says of the array: some head passes the test, or none does
pub any_told : (passes : HeadState → Bool) (heads : List Head) (r : Bool) → length heads ≡ head_count
    → MatchBool r ((k : ℕ) × (k < length heads) × HoldsAt (λ (x : Head). passes x.state ≡ true) heads k)
    (AllWithin (λ (x : Head). passes x.state ≡ false) heads 0 (length heads))
    → r ≡ any_in passes heads
unfolding state_in
any_told passes heads true e t = any_at passes heads t.0 (omega (arith, t.1)) (t.2 (head_of Idle))
any_told passes heads false e t = any_nowhere passes heads (λ k l. t k (head_of Idle) (omega arith) (omega arith))
