-- What heads are about: one that is not idle before and after a step is about the same place and frame.
use mathlib.Core.Path.{◌≡◌, refl, sym, ◌∙◌}
use mathlib.Core.Bool.{true}
use mathlib.Core.List.{List}
use Prim.Native.Nat.{ℕ, ◌*◌, ◌<◌}
use native.Mathlib.Omega.{arith}
use native.Mathlib.Decide.{ℕ_discrete}
use lib.ListN.{length}
use borrow.Author.Tests.{not-false}
use Rattle.tree.specs.Memory.{Module}
use Rattle.book.specs.declared.Target.{Target}
use Rattle.book.specs.declared.HeadState.{HeadState}
use Rattle.book.specs.declared.HeadState.TheVariants.{Idle, Filled}
use Rattle.book.specs.Heads.{head_count, head_at, is_idle, target_of, with_head, idle_heads}
use Rattle.book.specs.State.{State, Operation, format, recover, open_reel, claim, fill, commit, abandon, remove, retire, tidy, query}
use Rattle.book.specs.Checks.{refusals}
use Rattle.book.specs.Perform.{granted, perform}
use Rattle.book.specs.Table.{Table}
use Rattle.book.specs.Agrees.{About, Agrees}
use Rattle.book.specs.Histories.{Next, performed, crashed}
use Rattle.book.proofs.Refusals.{passes}
use Rattle.book.proofs.Performed.{answer_is}
use Rattle.book.proofs.Done.{done_granted, refused_heads}
use Rattle.book.proofs.Heads.{head_written, head_stays, idle_heads_lem, target_about, one_target, idle_nothing}

record SameTarget (x y : HeadState) : Type 0 where
  same : {a b : Target} → About a x → About b y → a ≡ b

same_itself : (x : HeadState) → SameTarget x x
same_itself x = record { same = one_target }

-- an idle head is about nothing
same_from_idle : {x y : HeadState} → is_idle x ≡ true → SameTarget x y
same_from_idle h = record { same = λ a b. absurd (idle_nothing h a) }

same_to_idle : (x : HeadState) {y : HeadState} → y ≡ Idle → SameTarget x y
same_to_idle x q = rw q (record { same = λ a b. absurd (idle_nothing refl b) })

same_filled : (x : HeadState) → SameTarget x (Filled (target_of x))
same_filled x = record { same = λ a b. sym (target_about a).1 ∙ (target_about b).1 }

-- the heads' words that an answered operation leaves: as they were, all idle, or one of them written
data HeadsAfter (ws : List ℕ) : List ℕ → Type 0 where
  left : HeadsAfter ws ws
  all_idle_lem : HeadsAfter ws idle_heads
  written : (h : ℕ) (x : HeadState) → h < head_count → SameTarget (head_at ws h) x → HeadsAfter ws (with_head ws h x)

heads_after : (op : Operation) (s : State) → (perform op s).answer ≡ 0 → HeadsAfter s.heads (granted op s).after.heads
unfolding granted refusals
heads_after (format words bytes slots nodes) s e = all_idle_lem
heads_after (recover words) s e = all_idle_lem
heads_after (open_reel words script reel) s e = left
heads_after (claim words script h reel f) s e =
    let p = (passes (refusals (claim words script h reel f) s) (omega arith) (sym (answer_is (claim words script h reel f) s) ∙ e)).1.1.1.1 in
    written h _ p.0 (same_from_idle (not-false _ p.1.0))
heads_after (fill script h) s e =
    let p = (passes (refusals (fill script h) s) (omega arith) (sym (answer_is (fill script h) s) ∙ e)).1.1.1.1 in
    written h _ p.0 (same_filled _)
heads_after (commit script h) s e =
    let p = (passes (refusals (commit script h) s) (omega arith) (sym (answer_is (commit script h) s) ∙ e)).1.1.1.1 in
    written h _ p.0 (same_to_idle _ refl)
heads_after (abandon script h) s e =
    let p = (passes (refusals (abandon script h) s) (omega arith) (sym (answer_is (abandon script h) s) ∙ e)).1.1.1.1 in
    written h _ p.0 (same_to_idle _ refl)
heads_after (remove script reel f) s e = left
heads_after (query q) s e = left
heads_after (retire words scratch script reel) s e = left
heads_after (tidy words scratch script reel) s e = left

idle_recovered : (words : ℕ) (s : State) (k : ℕ) → head_at (granted (recover words) s).after.heads k ≡ Idle
unfolding granted
idle_recovered words s k = idle_heads_lem k

same_after : {ws ws' : List ℕ} → length ws ≡ 5 * head_count → HeadsAfter ws ws' → (k : ℕ) → SameTarget (head_at ws k) (head_at ws' k)
same_after l left k = same_itself _
same_after l all_idle_lem k = same_to_idle _ (idle_heads_lem k)
same_after {ws} l (written h x low a) k = elim (ℕ_discrete k h) [
  | yes q ↦ rw (q, head_written ws h x (omega arith)) a
  | no d ↦ rw (head_stays ws h x (omega arith) k d) (same_itself (head_at ws k))
]

same_next : {s s' : State} {on : Module} → length s.heads ≡ 5 * head_count → Next on s s' → (k : ℕ) → SameTarget (head_at s.heads k) (head_at s'.heads k)
same_next {s} l (performed op fit) k = elim (ℕ_discrete (perform op s).answer 0) [
  | yes h ↦ rw (done_granted op s h) (same_after l (heads_after op s h) k)
  | no h ↦ rw (refused_heads op s h) (same_itself (head_at s.heads k))
]
same_next {s} l (crashed op fit k' c r) k = rw (r.is, done_granted _ r.from r.answered) (same_to_idle _ (idle_recovered r.words r.from k))

pub next_targets : {s s' : State} {t : Table} {on : Module} → Agrees s t → Next on s s' → (h : ℕ) {a b : Target} → h < head_count → About a (head_at s.heads h)
    → About b (head_at s'.heads h) → a ≡ b
next_targets a n h low x y = (same_next a.head_words n h).same x y
