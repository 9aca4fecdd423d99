-- What crates above cite: the proof of specs/Laws.antt.
use mathlib.Core.Path.{◌≡◌, refl, sym, ◌∙◌, ap}
use mathlib.Core.Bool.{Bool, true, false, cond}
use mathlib.Core.List.{List, ◌++◌}
use Prim.Native.Nat.{ℕ, ◌≤◌}
use native.Mathlib.Omega.{arith}
use lib.ListN.{length, drop, length-append, length-drop}
use lib.Dec.{eqb}
use Rattle.tree.specs.Memory.{segmented}
use Rattle.tree.proofs.Memory.{script_laws}
use Rattle.tree.specs.Subtree.{listed}
use Rattle.book.specs.State.{State, Operation, query, list, Work, leaving}
use Rattle.book.specs.Refusals.{refusal}
use Rattle.book.specs.Checks.{refusals}
use Rattle.book.specs.Perform.{perform, granted}
use Rattle.operations.specs.Ends.{Buffers, Ends, ended_telling, ended, found, ends}
use Rattle.reelbook.specs.Laws.{CountsScript, CountLaws}

-- a buffer that is as long with other words at its start in place of its own has room for them
at_start : (xs buffer : List ℕ) → length (xs ++ drop (length xs) buffer) ≡ length buffer → length xs ≤ length buffer
at_start xs buffer same = omega (arith, length-append xs (drop (length xs) buffer), length-drop (length xs) buffer)

script_inside : (op : Operation) (s : State) (b : Buffers) {n k l d : ℕ} {s' : State} {b' : Buffers} → CountsScript op
    → ended_telling n k l d s' b' ≡ ends op s b → length b'.script ≡ length b.script → k ≤ length b'.script
unfolding ends found
script_inside op s b counts e same =
    let es = segmented (perform op s).work.script in
    let inside = script_laws.room_written es b.script (sym (ap (λ (x : Ends). length x.buffers.script) e) ∙ same) in
    rw (ap (λ (x : Ends). x.count) e ∙ counts (perform op s).work, same) inside

-- a refusal hands back nothing
granted_or_left : (t : Bool) (w : Work) (s : State) → w.handed.value ≡ length w.handed.listing → (cond t w (leaving s)).handed.value ≡ length (cond t w (leaving s)).handed.listing
granted_or_left true w s e = e
granted_or_left false w s e = refl

-- List's count is that of its frames, or 0 of none where it is refused
counts_frames : (scratch room reel : ℕ) (s : State) → let w = (perform (query (list scratch room reel)) s).work in w.handed.value ≡ length w.handed.listing
unfolding perform granted
counts_frames scratch room reel s = granted_or_left (eqb (refusal (refusals (query (list scratch room reel)) s)) 0) (granted (query (list scratch room reel)) s) _ refl

list_inside : (scratch room reel : ℕ) (s : State) (b : Buffers) {n k : ℕ} {s' : State} {b' : Buffers}
    → ended n k s' b' ≡ ends (query (list scratch room reel)) s b → length b'.list ≡ length b.list → k ≤ length b'.list
unfolding ends found listed
list_inside scratch room reel s b e same =
    let fs = (perform (query (list scratch room reel)) s).work.handed.listing in
    let inside = at_start fs b.list (sym (ap (λ (x : Ends). length x.buffers.list) e) ∙ same) in
    rw (ap (λ (x : Ends). x.count) e ∙ counts_frames scratch room reel s, same) inside

pub count_laws : CountLaws
count_laws = record { script_inside = script_inside; list_inside = list_inside }
