use Rattle.std.proofs.Common.{◌≡◌, ◌∙◌, ap, sym, ℕ, ◌+◌, ◌*◌, List, ◌++◌, [], ◌∷◌}
use Rattle.tree.specs.Memory.{Entry, Store, store, barrier, written, stores, segmented}
use Rattle.tree.specs.declared.layout.Geometry.{Geometry}
use Rattle.tree.specs.Layout.{reel_at, root_at}
use Rattle.tree.proofs.Memory.{written_rest, segment_laws}
use Rattle.book.specs.Perform.{new_node, open_script}
use Rattle.operations.proofs.ScriptWords.{stores_before}
use Rattle.reels.proofs.open.put_open.Goals as goal

-- the node's stores, and the two of its slot, each with its barrier
in_two : (g : Geometry) (slot n reel : ℕ)
    → stores (new_node g n 0 16) ++ (store (reel_at slot) reel ∷ barrier ∷ store (root_at slot) (n + 1) ∷ barrier ∷ []) ≡ segmented (open_script g slot n reel)
unfolding open_script
in_two g slot n reel =
    let filled : Store = (reel_at slot, reel) in
    let root : Store = (root_at slot, n + 1) in
    ap (λ (es : List Entry). stores (new_node g n 0 16) ++ es) (sym (segment_laws.fenced_pair filled root))
    ∙ stores_before (new_node g n 0 16) (filled ∷ []) ((root ∷ []) ∷ [])

pub returns : goal.returns
returns c =
    let a = c.args in
    let node = stores (new_node a.g a.n 0 16) in
    let rest = store (reel_at a.slot) a.reel ∷ barrier ∷ store (root_at a.slot) (a.n + 1) ∷ barrier ∷ [] in
    let ten = ap (λ k. 2 * k) (segment_laws.length_stores (new_node a.g a.n 0 16)) in
    written_rest node rest 10 a.script.now c.put_node.new.script c.put_fenced_pair.new.script ten c.put_node.ensures
    (rw (c.root_at-root.ensures, c.reel_at-number.ensures) at c.put_fenced_pair.ensures)
    ∙ ap (λ (es : List Entry). written es a.script.now) (in_two a.g a.slot a.n a.reel)
