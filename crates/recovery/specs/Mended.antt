-- What recovery writes, node by node, numbers rising, to the nodes that a map marks.
use Rattle.std.specs.Prelude.{cond, not, ◌&&◌, List, ℕ, zero, suc, set, eqb}
use Rattle.memory.specs.Words.{reads}
use Rattle.tree.specs.declared.layout.Geometry.{Geometry}
use Rattle.tree.specs.Layout.{locate_at, set_at}
use Rattle.tree.specs.Pool.{used}

-- the image with every differing locate word of the marked nodes below k set to its set word
unfoldable pub mended_below : Geometry → (pool image : List ℕ) → (k : ℕ) → List ℕ
mended_below g pool image zero = image
mended_below g pool image (suc k) =
    let m = reads image in
    let before = mended_below g pool image k in
    cond (used pool k && not (eqb (m (locate_at g k)) (m (set_at g k)))) (set before (locate_at g k) (m (set_at g k))) before
