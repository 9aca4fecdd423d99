-- The checks that every operation but Format makes first: 1, 2, 3, and 4 for the image's table.
use Rattle.std.specs.Prelude.{false, cond, List, ℕ, length, Option, None, Some, Result, Ok, Err}
use Rattle.tree.specs.Memory.{reads}
use Rattle.tree.specs.Test.{Test, is, ◌or◌, holds}
use Rattle.tree.specs.declared.layout.Geometry.{Geometry}
use Rattle.tree.specs.Layout.{bad_image, bad_edition, geometry_of}
use Rattle.tree.specs.Fingerprint.{bad_own}
use Rattle.book.specs.Checks.{bad_map, bad_script}
use Rattle.operations.specs.declared.answer.Refusal.{Refusal}
use Rattle.operations.specs.declared.answer.Refusal.TheVariants as refusals

-- 3, for a buffer that is borrowed
abbrev pub map_bad : Geometry → Option ℕ → Test
map_bad g None = is false
map_bad g (Some n) = bad_map g n

abbrev pub script_bad : Option ℕ → Test
script_bad None = is false
script_bad (Some n) = bad_script n

-- the geometry, or the first of the four that holds
unfoldable pub first_checks : List ℕ → (map scratch script : Option ℕ) → Result Geometry Refusal
first_checks image map scratch script =
    let g = geometry_of (reads image) in
    cond (holds (bad_image (length image) g)) (Err refusals.Image)
    (cond (holds (bad_edition (reads image))) (Err refusals.Edition)
    (cond (holds (map_bad g map or map_bad g scratch or script_bad script)) (Err refusals.Buffer)
    (cond (holds (bad_own (reads image))) (Err refusals.Malformed) (Ok g))))
