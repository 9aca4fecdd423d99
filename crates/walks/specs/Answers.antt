-- What the functions of this crate answer.
use Rattle.std.specs.Prelude.{cond, List, ℕ, length, ltb, Result, Ok, Err}
use Rattle.memory.specs.Words.{Memory}
use Rattle.tree.specs.declared.layout.Geometry.{Geometry}
use Rattle.tree.specs.Subtree.{listing, listed}
use Rattle.tree.specs.Check.{is_sound_tree}
use Rattle.walks.specs.declared.trees.ListError.{ListError}
use Rattle.walks.specs.declared.trees.ListError.TheVariants as why

-- a slot's frames in a list with given room: malformed or met twice, too little room, or all of them
unfoldable pub listing_from : Geometry → Memory → (slot room : ℕ) → Result ℕ ListError
listing_from g m s room =
    cond (is_sound_tree g m s)
    (cond (ltb room (length (listing g m s))) (Err why.Short) (Ok (length (listing g m s))))
    (Err why.Malformed)

-- the borrowed list in the end: all of the frames at its start, or as it was
unfoldable pub list_after : Geometry → Memory → (slot : ℕ) → List ℕ → List ℕ
list_after g m s buffer =
    cond (is_sound_tree g m s) (cond (ltb (length buffer) (length (listing g m s))) buffer (listed (listing g m s) buffer)) buffer
