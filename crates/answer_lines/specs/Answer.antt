-- The lines that the bench program prints, with their newlines.
use Rattle.std.specs.Prelude.{List, [], ◌∷◌, ◌++◌, ℕ}
use Rattle.lines.specs.Line.{written}
use Rattle.lines.specs.Input.{newline}

-- the answer to a line
unfoldable pub answer_line : (answer stores value : ℕ) → List ℕ
answer_line answer stores value = written (("answer=", answer) ∷ (" stores=", stores) ∷ (" value=", value) ∷ []) ++ newline ∷ []

-- a frame that List gives
unfoldable pub frame_line : ℕ → List ℕ
frame_line frame = written (("frame=", frame) ∷ []) ++ newline ∷ []
