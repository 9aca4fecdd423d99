-- Printed lines: parts put one behind the other, and a newline behind them.
use mathlib.Core.Path.{◌≡◌}
use mathlib.Core.List.{[], ◌∷◌, ◌++◌, append_assoc, append-nil}
use Prim.Native.Nat.{ℕ}
use Rattle.lines.specs.Decimal.{decimal}
use Rattle.lines.specs.Line.{bytes}
use Rattle.lines.specs.Input.{newline}
use Rattle.answer_lines.specs.Answer.{answer_line, frame_line}

pub answer_parts : (a s v : ℕ)
    → ((([] ++ bytes "answer=" ++ decimal a) ++ bytes " stores=" ++ decimal s) ++ bytes " value=" ++ decimal v) ++ newline ∷ [] ≡ answer_line a s v
unfolding answer_line
answer_parts a s v = simp (append_assoc, append-nil)

pub frame_parts : (f : ℕ) → ([] ++ bytes "frame=" ++ decimal f) ++ newline ∷ [] ≡ frame_line f
unfolding frame_line
frame_parts f = simp (append_assoc, append-nil)
