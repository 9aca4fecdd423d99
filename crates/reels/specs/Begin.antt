-- What List, Retire and Tidy begin with.
use Rattle.std.specs.Prelude.{cond, List, ℕ, length, Result, Ok, Err, ltb, leb}
use Rattle.tree.specs.Memory.{reads}
use Rattle.tree.specs.declared.layout.Geometry.{Geometry}
use Rattle.tree.specs.Slots.{slot_of}
use Rattle.tree.specs.Pool.{clear_map}
use Rattle.operations.specs.declared.answer.Refusal.{Refusal}
use Rattle.operations.specs.declared.answer.Refusal.TheVariants.{NoReel}
use Rattle.operations.specs.Answers.{number_of}
use Rattle.reels.specs.declared.begin.ReelSlot.{ReelSlot}

-- past the checks: the reel's slot, or 5
abbrev pub slot_in : List ℕ → (reel : ℕ) → Geometry → Result ReelSlot Refusal
slot_in image reel g =
    let slot = slot_of g (reads image) reel in
    cond (leb g.slots slot) (Err NoReel) (Ok (record { g = g; slot = slot }))

abbrev pub slot_past : List ℕ → (reel : ℕ) → Result Geometry Refusal → Result ReelSlot Refusal
slot_past image reel (Ok g) = slot_in image reel g
slot_past image reel (Err why) = Err why

-- what that leaves of the scratch map: a refusal past 3 clears it
abbrev pub scratch_begun : Result ReelSlot Refusal → List ℕ → List ℕ
scratch_begun (Ok r) scratch = scratch
scratch_begun (Err why) scratch = cond (ltb 3 (number_of why)) (clear_map (length scratch)) scratch
