-- The laws that specs/Laws.antt states, by their name.
use mathlib.Core.List.{List}
use Prim.Native.Nat.{ℕ}
use Rattle.tree.specs.declared.layout.Geometry.{Geometry}
use Rattle.recovery.specs.Laws.{RecoveryLaws}
use Rattle.recovery.proofs.AllSlots.{slots_law}
use Rattle.recovery.proofs.MarkedNodesMend.{mend_law}

pub recovery_laws : (g : Geometry) (image : List ℕ) → RecoveryLaws g image
recovery_laws g image = record { slots = slots_law g image; mend = mend_law g image }
