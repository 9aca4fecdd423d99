-- What the functions of this crate answer.
use Rattle.std.specs.Prelude.{cond, List, ℕ, length, Option as Optional, Some, None, Result, Ok, Err}
use Rattle.std.proofs.Math.Option.{Option, none, some}
use Rattle.memory.specs.Words.{Memory}
use Rattle.memory.specs.Apply.{is_some}
use Rattle.tree.specs.declared.layout.Geometry.{Geometry}
use Rattle.tree.specs.declared.path.Spot.{Spot}
use Rattle.tree.specs.declared.path.Room.{Room}
use Rattle.tree.specs.Fingerprint.{rule_of}
use Rattle.tree.specs.Lookup.{path_from, lookup}
use Rattle.tree.specs.Room.{room_on, places_left, at_level31}
use Rattle.paths.specs.declared.descent.Malformed.{Malformed}
use Rattle.paths.specs.declared.descent.Found.{Found}
use Rattle.paths.specs.declared.descent.Vacancy.{Vacancy}
use Rattle.paths.specs.declared.descent.NoVacancy.{NoVacancy}
use Rattle.paths.specs.declared.descent.NoVacancy.TheVariants as no_vacancy

-- on a path that is there, or where it is malformed
abbrev pub on_path : {A : Type 0} → A → (List ℕ → A) → Option (List ℕ) → A
on_path malformed go none = malformed
on_path malformed go (some ns) = go ns

abbrev pub seen_as : Option Spot → Optional Spot
seen_as none = None
seen_as (some t) = Some t

-- the lookup of a frame from a slot, with the number of nodes on its path
abbrev pub found_on : Geometry → Memory → (frame : ℕ) → List ℕ → Result Found Malformed
found_on g m f ns = Ok (record { found = seen_as (lookup (rule_of m) g m f ns); nodes = length ns })

unfoldable pub found_from : Geometry → Memory → (slot frame : ℕ) → Result Found Malformed
found_from g m s f = on_path (Err (record {})) (found_on g m f) (path_from g m s f)

-- a room, with the places left in its node once the place is taken
abbrev pub vacancy : Room → (left : ℕ) → Vacancy
vacancy r n = record { room = r; left = n }

-- what a claim finds, by the room on a frame's path and what the lookup finds there: full to the end at level 31, or the frame
-- held, or room
abbrev pub placement_as : Vacancy → (found : Option Spot) → Result Vacancy NoVacancy
placement_as v found = cond (at_level31 v.room) (Err no_vacancy.Full) (cond (is_some found) (Err no_vacancy.Held) (Ok v))

unfoldable pub placement_on : Geometry → Memory → (frame : ℕ) → List ℕ → Result Vacancy NoVacancy
placement_on g m f ns = let r = room_on g m (some ns) in placement_as (vacancy r (places_left g m r)) (lookup (rule_of m) g m f ns)

unfoldable pub placement_from : Geometry → Memory → (slot frame : ℕ) → Result Vacancy NoVacancy
placement_from g m s f = on_path (Err no_vacancy.Malformed) (placement_on g m f) (path_from g m s f)
