-- What the driver keeps, the operations with their arguments, and what an operation answers.
use Rattle.std.specs.Prelude.{Bool, cond, List, [], ◌∷◌, ℕ, length}
use Rattle.std.proofs.Math.Option.{Option, none, some}
use Rattle.tree.specs.Memory.{Memory, reads, Store}
use Rattle.tree.specs.declared.layout.Geometry.{Geometry}
use Rattle.tree.specs.Layout.{geometry_of}
use Rattle.tree.specs.Pool.{clear_map}

-- the image in persistent memory, the pool map, and the heads' words
pub record State : Type 0 where
  pub image : List ℕ
  pub pool : List ℕ
  pub heads : List ℕ

-- what the image has at an index, and its R and N
abbrev pub memory : State → Memory
memory s = reads s.image

abbrev pub shape : State → Geometry
shape s = geometry_of (memory s)

-- the orders that only read: they leave image, map and heads, and have no script; Convert writes a second image
pub data Query : Type 0 where
  has : (reel frame : ℕ) → Query
  list : (scratch room : ℕ) (reel : ℕ) → Query
  convert : (scratch copy : ℕ) → Query

-- the paper's orders, each with the lengths of the buffers that it borrows beside image and heads, and its numbers; Format with
-- the table that it is given, byte by byte
pub data Operation : Type 0 where
  format : (map : ℕ) (table : List ℕ) (slots nodes : ℕ) → Operation
  recover : (map : ℕ) → Operation
  open_reel : (map script : ℕ) (reel : ℕ) → Operation
  claim : (map script : ℕ) (head reel frame : ℕ) → Operation
  fill : (script : ℕ) (head : ℕ) → Operation
  commit : (script : ℕ) (head : ℕ) → Operation
  abandon : (script : ℕ) (head : ℕ) → Operation
  remove : (script : ℕ) (reel frame : ℕ) → Operation
  retire : (map scratch script : ℕ) (reel : ℕ) → Operation
  tidy : (map scratch script : ℕ) (reel : ℕ) → Operation
  query : Query → Operation

-- an operation's numbers, without the lengths
abbrev pub query_arguments : Query → List ℕ
query_arguments (has reel frame) = reel ∷ frame ∷ []
query_arguments (list scratch room reel) = reel ∷ []
query_arguments (convert scratch copy) = []

abbrev pub arguments : Operation → List ℕ
arguments (format map table slots nodes) = slots ∷ nodes ∷ []
arguments (recover map) = []
arguments (open_reel map script reel) = reel ∷ []
arguments (claim map script head reel frame) = head ∷ reel ∷ frame ∷ []
arguments (fill script head) = head ∷ []
arguments (commit script head) = head ∷ []
arguments (abandon script head) = head ∷ []
arguments (remove script reel frame) = reel ∷ frame ∷ []
arguments (retire map scratch script reel) = reel ∷ []
arguments (tidy map scratch script reel) = reel ∷ []
arguments (query q) = query_arguments q

-- what an operation hands back beside its script: Has's yes or no, List's count; the number of nodes on the path of Has's frame;
-- List's frames; the words that Convert writes to the second image. The plain table knows neither paths nor copies: 0 and none there
pub record Handed : Type 0 where
  pub value : ℕ
  pub path_nodes : ℕ
  pub listing : List ℕ
  pub copy : Option (List ℕ)

abbrev pub nothing_handed : Handed
nothing_handed = record { value = 0; path_nodes = 0; listing = []; copy = none }

abbrev pub handing : (value path_nodes : ℕ) → Handed
handing n d = record { value = n; path_nodes = d; listing = []; copy = none }

abbrev pub handing_frames : List ℕ → Handed
handing_frames fs = record { value = length fs; path_nodes = 0; listing = fs; copy = none }

abbrev pub handing_copy : List ℕ → Handed
handing_copy ws = record { value = 0; path_nodes = 0; listing = []; copy = some ws }

-- what an operation does: a script in segments, what it hands back, and the state as it leaves it, before the script is carried out
pub record Work : Type 0 where
  pub script : List (List Store)
  pub handed : Handed
  pub after : State

-- nothing but a state
abbrev pub leaving : State → Work
leaving s = record { script = []; handed = nothing_handed; after = s }

-- an answer, 0 or the refusal's number, with what was done; `cleared` says that the scratch map is all 0; `places-left` is Claim's places
-- left, which the plain table does not know
pub record Outcome : Type 0 where
  pub answer : ℕ
  pub work : Work
  pub cleared : Bool
  pub places_left_lem : ℕ

-- the borrowed scratch map at the end: all 0 of the same length where it is cleared, else as it was
unfoldable pub scratch_after : (cleared : Bool) (scratch : List ℕ) → List ℕ
scratch_after cleared scratch = cond cleared (clear_map (length scratch)) scratch

-- the second image at the end: as it was, unless it is written
abbrev pub copy_after : Option (List ℕ) → (copy : List ℕ) → List ℕ
copy_after none copy = copy
copy_after (some ws) copy = ws
