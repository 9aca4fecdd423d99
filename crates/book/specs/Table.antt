-- The plain table: reels, each with a set of frames, and what each head is about. It is fed the arguments, the lengths, and
-- of the book's answer whether it is 8, 13 or 18.
use Rattle.std.specs.Prelude.{Bool, true, false, cond, not, ◌&&◌, List, [], ◌∷◌, map, ℕ, length, get_or, set, replicate, eqb}
use Rattle.std.proofs.Math.Option.{Option, none, some}
use Rattle.tree.specs.Memory.{is_some}
use Rattle.tree.specs.Test.{lt, le, ne, is, ◌or◌}
use Rattle.tree.specs.Lists.{keep, every, has_key}
use Rattle.tree.specs.declared.layout.Geometry.{Geometry}
use Rattle.tree.specs.Layout.{bad_image, image_words}
use Rattle.tree.specs.Fingerprint.{is_given, bad_given}
use Rattle.book.specs.Heads.{head_count}
use Rattle.book.specs.Refusals.{Refusal, ◌gives◌, refusal}
use Rattle.book.specs.State.{Operation, format, recover, open_reel, claim, fill, commit, abandon, remove, retire, tidy, query, Query, has, list, convert, Handed, nothing_handed, handing, handing_frames}
use Rattle.book.specs.Checks.{bad_map, bad_script}

-- per head idle, or claimed or filled with reel and frame
pub data TableHead : Type 0 where
  idle : TableHead
  claimed filled : (reel frame : ℕ) → TableHead

-- a reel and its frames, each listed once
pub record Reel : Type 0 where
  pub number : ℕ
  pub frames : List ℕ

-- R and N, whether a table was given, the reels, the heads
pub record Table : Type 0 where
  pub slots : ℕ
  pub nodes : ℕ
  pub own : Bool
  pub reels : List Reel
  pub heads : List TableHead

-- what the table is fed of the book's answer: that it found no run of nodes, or a 13, which Claim takes for the node, or that it found
-- no empty group; else nothing
pub data Fed : Type 0 where
  nothing no_run same_node no_group : Fed

abbrev pub fed : ℕ → Fed
fed answer = cond (eqb answer 8) no_run (cond (eqb answer 13) same_node (cond (eqb answer 18) no_group nothing))

abbrev pub is_no_run : Fed → Bool
is_no_run nothing = false
is_no_run no_run = true
is_no_run same_node = false
is_no_run no_group = false

abbrev pub is_same_node : Fed → Bool
is_same_node nothing = false
is_same_node no_run = false
is_same_node same_node = true
is_same_node no_group = false

abbrev pub is_no_group : Fed → Bool
is_no_group nothing = false
is_no_group no_run = false
is_no_group same_node = false
is_no_group no_group = true

-- ---- reading the table

abbrev pub geometry : Table → Geometry
geometry t = record { slots = t.slots; nodes = t.nodes }

-- the frames of a reel, where it is present
unfoldable pub frames_in : ℕ → List Reel → Option (List ℕ)
frames_in reel [] = none
frames_in reel (r ∷ rs) = cond (eqb r.number reel) (some r.frames) (frames_in reel rs)

abbrev pub or_empty : Option (List ℕ) → List ℕ
or_empty none = []
or_empty (some fs) = fs

unfoldable pub is_present : Table → ℕ → Bool
is_present t reel = is_some (frames_in reel t.reels)

unfoldable pub frames_of : Table → ℕ → List ℕ
frames_of t reel = or_empty (frames_in reel t.reels)

unfoldable pub is_held : Table → (reel frame : ℕ) → Bool
is_held t reel f = has_key (λ x. x) f (frames_of t reel)

abbrev pub table_head : Table → ℕ → TableHead
table_head t h = get_or t.heads h idle

abbrev pub is_idle : TableHead → Bool
is_idle idle = true
is_idle (claimed reel f) = false
is_idle (filled reel f) = false

abbrev pub is_claimed : TableHead → Bool
is_claimed idle = false
is_claimed (claimed reel f) = true
is_claimed (filled reel f) = false

abbrev pub is_filled : TableHead → Bool
is_filled idle = false
is_filled (claimed reel f) = false
is_filled (filled reel f) = true

-- the reel and the frame that a head is about
abbrev pub reel_of : TableHead → ℕ
reel_of idle = 0
reel_of (claimed reel f) = reel
reel_of (filled reel f) = reel

abbrev pub frame_of : TableHead → ℕ
frame_of idle = 0
frame_of (claimed reel f) = f
frame_of (filled reel f) = f

-- a head that is not idle is about the reel
abbrev pub is_about : ℕ → TableHead → Bool
is_about reel idle = false
is_about reel (claimed r f) = eqb r reel
is_about reel (filled r f) = eqb r reel

-- some head passes a test
unfoldable pub any_table_head : (TableHead → Bool) → Table → Bool
any_table_head passes t = not (every (λ x. not (passes x)) t.heads)

-- busy: some head is about the reel
abbrev pub is_busy : Table → ℕ → Bool
is_busy t reel = any_table_head (is_about reel) t

-- and with it about the frame
abbrev pub is_taken : Table → (reel frame : ℕ) → Bool
is_taken t reel f = any_table_head (λ x. is_about reel x && eqb (frame_of x) f) t

-- ---- its refusals: 2 and 4 never come, and 1 only from Format, and from Convert for the second image's length

abbrev pub table_query_refusals : Query → Table → List Refusal
table_query_refusals (has reel f) t = (is (not (is_present t reel)) gives 5) ∷ []
table_query_refusals (list scratch room reel) t =
    (bad_map (geometry t) scratch gives 3) ∷ (is (not (is_present t reel)) gives 5) ∷ (lt room (length (frames_of t reel)) gives 14) ∷ []
table_query_refusals (convert scratch copy) t =
    (ne copy (image_words (geometry t)) gives 1) ∷ (bad_map (geometry t) scratch gives 3) ∷ (is t.own gives 17) ∷ []

unfoldable pub table_refusals : Operation → Fed → Table → List Refusal
table_refusals op fed t =
    let g = geometry t in
    let head = table_head t in
    elim op [
      | format words table slots nodes ↦
          let g' : Geometry = record { slots = slots; nodes = nodes } in
          (bad_image (image_words g) g' gives 1) ∷ (bad_map g' words gives 3) ∷ (bad_given table gives 16) ∷ []
      | recover words ↦ (bad_map g words gives 3) ∷ []
      | open_reel words script reel ↦
          (bad_map g words or bad_script script gives 3)
          ∷ (is (is_present t reel) gives 6)
          ∷ (le t.slots (length t.reels) gives 7)
          ∷ (is (is_no_run fed) gives 8)
          ∷ []
      | claim words script h reel f ↦
          (bad_map g words or bad_script script gives 3)
          ∷ (le head_count h gives 11)
          ∷ (is (not (is_idle (head h))) gives 12)
          ∷ (is (not (is_present t reel)) gives 5)
          ∷ (is (is_held t reel f) gives 9)
          ∷ (is (is_taken t reel f) or is (is_same_node fed) gives 13)
          ∷ (is (is_no_run fed) gives 8)
          ∷ []
      | fill script h ↦ (bad_script script gives 3) ∷ (le head_count h gives 11) ∷ (is (not (is_claimed (head h))) gives 12) ∷ []
      | commit script h ↦ (bad_script script gives 3) ∷ (le head_count h gives 11) ∷ (is (not (is_filled (head h))) gives 12) ∷ []
      | abandon script h ↦ (bad_script script gives 3) ∷ (le head_count h gives 11) ∷ (is (is_idle (head h)) gives 12) ∷ []
      | remove script reel f ↦
          (bad_script script gives 3)
          ∷ (is (not (is_present t reel)) gives 5)
          ∷ (is (is_busy t reel) gives 13)
          ∷ (is (not (is_held t reel f)) gives 10)
          ∷ []
      | retire words scratch script reel ↦
          (bad_map g words or bad_map g scratch or bad_script script gives 3)
          ∷ (is (not (is_present t reel)) gives 5)
          ∷ (is (is_busy t reel) gives 13)
          ∷ []
      | tidy words scratch script reel ↦
          (bad_map g words or bad_map g scratch or bad_script script gives 3)
          ∷ (is (not (is_present t reel)) gives 5)
          ∷ (is (is_busy t reel) gives 13)
          ∷ (is (is_no_group fed) gives 18)
          ∷ []
      | query q ↦ table_query_refusals q t
    ]

-- ---- what it becomes

-- a book just formatted, with a table of its own or without: no reel, heads idle
unfoldable pub empty_table : (own : Bool) (slots nodes : ℕ) → Table
empty_table own slots nodes = record { slots = slots; nodes = nodes; own = own; reels = []; heads = replicate head_count idle }

abbrev pub with_reels : Table → List Reel → Table
with_reels t rs = record { slots = t.slots; nodes = t.nodes; own = t.own; reels = rs; heads = t.heads }

abbrev pub with_table_head : Table → ℕ → TableHead → Table
with_table_head t h x = record { slots = t.slots; nodes = t.nodes; own = t.own; reels = t.reels; heads = set t.heads h x }

-- every head idle
unfoldable pub all_idle : Table → Table
all_idle t = record { slots = t.slots; nodes = t.nodes; own = t.own; reels = t.reels; heads = replicate head_count idle }

-- the frames of a reel changed
abbrev pub change_reel : ℕ → (List ℕ → List ℕ) → Reel → Reel
change_reel reel change r = record { number = r.number; frames = cond (eqb r.number reel) (change r.frames) r.frames }

unfoldable pub change_frames : ℕ → (List ℕ → List ℕ) → List Reel → List Reel
change_frames reel change rs = map (change_reel reel change) rs

-- a frame joins a set, or goes from it
unfoldable pub joined : ℕ → List ℕ → List ℕ
joined f fs = cond (has_key (λ x. x) f fs) fs (f ∷ fs)

unfoldable pub without : ℕ → List ℕ → List ℕ
without f fs = keep (λ x. not (eqb x f)) fs

-- what is handed back, and the table after
pub record TableWork : Type 0 where
  pub handed : Handed
  pub after : Table

abbrev pub becoming : Table → TableWork
becoming t = record { handed = nothing_handed; after = t }

-- the orders that only read
abbrev pub table_queried : Query → Table → Handed
table_queried (has reel f) t = handing (cond (is_held t reel f) 1 0) 0
table_queried (list scratch room reel) t = handing_frames (frames_of t reel)
table_queried (convert scratch copy) t = nothing_handed

unfoldable pub table_work : Operation → Table → TableWork
table_work (format words table slots nodes) t = becoming (empty_table (is_given table) slots nodes)
table_work (recover words) t = becoming (all_idle t)
table_work (open_reel words script reel) t = becoming (with_reels t (record { number = reel; frames = [] } ∷ t.reels))
table_work (claim words script h reel f) t = becoming (with_table_head t h (claimed reel f))
table_work (fill script h) t = let x = table_head t h in becoming (with_table_head t h (filled (reel_of x) (frame_of x)))
table_work (commit script h) t =
    let x = table_head t h in
    becoming (with_table_head (with_reels t (change_frames (reel_of x) (joined (frame_of x)) t.reels)) h idle)
table_work (abandon script h) t = becoming (with_table_head t h idle)
table_work (remove script reel f) t = becoming (with_reels t (change_frames reel (without f) t.reels))
table_work (retire words scratch script reel) t = becoming (with_reels t (keep (λ r. not (eqb r.number reel)) t.reels))
table_work (tidy words scratch script reel) t = becoming t
table_work (query q) t = record { handed = table_queried q t; after = t }

-- ---- any operation

pub record Reply : Type 0 where
  pub answer : ℕ
  pub work : TableWork

-- a refused operation changes nothing
unfoldable pub reply : Operation → Fed → Table → Reply
reply op fed t =
    let n = refusal (table_refusals op fed t) in
    record { answer = n; work = cond (eqb n 0) (table_work op t) (becoming t) }
