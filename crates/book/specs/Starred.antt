-- The starred cases of the paper, those of two heads on a reel, of places left, of nodes on a path and of own tables, in one table: what is computed beside what it should be.
use Rattle.std.specs.Prelude.{◌≡◌, true, ℕ, ◌+◌, ◌-◌, ◌*◌, ◌%◌, ◌^◌, replicate, eqb}
use mathlib.Core.List.{List, [], ◌∷◌, ◌++◌, map, flat_map}
use Rattle.tree.specs.Memory.{reads}
use Rattle.tree.specs.Layout.{next_at, size_at}
use Rattle.tree.specs.Lists.{up_to, every}
use Rattle.tree.specs.Path.{child}
use Rattle.tree.specs.Fingerprint.{fingerprint, rule_for, own_rule}
use Rattle.book.specs.declared.Target.{Target}
use Rattle.book.specs.Heads.{head_at, target_of}
use Rattle.book.specs.State.{State, Operation, format, open_reel, claim, fill, commit, retire, query, has, memory, shape}
use Rattle.book.specs.Perform.{perform}
use Rattle.book.specs.Histories.{done}

-- operations done one after the other
unfoldable pub run : List Operation → State → State
run [] s = s
run (op ∷ ops) s = run ops (done op s)

-- a book just formatted over zeros
unfoldable pub formatted : (slots nodes : ℕ) → State
formatted slots nodes =
    done (format 1 [] slots nodes) (record { image = replicate (64 + 2 * slots + 80 * nodes) 0; pool = []; heads = [] })

-- a frame of a reel claimed, by head h and by head 0
abbrev pub claims_by : (h reel f : ℕ) → Operation
claims_by h reel f = claim 1 50 h reel f

abbrev pub claims : (reel f : ℕ) → Operation
claims reel f = claims_by 0 reel f

-- claimed by head 0, and then filled and committed
unfoldable pub keeps : ℕ → ℕ → List Operation
keeps reel f = claims reel f ∷ fill 50 0 ∷ commit 50 0 ∷ []

abbrev pub opens : ℕ → Operation
opens reel = open_reel 1 50 reel

-- reel 7 alone with frames 0 to k − 1, in a pool of n nodes
unfoldable pub with_frames : (n k : ℕ) → State
with_frames n k = run (opens 7 ∷ flat_map (keeps 7) (up_to k)) (formatted 1 n)

-- reels 7 to 10 in a pool of four nodes, reel 8 with frames 0 to 63, reels 7 and 9 retired: nodes 0 and 2 are free
unfoldable pub with_gaps : State
with_gaps =
    run ((opens 7 ∷ opens 8 ∷ opens 9 ∷ opens 10 ∷ flat_map (keeps 8) (up_to 64)) ++ (retire 1 1 50 7 ∷ retire 1 1 50 9 ∷ [])) (formatted 4 4)

-- what head 0 is about, and the size of node 0 and the first child that its next word names
abbrev pub target : State → Target
target s = target_of (head_at s.heads 0)

abbrev pub root_size : State → ℕ
root_size s = memory s (size_at (shape s) 0)

abbrev pub first_child : State → ℕ
first_child s = memory s (next_at (shape s) 0) - 1

-- the book once frame k, the next one, is claimed; and what it then answers to a claim of frame f by head 1
abbrev pub next : (n k : ℕ) → State
next n k = done (claims 7 k) (with_frames n k)

abbrev pub second : (n k f : ℕ) → ℕ
second n k f = (perform (claims_by 1 7 f) (next n k)).answer

-- the places left that the claim of frame k, the next one, is told
abbrev pub left : (n k : ℕ) → ℕ
left n k = (perform (claims 7 k) (with_frames n k)).places_left_lem

-- the number of nodes on the path of frame f, with frames 0 to k − 1 held, and once frame k is claimed too
abbrev pub path_nodes : (n k f : ℕ) → ℕ
path_nodes n k f = (perform (query (has 7 f)) (with_frames n k)).work.handed.path_nodes

abbrev pub next_nodes : (n k f : ℕ) → ℕ
next_nodes n k f = (perform (query (has 7 f)) (next n k)).work.handed.path_nodes

-- frames 0 to 63, then 64 and 65 claimed by heads 0 and 1: what a claim of frame f by head 2 is answered
abbrev pub third : (f : ℕ) → ℕ
third f = (perform (claims_by 2 7 f) (done (claims_by 1 7 65) (next 3 64))).answer

-- a table in which every byte occurs once
abbrev pub successors : List ℕ
successors = map (λ i. (i + 1) % 256) (up_to 256)

unfoldable pub starred : List (ℕ × ℕ)
starred =
    -- level 3: frames 8, 16, 24 go to children 1, 2, 3; level 30: 2^57 to 1, 2^58 to 2
    (child 3 8, 1) ∷ (child 3 16, 2) ∷ (child 3 24, 3) ∷ (child 30 (2 ^ 57), 1) ∷ (child 30 (2 ^ 58), 2)
    -- in edition 1 the fingerprint of 0 is 144, of 1 is 113, of 2^32 is 144
    ∷ (fingerprint (rule_for 1) 0, 144) ∷ (fingerprint (rule_for 1) 1, 113) ∷ (fingerprint (rule_for 1) (2 ^ 32), 144)
    -- in edition 2 that of 0 is 32; and, worked out from the rule, those of 1, 2^32, 2^56 and of the frame with bytes 1 to 8
    ∷ (fingerprint (rule_for 2) 0, 32)
    ∷ (fingerprint (rule_for 2) 1, 225) ∷ (fingerprint (rule_for 2) (2 ^ 32), 1) ∷ (fingerprint (rule_for 2) (2 ^ 56), 121)
    ∷ (fingerprint (rule_for 2) 578437695752307201, 136)
    -- with an own table all eight bytes are folded over that: where entry i is i, it is their xor
    ∷ (fingerprint (own_rule (up_to 256)) 578437695752307201, 8)
    -- where entry i is i + 1, and the last 0: 0 gets 8, 1 gets 9, 2^56 gets 7, and 255 in the lowest byte 7
    ∷ (fingerprint (own_rule successors) 0, 8) ∷ (fingerprint (own_rule successors) 1, 9)
    ∷ (fingerprint (own_rule successors) (2 ^ 56), 7) ∷ (fingerprint (own_rule successors) 255, 7)
    -- 16th frame: place 15, size 16; 17th: size 32, place 16; 33rd: size 64, place 32
    ∷ ((target (next 1 15)).place, 15) ∷ (root_size (next 1 15), 16)
    ∷ ((target (next 1 16)).place, 16) ∷ (root_size (next 1 16), 32)
    ∷ ((target (next 1 32)).place, 32) ∷ (root_size (next 1 32), 64)
    -- frames 0 to 63, then 64: place 0 of child 0; with N = 1 the last gets 8
    ∷ ((target (next 3 64)).node, first_child (next 3 64)) ∷ (first_child (next 3 64), 1) ∷ ((target (next 3 64)).place, 0)
    ∷ ((perform (claims 7 64) (with_frames 1 64)).answer, 8)
    -- N = 4, reels 7, 8, 9, 10 opened, 7 and 9 retired: a branch-out of reel 8 gets refusal 8, with two nodes free
    ∷ ((perform (claims 8 64) with_gaps).answer, 8) ∷ (reads with_gaps.pool 0, 2 ^ 1 + 2 ^ 3)
    -- frames 0 to 63, N = 3, 64 claimed: 65 by another head is answered; then 66, at the very node of 64, gets 13, and so does 64
    ∷ (second 3 64 65, 0) ∷ (third 66, 13) ∷ (third 64, 13)
    -- frames 0 to 62, 63 claimed: 64 by another head is answered, the full parent is not its node; with N = 1 it gets 8
    ∷ (second 3 63 64, 0) ∷ (second 1 63 64, 8)
    -- there 63, the same frame, gets 13, though it would use another node; and with N = 1, where it finds no run and uses none
    ∷ (second 3 63 63, 13) ∷ (second 1 63 63, 13)
    -- frames 0 to 14, 15 claimed: 16 would scale up the root, the very node, and gets 13; 3, held there, gets 9 before it
    ∷ (second 1 15 16, 13) ∷ (second 1 15 3, 9)
    -- places left: 15 with the first frame, none with the 16th; 15 again with the 17th, after the scale-up
    ∷ (left 1 0, 15) ∷ (left 1 15, 0) ∷ (left 1 16, 15)
    -- 63 after a branch-out; with N = 1 that is refused and carries 0
    ∷ (left 3 64, 63) ∷ (left 1 64, 0)
    -- nodes on the path: 1 with 64 frames, of a frame held or not; with the 65th claimed 2, also of frame 0, which is found in the root
    ∷ (path_nodes 3 64 0, 1) ∷ (path_nodes 3 64 64, 1) ∷ (next_nodes 3 64 64, 2) ∷ (next_nodes 3 64 0, 2) ∷ (next_nodes 3 64 65, 2)
    -- with N = 1 the claim is refused, and it stays 1; of a reel that is not there Has is refused, and reports 0
    ∷ (next_nodes 1 64 64, 1) ∷ ((perform (query (has 8 0)) (with_frames 1 1)).work.handed.path_nodes, 0)
    ∷ []

-- every row is as it should be
abbrev pub Starred : Type 0
Starred = every (λ (row : ℕ × ℕ). eqb row.0 row.1) starred ≡ true
