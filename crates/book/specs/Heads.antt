-- Head records as the driver keeps them: five words each, state (0 idle, 1 claimed, 2 filled), slot, node, place, frame.
use Rattle.std.specs.Prelude.{Bool, true, false, cond, ◌&&◌, ◌||◌, List, [], ◌∷◌, ◌++◌, ℕ, ◌+◌, ◌*◌, take, drop, replicate, eqb, ltb}
use Rattle.tree.specs.Memory.{reads, first}
use Rattle.book.specs.declared.Target.{Target}
use Rattle.book.specs.declared.HeadState.{HeadState}
use Rattle.book.specs.declared.HeadState.TheVariants.{Idle, Claimed, Filled}

-- how many heads there are
abbrev pub head_count : ℕ
head_count = 4

-- any state word but 1 and 2 is read as idle
unfoldable pub state_of : ℕ → Target → HeadState
state_of w t = cond (eqb w 1) (Claimed t) (cond (eqb w 2) (Filled t) Idle)

-- the state that record h of the heads' words has
unfoldable pub head_at : List ℕ → ℕ → HeadState
head_at ws h =
    state_of (reads ws (5 * h))
    (record { slot = reads ws (5 * h + 1); node = reads ws (5 * h + 2); place = reads ws (5 * h + 3); frame = reads ws (5 * h + 4) })

-- a record's five words; one written idle is all 0
unfoldable pub words_of : HeadState → List ℕ
words_of Idle = replicate 5 0
words_of (Claimed t) = 1 ∷ t.slot ∷ t.node ∷ t.place ∷ t.frame ∷ []
words_of (Filled t) = 2 ∷ t.slot ∷ t.node ∷ t.place ∷ t.frame ∷ []

-- the heads' words with record h written
unfoldable pub with_head : List ℕ → ℕ → HeadState → List ℕ
with_head ws h x = take (5 * h) ws ++ (words_of x ++ drop (5 * h + 5) ws)

-- every record written idle
abbrev pub idle_heads : List ℕ
idle_heads = replicate (5 * head_count) 0

abbrev pub is_idle : HeadState → Bool
is_idle Idle = true
is_idle (Claimed t) = false
is_idle (Filled t) = false

abbrev pub is_claimed : HeadState → Bool
is_claimed Idle = false
is_claimed (Claimed t) = true
is_claimed (Filled t) = false

abbrev pub is_filled : HeadState → Bool
is_filled Idle = false
is_filled (Claimed t) = false
is_filled (Filled t) = true

-- what a head that is not idle is about
abbrev pub target_of : HeadState → Target
target_of Idle = record { slot = 0; node = 0; place = 0; frame = 0 }
target_of (Claimed t) = t
target_of (Filled t) = t

-- a head that is not idle names the slot
abbrev pub names : ℕ → HeadState → Bool
names s Idle = false
names s (Claimed t) = eqb t.slot s
names s (Filled t) = eqb t.slot s

-- some head passes a test
unfoldable pub any_head : (HeadState → Bool) → List ℕ → Bool
any_head passes ws = ltb (first (λ h. passes (head_at ws h)) head_count) head_count

-- busy: some head that is not idle names the slot
abbrev pub busy : List ℕ → ℕ → Bool
busy ws s = any_head (names s) ws

-- a conflict with a claim: a head that is not idle names its slot, and with it the same frame or, if the claim uses one, the very node
abbrev pub conflicts : (claim : Target) (uses : Bool) → HeadState → Bool
conflicts t uses x = names t.slot x && (eqb (target_of x).frame t.frame || (uses && eqb (target_of x).node t.node))
