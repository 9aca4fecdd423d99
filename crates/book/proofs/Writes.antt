-- The script of each operation: at most 25 entries, each a store inside the image of a value below 2^64.
use mathlib.Core.Path.{◌≡◌, refl}
use mathlib.Core.Bool.{false}
use mathlib.Core.List.{List, [], ◌∷◌, flat_map}
use Prim.Native.Nat.{ℕ, zero, suc, ◌+◌, ◌*◌, ◌%◌, ◌^◌, ◌≤◌, ◌<◌}
use native.Mathlib.Omega.{arith}
use lib.ListN.{length}
use borrow.Author.Tests.{eqb-false}
use Rattle.tree.specs.Memory.{Memory, Store, entries}
use Rattle.tree.specs.declared.layout.Geometry.{Geometry}
use Rattle.tree.specs.Layout.{root_at, next_at, locate_at, set_at, fingerprints_at}
use Rattle.tree.specs.Lists.{range}
use Rattle.tree.specs.Path.{fanout}
use Rattle.tree.specs.Fingerprint.{fingerprint, rule_of}
use Rattle.tree.specs.declared.path.Spot.{Spot}
use Rattle.tree.proofs.Fingerprints.{fingerprint_laws}
use Rattle.book.specs.declared.Target.{Target}
use Rattle.tree.specs.declared.path.Room.{Room}
use Rattle.tree.specs.declared.path.Room.TheVariants.{Clear, ScaleUp, BranchOut}
use Rattle.tree.specs.Room.{needs, at_level31}
use Rattle.book.specs.Perform.{new_node, open_script, room_script, claim_script, fill_script, bit_on, bit_off, remove_script}
use Rattle.tree.proofs.Lists.{in_range_lem}
use Rattle.tree.proofs.Memory.{bit_laws, byte_laws}
use Rattle.tree.proofs.Laws.{child_laws}
use Rattle.book.proofs.Entries.{Each, each_flat_map}
use Rattle.book.proofs.Inside.{Sized, SpotInside, RoomInside, fanout_few}

-- a store to one of some words, of a value below 2^64
abbrev pub Writes : ℕ → Store → Type 0
Writes words p = (p.0 < words) × (p.1 < 2 ^ 64)

pub record Good (words : ℕ) (script : List (List Store)) : Type 0 where
  pub each : Each (Each (Writes words)) script
  pub few : entries script ≤ 25

pub no_stores : (words : ℕ) → Good words []
no_stores words = record { each = tt; few = omega arith }

module _ {words : ℕ} {g : Geometry} (z : Sized words g) where
  -- a node's five words, and those of a group of nodes
  new_node_lem : (n level size : ℕ) → n < g.nodes → level < 2 ^ 64 → size < 2 ^ 64 → Each (Writes words) (new_node g n level size)
  new_node_lem n level size h a b = omega arith

  group_length : (start k level : ℕ) → length (flat_map (λ n. new_node g n level 64) (range start k)) ≡ 5 * k
  unfolding range flat_map
  group_length start zero level = refl
  group_length start (suc k) level = let e = group_length (suc start) k level in omega arith

  pub good_open : (slot n reel : ℕ) → slot < g.slots → n < g.nodes → reel < 2 ^ 64 → Good words (open_script g slot n reel)
  unfolding open_script
  good_open slot n reel a b c = record { each = omega arith; few = omega arith }

  pub good_tidy : (n : ℕ) → n < g.nodes → Good words (((next_at g n, 0) ∷ []) ∷ [])
  good_tidy n a = record { each = omega arith; few = omega arith }

  pub good_retire : (slot : ℕ) → slot < g.slots → Good words (((root_at slot, 0) ∷ []) ∷ [])
  good_retire slot a = record { each = omega arith; few = omega arith }

  module _ (m : Memory) (fits : (i : ℕ) → m i < 2 ^ 64) where
    pub good_claim : (r : Room) (start f : ℕ) → RoomInside g m r → at_level31 r ≡ false → (0 < needs r → start + needs r ≤ g.nodes)
        → Good words (claim_script g m r start f)
    unfolding claim_script room_script
    good_claim (Clear t) start f a l h =
        let v = bit_laws.with_fits (m (locate_at g t.node)) t.place 64 a.place (fits _) in
        record { each = omega (arith, a.node); few = omega arith }
    good_claim (ScaleUp n size) start f a l h =
        let v = bit_laws.with_fits (m (locate_at g n)) size 64 a.1 (fits _) in
        record { each = omega arith; few = omega arith }
    good_claim (BranchOut parent d) start f a l h =
        let low : d < 31 = omega (arith, eqb-false d 31 l) in
        let few = fanout_few d low in
        let run = h few.0 in
        let c = child_laws.below d f low in
        let v = bit_laws.with_fits 0 0 64 (omega arith) (omega arith) in
        let group : Each (Writes words) (flat_map (λ n. new_node g n (suc d) 64) (range start (fanout d))) =
        each_flat_map (Writes words) _ _ (λ n y. new_node_lem n (suc d) 64 (omega (arith, in_range_lem start (fanout d) y)) (omega arith) (omega arith)) in
        record { each = (group, omega arith); few = omega (arith, group_length start (fanout d) (suc d)) }

    pub good_fill : (t : Target) → t.node < g.nodes → t.place < 64 → t.frame < 2 ^ 64 → Good words (fill_script (rule_of m) g m t)
    unfolding fill_script
    good_fill t a b c =
        let v = byte_laws.with_fits (m (fingerprints_at g t.node t.place)) (t.place % 8) (fingerprint (rule_of m) t.frame) 64
        (fingerprint_laws.rule_fits m t.frame) (omega arith) (fits _) in
        record { each = omega arith; few = omega arith }

    pub good_commit : (n p : ℕ) → n < g.nodes → p < 64 → Good words (bit_on m (set_at g n) p ∷ [])
    good_commit n p a b = let v = bit_laws.with_fits (m (set_at g n)) p 64 b (fits _) in record { each = omega arith; few = omega arith }

    pub good_abandon : (n p : ℕ) → n < g.nodes → p < 64 → Good words (bit_off m (locate_at g n) p ∷ [])
    good_abandon n p a b = let v = bit_laws.without_fits (m (locate_at g n)) p 64 (fits _) in record { each = omega arith; few = omega arith }

    pub good_remove : (t : Spot) → SpotInside g m t → Good words (remove_script g m t)
    unfolding remove_script
    good_remove t a =
        let v = bit_laws.without_fits (m (set_at g t.node)) t.place 64 (fits _) in
        let w = bit_laws.without_fits (m (locate_at g t.node)) t.place 64 (fits _) in
        record { each = omega (arith, a.node); few = omega arith }
