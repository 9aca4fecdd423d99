-- The laws that specs/Laws.antt and specs/ConvertLaws.antt state, by their names.
use mathlib.Core.Path.{refl}
use native.Mathlib.Omega.{arith}
use Rattle.memory.specs.Words.{Memory}
use Rattle.tree.specs.declared.layout.Geometry.{Geometry}
use Rattle.tree.specs.Fingerprint.{Rule}
use Rattle.tree.specs.Sound.{Sound}
use Rattle.tree.specs.Layout.{geometry_of}
use Rattle.tree.specs.Laws.{LayoutLaws, ChildLaws, ReachLaws, NodeLaws, ChangeLaws}
use Rattle.tree.proofs.Ways.{child_lt, child_base, child_remainder, same_way, length_way}
use Rattle.tree.proofs.Reach.{one_node, depth, slot_filled}
use Rattle.tree.proofs.Nodes.{well_formed_facts}
use Rattle.tree.proofs.Grows.{opened}
use Rattle.tree.proofs.Link.{linked}
use Rattle.tree.proofs.Unlink.{unlinked}
use Rattle.tree.proofs.Retire.{retired}
use Rattle.tree.proofs.SetBit.{committed, removed}
pub use Rattle.tree.proofs.Slots.{slot_laws}
pub use Rattle.tree.proofs.Fingerprints.{fingerprint_laws}
pub use Rattle.tree.proofs.OwnTables.{table_laws, rule_laws}
pub use Rattle.tree.proofs.Paths.{path_laws}
pub use Rattle.tree.proofs.Spots.{spot_laws}
pub use Rattle.tree.proofs.Lookup.{lookup_says, lookup_rule}
pub use Rattle.tree.proofs.PlacesLeft.{left_laws}
pub use Rattle.tree.proofs.Order.{order_laws}
pub use Rattle.tree.proofs.Listing.{tree_laws}
pub use Rattle.tree.proofs.Groups.{group_laws}
pub use Rattle.tree.proofs.Decide.{sound_laws}
pub use Rattle.tree.proofs.Runs.{run_laws}
pub use Rattle.tree.proofs.Pigeon.{room}
pub use Rattle.tree.proofs.Pool.{pool_laws}
pub use Rattle.tree.proofs.Level.{level_laws}
pub use Rattle.tree.proofs.Same.{same_laws}
pub use Rattle.tree.proofs.ConvertedBook.{convert_laws, converted_image_lem}

pub layout_laws : (g : Geometry) → LayoutLaws g
unfolding geometry_of
layout_laws g = record {
  reel = λ s. refl;
  root = λ s. omega arith;
  next = λ n. refl;
  locate = λ n. refl;
  set = λ n. refl;
  level = λ n. refl;
  size = λ n. refl;
  fingerprints = λ n p. refl;
  frames = λ n p. refl;
  geometry = λ m. (refl, refl);
}

pub child_laws : ChildLaws
child_laws = record { below = child_lt; digit = child_base; remainder = child_remainder; same_way = same_way; length_way = length_way }

pub reach_laws : (g : Geometry) (m : Memory) → ReachLaws g m
reach_laws g m = record { one_node = one_node; depth = depth; slot_filled = slot_filled }

pub node_laws : (g : Geometry) (m : Memory) → NodeLaws g m
node_laws g m = record { facts = well_formed_facts g m }

pub change_laws : {r : Rule} {g : Geometry} {m : Memory} (m' : Memory) (d : Sound r g m) → ChangeLaws r g m m' d
change_laws m' d = record {
  opened = opened d;
  linked = linked d;
  unlinked = unlinked d;
  retired = retired d;
  committed = committed d;
  removed = removed d;
}
