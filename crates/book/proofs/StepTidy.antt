-- The step of Tidy: one store, 0 to the next word of a node whose children are all empty.
use mathlib.Core.Path.{◌≡◌, refl, sym, ◌∙◌}
use mathlib.Core.Bool.{true, false}
use mathlib.Core.Logic.{inl, inr, ◌↔◌}
use mathlib.Core.List.{List, [], ◌∷◌}
use Prim.Native.Nat.{ℕ, ◌-◌, ◌<◌}
use native.Mathlib.Omega.{arith}
use lib.ListN.{length, set}
use Rattle.tree.specs.Memory.{Memory, reads, Store, Fit}
use Rattle.tree.specs.declared.layout.Geometry.{Geometry}
use Rattle.tree.specs.Layout.{geometry_of, reel_at, next_at, locate_at, set_at, size_at}
use Rattle.tree.specs.Fingerprint.{rule_of}
use Rattle.tree.specs.Slots.{Filled, slot_of}
use Rattle.tree.specs.Reach.{Reaches, down}
use Rattle.tree.specs.Subtree.{Visit}
use Rattle.tree.specs.Groups.{EmptyGroup}
use Rattle.tree.specs.Same.{Stores}
use Rattle.tree.specs.Changes.{InGroup, Pruned}
use Rattle.tree.specs.Pool.{used, unmark_all}
use Rattle.tree.proofs.Reach.{slot_filled}
use Rattle.tree.proofs.Words.{beside_node}
use Rattle.tree.proofs.Laws.{change_laws, pool_laws}
use Rattle.tree.proofs.Memory.{apply_single}
use Rattle.book.specs.declared.Target.{Target}
use Rattle.book.specs.Heads.{head_count, head_at, busy}
use Rattle.book.specs.State.{State, tidy, arguments}
use Rattle.book.specs.Perform.{children_of, perform, granted}
use Rattle.book.specs.Table.{Table, table_work}
use Rattle.book.specs.Agrees.{Reached, Shows, About, Claims, Agrees}
use Rattle.book.specs.Growth.{Drops, TidyDrops}
use Rattle.book.proofs.View.{View}
use Rattle.book.proofs.Stored.{stores_set, header_set, HeaderAs, node_inside}
use Rattle.book.proofs.Reels.{frames_to, node_slots}
use Rattle.book.proofs.Views.{view_unlinked}
use Rattle.book.proofs.Showing.{shows_view, view_shows}
use Rattle.book.proofs.Crashed.{through_each}
use Rattle.book.proofs.Heads.{not_busy}
use Rattle.book.proofs.Reading.{sizes_of, claim_inside}
use Rattle.book.proofs.Keeps.{keeps_of, keeps_itself, step_of}
use Rattle.book.proofs.Claims.{SameClaim, untouched, head_on, agrees_of}
use Rattle.book.proofs.Step.{Keeps, Step}
use Rattle.book.proofs.SameNodes.{Nodes, nodes_itself, nodes_through}
use Rattle.book.proofs.TidyFound.{children_freed, tidy_found}

tidy_table : (t : Table) (words scratch script reel : ℕ) → (table_work (tidy words scratch script reel) t).after ≡ t
unfolding table_work
tidy_table t words scratch script reel = refl

-- ---- the image without the children

module _ {s : State} {t : Table} (a : Agrees s t) (slot : ℕ) (v : Visit) (x : EmptyGroup (sizes_of s.image) (reads s.image) slot v.way v.node)
    (inside : v.node < (sizes_of s.image).nodes) where
  abbrev g : Geometry
  g = sizes_of s.image

  abbrev m : Memory
  m = reads s.image

  abbrev pub cleared : List ℕ
  cleared = set s.image (next_at g v.node) 0

  view : View g t.own s.image t.reels
  view = shows_view a.shows

  in_image : next_at g v.node < length s.image
  in_image = omega (arith, node_inside v.node 0 view.header inside (omega arith))

  pub stored : Stores m (next_at g v.node) 0 (reads cleared)
  stored = stores_set s.image (next_at g v.node) 0 in_image

  header : HeaderAs g t.own s.image cleared
  header = header_set (next_at g v.node) 0 view.header (omega arith) in_image (omega arith)

  pub same_shape : geometry_of (reads cleared) ≡ g
  same_shape = header.header.geometry

  pub change : Pruned (rule_of m) g m (reads cleared) (InGroup slot v.way (m (next_at g v.node) - 1))
  change = (change_laws (reads cleared) view.sound).unlinked x stored

  reel_kept : (s' : ℕ) → Filled g m s' → m (reel_at s') ≡ reads cleared (reel_at s')
  reel_kept s' b = (node_slots {g = g} v.node (omega arith) stored).reels b

  pub shows_cleared : Shows cleared t
  shows_cleared = view_shows (view_unlinked view header x stored) a.shows.slots a.shows.nodes

  keeps_cleared : Keeps s.heads s.image cleared
  keeps_cleared = keeps_of view header.header (record { reels = λ {s = s'} b b'. reel_kept s' b; held = λ y. inl (change.holds.0 y) })

  -- ---- map and heads

  abbrev pool : List ℕ
  pool = unmark_all s.pool (children_of g m v)

  marks : (n : ℕ) → (used pool n ≡ true) ↔ Reached g (reads cleared) n
  marks n =
      let u = children_freed g m v s.pool n in (
        λ e.
            let y = u.0 e in
            let r = (a.marks n).0 y.0 in
            record { slot = r.slot; way = r.way; there = change.reaches.1 (r.there, λ z. y.1 z.child z.low z.is) },
        λ r.
            let y = change.reaches.0 r.there in
            u.1 (
              (a.marks n).1 (record { slot = r.slot; way = r.way; there = y.0 }),
              λ c l q.
                  let o = view.sound.once y.0 (down x.there x.linked l q) in
                  y.1 (record { child = c; low = l; slot = o.0; way = o.1; is = q }),
            ),
      )

  module _ (idle : busy s.heads slot ≡ false) where
    same_claim : (h : ℕ) → h < head_count → (y : Target) (reel f : ℕ) → About y (head_at s.heads h)
        → Claims g m y reel f → SameClaim g m (reads cleared) y
    same_claim h l y reel f o c =
        let d = not_busy s.heads idle h l o in
        untouched y (beside_node g stored v.node y.node 0 (λ q. d (view.sound.once (rw q at c.on_path_lem) x.there).0) (omega arith) (omega arith))
        (claim_inside a.shows c).1 (reel_kept y.slot c.open_slot) (λ w r. change.reaches.1 (r, λ z. d z.slot))
        (frames_to (λ w k p z. change.holds.0 z))

    agrees_cleared : Agrees (record { image = cleared; pool = pool; heads = s.heads }) t
    agrees_cleared = agrees_of same_shape shows_cleared (record {
      map_words_lem = pool_laws.length_unmark_all s.pool _ ∙ a.map_words_lem;
      marks = marks;
      head_words = a.head_words;
      table_heads = a.table_heads;
      heads = λ h l. head_on header.rule (same_claim h l) (a.heads h l);
      apart = a.apart;
      locates = λ k p r l.
          let y = a.locates k p (record { slot = r.slot; way = r.way; there = (change.reaches.0 r.there).0 }) l in
          rw (stored.old (locate_at g k) (λ q. omega arith), stored.old (set_at g k) (λ q. omega arith)) at y;
    })

  sizes_kept : {i n : ℕ} {w : List ℕ} → Reaches g (reads cleared) i w n → reads cleared (size_at g n) ≡ m (size_at g n)
  sizes_kept {n = n} y = sym (stored.old (size_at g n) (λ q. omega arith))

  -- the children go, and no other node
  drops : Drops s.image cleared (InGroup slot v.way (m (next_at g v.node) - 1))
  drops = record {
    ways = rw same_shape change.reaches;
    sizes = rw same_shape sizes_kept;
    reels = rw same_shape (λ y. sym (reel_kept _ (slot_filled (change.reaches.0 y).0)));
  }

-- ---- the step

pub grows_tidy : {s : State} {t : Table} → Agrees s t → (words scratch script reel : ℕ) → (perform (tidy words scratch script reel) s).answer ≡ 0
    → Nodes s.image (granted (tidy words scratch script reel) s).script (λ im'. TidyDrops s.image im' reel)
grows_tidy {s} a words scratch script reel h =
    let f = tidy_found s words scratch script reel h in
    let slot = slot_of (sizes_of s.image) (reads s.image) reel in
    let store : Store = (next_at (sizes_of s.image) f.parent.node, 0) in
    rw f.work (nodes_through (apply_single s.image (store ∷ []))
    (record {
      slot = slot;
      of_reel = f.of_reel.has;
      way = f.parent.way;
      node = f.parent.node;
      first = f.first;
      drops = drops a slot f.parent f.first.is f.inside;
    })
    (through_each _ s.image (store ∷ []) (inl (nodes_itself s.image)) (inr (nodes_itself _), tt)))

pub step_tidy : {s : State} {t : Table} → Agrees s t → (words scratch script reel : ℕ) → Fit (arguments (tidy words scratch script reel))
    → (perform (tidy words scratch script reel) s).answer ≡ 0 → Step (tidy words scratch script reel) s t
step_tidy {s} {t} a words scratch script reel fits h =
    let f = tidy_found s words scratch script reel h in
    let slot = slot_of (sizes_of s.image) (reads s.image) reel in
    let store : Store = (next_at (sizes_of s.image) f.parent.node, 0) in
    step_of f.work (tidy_table t words scratch script reel)
    (rw (apply_single s.image (store ∷ [])) (agrees_cleared a slot f.parent f.first.is f.inside f.idle))
    (through_each _ s.image (store ∷ []) (inl a.shows, keeps_itself (shows_view a.shows))
    ((inr (shows_cleared a slot f.parent f.first.is f.inside), keeps_cleared a slot f.parent f.first.is f.inside), tt))
