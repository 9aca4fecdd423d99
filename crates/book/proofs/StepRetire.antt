-- The step of Retire: one store, the root of the reel's slot to 0.
use mathlib.Core.Path.{◌≡◌, refl, sym, ◌∙◌, subst}
use mathlib.Core.Bool.{true, false, not}
use mathlib.Core.Logic.{inl, inr, ◌↔◌}
use mathlib.Core.List.Memᴰ
use mathlib.Core.List.{List, [], ◌∷◌, Memᴰ}
use Prim.Native.Nat.{ℕ, ◌<◌}
use native.Mathlib.Omega.{arith}
use lib.ListN.{length, set}
use lib.Dec.{eqb}
use Rattle.tree.specs.Memory.{Memory, reads, Fit}
use Rattle.tree.specs.Lists.{keep}
use Rattle.tree.specs.declared.layout.Geometry.{Geometry}
use Rattle.tree.specs.Layout.{reel_at, root_at, size_at}
use Rattle.tree.specs.Fingerprint.{rule_of}
use Rattle.tree.specs.Slots.{Filled, slot_of}
use Rattle.tree.specs.Reach.{Reaches}
use Rattle.tree.specs.Subtree.{tree}
use Rattle.tree.specs.Same.{SameWords, Stores}
use Rattle.tree.specs.Changes.{Retired}
use Rattle.tree.specs.Pool.{used, unmark_all}
use Rattle.tree.proofs.Words.{beside_nodes}
use Rattle.tree.proofs.Laws.{slot_laws, tree_laws, change_laws, pool_laws}
use Rattle.tree.proofs.Memory.{apply_single}
use Rattle.book.specs.declared.Target.{Target}
use Rattle.book.specs.Heads.{head_count, head_at, busy}
use Rattle.book.specs.State.{State, retire, arguments}
use Rattle.book.specs.Checks.{refusals}
use Rattle.tree.specs.Subtree.{nodes_of}
use Rattle.book.specs.Perform.{perform, granted, writing}
use Rattle.book.specs.Table.{Table, with_reels, table_work}
use Rattle.book.specs.Agrees.{Reached, Shows, About, Claims, Agrees}
use Rattle.book.specs.Growth.{Drops, RetireDrops}
use Rattle.book.proofs.Refusals.{passes}
use Rattle.book.proofs.Performed.{answer_is}
use Rattle.book.proofs.View.{View}
use Rattle.book.proofs.Stored.{stores_set, header_set, HeaderAs}
use Rattle.book.proofs.Reels.{frames_to}
use Rattle.book.proofs.Views.{view_retired}
use Rattle.book.proofs.Showing.{shows_view, view_shows}
use Rattle.book.proofs.Crashed.{through_each}
use Rattle.book.proofs.Heads.{not_busy}
use Rattle.book.proofs.Reading.{sizes_of, claim_inside}
use Rattle.book.proofs.Keeps.{keeps_of, keeps_itself, step_of}
use Rattle.book.proofs.Claims.{SameClaim, untouched, head_on, locates_on, agrees_of}
use Rattle.book.proofs.Step.{Keeps, Step}
use Rattle.book.proofs.SameNodes.{Nodes, nodes_itself, nodes_through}

-- ---- what a retirement does

-- an answer of 0: the reel has a slot, and no head names it
retire_passes : (s : State) (words scratch script reel : ℕ) → (perform (retire words scratch script reel) s).answer ≡ 0
    → (slot_of (sizes_of s.image) (reads s.image) reel < (sizes_of s.image).slots)
    × (busy s.heads (slot_of (sizes_of s.image) (reads s.image) reel) ≡ false)
unfolding refusals
retire_passes s words scratch script reel h =
    let op = retire words scratch script reel in
    let p = passes (refusals op s) (omega arith) (sym (answer_is op s) ∙ h) in
    (p.1.1.1.1.0, p.1.1.1.1.1.0)

retire_granted : (s : State) (words scratch script reel : ℕ) →
    let slot = slot_of (sizes_of s.image) (reads s.image) reel in
    granted (retire words scratch script reel) s ≡ writing (((root_at slot, 0) ∷ []) ∷ [])
    (record { image = s.image; pool = unmark_all s.pool (nodes_of (tree (sizes_of s.image) (reads s.image) slot)); heads = s.heads })
unfolding granted
retire_granted s words scratch script reel = refl

retire_table : (t : Table) (words scratch script reel : ℕ)
    → (table_work (retire words scratch script reel) t).after ≡ with_reels t (keep (λ r. not (eqb r.number reel)) t.reels)
unfolding table_work
retire_table t words scratch script reel = refl

pub tree_nodes : {g : Geometry} {m : Memory} {s : ℕ} → Filled g m s → (n : ℕ) → Memᴰ n (nodes_of (tree g m s)) ↔ ((w : List ℕ) × Reaches g m s w n)
unfolding nodes_of
tree_nodes {g} {m} {s} b n = (
  λ x.
      let v = Memᴰ.of_map (λ v. v.node) (tree g m s) x in
      (v.0.way, subst (Reaches g m s v.0.way) v.2 (((tree_laws b).visited v.0.way v.0.node).0 v.1)),
  λ x. Memᴰ.map (λ v. v.node) (((tree_laws b).visited x.0 n).1 x.1),
)

-- ---- the image without the slot's tree

module _ {s : State} {t : Table} (a : Agrees s t) (slot : ℕ) (b : Filled (sizes_of s.image) (reads s.image) slot)
    (idle : busy s.heads slot ≡ false) where
  abbrev g : Geometry
  g = sizes_of s.image

  abbrev m : Memory
  m = reads s.image

  abbrev cleared : List ℕ
  cleared = set s.image (root_at slot) 0

  v : View g t.own s.image t.reels
  v = shows_view a.shows

  inside : root_at slot < length s.image
  inside = omega (arith, v.header.words, b.inside)

  stored : Stores m (root_at slot) 0 (reads cleared)
  stored = stores_set s.image (root_at slot) 0 inside

  header : HeaderAs g t.own s.image cleared
  header = header_set (root_at slot) 0 v.header (omega arith) inside (omega arith)

  change : Retired (rule_of m) g m (reads cleared) slot
  change = (change_laws (reads cleared) v.sound).retired b stored

  words : (n : ℕ) → SameWords g m (reads cleared) n
  words n = beside_nodes g stored slot n b.inside refl

  reel_kept : (s' : ℕ) → m (reel_at s') ≡ reads cleared (reel_at s')
  reel_kept s' = stored.old (reel_at s') (λ q. omega arith)

  shows_cleared : (reel : ℕ) → m (reel_at slot) ≡ reel → Shows cleared (with_reels t (keep (λ r. not (eqb r.number reel)) t.reels))
  shows_cleared reel q = view_shows (rw q at (view_retired v header b stored)) a.shows.slots a.shows.nodes

  keeps_cleared : Keeps s.heads s.image cleared
  keeps_cleared = keeps_of v header.header (record { reels = λ {s = s'} x y. reel_kept s'; held = λ x. inl (change.holds.0 x).0 })

  same_claim : (h : ℕ) → h < head_count → (x : Target) (reel f : ℕ) → About x (head_at s.heads h)
      → Claims g m x reel f → SameClaim g m (reads cleared) x
  same_claim h l x reel f o c =
      untouched x (words x.node) (claim_inside a.shows c).1 (reel_kept x.slot) (λ w r. change.reaches.1 (r, not_busy s.heads idle h l o))
      (frames_to (λ w n p y. (change.holds.0 y).0))

  abbrev pool : List ℕ
  pool = unmark_all s.pool (nodes_of (tree g m slot))

  marks : (n : ℕ) → (used pool n ≡ true) ↔ Reached g (reads cleared) n
  marks n =
      let u = pool_laws.unmarks_all s.pool (nodes_of (tree g m slot)) n in
      let k = tree_nodes b n in (
        λ e.
            let y = u.0 e in let r = (a.marks n).0 y.0 in
            record { slot = r.slot; way = r.way; there = change.reaches.1 (r.there, λ q. y.1 (k.1 (r.way, rw q at r.there))) },
        λ r.
            let y = change.reaches.0 r.there in
            u.1 ((a.marks n).1 (record { slot = r.slot; way = r.way; there = y.0 }), λ z. y.1 (v.sound.once y.0 (k.0 z).1).0),
      )

  agrees_cleared : (reel : ℕ) → m (reel_at slot) ≡ reel
      → Agrees (record { image = cleared; pool = pool; heads = s.heads }) (with_reels t (keep (λ r. not (eqb r.number reel)) t.reels))
  agrees_cleared reel q = agrees_of header.header.geometry (shows_cleared reel q) (record {
    map_words_lem = pool_laws.length_unmark_all s.pool _ ∙ a.map_words_lem;
    marks = marks;
    head_words = a.head_words;
    table_heads = a.table_heads;
    heads = λ h l. head_on header.rule (same_claim h l) (a.heads h l);
    apart = a.apart;
    locates = λ n p r l. let y = (change.reaches.0 r.there).0 in locates_on p (words n) (a.locates n p (record { slot = r.slot; way = r.way; there = y }) l);
  })

  sizes_kept : {i n : ℕ} {w : List ℕ} → Reaches g (reads cleared) i w n → reads cleared (size_at g n) ≡ m (size_at g n)
  sizes_kept {n = n} x = sym ((words n).words (size_at g n) (omega arith) (omega arith))

  -- the slot's nodes go, and no other
  drops : Drops s.image cleared (λ slot' w n. slot' ≡ slot)
  drops = record {
    ways = rw header.header.geometry change.reaches;
    sizes = rw header.header.geometry sizes_kept;
    reels = λ x. sym (reel_kept _);
  }

pub grows_retire : {s : State} {t : Table} → Agrees s t → (words scratch script reel : ℕ) → (perform (retire words scratch script reel) s).answer ≡ 0
    → Nodes s.image (granted (retire words scratch script reel) s).script
    (λ im'. RetireDrops s.image im' reel)
grows_retire {s} a words scratch script reel h =
    let p = retire_passes s words scratch script reel h in
    let k = slot_of (sizes_of s.image) (reads s.image) reel in
    let x = (slot_laws (sizes_of s.image) (reads s.image)).reel reel p.0 in
    rw (retire_granted s words scratch script reel) (nodes_through (apply_single s.image ((root_at k, 0) ∷ []))
    (k, record { open_slot = x.0; number = x.1 }, drops a k x.0 p.1)
    (through_each _ s.image ((root_at k, 0) ∷ []) (inl (nodes_itself s.image)) (inr (nodes_itself _), tt)))

pub step_retire : {s : State} {t : Table} → Agrees s t → (words scratch script reel : ℕ) → Fit (arguments (retire words scratch script reel))
    → (perform (retire words scratch script reel) s).answer ≡ 0 → Step (retire words scratch script reel) s t
step_retire {s} {t} a words scratch script reel fits h =
    let p = retire_passes s words scratch script reel h in
    let k = slot_of (sizes_of s.image) (reads s.image) reel in
    let x = (slot_laws (sizes_of s.image) (reads s.image)).reel reel p.0 in
    step_of (retire_granted s words scratch script reel) (retire_table t words scratch script reel)
    (rw (apply_single s.image ((root_at k, 0) ∷ [])) (agrees_cleared a k x.0 p.1 reel x.1))
    (through_each _ s.image ((root_at k, 0) ∷ []) (inl a.shows, keeps_itself (shows_view a.shows))
    ((inr (shows_cleared a k x.0 p.1 reel x.1), keeps_cleared a k x.0 p.1), tt))
