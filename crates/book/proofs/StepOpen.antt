-- The step of Open: a free node and an empty slot's reel number are written, words that nothing reads; then the slot's root.
use mathlib.Core.Path.{◌≡◌, refl, sym, ◌∙◌, ap, subst}
use mathlib.Core.Bool.{true}
use mathlib.Core.Logic.{◌⊎◌, inl, inr, ◌↔◌}
use mathlib.Core.List.Memᴰ
use mathlib.Core.List.{List, [], ◌∷◌, ◌++◌, Memᴰ}
use Prim.Native.Nat.{ℕ, suc, ◌+◌, ◌^◌, ◌<◌}
use native.Mathlib.Omega.{arith}
use lib.ListN.{length, set}
use Rattle.tree.specs.Memory.{Memory, reads, is_set, Fit, Store, stores, apply, Torn}
use Rattle.tree.specs.declared.layout.Geometry.{Geometry}
use Rattle.tree.specs.Layout.{reel_at, root_at, locate_at, set_at, size_at}
use Rattle.tree.specs.Fingerprint.{rule_of}
use Rattle.tree.specs.Node.{held}
use Rattle.tree.specs.Slots.{Filled}
use Rattle.tree.specs.Reach.{Reaches}
use Rattle.tree.specs.Same.{SameWords, Stores}
use Rattle.tree.specs.Changes.{Fresh, Opens, NewRoot, Grown}
use Rattle.tree.specs.Laws.{SameLaws}
use Rattle.tree.specs.Pool.{used, mark}
use Rattle.tree.proofs.Cases.{true_not_false}
use Rattle.tree.proofs.Words.{beside_nodes}
use Rattle.tree.proofs.Memory.{no_bit, torn_whole}
use Rattle.tree.proofs.Same.{filled_back}
use Rattle.tree.proofs.Reach.{slot_filled}
use Rattle.tree.proofs.Laws.{node_laws, same_laws, change_laws, pool_laws}
use Rattle.book.specs.declared.Target.{Target}
use Rattle.book.specs.State.{State, open_reel, arguments}
use Rattle.book.specs.Perform.{perform, granted, writing, new_node, open_script}
use Rattle.book.specs.Table.{Table, with_reels}
use Rattle.book.specs.Agrees.{Reached, Shows, Claims, ClaimsPlace, Agrees}
use Rattle.book.specs.Histories.{carried_out}
use Rattle.book.specs.Ways.{SlotHas, LowestRun}
use Rattle.book.specs.Growth.{SameNodes, Adds, OpenGrows}
use Rattle.book.proofs.View.{View}
use Rattle.book.proofs.Stored.{stores_set, header_set, few_nodes, HeaderAs}
use Rattle.book.proofs.Reels.{frames_to}
use Rattle.book.proofs.Views.{view_opened}
use Rattle.book.proofs.Sames.{Unread, of_node, of_slot, read_reel, read_node, same_read}
use Rattle.book.proofs.Showing.{shows_view, view_shows}
use Rattle.book.proofs.Crashed.{Through, torn_one, apply_one, view_torn, rule_torn, unread_past}
use Rattle.book.proofs.Reading.{sizes_of, claim_inside}
use Rattle.book.proofs.Keeps.{keeps_of, step_of}
use Rattle.book.proofs.Claims.{SameClaim, untouched, head_on, about_claim, locates_on, agrees_of}
use Rattle.book.proofs.Step.{Keeps, Step}
use Rattle.book.proofs.Opening.{Each, node_words, stored_each, two_segments, Opening, opening, open_granted, open_table}
use Rattle.book.proofs.Level31.{lowest_run}
use Rattle.book.proofs.SameNodes.{Nodes, nodes_equal, links_nodes, nodes_through}

-- ---- the first segment

abbrev opened : Geometry → (slot n reel : ℕ) → List Store
opened g slot n reel = new_node g n 0 16 ++ ((reel_at slot, reel) ∷ [])

module _ {s : State} {t : Table} {slot n reel : ℕ} (a : Agrees s t) (o : Opening s slot n reel) where
  abbrev g : Geometry
  g = sizes_of s.image

  abbrev m : Memory
  m = reads s.image

  abbrev first : List Store
  first = opened g slot n reel

  v : View g t.own s.image t.reels
  v = shows_view a.shows

  unread : (i x : ℕ) → Memᴰ {A = Store} (i, x) first → Unread g m i × (x < 2 ^ 64)
  unread i x y = elim (Memᴰ.append_cases (new_node g n 0 16) y) [
    | inl z ↦ let w = node_words g n 0 16 (omega arith) (omega arith) (i, x) z in (of_node n w.0 w.1 o.free, w.2)
    | inr z ↦ let q = Memᴰ.eq_of_singleton z in
        (of_slot slot o.inside o.empty (ap (λ (z : Store). z.0) q), rw (ap (λ (z : Store). z.1) q) o.fits)
  ]

  -- torn or whole, it changes nothing that is read
  module _ {im : List ℕ} (y : Torn s.image first im) where
    torn_view : View g t.own im t.reels
    torn_view = view_torn v y unread

    differ : (i : ℕ) → (m i ≡ reads im i) ⊎ Unread g m i
    differ i = elim (y.each i) [ inl q ↦ inl (sym q) | inr z ↦ inr (unread i _ z).0 ]

    torn_same : SameLaws g m (reads im) (same_read differ)
    torn_same = same_laws (same_read differ)

    torn_shows : Shows im t
    torn_shows = view_shows torn_view a.shows.slots a.shows.nodes

    torn_keeps : Keeps s.heads s.image im
    torn_keeps = keeps_of v torn_view.header (record { reels = λ b c. read_reel differ b; held = λ x. inl (torn_same.holds.1 x) })

  -- ---- the image once it is carried out

  abbrev written : List ℕ
  written = apply s.image (stores first)

  whole : Torn s.image first written
  whole = torn_whole s.image first

  values : Each (λ y. reads written y.0 ≡ y.1) first
  values = let w = v.header.words in stored_each first s.image (length s.image) refl (omega arith) (omega arith)

  locate_now : reads written (locate_at g n) ≡ 0
  locate_now = values.1.0

  set_now : reads written (set_at g n) ≡ 0
  set_now = values.1.1.0

  size_now : reads written (size_at g n) ≡ 16
  size_now = values.1.1.1.1.0

  reel_now : reads written (reel_at slot) ≡ reel
  reel_now = values.1.1.1.1.1.0

  fresh : Fresh g (reads written) 0 n
  fresh = record {
    unreached = λ {s = s'} {w = w} x. o.free (record { slot = s'; way = w; there = (torn_same whole).reaches.1 x });
    formed = ((node_laws g (reads written)).facts 0 n).1 (record {
      inside = o.low;
      level = values.1.1.1.0;
      size = inr (refl, inl size_now);
      locate = rw (locate_now, size_now) (omega arith);
      set = rw (set_now, size_now) (omega arith);
      next = inl values.0;
    });
    childless = values.0;
    bare = set_now;
  }

  opens : Opens g (reads written) slot n
  opens = record {
    inside = o.inside;
    empty = sym ((same_read (differ whole)).links.roots slot o.inside) ∙ o.empty;
    new_reel = λ {s' = s'} b q.
        let b' = filled_back (same_read (differ whole)).links b in
        o.new_reel s' b' (read_reel (differ whole) b' ∙ q ∙ reel_now);
    fresh = fresh;
  }

  -- ---- the root

  abbrev rooted : List ℕ
  rooted = set written (root_at slot) (n + 1)

  root_inside : root_at slot < length written
  root_inside = let w = (torn_view whole).header.words in omega arith

  stored : Stores (reads written) (root_at slot) (suc n) (reads rooted)
  stored =
      let z : n + 1 ≡ suc n = omega arith in
      let y = stores_set written (root_at slot) (n + 1) root_inside in
      record { new = y.new ∙ z; old = y.old }

  header : HeaderAs g t.own written rooted
  header =
      let l = few_nodes v.header in
      header_set (root_at slot) (n + 1) (torn_view whole).header (omega arith) root_inside (omega arith)

  change : Grown (rule_of (reads written)) g (reads written) (reads rooted) (NewRoot slot n)
  change = (change_laws (reads rooted) (torn_view whole).sound).opened opens stored

  shows_rooted : Shows rooted (with_reels t (record { number = reel; frames = [] } ∷ t.reels))
  shows_rooted = view_shows (rw reel_now at (view_opened (torn_view whole) header opens stored)) a.shows.slots a.shows.nodes

  reel_kept : {s' : ℕ} → Filled g m s' → m (reel_at s') ≡ reads rooted (reel_at s')
  reel_kept {s'} b = read_reel (differ whole) b ∙ stored.old (reel_at s') (λ q. omega arith)

  keeps_rooted : Keeps s.heads s.image rooted
  keeps_rooted = keeps_of v header.header (record { reels = λ b c. reel_kept b; held = λ x. inl ((torn_same whole).holds.1 (change.holds.0 x)) })

  -- what is reached: what was, and the new node
  reached_on : {s' k : ℕ} {w : List ℕ} → Reaches g m s' w k → Reaches g (reads rooted) s' w k
  reached_on x = change.reaches.1 (inl ((torn_same whole).reaches.0 x))

  reached_back : {k : ℕ} → Reached g (reads rooted) k → (k ≡ n) ⊎ Reached g m k
  reached_back r = elim (change.reaches.0 r.there) [
    | inl x ↦ inr (record { slot = r.slot; way = r.way; there = (torn_same whole).reaches.1 x })
    | inr x ↦ inl x.is
  ]

  reached_new : Reached g (reads rooted) n
  reached_new = record { slot = slot; way = []; there = change.reaches.1 (inr (record { slot = refl; way = refl; is = refl })) }

  words : {s' k : ℕ} {w : List ℕ} → Reaches g m s' w k → SameWords g m (reads rooted) k
  words {k = k} x = record { words = λ i l h. (read_node (differ whole) x).words i l h ∙ (beside_nodes g stored slot k o.inside refl).words i l h }

  same_claim : (x : Target) (r f : ℕ) → Claims g m x r f
      → SameClaim g m (reads rooted) x
  same_claim x r f c =
      untouched x (words c.on_path_lem) (claim_inside a.shows c).1 (reel_kept c.open_slot) (λ w. reached_on)
      (frames_to (λ w k p y. (torn_same whole).holds.1 (change.holds.0 y)))

  marks : (k : ℕ) → (used (mark s.pool n) k ≡ true) ↔ Reached g (reads rooted) k
  marks k =
      let u = pool_laws.marks s.pool n k (omega (arith, pool_laws.inside g n o.low, a.map_words_lem)) in (
        λ e. elim (u.0 e) [
          | inl q ↦ rw q reached_new
          | inr y ↦ let r = (a.marks k).0 y in record { slot = r.slot; way = r.way; there = reached_on r.there }
        ],
        λ r. u.1 (elim (reached_back r) [ inl q ↦ inl q | inr y ↦ inr ((a.marks k).1 y) ]),
      )

  -- the new node has no place located, held or claimed
  no_claim : (h p : ℕ) → ClaimsPlace s.heads h n p → ⊥
  no_claim h p x =
      let c = about_claim (a.heads h x.low) x.about in
      o.free (subst (Reached g m) x.node (record { slot = x.target.slot; way = _; there = c.2.on_path_lem }))

  none_set : (p : ℕ) → is_set 0 p ≡ true → ⊥
  none_set p e = true_not_false e (no_bit p)

  locates : (k p : ℕ) → Reached g (reads rooted) k → p < 64
      → (is_set (reads rooted (locate_at g k)) p ≡ true)
      ↔ ((held g (reads rooted) k p ≡ true) ⊎ ((h : ℕ) × ClaimsPlace s.heads h k p))
  locates k p r l = elim (reached_back r) [
    | inl q ↦
        let y = beside_nodes g stored slot n o.inside refl in
        rw (
          q,
          ← y.words (locate_at g n) (omega arith) (omega arith),
          ← y.words (set_at g n) (omega arith) (omega arith),
          locate_now,
          set_now,
        ) (
          λ e. absurd (none_set p e),
          λ e. elim e [ inl z ↦ absurd (none_set p z) | inr z ↦ absurd (no_claim z.0 p z.1) ],
        )
    | inr y ↦ locates_on p (words y.there) (a.locates k p y l)
  ]

  agrees_rooted : Agrees (record { image = rooted; pool = mark s.pool n; heads = s.heads }) (with_reels t (record { number = reel; frames = [] } ∷ t.reels))
  agrees_rooted = agrees_of header.header.geometry shows_rooted (record {
    map_words_lem = pool_laws.length_mark s.pool n ∙ a.map_words_lem;
    marks = marks;
    head_words = a.head_words;
    table_heads = a.table_heads;
    heads = λ h l. head_on (rule_torn whole (λ i x z. (unread_past (unread i x z).0, (unread i x z).1)) ∙ header.rule) (λ x r f i c. same_claim x r f c) (a.heads h l);
    apart = a.apart;
    locates = locates;
  })

  -- every image that a crash leaves
  through : Through (λ im. (Shows im t ⊎ Shows im (with_reels t (record { number = reel; frames = [] } ∷ t.reels))) × Keeps s.heads s.image im)
      s.image (open_script g slot n reel)
  unfolding open_script
  through = (
    λ im y. (inl (torn_shows y), torn_keeps y),
    (
      λ im y. elim (torn_one y) [
        | inl q ↦ rw q (inl (torn_shows whole), torn_keeps whole)
        | inr q ↦ rw q (inr shows_rooted, keeps_rooted)
      ],
      rw (apply_one written (root_at slot) (n + 1)) (inr shows_rooted, keeps_rooted),
    ),
  )

  final : Agrees (carried_out (writing (open_script g slot n reel) (record { image = s.image; pool = mark s.pool n; heads = s.heads })))
      (with_reels t (record { number = reel; frames = [] } ∷ t.reels))
  unfolding open_script
  final = rw (two_segments s.image first (root_at slot) (n + 1)) agrees_rooted

  -- ---- the nodes

  torn_nodes : {im : List ℕ} → Torn s.image first im → SameNodes s.image im
  torn_nodes y = links_nodes v.header.geometry (torn_view y).header.geometry (same_read (differ y)).links (λ i b. (same_read (differ y)).reels b)
      (λ i k w x. (read_node (differ y) x).words (size_at g k) (omega arith) (omega arith))

  size_rooted : reads rooted (size_at g n) ≡ 16
  size_rooted = sym ((beside_nodes g stored slot n o.inside refl).words (size_at g n) (omega arith) (omega arith)) ∙ size_now

  reaches_rooted : {i k : ℕ} {w : List ℕ} → Reaches g (reads rooted) i w k ↔ (Reaches g m i w k ⊎ NewRoot slot n i w k)
  reaches_rooted = (
    λ x. elim (change.reaches.0 x) [ inl y ↦ inl ((torn_same whole).reaches.1 y) | inr y ↦ inr y ],
    λ x. elim x [ inl y ↦ reached_on y | inr y ↦ change.reaches.1 (inr y) ],
  )

  sizes_kept : {i k : ℕ} {w : List ℕ} → Reaches g m i w k → reads rooted (size_at g k) ≡ m (size_at g k)
  sizes_kept {k = k} x = sym ((words x).words (size_at g k) (omega arith) (omega arith))

  adds : Adds s.image rooted 16 (NewRoot slot n)
  adds = record {
    ways = rw header.header.geometry reaches_rooted;
    sizes = rw header.header.geometry sizes_kept;
    new_sizes = rw header.header.geometry (λ y. rw y.is size_rooted);
    reels = rw v.header.geometry (λ y. sym (reel_kept (slot_filled y)));
  }

  has_reel : SlotHas g (reads rooted) reel slot
  has_reel = record {
    open_slot = record { inside = o.inside; linked = omega (arith, stored.new) };
    number = sym (stored.old (reel_at slot) (λ q. omega arith)) ∙ reel_now;
  }

  open_nodes : LowestRun g m 1 n → Nodes s.image (open_script g slot n reel) (λ im'. OpenGrows s.image im' reel)
  unfolding open_script
  open_nodes l = nodes_through (two_segments s.image first (root_at slot) (n + 1))
      (record { slot = slot; node = n; was_empty = o.empty; lowest = l; of_reel = rw header.header.geometry has_reel; adds = adds }) (
        λ im y. inl (torn_nodes y),
        (
          λ im y. elim (torn_one y) [ inl q ↦ inl (rw q (torn_nodes whole)) | inr q ↦ inr (nodes_equal q) ],
          inr (nodes_equal (apply_one written (root_at slot) (n + 1))),
        ),
      )

pub grows_open : {s : State} {t : Table} → Agrees s t → (words script reel : ℕ) → Fit (arguments (open_reel words script reel))
    → (perform (open_reel words script reel) s).answer ≡ 0
    → Nodes s.image (granted (open_reel words script reel) s).script (λ im'. OpenGrows s.image im' reel)
grows_open {s} a words script reel fits h =
    let o = opening a words script reel (fits 0) h in
    rw (open_granted s words script reel) (open_nodes a o (lowest_run a 1 (omega arith) o.low))

pub step_open : {s : State} {t : Table} → Agrees s t → (words script reel : ℕ) → Fit (arguments (open_reel words script reel))
    → (perform (open_reel words script reel) s).answer ≡ 0 → Step (open_reel words script reel) s t
step_open {s} {t} a words script reel fits h =
    let o = opening a words script reel (fits 0) h in
    step_of (open_granted s words script reel) (open_table t words script reel) (final a o) (through a o)
