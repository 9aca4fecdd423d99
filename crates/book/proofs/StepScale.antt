-- A claim in a full root below size 64: the root is scaled up, then the old size is the place.
use mathlib.Core.Path.{◌≡◌, refl, sym, ◌∙◌, ap}
use mathlib.Core.Logic.{◌⊎◌, inl, inr, ◌↔◌, ◌≢◌}
use mathlib.Core.List.{List, [], ◌∷◌}
use Prim.Native.Nat.{ℕ, ◌*◌, ◌≤◌, ◌<◌}
use native.Mathlib.Omega.{arith}
use native.Mathlib.Decide.{ℕ_discrete}
use lib.ListN.{set}
use Rattle.tree.specs.Memory.{Memory, reads, is_set, with_bit, Store, single}
use Rattle.tree.specs.declared.layout.Geometry.{Geometry}
use Rattle.tree.specs.Layout.{next_at, locate_at, set_at, size_at}
use Rattle.tree.specs.Reach.{Reaches}
use Rattle.tree.specs.Same.{Same, Stores}
use Rattle.tree.specs.Laws.{WellFormed}
use Rattle.tree.proofs.Memory.{bit_laws, apply_single}
use Rattle.tree.proofs.Reach.{slot_filled}
use Rattle.tree.proofs.Laws.{same_laws}
use Rattle.book.specs.declared.Target.{Target}
use Rattle.book.specs.declared.HeadState.TheVariants.{Claimed}
use Rattle.book.specs.Heads.{with_head}
use Rattle.book.specs.State.{State}
use Rattle.book.specs.Table.{Table, claimed, with_table_head}
use Rattle.book.specs.Agrees.{Claims, Agrees}
use Rattle.book.specs.Ways.{Beside}
use Rattle.book.specs.Growth.{SameNodes, Doubles}
use Rattle.book.proofs.View.{View}
use Rattle.book.proofs.Rooms.{root_way}
use Rattle.book.proofs.Stored.{same_rule, stores_set, node_inside}
use Rattle.book.proofs.Sames.{node_formed, reached_inside, view_size}
use Rattle.book.proofs.Showing.{shows_view}
use Rattle.book.proofs.Crashed.{AfterEach, through_each}
use Rattle.book.proofs.Reading.{sizes_of, claim_inside}
use Rattle.book.proofs.Claims.{SameClaim}
use Rattle.book.proofs.Keeps.{within_same}
use Rattle.book.proofs.Reels.{same_reached}
use Rattle.book.proofs.Still.{Still, still_on, same_word, claim_beside}
use Rattle.book.proofs.Claiming.{NoneAt, Asked, target_at}
use Rattle.book.proofs.Making.{Makes, asked_made}
use Rattle.book.proofs.StepClear.{Placed, placed}
use Rattle.book.proofs.SameNodes.{Nodes, nodes_itself, nodes_back, nodes_through, doubles_on, quiet_set}

module _ {s : State} {t : Table} {h reel f slot n : ℕ} (a : Asked s t h reel f slot) (x : Reaches (sizes_of s.image) (reads s.image) slot [] n)
    (ends : reads s.image (next_at (sizes_of s.image) n) ≡ 0) (some : 0 < reads s.image (size_at (sizes_of s.image) n))
    (small : reads s.image (size_at (sizes_of s.image) n) < 64) (none_there : NoneAt s.heads n) where
  abbrev g : Geometry
  g = sizes_of s.image

  abbrev m : Memory
  m = reads s.image

  abbrev size : ℕ
  size = m (size_at g n)

  abbrev im' : List ℕ
  im' = set s.image (size_at g n) (2 * size)

  abbrev m' : Memory
  m' = reads im'

  old_view : View g t.own s.image t.reels
  old_view = shows_view a.agrees.shows

  formed : WellFormed g m 0 n
  formed = node_formed old_view x

  stored : Stores m (size_at g n) (2 * size) m'
  stored = stores_set s.image (size_at g n) (2 * size) (reached_inside old_view x 4 (omega arith))

  same : Same g m m'
  same = same_word n 4 stored refl (omega arith) (omega arith) (omega arith)

  larger : (k : ℕ) → m (size_at g k) ≤ m' (size_at g k)
  larger k = elim (ℕ_discrete k n) [
    | yes e ↦ rw (e, stored.new) (omega arith)
    | no e ↦ omega (arith, stored.old (size_at g k) (λ q. e (omega arith)))
  ]

  carries : (y : Target) (r f' : ℕ) → Claims g m y r f' → SameClaim g m m' y
  carries y r f' c =
      claim_beside n 4 stored refl (omega arith) (omega arith) (omega arith) (claim_inside a.agrees.shows c).1 (larger y.node)
      (ap (λ w. is_set w y.place) (stored.old (locate_at g y.node) (λ z. omega arith))) c

  makes : Makes g s t im' s.pool
  makes = record {
    still = record { view = view_size old_view x ends small; within = within_same same };
    map_words_lem = refl;
    marks = λ k. let u = a.agrees.marks k in (λ e. (same_reached same.links).0 (u.0 e), λ r. u.1 ((same_reached same.links).1 r));
    ways = λ z. (same_laws same).reaches.0 z;
    rule = same_rule m m' (λ j l. stored.old j (λ q. omega arith));
    carries = carries;
    locates = λ k q r b.
        rw (← stored.old (locate_at g k) (λ z. omega arith), ← stored.old (set_at g k) (λ z. omega arith))
        (a.agrees.locates k q ((same_reached same.links).1 r) b);
  }

  locate_same : m (locate_at g n) ≡ m' (locate_at g n)
  locate_same = stored.old (locate_at g n) (λ z. omega arith)

  placed_there : Placed g (record { image = im'; pool = s.pool; heads = s.heads }) t h reel f slot n size
  placed_there =
      placed 0 makes.still.view.header.geometry (asked_made a makes) (rw (root_way f) ((same_laws same).reaches.0 x)) (omega (arith, stored.new))
      (rw (← locate_same) (bit_laws.none_above (m (locate_at g n)) size size formed.locate (omega arith))) none_there

  abbrev last : List ℕ
  last = set im' (locate_at g n) (with_bit (m (locate_at g n)) size)

  pub agrees_scaled : Agrees (record { image = last; pool = s.pool; heads = with_head s.heads h (Claimed (target_at slot n size f)) })
      (with_table_head t h (claimed reel f))
  agrees_scaled = rw locate_same placed_there.agrees

  pub each_scaled : AfterEach (Still g t.own t.reels s.image) s.image ((size_at g n, 2 * size) ∷ (locate_at g n, with_bit (m (locate_at g n)) size) ∷ [])
  each_scaled = (makes.still, (still_on makes.still (rw locate_same placed_there.still), tt))

  marked : Stores m' (locate_at g n) (with_bit (m (locate_at g n)) size) (reads last)
  marked = stores_set im' (locate_at g n) (with_bit (m (locate_at g n)) size)
      (node_inside n 1 makes.still.view.header formed.inside (omega arith))

  -- the root's size is doubled
  pub size_scaled : reads last (size_at g n) ≡ 2 * size
  size_scaled = sym (marked.old (size_at g n) (λ q. omega arith)) ∙ stored.new

  pub beside_scaled : Beside m (reads last) (λ i. (i ≡ size_at g n) ⊎ (i ≡ locate_at g n))
  beside_scaled i d = sym (stored.old i (λ q. d (inl q)) ∙ marked.old i (λ q. d (inr q)))

  -- ---- the nodes

  nodes_marked : SameNodes im' last
  nodes_marked = quiet_set makes.still.view.header.geometry n 1 _ (omega arith) (omega arith) (omega arith)

  links_scaled : {i k : ℕ} {w : List ℕ} → Reaches g m' i w k ↔ Reaches g m i w k
  links_scaled = ((same_laws same).reaches.1, (same_laws same).reaches.0)

  sizes_scaled : {i k : ℕ} {w : List ℕ} → Reaches g m i w k → k ≢ n → m' (size_at g k) ≡ m (size_at g k)
  sizes_scaled {k = k} x d = sym (stored.old (size_at g k) (λ q. d (omega arith)))

  doubles : Doubles s.image im' n
  doubles = record {
    ways = rw makes.still.view.header.geometry links_scaled;
    doubled = rw makes.still.view.header.geometry stored.new;
    sizes = rw makes.still.view.header.geometry sizes_scaled;
    reels = λ x. sym (same.reels (slot_filled x));
  }

  -- carried out, the root's size alone is doubled
  pub doubles_scaled : Doubles s.image last n
  doubles_scaled = doubles_on doubles x nodes_marked

  -- every image that a crash leaves has the nodes as before, or as then
  pub nodes_scaled : {After : List ℕ → Type 0} → After last
      → Nodes s.image (single ((size_at g n, 2 * size) ∷ (locate_at g n, with_bit (m (locate_at g n)) size) ∷ [])) After
  nodes_scaled h =
      let ss : List Store = (size_at g n, 2 * size) ∷ (locate_at g n, with_bit (m (locate_at g n)) size) ∷ [] in
      nodes_through (apply_single s.image ss) h (through_each (λ im. SameNodes s.image im ⊎ SameNodes last im) s.image ss
      (inl (nodes_itself s.image)) (inr (nodes_back nodes_marked), (inr (nodes_itself last), tt)))
