-- A claim of a clear place: its locate bit is put on, and the head's record is written.
use mathlib.Core.Path.{◌≡◌, refl, sym, ◌∙◌, ap}
use mathlib.Core.Bool.{true, false}
use mathlib.Core.Logic.{◌⊎◌, inl, inr, ◌↔◌}
use mathlib.Core.List.{List}
use Prim.Native.Nat.{ℕ, ◌<◌}
use native.Mathlib.Omega.{arith}
use native.Mathlib.Decide.{ℕ_discrete}
use lib.ListN.{length, set}
use Rattle.tree.specs.Memory.{Memory, reads, is_set, with_bit}
use Rattle.tree.specs.declared.layout.Geometry.{Geometry}
use Rattle.tree.specs.Layout.{locate_at, set_at, size_at}
use Rattle.tree.specs.Path.{way_of}
use Rattle.tree.specs.Node.{held}
use Rattle.tree.specs.Reach.{Reaches}
use Rattle.tree.specs.Same.{Same, Stores}
use Rattle.tree.specs.Laws.{WellFormed}
use Rattle.tree.proofs.Cases.{true_not_false, not-false}
use Rattle.tree.proofs.Memory.{bit_laws}
use Rattle.tree.proofs.Nodes.{size_most}
use Rattle.tree.proofs.Same.{filled_on}
use Rattle.tree.proofs.Laws.{same_laws}
use Rattle.book.specs.declared.Target.{Target}
use Rattle.book.specs.declared.HeadState.TheVariants.{Claimed}
use Rattle.book.specs.Heads.{with_head}
use Rattle.book.specs.State.{State}
use Rattle.book.specs.Table.{Table, claimed, with_table_head}
use Rattle.book.specs.Agrees.{Reached, Claims, Agrees}
use Rattle.book.specs.Ways.{Beside}
use Rattle.book.proofs.View.{View}
use Rattle.book.proofs.Stored.{same_rule, stores_set}
use Rattle.book.proofs.Sames.{node_formed, reached_inside, view_locate}
use Rattle.book.proofs.Showing.{shows_view, view_shows}
use Rattle.book.proofs.Reading.{sizes_of, claim_inside}
use Rattle.book.proofs.Claims.{SameClaim}
use Rattle.book.proofs.Keeps.{within_same, within_frames}
use Rattle.book.proofs.Reels.{same_reached}
use Rattle.book.proofs.Still.{Still, same_word, claim_beside}
use Rattle.book.proofs.Claiming.{NoneAt, Asked, Lands, target_at, landed}

module _ {s : State} {t : Table} {h reel f slot n p : ℕ} (d : ℕ) (a : Asked s t h reel f slot)
    (x : Reaches (sizes_of s.image) (reads s.image) slot (way_of d f) n) (low : p < reads s.image (size_at (sizes_of s.image) n))
    (clear : is_set (reads s.image (locate_at (sizes_of s.image) n)) p ≡ false) (none_there : NoneAt s.heads n) where
  abbrev g : Geometry
  g = sizes_of s.image

  abbrev m : Memory
  m = reads s.image

  abbrev new : ℕ
  new = with_bit (m (locate_at g n)) p

  abbrev im' : List ℕ
  im' = set s.image (locate_at g n) new

  abbrev m' : Memory
  m' = reads im'

  old_view : View g t.own s.image t.reels
  old_view = shows_view a.agrees.shows

  formed : WellFormed g m (length (way_of d f)) n
  formed = node_formed old_view x

  low_64 : p < 64
  low_64 = omega (arith, size_most formed)

  stored : Stores m (locate_at g n) new m'
  stored = stores_set s.image (locate_at g n) new (reached_inside old_view x 1 (omega arith))

  same : Same g m m'
  same = same_word n 1 stored refl (omega arith) (omega arith) (omega arith)

  pub still_clear : Still g t.own t.reels s.image im'
  still_clear = record {
    view = view_locate old_view x new (bit_laws.with_fits (m (locate_at g n)) p (m (size_at g n)) low formed.locate);
    within = within_same same;
  }

  pub beside_clear : Beside m m' (λ i. i ≡ locate_at g n)
  beside_clear i d = sym (stored.old i d)

  -- the bits of locate words: one more
  bits : (k q : ℕ) → (is_set (m' (locate_at g k)) q ≡ true) ↔ ((is_set (m (locate_at g k)) q ≡ true) ⊎ ((k ≡ n) × (q ≡ p)))
  bits k q = elim (ℕ_discrete k n) [
    | no e ↦ rw (sym (stored.old (locate_at g k) (λ z. e (omega arith)))) (λ y. inl y, λ y. elim y [ inl z ↦ z | inr z ↦ absurd (e z.0) ])
    | yes e ↦ rw (e, stored.new) (elim (ℕ_discrete q p) [
      | yes o ↦ rw (o, bit_laws.with_sets (m (locate_at g n)) p) (λ y. inr (refl, refl), λ y. refl)
      | no o ↦ rw (bit_laws.with_keeps (m (locate_at g n)) p q o) (λ y. inl y, λ y. elim y [ inl z ↦ z | inr z ↦ absurd (o z.1) ])
    ])
  ]

  held_same : (k q : ℕ) → held g m k q ≡ held g m' k q
  held_same k q = ap (λ w. is_set w q) (stored.old (set_at g k) (λ z. omega arith))

  size_same : (k : ℕ) → m (size_at g k) ≡ m' (size_at g k)
  size_same k = stored.old (size_at g k) (λ z. omega arith)

  here : Reached g m n
  here = record { slot = slot; way = way_of d f; there = x }

  carries : (y : Target) (r f' : ℕ) → Claims g m y r f' → SameClaim g m m' y
  carries y r f' c =
      claim_beside n 1 stored refl (omega arith) (omega arith) (omega arith) (claim_inside a.agrees.shows c).1 (omega (arith, size_same y.node))
      (c.located ∙ sym ((bits y.node y.place).1 (inl c.located))) c

  claims : Claims g m' (target_at slot n p f) reel f
  claims = record {
    open_slot = filled_on same.links a.has.open_slot;
    of_reel = sym (same.reels a.has.open_slot) ∙ a.has.number;
    of_frame = refl;
    word = a.word;
    depth = d;
    on_path_lem = (same_laws same).reaches.0 x;
    place = omega (arith, size_same n);
    located = (bits n p).1 (inr (refl, refl));
    not_set = sym (held_same n p) ∙ not-false (λ e. true_not_false ((a.agrees.locates n p here low_64).1 (inl e)) clear);
    not_held = λ y. a.absent (within_frames (within_same same) y);
  }

  lands : Lands g s t reel f slot im' n p
  lands = record {
    shows = view_shows still_clear.view a.agrees.shows.slots a.agrees.shows.nodes;
    geometry = still_clear.view.header.geometry;
    reached = λ k. same_reached same.links;
    rule = same_rule m m' (λ j l. stored.old j (λ q. omega arith));
    carries = carries;
    claims = claims;
    unclaimed = none_there;
    locates = λ k q r b.
        let u = a.agrees.locates k q ((same_reached same.links).1 r) b in
        let e = bits k q in
        rw (← held_same k q) (
          λ z. elim (e.0 z) [ inl y ↦ inl (u.0 y) | inr y ↦ inr y ],
          λ z. elim z [ inl y ↦ e.1 (inl (u.1 y)) | inr y ↦ e.1 (inr y) ],
        );
  }

  pub ways_clear : {i : ℕ} {w : List ℕ} {k : ℕ} → Reaches g m i w k → Reaches g m' i w k
  ways_clear y = (same_laws same).reaches.0 y

  pub agrees_clear : Agrees (record { image = im'; pool = s.pool; heads = with_head s.heads h (Claimed (target_at slot n p f)) })
      (with_table_head t h (claimed reel f))
  agrees_clear = landed a lands

-- the same in a given geometry: the bit of a clear place on a frame's path is put on
pub record Placed (g : Geometry) (s : State) (t : Table) (h reel f slot n p : ℕ) : Type 0 where
  pub still : Still g t.own t.reels s.image (set s.image (locate_at g n) (with_bit (reads s.image (locate_at g n)) p))
  pub ways : {i : ℕ} {w : List ℕ} {k : ℕ} → Reaches g (reads s.image) i w k
      → Reaches g (reads (set s.image (locate_at g n) (with_bit (reads s.image (locate_at g n)) p))) i w k
  pub agrees : Agrees (record {
    image = set s.image (locate_at g n) (with_bit (reads s.image (locate_at g n)) p);
    pool = s.pool;
    heads = with_head s.heads h (Claimed (target_at slot n p f));
  }) (with_table_head t h (claimed reel f))

pub placed : {g : Geometry} {s : State} {t : Table} {h reel f slot n p : ℕ} (d : ℕ) → sizes_of s.image ≡ g → Asked s t h reel f slot
    → Reaches g (reads s.image) slot (way_of d f) n → p < reads s.image (size_at g n) → is_set (reads s.image (locate_at g n)) p ≡ false
    → NoneAt s.heads n → Placed g s t h reel f slot n p
placed {s = s} {n = n} {p = p} d e a x l c o =
    let l' : p < reads s.image (size_at (sizes_of s.image) n) = rw e l in
    let c' : is_set (reads s.image (locate_at (sizes_of s.image) n)) p ≡ false = rw e c in
    let x' = rw (← e) at x in
    rw (← e) (record { still = still_clear d a x' l' c' o; ways = ways_clear d a x' l' c' o; agrees = agrees_clear d a x' l' c' o })
