-- What an image shows, by lists and by membership: the two forms agree.
use mathlib.Core.Path.{◌≡◌, refl, sym, ◌∙◌, ap}
use mathlib.Core.Bool.{Bool}
use mathlib.Core.Logic.{◌↔◌}
use mathlib.Core.List.Memᴰ
use mathlib.Core.List.{List, [], ◌∷◌, map, Memᴰ}
use Prim.Native.Nat.{ℕ}
use Rattle.tree.specs.Memory.{Memory, reads}
use Rattle.tree.specs.Lists.{Distinct, empty, onto}
use Rattle.tree.specs.declared.layout.Geometry.{Geometry}
use Rattle.tree.specs.Layout.{geometry_of, reel_at}
use Rattle.tree.specs.Fingerprint.{Rule, rule_of}
use Rattle.tree.specs.Slots.{filled_slots, reels_present}
use Rattle.tree.specs.Sound.{Sound}
use Rattle.tree.proofs.Distinct.{distinct_by, distinct_map}
use Rattle.tree.proofs.Laws.{slot_laws, tree_laws}
use Rattle.book.specs.Table.{Table, Reel}
use Rattle.book.specs.Agrees.{Shows}
use Rattle.book.specs.Ways.{SlotHas}
use Rattle.book.proofs.View.{View}

-- ---- lists of numbers made from others

-- keys that differ in their list tell the elements
pub distinct_of_map : {A : Type 0} (f : A → ℕ) (xs : List A) → Distinct (λ k. k) (map f xs) → Distinct f xs
distinct_of_map f [] d = empty
distinct_of_map f (x ∷ xs) (onto a d) = onto (λ y z. a (f y) (Memᴰ.map f z)) (distinct_of_map f xs d)

numbered : (rs : List Reel) {reel : ℕ} → Memᴰ reel (map (λ r. r.number) rs) ↔ ((r : Reel) × Memᴰ r rs × (r.number ≡ reel))
numbered rs = (λ x. Memᴰ.of_map (λ r. r.number) rs x, λ t. Memᴰ.cast (sym t.2) (Memᴰ.map (λ r. r.number) t.1))

-- ---- the reels present

module _ (g : Geometry) (m : Memory) where
  pub present_slot : {reel : ℕ} → Memᴰ reel (reels_present g m) ↔ ((s : ℕ) × SlotHas g m reel s)
  unfolding reels_present
  present_slot = (
    λ x. let t = Memᴰ.of_map (λ s. m (reel_at s)) (filled_slots g m) x in (t.0, record { open_slot = (slot_laws g m).listed.0 t.1; number = t.2 }),
    λ t. Memᴰ.cast (sym t.1.number) (Memᴰ.map (λ s. m (reel_at s)) ((slot_laws g m).listed.1 t.1.open_slot)),
  )

  pub present_once : {r : Rule} → Sound r g m → Distinct (λ x. x) (reels_present g m)
  unfolding reels_present
  present_once d =
      let l = slot_laws g m in
      distinct_map (distinct_by (λ s. m (reel_at s)) l.listed_once (λ s s' x y q. d.reels (l.listed.0 x) (l.listed.0 y) q))

-- ---- the two forms

pub shows_view : {im : List ℕ} {t : Table} → Shows im t → View (geometry_of (reads im)) t.own im t.reels
shows_view {im} {t} a = let m = reads im in let g = geometry_of m in record {
  header = record { fits = a.fits; edition = a.edition; geometry = refl; in_range_lem = a.in_range_lem; words = a.words; own = a.own; good_table = a.good_table };
  sound = a.sound;
  once = record {
    numbers = distinct_of_map (λ r. r.number) t.reels a.reels.once_too;
    frames = λ r x.
        let s = (present_slot g m).0 ((a.reels.same r.number).1 ((numbered t.reels).1 (r, x, refl))) in
        (a.frames s.0 r s.1.open_slot x s.1.number).once_too;
  };
  same = record {
    present = λ reel. (
      λ s. (numbered t.reels).0 ((a.reels.same reel).0 ((present_slot g m).1 s)),
      λ r. (present_slot g m).0 ((a.reels.same reel).1 ((numbered t.reels).1 r)),
    );
    frames = λ {s} {r} b x q f.
        let l = (tree_laws b).listed f in let e = (a.frames s r b x q).same f in
        (λ y. e.0 (l.1 y), λ y. l.0 (e.1 y));
  };
}

-- the view of an image is that by its own geometry
own_geometry : {g : Geometry} {o : Bool} {im : List ℕ} {rs : List Reel} → View g o im rs → View (geometry_of (reads im)) o im rs
own_geometry v = rw v.header.geometry v

shown : {im : List ℕ} {t : Table} → View (geometry_of (reads im)) t.own im t.reels → (geometry_of (reads im)).slots ≡ t.slots
    → (geometry_of (reads im)).nodes ≡ t.nodes → Shows im t
shown {im} {t} v p q = let m = reads im in let g = geometry_of m in record {
  fits = v.header.fits;
  edition = v.header.edition;
  in_range_lem = v.header.in_range_lem;
  words = v.header.words;
  slots = p;
  nodes = q;
  own = v.header.own;
  good_table = v.header.good_table;
  sound = v.sound;
  reels = record {
    once = present_once g m v.sound;
    once_too = distinct_map v.once.numbers;
    same = λ reel. (
      λ x. (numbered t.reels).1 ((v.same.present reel).0 ((present_slot g m).0 x)),
      λ x. (present_slot g m).1 ((v.same.present reel).1 ((numbered t.reels).0 x)),
    );
  };
  frames = λ s r b x e.
      let l = tree_laws b in
      record {
        once = l.listed_once (rule_of m) v.sound;
        once_too = v.once.frames r x;
        same = λ f. let k = v.same.frames b x e f in (λ y. k.0 ((l.listed f).0 y), λ y. (l.listed f).1 (k.1 y));
      };
}

pub view_shows : {g : Geometry} {im : List ℕ} {t : Table} → View g t.own im t.reels → g.slots ≡ t.slots → g.nodes ≡ t.nodes → Shows im t
view_shows v p q = shown (own_geometry v) (ap (λ g. g.slots) v.header.geometry ∙ p) (ap (λ g. g.nodes) v.header.geometry ∙ q)
