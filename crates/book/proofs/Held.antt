-- An image that a recovery accepts shows the table of its own reels and frames.
use mathlib.Core.Path.{◌≡◌, refl, sym, ◌∙◌, ap, subst}
use mathlib.Core.List.Memᴰ
use mathlib.Core.List.{List, Memᴰ}
use Prim.Native.Nat.{ℕ}
use native.Mathlib.Omega.{arith}
use Rattle.tree.specs.Memory.{Memory, reads, Module, Fit}
use Rattle.tree.specs.declared.layout.Geometry.{Geometry}
use Rattle.tree.specs.Layout.{bad_image, in_range, geometry_of, reel_at}
use Rattle.tree.specs.Fingerprint.{rule_of, bad_own}
use Rattle.tree.specs.Slots.{Filled, filled_slots}
use Rattle.tree.specs.Sound.{Sound}
use Rattle.tree.specs.Subtree.{listing}
use Rattle.tree.proofs.Distinct.{distinct_by, distinct_made}
use Rattle.tree.proofs.Laws.{slot_laws, tree_laws, sound_laws}
use Rattle.book.specs.State.{State, recover}
use Rattle.book.specs.Checks.{refusals}
use Rattle.book.specs.Perform.{perform}
use Rattle.book.specs.Table.{Reel, all_idle}
use Rattle.book.specs.Agrees.{Shows}
use Rattle.book.specs.Histories.{done, none_yet, Recovered, Starts, found}
use Rattle.book.specs.Held.{reel_held, reels_held, table_of}
use Rattle.book.proofs.Refusals.{denied, passes}
use Rattle.book.proofs.Performed.{answer_is}
use Rattle.book.proofs.View.{OnceListed, SameReels}
use Rattle.book.proofs.Showing.{view_shows}
use borrow.Author.Tests.{not-false}

module _ {g : Geometry} {m : Memory} (d : Sound (rule_of m) g m) where
  abbrev reel_in : ℕ → Reel
  reel_in = reel_held g m

  from_slot : {r : Reel} → Memᴰ r (reels_held g m) → (s : ℕ) × Filled g m s × (reel_in s ≡ r)
  unfolding reels_held
  from_slot x = let t = Memᴰ.of_map reel_in (filled_slots g m) x in (t.0, (slot_laws g m).listed.0 t.1, t.2)

  to_reel : {s : ℕ} → Filled g m s → Memᴰ (reel_in s) (reels_held g m)
  unfolding reels_held
  to_reel b = Memᴰ.map reel_in ((slot_laws g m).listed.1 b)

  held_once : OnceListed (reels_held g m)
  unfolding reels_held
  held_once = record {
    numbers = distinct_made reel_in (λ r. r.number) (distinct_by (λ s. m (reel_at s)) (slot_laws g m).listed_once
        (λ s s' x y q. d.reels ((slot_laws g m).listed.0 x) ((slot_laws g m).listed.0 y) q));
    frames = λ r x. let t = from_slot x in rw (← t.2) ((tree_laws t.1).listed_once (rule_of m) d);
  }

  held_same : SameReels g m (reels_held g m)
  held_same = record {
    present = λ reel. (
      λ t. (reel_in t.0, to_reel t.1.open_slot, t.1.number),
      λ t. let u = from_slot t.1 in (u.0, record { open_slot = u.1; number = ap (λ r. r.number) u.2 ∙ t.2 }),
    );
    frames = λ {s} {r} b x q f.
        let u = from_slot x in
        let e : u.0 ≡ s = d.reels u.1 b (ap (λ r. r.number) u.2 ∙ sym q) in
        let l = (tree_laws b).listed f in
        let i : r.frames ≡ listing g m s = sym (ap (λ r. r.frames) u.2) ∙ ap (listing g m) e in
        rw i (λ y. l.1 y, λ y. l.0 y);
  }

pub held_shown : (words : ℕ) (s : State) → Fit s.image → (perform (recover words) s).answer ≡ 0 → Shows s.image (table_of s.image)
unfolding refusals bad_image in_range table_of
held_shown words s fit h =
    let p = passes (refusals (recover words) s) (omega arith) (sym (answer_is (recover words) s) ∙ h) in
    let m = reads s.image in
    let g = geometry_of m in
    let d : Sound (rule_of m) g m = (sound_laws (rule_of m) g m).image.0 (not-false _ p.1.1.1.0.1) in
    view_shows (record {
      header = record {
        fits = fit;
        edition = p.1.0;
        geometry = refl;
        in_range_lem = omega (arith, p.0);
        words = omega (arith, p.0);
        own = refl;
        good_table = denied (bad_own m) p.1.1.1.0.0;
      };
      sound = d;
      once = held_once d;
      same = held_same d;
    }) refl refl

-- its heads are idle already
pub idle_held : (image : List ℕ) → all_idle (table_of image) ≡ table_of image
unfolding all_idle table_of
idle_held image = refl

pub held_starts : {on : Module} (words : ℕ) (s : State) → Fit s.image → (perform (recover words) s).answer ≡ 0
    → (s' : State) → Recovered on s.image s' → Starts on s' (table_of s.image)
held_starts {on} words s fit h s' r = subst (Starts on s') (idle_held s.image) (found (held_shown words s fit h) r)

-- one that is answered at once
pub at_once : {on : Module} (words : ℕ) (s : State) → (perform (recover words) s).answer ≡ 0 → Recovered on s.image (done (recover words) s)
at_once words s h = record { left = s.image; attempts = none_yet; words = words; from = s; image = refl; answered = h; is = refl }
