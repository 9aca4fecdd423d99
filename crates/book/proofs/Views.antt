-- An image's view through the stores that change what is reached or held.
use mathlib.Core.Path.{◌≡◌, refl, sym, ◌∙◌, ap₂}
use mathlib.Core.Bool.{Bool, true, not}
use mathlib.Core.Logic.{inl, inr}
use mathlib.Core.List.{List, [], ◌∷◌}
use Prim.Native.Nat.{ℕ, suc}
use native.Mathlib.Omega.{arith}
use lib.ListN.{length}
use lib.Dec.{eqb}
use Rattle.tree.specs.Memory.{reads}
use Rattle.tree.specs.Lists.{keep}
use Rattle.tree.specs.declared.layout.Geometry.{Geometry}
use Rattle.tree.specs.Layout.{reel_at, root_at, next_at, set_at}
use Rattle.tree.specs.Fingerprint.{rule_of}
use Rattle.tree.specs.Node.{well_formed, frame}
use Rattle.tree.specs.Slots.{Filled}
use Rattle.tree.specs.Reach.{Reaches, Holds, FrameOf}
use Rattle.tree.specs.Sound.{Sound}
use Rattle.tree.specs.Same.{Same, Stores}
use Rattle.tree.specs.Groups.{EmptyGroup}
use Rattle.tree.specs.Changes.{Opens, Links, Commits, Removes}
use Rattle.tree.proofs.Reach.{slot_filled, one_node}
use Rattle.tree.proofs.Same.{filled_on, filled_back}
use Rattle.tree.proofs.Laws.{same_laws, change_laws}
use Rattle.book.specs.Table.{Reel, change_frames, joined, without}
use Rattle.book.proofs.View.{OnceListed, SameReels, View}
use Rattle.book.proofs.Stored.{HeaderAs}
use Rattle.book.proofs.ReelLists.{joined_members, joined_once, without_members, without_once, once_more, once_others, once_change}
use Rattle.book.proofs.Reels.{SameSlots, frames_to, reels_same, reels_changed, node_slots, new_number, reels_opened, reels_retired}

module _ {g : Geometry} {o : Bool} {im im' : List ℕ} {rs : List Reel} (v : View g o im rs) (h : HeaderAs g o im im') where
  -- the view again, from its parts; the rule is the same
  view_of : {rs' : List Reel} → Sound (rule_of (reads im)) g (reads im') → OnceListed rs' → SameReels g (reads im') rs' → View g o im' rs'
  view_of d o e = record { header = h.header; sound = rw (← h.rule) d; once = o; same = e }

  pub view_same : Same g (reads im) (reads im')
      → ((s : ℕ) (w : List ℕ) (n : ℕ) → Reaches g (reads im) s w n → well_formed g (reads im') (length w) n ≡ true) → View g o im' rs
  view_same a formed =
      let l = same_laws a in
      let slots : SameSlots g (reads im) (reads im') = record { filled = (filled_on a.links, filled_back a.links); reels = λ b. a.reels b } in
      view_of (l.sound v.sound formed) v.once
      (reels_same slots (λ s f. (frames_to (λ w n p x. l.holds.0 x), frames_to (λ w n p x. l.holds.1 x))) v.same)

  pub view_linked : {s : ℕ} {w : List ℕ} {n start : ℕ} → Links g (reads im) s w n start → Stores (reads im) (next_at g n) (suc start) (reads im')
      → View g o im' rs
  view_linked {n = n} a t =
      let c = (change_laws (reads im') v.sound).linked a t in
      view_of c.sound v.once
      (reels_same (node_slots n (omega arith) t) (λ s f. (frames_to (λ w n p x. c.holds.1 x), frames_to (λ w n p x. c.holds.0 x))) v.same)

  pub view_unlinked : {s : ℕ} {w : List ℕ} {n : ℕ} → EmptyGroup g (reads im) s w n → Stores (reads im) (next_at g n) 0 (reads im') → View g o im' rs
  view_unlinked {n = n} a t =
      let c = (change_laws (reads im') v.sound).unlinked a t in
      view_of c.sound v.once
      (reels_same (node_slots n (omega arith) t) (λ s f. (frames_to (λ w n p x. c.holds.1 x), frames_to (λ w n p x. c.holds.0 x))) v.same)

  pub view_committed : {s : ℕ} {w : List ℕ} {n p f x : ℕ} → Commits (rule_of (reads im)) g (reads im) s w n p f x → Stores (reads im) (set_at g n) x (reads im')
      → View g o im' (change_frames (reads im (reel_at s)) (joined f) rs)
  view_committed {s} {w} {n} {p} {f} a t =
      let c = (change_laws (reads im') v.sound).committed a t in
      let more : (s' f' : ℕ) → FrameOf g (reads im) s' f' → FrameOf g (reads im') s' f' = λ s' f'. frames_to (λ w' n' p' x. c.holds.1 (inl x)) in
      view_of c.sound (once_change (reads im (reel_at s)) (joined f) (joined_once f) v.once)
      (reels_changed (node_slots n (omega arith) t) (joined f) v.sound (slot_filled a.there)
      (λ s' f' d. (more s' f', frames_to (λ w' n' p' x. elim (c.holds.0 x) [ inl y ↦ y | inr y ↦ absurd (d y.slot) ])))
      (λ fs f' u. (
        λ x. (joined_members f fs).1 (elim (c.holds.0 x.holds) [
          | inl y ↦ inl (u.0 (record { way = x.way; node = x.node; place = x.place; holds = y }))
          | inr y ↦ inr y.is
        ]),
        λ x. elim ((joined_members f fs).0 x) [
          | inl y ↦ more s f' (u.1 y)
          | inr q ↦ record { way = w; node = n; place = p; holds = c.holds.1 (inr (record { slot = refl; way = refl; node = refl; place = refl; is = q })) }
        ],
      )) v.same)

  pub view_removed : {s : ℕ} {w : List ℕ} {n p f x : ℕ} → Holds g (reads im) s w n p f → Removes g (reads im) s w n p x
      → Stores (reads im) (set_at g n) x (reads im') → View g o im' (change_frames (reads im (reel_at s)) (without f) rs)
  view_removed {s} {w} {n} {p} {f} b a t =
      let c = (change_laws (reads im') v.sound).removed a t in
      view_of c.sound (once_change (reads im (reel_at s)) (without f) (without_once f) v.once)
      (reels_changed (node_slots n (omega arith) t) (without f) v.sound (slot_filled a.there)
      (λ s' f' d. (
        frames_to (λ w' n' p' x. c.holds.1 (x, λ e. d (v.sound.once (rw e.0 at x.there) a.there).0)),
        frames_to (λ w' n' p' x. (c.holds.0 x).0),
      ))
      (λ fs f' u. (
        λ x.
            let y = c.holds.0 x.holds in
            (without_members f fs).1 (
              u.0 (record { way = x.way; node = x.node; place = x.place; holds = y.0 }),
              λ q.
                  let o = v.sound.frame_once (rw q at y.0) b in
                  y.1 (one_node (rw o.0 at y.0.there) b.there, o.1),
            ),
        λ x.
            let z = (without_members f fs).0 x in
            frames_to (λ w' n' p' y. c.holds.1 (y, λ e. z.1 (sym y.is ∙ ap₂ (λ n p. frame g (reads im) n p) e.0 e.1 ∙ b.is))) (u.1 z.0),
      )) v.same)

  pub view_opened : {s n : ℕ} → Opens g (reads im) s n → Stores (reads im) (root_at s) (suc n) (reads im')
      → View g o im' (record { number = reads im (reel_at s); frames = [] } ∷ rs)
  view_opened a t =
      view_of ((change_laws (reads im') v.sound).opened a t).sound (once_more v.once (new_number v.same a))
      (reels_opened v.sound v.same a t)

  pub view_retired : {s : ℕ} → Filled g (reads im) s → Stores (reads im) (root_at s) 0 (reads im')
      → View g o im' (keep (λ r. not (eqb r.number (reads im (reel_at s)))) rs)
  view_retired {s} a t =
      view_of ((change_laws (reads im') v.sound).retired a t).sound (once_others (reads im (reel_at s)) v.once) (reels_retired v.sound v.same a t)
