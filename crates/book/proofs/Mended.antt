-- Images in which some locate words of reached nodes have become their set words: what recovery writes, whole or in part.
use mathlib.Core.Path.{◌≡◌, sym, ◌∙◌, ap}
use mathlib.Core.Bool.{Bool, true}
use mathlib.Core.Logic.{◌⊎◌, inl, inr, ◌≢◌, ◌↔◌}
use mathlib.Core.List.{List}
use Prim.Native.Nat.{ℕ, ◌%◌}
use native.Mathlib.Omega.{arith}
use lib.ListN.{length}
use Rattle.tree.specs.Memory.{Memory, reads, byte, Fit}
use Rattle.tree.specs.declared.layout.Geometry.{Geometry}
use Rattle.tree.specs.Layout.{reel_at, root_at, next_at, locate_at, set_at, level_at, size_at, fingerprints_at, frame_at}
use Rattle.tree.specs.Node.{well_formed}
use Rattle.tree.specs.Same.{Same}
use Rattle.tree.proofs.Laws.{node_laws}
use Rattle.book.specs.Table.{Reel}
use Rattle.book.specs.Agrees.{Reached}
use Rattle.book.proofs.View.{View}
use Rattle.book.proofs.Stored.{header_same}
use Rattle.book.proofs.Reels.{same_reached}
use Rattle.book.proofs.Views.{view_same}

-- word i, with the value v, is the locate word of a reached node, and v its set word
pub record Mends (g : Geometry) (m : Memory) (i v : ℕ) : Type 0 where
  pub node : ℕ
  pub reached : Reached g m node
  pub at : i ≡ locate_at g node
  pub is : v ≡ m (set_at g node)

pub record Mended (g : Geometry) (m m' : Memory) : Type 0 where
  pub each : (i : ℕ) → (m' i ≡ m i) ⊎ Mends g m i (m' i)

module _ {g : Geometry} {m m' : Memory} (a : Mended g m m') where
  -- no other word changes, and a locate word is the old one or the set word
  pub kept : (i : ℕ) → ((n : ℕ) → i ≢ locate_at g n) → m i ≡ m' i
  kept i h = elim (a.each i) [ inl q ↦ sym q | inr x ↦ absurd (h x.node x.at) ]

  pub located : (n : ℕ) → (m' (locate_at g n) ≡ m (locate_at g n)) ⊎ (m' (locate_at g n) ≡ m (set_at g n))
  located n = elim (a.each (locate_at g n)) [
    | inl q ↦ inl q
    | inr x ↦ let e : x.node ≡ n = omega (arith, x.at) in inr (x.is ∙ ap (λ k. m (set_at g k)) e)
  ]

  mended_formed : (d n : ℕ) → well_formed g m d n ≡ true → well_formed g m' d n ≡ true
  mended_formed d n h =
      let f = ((node_laws g m).facts d n).0 h in
      let next = kept (next_at g n) (λ k. omega arith) in
      let set = kept (set_at g n) (λ k. omega arith) in
      let level = kept (level_at g n) (λ k. omega arith) in
      let size = kept (size_at g n) (λ k. omega arith) in
      ((node_laws g m').facts d n).1 (record {
        inside = f.inside;
        level = sym level ∙ f.level;
        size = rw (← size) f.size;
        locate = rw (← size) (elim (located n) [ inl q ↦ rw q f.locate | inr q ↦ rw q f.set ]);
        set = rw (← size, ← set) f.set;
        next = rw (← size, ← next) f.next;
      })

  pub mended_same : Same g m m'
  mended_same = record {
    links = record { roots = λ s h. kept (root_at s) (λ k. omega arith); next = λ {s} {w} {n} r. kept (next_at g n) (λ k. omega arith) };
    reels = λ {s} b. kept (reel_at s) (λ k. omega (arith, b.inside));
    holds = λ {s} {w} {n} r. record {
      set = kept (set_at g n) (λ k. omega arith);
      frames = λ p h t. kept (frame_at g n p) (λ k. omega arith);
      fingerprints = λ p h t. ap (λ w. byte w (p % 8)) (kept (fingerprints_at g n p) (λ k. omega arith));
    };
  }

  pub mended_reached : {n : ℕ} → Reached g m n ↔ Reached g m' n
  mended_reached = same_reached mended_same.links

pub mended_view : {g : Geometry} {o : Bool} {im im' : List ℕ} {rs : List Reel} → View g o im rs → length im' ≡ length im
    → Mended g (reads im) (reads im') → View g o im' rs
mended_view {im' = im'} v l a =
    let h = v.header in
    let fits : Fit im' = λ i. elim (a.each i) [ inl q ↦ rw q (h.fits i) | inr x ↦ rw x.is (h.fits _) ] in
    view_same v (header_same h l fits (λ i b. kept a i (λ k. omega arith)))
    (mended_same a) (λ s w n r. mended_formed a (length w) n (v.sound.well_formed_lem r))
