-- Recovery of an image that shows reels: accepted with a map of the right length, and it leaves those reels, whole, with
-- every head idle; a recovery that is refused or interrupted keeps them.
use mathlib.Core.Path.{◌≡◌, refl, sym, ◌∙◌, ap, ap₂}
use mathlib.Core.Bool.{Bool, false, cond}
use mathlib.Core.Logic.{inl, inr, ◌↔◌}
use mathlib.Core.List.Memᴰ
use mathlib.Core.List.{List, [], ◌∷◌, Memᴰ}
use Prim.Native.Nat.{ℕ, ◌<◌}
use native.Mathlib.Omega.{arith}
use native.Mathlib.Decide.{ℕ_discrete}
use lib.ListN.{length}
use lib.Dec.{eqb}
use borrow.Author.Tests.{eqb-true, eqb-false, ne_eqb, not-true, not-false}
use Rattle.tree.specs.Memory.{Memory, reads, Store, stores, apply, Module}
use Rattle.tree.specs.Test.{holds}
use Rattle.tree.specs.declared.layout.Geometry.{Geometry}
use Rattle.tree.specs.Layout.{bad_image, in_range, map_words, geometry_of, locate_at, set_at, bad_edition}
use Rattle.tree.specs.Fingerprint.{Rule, rule_of, bad_own}
use Rattle.tree.specs.Sound.{Sound, SoundImage}
use Rattle.tree.specs.Lists.{Distinct}
use Rattle.tree.specs.Subtree.{Visit, all_trees}
use Rattle.tree.specs.Pool.{map_of}
use Rattle.tree.proofs.Cases.{test}
use Rattle.tree.proofs.Tests.{said}
use Rattle.tree.proofs.Lists.{keeps}
use Rattle.tree.proofs.Lists as Lists
use Rattle.tree.proofs.Distinct.{distinct_by, distinct_keep, distinct_made}
use Rattle.tree.proofs.Trees.{distinct_trees}
use Rattle.tree.proofs.Memory.{apply_laws, settles, torn_whole, crash_none}
use Rattle.tree.proofs.OwnTables.{bad_or_not}
use Rattle.tree.proofs.Pool.{pool_laws}
use Rattle.tree.proofs.Laws.{sound_laws, node_laws}
use Rattle.tree.proofs.Trees.{in_trees, trees_reach}
use Rattle.book.specs.Heads.{idle_heads}
use Rattle.book.specs.Refusals.{◌gives◌}
use Rattle.book.specs.State.{State, recover, Work, leaving}
use Rattle.book.specs.Checks.{bad_map, not_sound, refusals}
use Rattle.tree.specs.Subtree.{nodes_of}
use Rattle.tree.specs.Recovery.{recover_stores}
use Rattle.book.specs.Perform.{granted, perform}
use Rattle.book.specs.Table.{Reel}
use Rattle.book.specs.Agrees.{Agrees, Reached}
use Rattle.book.specs.Histories.{carried_out, done, Interrupted, Attempts, none_yet, refused, interrupted, Recovered}
use Rattle.book.specs.Fixed.{Corrects}
use Rattle.book.proofs.Modules.{our_crash}
use Rattle.book.proofs.Refusals.{Denies, denies, denied, passed_all, refused_here, refused_later}
use Rattle.book.proofs.Performed.{answer_is, work_granted}
use Rattle.book.proofs.Demand1.{demand1}
use Rattle.book.proofs.Done.{carried_leaving, done_granted, refused_image, done_image}
use Rattle.book.proofs.View.{Header, View}
use Rattle.book.proofs.Mended.{Mends, Mended, kept, mended_reached, mended_view}
use Rattle.book.proofs.Settled.{idle_table, Settled, agrees_settled}

-- ---- the nodes of all trees are those reached

module _ (g : Geometry) (m : Memory) where
  reached_in : (v : Visit) → Memᴰ v (all_trees g m) → Reached g m v.node
  reached_in v x = let t = trees_reach g m x in record { slot = t.0; way = v.way; there = t.1 }

  pub nodes_reached : (n : ℕ) → Memᴰ n (nodes_of (all_trees g m)) ↔ Reached g m n
  unfolding nodes_of
  nodes_reached n = (
    λ x. let t = Memᴰ.of_map (λ v. v.node) (all_trees g m) x in rw (← t.2) (reached_in t.0 t.1),
    λ r. Memᴰ.map (λ v. v.node) (in_trees g m r.there),
  )

  -- ---- its stores: differing locate words of reached nodes, each to the node's set word

  pub corrects_stored : (i v : ℕ) → Memᴰ (i, v) (recover_stores g m) ↔ Corrects g m i v
  unfolding recover_stores
  corrects_stored i v = (
    λ x.
        let t = Memᴰ.of_map {A = Visit} {B = Store} (λ v. (locate_at g v.node, m (set_at g v.node))) _ x in
        let k = Lists.kept _ (all_trees g m) t.1 in
        record {
          node = t.0.node;
          reached = reached_in t.0 k.0;
          at = sym (ap (λ s. s.0) t.2);
          differs = eqb-false _ _ (not-true _ k.1);
          is = sym (ap (λ s. s.1) t.2);
        },
    λ c. Memᴰ.cast (ap₂ (λ i v. (i, v)) c.at c.is)
        (Memᴰ.map (λ v. (locate_at g v.node, m (set_at g v.node))) (keeps _ (in_trees g m c.reached.there) (rw (ne_eqb _ _ c.differs) refl))),
  )

  -- no word twice
  pub stored_once : {r : Rule} → Sound r g m → Distinct (λ w. w.0) (recover_stores g m)
  unfolding recover_stores
  stored_once a =
      let d = distinct_trees g m (record { well_formed_lem = λ x. a.well_formed_lem x; once = λ x y. a.once x y }) in
      distinct_made _ _ (distinct_by _ (distinct_keep _ d) (λ u v x y q. omega arith))

-- the image as recovery leaves it
abbrev pub mended_image : Geometry → List ℕ → List ℕ
mended_image g im = apply im (stores (recover_stores g (reads im)))

mends : {g : Geometry} {m : Memory} {i v : ℕ} → Corrects g m i v → Mends g m i v
mends c = record { node = c.node; reached = c.reached; at = c.at; is = c.is }

module _ (g : Geometry) (im : List ℕ) where
  pub mended_words : Mended g (reads im) (reads (mended_image g im))
  mended_words = record {
    each = λ i. elim ((torn_whole im (recover_stores g (reads im))).each i) [ inl q ↦ inl q | inr x ↦ inr (mends ((corrects_stored g (reads im) i _).0 x)) ];
  }

  -- a reached node's locate word is its set word then
  pub now_equal : {n : ℕ} → Reached g (reads im) n → locate_at g n < length im → reads (mended_image g im) (locate_at g n) ≡ reads im (set_at g n)
  now_equal {n} r l =
      settles im (recover_stores g (reads im)) (locate_at g n) (reads im (set_at g n)) l
      (λ u x. let t = (corrects_stored g (reads im) (locate_at g n) u).0 x in let e : t.node ≡ n = omega (arith, t.at) in t.is ∙ ap (λ k. reads im (set_at g k)) e)
      (elim (ℕ_discrete (reads im (locate_at g n)) (reads im (set_at g n))) [ yes q ↦ inl q | no h ↦ inr ((corrects_stored g (reads im) _ _).1 (record { node = n; reached = r; at = refl; differs = h; is = refl })) ])

-- ---- what recovery answers and leaves

pub sound_test : (m : Memory) → (holds (not_sound m) ≡ false) ↔ SoundImage m
sound_test m =
    let l = (sound_laws (rule_of m) (geometry_of m) m).image in (
      λ h. let d = denies (not_sound m) h in record { good_table = (bad_or_not m).0 (denied (bad_own m) d.0); sound = l.0 (not-false _ d.1) },
      λ a. denied (not_sound m) (denies (bad_own m) ((bad_or_not m).1 a.good_table), rw (l.1 a.sound) refl),
    )

pub recover_refusals : (words : ℕ) (r : State) → refusals (recover words) r ≡
    (bad_image (length r.image) (geometry_of (reads r.image)) gives 1)
    ∷ (bad_edition (reads r.image) gives 2)
    ∷ (bad_map (geometry_of (reads r.image)) words gives 3)
    ∷ (not_sound (reads r.image) gives 4)
    ∷ []
unfolding refusals
recover_refusals words r = refl

-- an image with a right header is no bad image
pub good_image : {g : Geometry} {o : Bool} {im : List ℕ} → Header g o im → Denies (bad_image (length im) g)
unfolding bad_image in_range
good_image h = omega (arith, h.words, h.in_range_lem)

pub recover_answers : {g : Geometry} {o : Bool} {rs : List Reel} (r : State) → View g o r.image rs → (words : ℕ)
    → (perform (recover words) r).answer ≡ cond (eqb words (map_words g)) 0 3
recover_answers {g} r v words =
    let h = v.header in
    let m = reads r.image in
    let sound = denies (not_sound m) ((sound_test m).1 (record { good_table = (bad_or_not m).0 h.good_table; sound = rw h.geometry v.sound })) in
    rw (answer_is, recover_refusals, h.geometry) (elim (test (eqb words (map_words g))) [
      | inl e ↦ rw e (passed_all _ (good_image h, (h.edition, (eqb-true words (map_words g) e, (rw h.geometry at sound, tt)))))
      | inr e ↦ rw e (
          refused_later _ _ (denied (bad_image (length r.image) g) (good_image h))
          ∙ refused_later _ _ (denied (bad_edition m) h.edition)
          ∙ refused_here _ _ (said (bad_map g words) (eqb-false words (map_words g) e)))
    ])

pub granted_recover : (words : ℕ) (r : State) → granted (recover words) r ≡ leaving (record {
  image = mended_image (geometry_of (reads r.image)) r.image;
  pool = map_of (geometry_of (reads r.image)) (nodes_of (all_trees (geometry_of (reads r.image)) (reads r.image)));
  heads = idle_heads;
})
unfolding granted
granted_recover words r = refl

-- the image that a recovery writes itself, refused or answered; it hands out no script
pub record Writes (r : State) (w : Work) : Type 0 where
  pub script : w.script ≡ []
  pub image : Mended (geometry_of (reads r.image)) (reads r.image) (reads w.after.image)

pub recover_writes : (words : ℕ) (r : State) → Writes r (perform (recover words) r).work
recover_writes words r = elim (ℕ_discrete (perform (recover words) r).answer 0) [
  | yes h ↦ let q = work_granted (recover words) r h ∙ granted_recover words r in record { script = rw q refl; image = rw q (mended_words _ r.image) }
  | no h ↦ record {
    script = (demand1.refused (recover words) r h).no_store;
    image = record { each = λ i. inl (ap (λ x. reads x i) (refused_image (recover words) r h)) };
  }
]

-- interrupted: each word old or new
pub interrupted_mended : {on : Module} (words : ℕ) (r : State) (k : ℕ) (m' : List ℕ) → Interrupted on (recover words) r k m'
    → (length m' ≡ length r.image) × Mended (geometry_of (reads r.image)) (reads r.image) (reads m')
interrupted_mended words r k m' c =
    let w = recover_writes words r in
    let e : m' ≡ c.itself = crash_none c.itself _ m' (rw w.script at (our_crash c)) in
    rw e (c.same_length, record { each = λ i. elim (c.old_or_new i) [ inl q ↦ inl q | inr q ↦ rw q (w.image.each i) ] })

module _ {g : Geometry} {o : Bool} {rs : List Reel} where
  pub interrupted_view : {on : Module} (words : ℕ) (r : State) (k : ℕ) (m' : List ℕ) → View g o r.image rs → Interrupted on (recover words) r k m' → View g o m' rs
  interrupted_view words r k m' v c = let a = interrupted_mended words r k m' c in mended_view v a.0 (rw v.header.geometry at a.1)

  -- a reached node is inside the pool
  inside : {im : List ℕ} {n : ℕ} → View g o im rs → Reached g (reads im) n → n < g.nodes
  inside {im} {n} v r = (((node_laws g (reads im)).facts (length r.way) n).0 (v.sound.well_formed_lem r.there)).inside

  -- answered: the map and the locate words as the nodes reached and the set words have them
  settled_image : (im : List ℕ) → View g o im rs → Settled g o (mended_image g im) (map_of g (nodes_of (all_trees g (reads im)))) rs
  settled_image im v =
      let a = mended_words g im in
      record {
        view = mended_view v (apply_laws.length_apply im (stores (recover_stores g (reads im)))) a;
        map_words_lem = pool_laws.length-map g (nodes_of (all_trees g (reads im)));
        marks = λ n.
            let t = pool_laws.map g (nodes_of (all_trees g (reads im))) n (λ k x. inside v ((nodes_reached g (reads im) k).0 x)) in
            let b = nodes_reached g (reads im) n in
            (λ e. (mended_reached a).0 (b.0 (t.0 e)), λ r. t.1 (b.1 ((mended_reached a).1 r)));
        equal = λ n r.
            let r' = (mended_reached a).1 r in
            now_equal g im r' (omega (arith, inside v r', v.header.words)) ∙ kept a (set_at g n) (λ k. omega arith);
      }

  pub recovered_agrees : (words : ℕ) (r : State) → View g o r.image rs → (perform (recover words) r).answer ≡ 0
      → Agrees (done (recover words) r) (idle_table g o rs)
  recovered_agrees words r v h =
      let q = done_granted (recover words) r h ∙ ap carried_out (granted_recover words r) ∙ carried_leaving _ in
      rw (q, v.header.geometry) (agrees_settled (settled_image r.image v))

  pub attempts_view : {on : Module} {m m' : List ℕ} → Attempts on m m' → View g o m rs → View g o m' rs
  attempts_view none_yet v = v
  attempts_view (refused words s q h a) v =
      attempts_view a (rw (done_image (recover words) s h ∙ q) v)
  attempts_view (interrupted words s k q c a) v = attempts_view a (interrupted_view words s k _ (rw q v) c)

  pub recovered_view : {m : List ℕ} {s' : State} {on : Module} → Recovered on m s' → View g o m rs → Agrees s' (idle_table g o rs)
  recovered_view c v = rw c.is (recovered_agrees c.words c.from (rw c.image (attempts_view c.attempts v)) c.answered)
