-- The step of Abandon: the locate bit goes, and the head is idle.
use mathlib.Core.Path.{◌≡◌, refl, sym, ◌∙◌, ap}
use mathlib.Core.Bool.{Bool, false}
use mathlib.Core.List.{List, [], ◌∷◌}
use Prim.Native.Nat.{ℕ, ◌<◌}
use native.Mathlib.Omega.{arith}
use Rattle.tree.specs.Memory.{Memory, reads, is_set, without_bit, Store, Fit, single, set_all}
use Rattle.tree.specs.declared.layout.Geometry.{Geometry}
use Rattle.tree.specs.Layout.{geometry_of, locate_at, set_at}
use Rattle.tree.specs.Node.{held}
use Rattle.tree.specs.Same.{Stores}
use Rattle.tree.proofs.Memory.{bit_laws}
use Rattle.book.specs.declared.Target.{Target}
use Rattle.book.specs.declared.HeadState.TheVariants as heads
use Rattle.book.specs.Heads.{head_count, head_at, is_idle, target_of, with_head}
use Rattle.book.specs.State.{State, abandon, arguments}
use Rattle.book.specs.Checks.{refusals}
use Rattle.book.specs.Perform.{granted, writing, perform}
use Rattle.book.specs.Table.{Table, Reel, idle, table_work}
use Rattle.book.specs.Agrees.{Claims, Agrees}
use Rattle.book.proofs.Refusals.{passes}
use Rattle.book.proofs.Performed.{answer_is}
use Rattle.book.proofs.View.{View}
use Rattle.book.proofs.Step.{Step}
use Rattle.book.proofs.Stored.{stores_set, node_inside}
use Rattle.book.proofs.Reading.{claim_of}
use Rattle.book.proofs.Heads.{about_target}
use Rattle.book.proofs.Sames.{view_locate}
use Rattle.book.proofs.Showing.{shows_view}
use Rattle.book.proofs.Keeps.{Within, within_frames, within_keeping}
use Rattle.book.proofs.OnePlace.{OnePlace, locate_place, locate_within}
use Rattle.book.proofs.Replaced.{claim_formed, retabled, idled}
use Rattle.book.proofs.Single.{agrees_by, left_old, agrees_new, step_of}

-- ---- what it does

-- one store
abbrev clearing : Geometry → Memory → Target → List Store
clearing g m x = (locate_at g x.node, without_bit (m (locate_at g x.node)) x.place) ∷ []

module _ (script h : ℕ) (s : State) where
  abandon_passes : (perform (abandon script h) s).answer ≡ 0 → (h < head_count) × (is_idle (head_at s.heads h) ≡ false)
  unfolding refusals
  abandon_passes e =
      let p = passes (refusals (abandon script h) s) (omega arith) (sym (answer_is (abandon script h) s) ∙ e) in
      (p.1.1.1.1.0, p.1.1.1.1.1.0)

  abandon_granted : granted (abandon script h) s ≡ writing (single (clearing (geometry_of (reads s.image)) (reads s.image) (target_of (head_at s.heads h))))
      (record { image = s.image; pool = s.pool; heads = with_head s.heads h heads.Idle })
  unfolding granted
  abandon_granted = refl

abandon_table : (script h : ℕ) (t : Table) → (table_work (abandon script h) t).after ≡ retabled t t.reels h idle
unfolding table_work
abandon_table script h t = refl

-- ---- the image after it

module _ {g : Geometry} {o : Bool} {im : List ℕ} {rs : List Reel} {x : Target} {reel f : ℕ} (v : View g o im rs) (c : Claims g (reads im) x reel f) where
  abbrev cleared : List ℕ
  cleared = set_all im (clearing g (reads im) x)

  stored : Stores (reads im) (locate_at g x.node) (without_bit (reads im (locate_at g x.node)) x.place) (reads cleared)
  stored = stores_set im _ _ (node_inside x.node 1 v.header (claim_formed v.sound c).inside (omega arith))

  view : View g o cleared rs
  view = view_locate v c.on_path_lem _ (bit_laws.without_fits _ _ _ (claim_formed v.sound c).locate)

  place : OnePlace g (reads im) (reads cleared) x.node x.place
  place = locate_place x.node x.place stored (λ q d. sym (bit_laws.without_keeps _ x.place q d))

  within : Within g (reads im) (reads cleared)
  within = locate_within x.node x.place stored

  -- neither located nor held
  bits : is_set (reads cleared (locate_at g x.node)) x.place ≡ held g (reads cleared) x.node x.place
  bits =
      ap (λ w. is_set w x.place) stored.new ∙ bit_laws.without_clears _ x.place
      ∙ sym (ap (λ w. is_set w x.place) (sym (stored.old (set_at g x.node) (λ q. omega arith))) ∙ c.not_set)

pub step_abandon : {s : State} {t : Table} → Agrees s t → (script h : ℕ) → Fit (arguments (abandon script h)) → (perform (abandon script h) s).answer ≡ 0
    → Step (abandon script h) s t
step_abandon {s} {t} a script h fits e =
    let p = abandon_passes script h s e in
    let c = claim_of (a.heads h p.0) p.1 in
    let v = shows_view a.shows in
    let im = cleared v c in
    step_of (clearing (geometry_of (reads s.image)) (reads s.image) (target_of (head_at s.heads h))) s.pool (with_head s.heads h heads.Idle)
    (retabled t t.reels h idle) a.shows (abandon_granted script h s) (abandon_table script h t)
    (left_old a.shows (view v c) (within_keeping (within v c)), tt)
    (agrees_new a.shows (view v c) refl refl (idled (agrees_by a) p.0 (about_target _ p.1) im v.sound (place v c)
    (λ slot f z. within_frames (within v c)) t.reels (bits v c)))
