-- A reel's frames held, claimed and filled: each is counted once, and a claim whose path is full to its end makes them more than 64.
use mathlib.Core.Path.{◌≡◌, refl, sym, ◌∙◌, ap, subst}
use mathlib.Core.Bool.{true}
use mathlib.Core.Logic.{inl, inr, ◌≢◌}
use mathlib.Core.List.Memᴰ
use mathlib.Core.List.{List, [], ◌∷◌, map, Memᴰ}
use Prim.Native.Nat.{ℕ, ◌<◌}
use native.Mathlib.Omega.{arith}
use native.Mathlib.Decide.{dec_lt}
use lib.ListN.{length, length-map}
use borrow.Author.Tests.{eqb-true, eq-eqb}
use Rattle.tree.specs.Memory.{Memory}
use Rattle.tree.specs.Lists.{Distinct, empty, onto, up_to, keep}
use Rattle.tree.specs.declared.layout.Geometry.{Geometry}
use Rattle.tree.specs.Path.{way_of}
use Rattle.tree.specs.Node.{held, frame}
use Rattle.tree.specs.Reach.{Reaches, Holds, FrameOf}
use Rattle.tree.proofs.Cases.{test, true_not_false, seen, nothing, just}
use Rattle.tree.proofs.Lists.{at_index, index_of, up_to_members, kept, keeps, keep_none}
use Rattle.tree.proofs.Distinct.{distinct_append, distinct_at, distinct_by, distinct_map, distinct_up_to}
use Rattle.tree.proofs.Pigeon.{length_up_to}
use Rattle.tree.proofs.Laws.{tree_laws}
use Rattle.book.specs.declared.Target.{Target}
use Rattle.book.specs.declared.HeadState.{HeadState}
use Rattle.book.specs.Heads.{head_count, head_at}
use Rattle.book.specs.State.{State, memory, shape}
use Rattle.book.specs.Table.{Table, TableHead, idle, claimed, frames_in, frames_of, frame_of, is_about, is_present, table_head, with_reels, with_table_head}
use Rattle.book.specs.Agrees.{Agrees, About, by_claim, by_fill, Claims, ClaimsPlace, HeadAgrees, both_idle, both_claimed, both_filled}
use Rattle.book.specs.Ways.{SlotHas, FullPath}
use Rattle.book.specs.PathNodes.{in_use}
use Rattle.book.proofs.Reading.{no_longer, one_slot, slot_has, same_frames, claim_of, claim_slot, same_names}
use Rattle.book.proofs.Heads.{target_about, one_target, idle_nothing, names_about, table_head_written, table_head_stays, length_with_table}
use Rattle.book.proofs.Level31.{one_place}
use Rattle.book.proofs.Claiming.{Asked}

-- ---- the frames that heads are about

abbrev by_heads : Table → (reel : ℕ) → List ℕ
by_heads t reel = map frame_of (keep (is_about reel) t.heads)

-- a head of the table that is about the reel: its frame is among them
counted_head : (t : Table) (reel k : ℕ) → k < length t.heads → is_about reel (table_head t k) ≡ true → Memᴰ (frame_of (table_head t k)) (in_use t reel)
unfolding in_use
counted_head t reel k l e = Memᴰ.append_right (frames_of t reel) (Memᴰ.map frame_of (keeps (is_about reel) (at_index idle t.heads k l) e))

counted_frame : (t : Table) (reel : ℕ) {f : ℕ} → Memᴰ f (frames_of t reel) → Memᴰ f (in_use t reel)
unfolding in_use
counted_frame t reel x = Memᴰ.append_left (by_heads t reel) x

-- ---- a book that agrees with a table

module _ {s : State} {t : Table} (a : Agrees s t) where
  abbrev g : Geometry
  g = shape s

  abbrev m : Memory
  m = memory s

  -- a head that the table has about a reel claims its frame there
  of_head : {reel k : ℕ} → k < head_count → is_about reel (table_head t k) ≡ true
      → (u : Target) × About u (head_at s.heads k) × Claims g m u reel (frame_of (table_head t k))
  of_head {reel} {k} l e = go (a.heads k l) e
    where
      go : {x : HeadState} {y : TableHead} → HeadAgrees g m x y → is_about reel y ≡ true → (u : Target) × About u x × Claims g m u reel (frame_of y)
      go both_idle q = absurd (true_not_false refl (sym q))
      go (both_claimed {t = u} {reel = r} {f} c) q = (u, by_claim, subst (λ i. Claims g m u i f) (eqb-true r reel q) c)
      go (both_filled {t = u} {reel = r} {f} c w) q = (u, by_fill, subst (λ i. Claims g m u i f) (eqb-true r reel q) c)

  frame_held : {reel slot f : ℕ} → SlotHas g m reel slot → Memᴰ f (frames_of t reel) → FrameOf g m slot f
  frame_held {f = f} b x = ((tree_laws b.open_slot).listed f).0 (((same_frames a.shows b).same f).1 x)

  frames_once : (reel : ℕ) → Distinct (λ f. f) (frames_of t reel)
  unfolding frames_of is_present
  frames_once reel = elim (seen (frames_in reel t.reels)) [
    | nothing q ↦ rw q empty
    | just fs q ↦ (same_frames a.shows (slot_has a.shows reel (rw q refl))).once_too
  ]

  same_head : (reel : ℕ) {i j : ℕ} → i < head_count → j < head_count → is_about reel (table_head t i) ≡ true → is_about reel (table_head t j) ≡ true
      → frame_of (table_head t i) ≡ frame_of (table_head t j) → i ≡ j
  same_head reel {i} {j} l l' e e' q =
      let x = of_head l e in
      let y = of_head l' e' in
      let slots = one_slot a.shows (claim_slot a.shows x.2) (claim_slot a.shows y.2) in
      a.apart i j l l' x.1 y.1 (inr (slots, x.2.of_frame ∙ q ∙ sym y.2.of_frame))

  -- each frame in use is counted once
  pub once_each : (reel : ℕ) → Distinct (λ f. f) (in_use t reel)
  unfolding in_use
  once_each reel = distinct_append (frames_once reel)
      (distinct_map (distinct_at idle frame_of (is_about reel) t.heads (λ i j l l'. same_head reel (rw a.table_heads at l) (rw a.table_heads at l'))))
      (λ x y z z' q.
      let w = Memᴰ.of_map frame_of (keep (is_about reel) t.heads) z' in
      let k = kept (is_about reel) t.heads w.1 in
      let i = index_of idle k.0 in
      let h = of_head (rw a.table_heads at i.1) (ap (is_about reel) i.2 ∙ k.1) in
      let same : x ≡ frame_of (table_head t i.0) = q ∙ sym w.2 ∙ sym (ap frame_of i.2) in
      h.2.not_held (rw same at (frame_held (claim_slot a.shows h.2) z)))

  -- a reel that is in no slot has none as it is opened
  pub none_yet : (reel : ℕ) → ((slot : ℕ) → SlotHas g m reel slot → ⊥) → in_use (with_reels t (record { number = reel; frames = [] } ∷ t.reels)) reel ≡ []
  unfolding in_use frames_of frames_in
  none_yet reel absent = rw (
    eq-eqb reel reel refl,
    keep_none (is_about reel) t.heads (λ x y. elim (test (is_about reel x)) [
      | inl e ↦
          let i = index_of idle y in
          let h = of_head (rw a.table_heads at i.1) (ap (is_about reel) i.2 ∙ e) in
          absurd (absent _ (claim_slot a.shows h.2))
      | inr e ↦ e
    ]),
  ) refl

  -- ---- a path that is full to its end

  module _ {h reel f slot d : ℕ} (q : Asked s t h reel f slot) (x : FullPath g m slot f d) where
    abbrev n : ℕ
    n = x.last

    abbrev t' : Table
    t' = with_table_head t h (claimed reel f)

    -- a head at the last node is about the reel
    slot_there : {k p : ℕ} (c : ClaimsPlace s.heads k n p) → c.target.slot ≡ slot
    slot_there {k} c =
        let u = target_about c.about in
        let y = rw u.1 at (claim_of (a.heads k c.low) u.0) in
        (a.shows.sound.once y.on_path_lem (subst (Reaches g m slot (way_of d f)) (sym c.node) x.there)).0

    about_reel : {k p : ℕ} → ClaimsPlace s.heads k n p → is_about reel (table_head t k) ≡ true
    about_reel {k} c = sym (same_names a.shows q.has (a.heads k c.low)) ∙ (names_about slot (head_at s.heads k)).1 (c.target, c.about, slot_there c)

    -- a located place's frame: the one held there, or the one that a head claims there
    data Located (p : ℕ) : ℕ → Type 0 where
      by_frame : held g m n p ≡ true → Located p (frame g m n p)
      by_head : {k : ℕ} → ClaimsPlace s.heads k n p → Located p (frame_of (table_head t k))

    located : (p : ℕ) → p < 64 → (c : ℕ) × Located p c
    located p l =
        let full = x.full d n (omega arith) x.there p (omega (arith, x.wide)) in
        elim ((a.locates n p (record { slot = slot; way = way_of d f; there = x.there }) l).0 full) [
          | inl e ↦ (_, by_frame e)
          | inr c ↦ (_, by_head c.1)
        ]

    frame_at_place : ℕ → ℕ
    frame_at_place p = elim (dec_lt p 64) [ yes l ↦ (located p l).0 | no l ↦ 0 ]

    at_place : (p : ℕ) → p < 64 → Located p (frame_at_place p)
    unfolding frame_at_place
    at_place p l = elim (dec_lt p 64) as (λ z. Located p (elim z [ yes l ↦ (located p l).0 | no l ↦ 0 ])) [ yes l ↦ (located p l).1 | no l' ↦ absurd (l' l) ]

    holds_at : {p : ℕ} → p < 64 → held g m n p ≡ true → Holds g m slot (way_of d f) n p (frame g m n p)
    holds_at l e = record { there = x.there; place = l; set = e; is = refl }

    frame_there : {p : ℕ} → p < 64 → held g m n p ≡ true → FrameOf g m slot (frame g m n p)
    frame_there l e = record { way = _; node = _; place = _; holds = holds_at l e }

    -- a claimed frame is not held
    claimed_apart : {k p p' : ℕ} → ClaimsPlace s.heads k n p → p' < 64 → held g m n p' ≡ true → frame g m n p' ≢ frame_of (table_head t k)
    claimed_apart c l e z =
        let y = of_head c.low (about_reel c) in
        let there = one_target y.1 c.about in
        y.2.not_held (rw (← z, there, slot_there c) (frame_there l e))

    once : {p p' c c' : ℕ} → p < 64 → p' < 64 → Located p c → Located p' c' → c ≡ c' → p ≡ p'
    once {p' = p'} l l' (by_frame e) (by_frame e') z =
        (a.shows.sound.frame_once (holds_at l e) (subst (Holds g m slot (way_of d f) n p') (sym z) (holds_at l' e'))).1
    once l l' (by_frame e) (by_head c) z = absurd (claimed_apart c l e z)
    once l l' (by_head c) (by_frame e) z = absurd (claimed_apart c l' e (sym z))
    once l l' (by_head {k} c) (by_head {k = k'} c') z =
        let i = a.apart k' k c'.low c.low c'.about c.about (inl (c'.node ∙ sym c.node)) in
        one_place c (rw i at c')

    -- the new claim's frame is none of them
    other : {p c : ℕ} → p < 64 → Located p c → c ≢ f
    other l (by_frame e) z = q.absent (rw z at (frame_there l e))
    other l (by_head {k} c) z =
        let y = of_head c.low (about_reel c) in
        q.other_frame k c.low y.1 (rw (one_target y.1 c.about) (slot_there c)) (y.2.of_frame ∙ z)

    -- all of them are in use then
    in_use_lem : {p c : ℕ} → p < 64 → Located p c → Memᴰ c (in_use t' reel)
    unfolding frames_of
    in_use_lem l (by_frame e) =
        counted_frame t' reel (((same_frames a.shows q.has).same _).0 (((tree_laws q.has.open_slot).listed _).1 (frame_there l e)))
    in_use_lem l (by_head {k} c) =
        let o : k ≢ h = λ z. idle_nothing q.idle (rw z at c.about) in
        let stays = table_head_stays t h k (claimed reel f) o in
        Memᴰ.cast (ap frame_of (sym stays)) (counted_head t' reel k (rw (length_with_table, a.table_heads) c.low) (rw stays (about_reel c)))

    claims_too : Memᴰ f (in_use t' reel)
    claims_too =
        let new = table_head_written t h (claimed reel f) (rw a.table_heads q.low) in
        Memᴰ.cast (ap frame_of (sym new)) (counted_head t' reel h (rw (length_with_table, a.table_heads) q.low) (rw new (eq-eqb reel reel refl)))

    abbrev frames : List ℕ
    frames = f ∷ map frame_at_place (up_to 64)

    low : {p : ℕ} → Memᴰ p (up_to 64) → p < 64
    low y = (up_to_members 64).0 y

    frames_apart : Distinct (λ c. c) frames
    frames_apart = onto
        (λ y z e. let w = Memᴰ.of_map frame_at_place (up_to 64) z in other (low w.1) (at_place w.0 (low w.1)) (w.2 ∙ e))
        (distinct_map (distinct_by frame_at_place (distinct_up_to 64) (λ p p' z z'. once (low z) (low z') (at_place p (low z)) (at_place p' (low z')))))

    frames_counted : (c : ℕ) → Memᴰ c frames → Memᴰ c (in_use t' reel)
    frames_counted c z = elim (Memᴰ.cases_cons z) [
      | inl e ↦ Memᴰ.cast e claims_too
      | inr y ↦ let w = Memᴰ.of_map frame_at_place (up_to 64) y in Memᴰ.cast (sym w.2) (in_use_lem (low w.1) (at_place w.0 (low w.1)))
    ]

    -- the 64 of the last node, and the new one
    pub more_than_64 : 64 < length (in_use t' reel)
    more_than_64 = omega (arith, no_longer frames_apart frames_counted, length-map (up_to 64) frame_at_place, length_up_to 64)
