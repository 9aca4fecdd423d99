-- Converting from edition 1 to 2 and back, proved: the second image is what an image that is taken is turned into.
use mathlib.Core.Path.{◌≡◌, refl, sym, ◌∙◌, ap, subst}
use mathlib.Core.Bool.{false}
use mathlib.Core.Logic.{inl, inr}
use mathlib.Core.Option.{some}
use mathlib.Core.List.{List, [], ◌∷◌}
use Prim.Native.Nat.{ℕ, ◌^◌, ◌<◌}
use native.Mathlib.Omega.{arith}
use native.Mathlib.Decide.{ℕ_discrete}
use lib.ListN.{length}
use lib.Seq.{ext_get_or}
use lib.Dec.{leb}
use borrow.Author.Tests.{leb-false}
use Rattle.tree.specs.Memory.{Memory, reads, stores, apply, Module}
use Rattle.tree.specs.Test.{lt, le}
use Rattle.tree.specs.declared.layout.Geometry.{Geometry}
use Rattle.tree.specs.Layout.{bad_image, bad_edition, in_range, map_words, edition_at, geometry_of, reel_at}
use Rattle.tree.specs.Fingerprint.{has_own, rule_of}
use Rattle.tree.specs.Slots.{Filled, slot_of}
use Rattle.tree.specs.Sound.{SoundImage}
use Rattle.tree.specs.Subtree.{listing}
use Rattle.tree.specs.Convert.{other_edition, converted, converted_image}
use Rattle.tree.specs.ConvertLaws.{ConvertLaws, SameBook}
use Rattle.tree.proofs.Cases.{test, none_some, some_inj}
use Rattle.tree.proofs.OwnTables.{bad_or_not}
use Rattle.tree.proofs.Laws.{slot_laws, sound_laws, node_laws, convert_laws, converted_image_lem}
use Rattle.tree.specs.Recovery.{recover_stores}
use Rattle.tree.proofs.Memory.{crash_none, segment_laws}
use Rattle.book.specs.Refusals.{Refusal, ◌gives◌, refusal}
use Rattle.book.specs.State.{State, Operation, format, recover, open_reel, claim, fill, commit, abandon, remove, retire, tidy, query, Query, has, list, convert, memory, shape}
use Rattle.book.specs.Checks.{bad_map, not_sound, query_refusals, refusals}
use Rattle.book.specs.Perform.{granted, leaves, perform}
use Rattle.book.specs.Table.{Table}
use Rattle.book.specs.Agrees.{IsEdition, Shows}
use Rattle.book.specs.Held.{table_of}
use Rattle.book.specs.Histories.{Interrupted, none_yet, Starts, found}
use Rattle.book.specs.Demands.{Demand3}
use Rattle.book.specs.Conversions.{Writes, written, Converts, OtherEdition, to_2, to_1, ListsAlike, Converted, ThereAndBack, Conversions}
use Rattle.book.proofs.Modules.{our_crash}
use Rattle.book.proofs.Refusals.{Denies, denies, denied, passes, passed_all}
use Rattle.book.proofs.Performed.{answer_is, work_granted, work_refused}
use Rattle.book.proofs.Demand1.{demand1}
use Rattle.book.proofs.Done.{refused_image}
use Rattle.book.proofs.Recovery.{sound_test, recover_refusals, granted_recover}
use Rattle.book.proofs.Assembly.{itself_same}
use Rattle.book.proofs.Held.{held_shown, idle_held}
use Rattle.book.proofs.Sample.{words_fit}
use Rattle.book.proofs.StepRead.{query_after}

-- ---- an image that a conversion takes

record Taken (im : List ℕ) : Type 0 where
  header : Denies (bad_image (length im) (geometry_of (reads im)))
  edition : IsEdition (reads im edition_at)
  sound : SoundImage (reads im)
  no_own : has_own (reads im) ≡ false

edition_fits : {e : ℕ} → IsEdition e → e < 2 ^ 64
edition_fits (inl q) = omega arith
edition_fits (inr q) = omega arith

other_edition_lem : (e : ℕ) → IsEdition e
    → IsEdition (other_edition e) × (other_edition (other_edition e) ≡ e) × OtherEdition e (other_edition e)
unfolding other_edition
other_edition_lem e (inl q) = rw q (inr refl, refl, to_2)
other_edition_lem e (inr q) = rw q (inl refl, refl, to_1)

module _ {im : List ℕ} (a : Taken im) where
  abbrev m : Memory
  m = reads im

  abbrev g : Geometry
  g = geometry_of m

  abbrev other : ℕ
  other = other_edition (m edition_at)

  abbrev copy : List ℕ
  copy = converted_image im

  laws : ConvertLaws other g m
  laws = convert_laws other g m

  -- its words are those of the definition
  words_are : reads copy ≡ converted other g m
  unfolding bad_image
  words_are = (converted_image_lem im).words a.header.1
      (λ s n w r. (((node_laws g m).facts (length w) n).0 (a.sound.sound.well_formed_lem r)).inside)

  geometry_same : geometry_of (reads copy) ≡ g
  geometry_same = ap geometry_of words_are ∙ laws.geometry

  edition_is : reads copy edition_at ≡ other
  edition_is = ap (λ (w : Memory). w edition_at) words_are ∙ laws.words.edition

  copy_sound : SoundImage (reads copy)
  copy_sound = rw words_are (record {
    good_table = (bad_or_not (converted other g m)).0 laws.by_edition.good_table;
    sound = rw (laws.by_edition.rule, laws.geometry) (laws.sound a.sound.sound);
  })

  -- so the copy can be taken too
  copy_taken : Taken copy
  copy_taken = record {
    header = rw ((converted_image_lem im).same_length, geometry_same) a.header;
    edition = rw edition_is (other_edition_lem (m edition_at) a.edition).0;
    sound = copy_sound;
    no_own = rw words_are laws.by_edition.no_own;
  }

-- there and back: the image's own edition, made anew
back_words : {im : List ℕ} (a : Taken im)
    → reads (converted_image (converted_image im)) ≡ converted (reads im edition_at) (geometry_of (reads im)) (reads im)
back_words {im} a =
    let e = reads im edition_at in
    let g = geometry_of (reads im) in
    words_are (copy_taken a)
    ∙ rw (edition_is a, geometry_same a, (other_edition_lem e a.edition).1)
    (ap (λ w. converted e g w) (words_are a) ∙ (convert_laws e g (reads im)).through (other_edition e))

-- there, back and there: the copy again
copy_again : {im : List ℕ} → Taken im → converted_image (converted_image (converted_image im)) ≡ converted_image im
copy_again {im} a =
    let copy = converted_image im in
    let e = other_edition (reads im edition_at) in
    let g = geometry_of (reads im) in
    let same : reads (converted_image (converted_image copy)) ≡ reads copy =
    back_words (copy_taken a) ∙ rw (edition_is a, geometry_same a)
    (ap (λ w. converted e g w) (words_are a) ∙ (convert_laws e g (reads im)).through e ∙ sym (words_are a)) in
    ext_get_or 0 (converted_image (converted_image copy)) copy
    ((converted_image_lem (converted_image copy)).same_length ∙ (converted_image_lem copy).same_length)
    (λ i l. ap (λ (w : Memory). w i) same)

-- ---- the order

module _ (scratch copy : ℕ) (s : State) where
  abbrev op : Operation
  op = query (convert scratch copy)

  taken : (perform op s).answer ≡ 0 → Taken s.image
  unfolding refusals
  taken h =
      let p = passes (refusals op s) (omega arith) (sym (answer_is op s) ∙ h) in
      record {
        header = p.0.0;
        edition = p.1.0;
        sound = (sound_test (memory s)).0 (denied (not_sound (memory s)) p.1.1.1.0);
        no_own = p.1.1.1.1.0;
      }

  copied : (perform op s).answer ≡ 0 → (perform op s).work.handed.copy ≡ some (converted_image s.image)
  unfolding granted
  copied h = ap (λ w. w.handed.copy) (work_granted op s h)

-- an image that can be taken is, where the lengths are right
takes : (s : State) → Taken s.image → (perform (query (convert (map_words (shape s)) (length s.image))) s).answer ≡ 0
unfolding refusals
takes s a =
    let sound = denies (not_sound (memory s)) ((sound_test (memory s)).1 a.sound) in
    rw answer_is (passed_all _ ((a.header, refl), (a.edition, (refl, (sound, (a.no_own, tt))))))

-- what is written, and from what
made : {op : Operation} {s : State} {ws : List ℕ} → Writes op s ws → Taken s.image × (ws ≡ converted_image s.image)
made {s = s} (written {scratch} {copy} h c) = (taken scratch copy s h, some_inj (sym c ∙ copied scratch copy s h))

-- ---- Recover on the copy

recovers : (r : State) → Taken r.image → (perform (recover (map_words (shape r))) r).answer ≡ 0
recovers r a =
    let sound = denies (not_sound (memory r)) ((sound_test (memory r)).1 a.sound) in
    rw (answer_is, recover_refusals) (passed_all _ (a.header, (a.edition, (refl, (sound, tt)))))

not_mended : {im : List ℕ} (a : Taken im) (words : ℕ) (r : State) → r.image ≡ converted_image im
    → (perform (recover words) r).work.after.image ≡ converted_image im
not_mended {im} a words r q = elim (ℕ_discrete (perform (recover words) r).answer 0) [
  | yes h ↦
      let copy = converted_image im in
      let none : recover_stores (geometry_of (reads copy)) (reads copy) ≡ [] = rw (geometry_same a, words_are a) (laws a).settled in
      ap (λ w. w.after.image) (work_granted (recover words) r h ∙ granted_recover words r)
      ∙ rw q (ap (λ ss. apply copy (stores ss)) none ∙ segment_laws.apply_stores copy [])
  | no h ↦ refused_image (recover words) r h ∙ q
]

-- ---- List

-- on an image that is taken, no 1, 2 or 4
list_tests : Geometry → Memory → (scratch room reel : ℕ) → List Refusal
list_tests g m scratch room reel =
    let slot = slot_of g m reel in
    (bad_map g scratch gives 3) ∷ (le g.slots slot gives 5) ∷ (lt room (length (listing g m slot)) gives 14) ∷ []

has_slot : (g : Geometry) (m : Memory) (reel : ℕ) → leb g.slots (slot_of g m reel) ≡ false → Filled g m (slot_of g m reel)
has_slot g m reel e = ((slot_laws g m).reel reel (leb-false _ _ e)).0

list_tests_lem : {im : List ℕ} → Taken im → (scratch room reel : ℕ)
    → refusal (query_refusals (list scratch room reel) im) ≡ refusal (list_tests (geometry_of (reads im)) (reads im) scratch room reel)
unfolding refusal list_tests
list_tests_lem {im} a scratch room reel =
    let m = reads im in
    let g = geometry_of m in
    rw (denied (bad_image (length im) g) a.header, denied (bad_edition m) a.edition, (bad_or_not m).1 a.sound.good_table)
    (elim (test (leb g.slots (slot_of g m reel))) [
      | inl e ↦ rw e refl
      | inr e ↦
          let d = sound_laws (rule_of m) g m in
          rw (e, (d.tree (has_slot g m reel e)).1 (d.trees a.sound.sound)) refl
    ])

same_tests : (s s' : State) → shape s' ≡ shape s → SameBook (shape s) (memory s) (memory s') → (scratch room reel : ℕ)
    → refusal (list_tests (shape s') (memory s') scratch room reel) ≡ refusal (list_tests (shape s) (memory s) scratch room reel)
unfolding refusal list_tests
same_tests s s' q b scratch room reel = rw (q, b.slot_of_lem reel) (elim (test (leb (shape s).slots (slot_of (shape s) (memory s) reel))) [
  | inl e ↦ rw e refl
  | inr e ↦ rw (b.listings (has_slot (shape s) (memory s) reel e)) refl
])

lists_alike : (s s' : State) → Taken s.image → Taken s'.image → shape s' ≡ shape s → SameBook (shape s) (memory s) (memory s')
    → ListsAlike s s'
unfolding refusals granted
lists_alike s s' a a' q b scratch room reel =
    let op = query (list scratch room reel) in
    let g = shape s in
    let e : (perform op s').answer ≡ (perform op s).answer =
    answer_is op s' ∙ list_tests_lem a' scratch room reel ∙ same_tests s s' q b scratch room reel
    ∙ sym (list_tests_lem a scratch room reel) ∙ sym (answer_is op s) in (
      e,
      elim (ℕ_discrete (perform op s).answer 0) [
        | yes h ↦
            let p = passes (refusals op s) (omega arith) (sym (answer_is op s) ∙ h) in
            let f = ((slot_laws g (memory s)).reel reel p.1.1.1.1.0).0 in
            ap (λ w. w.handed) (work_granted op s' (e ∙ h))
            ∙ rw (q, b.slot_of_lem reel, b.listings f) (sym (ap (λ w. w.handed) (work_granted op s h)))
        | no h ↦ (demand1.refused op s' (λ z. h (sym e ∙ z))).none_handed ∙ sym (demand1.refused op s h).none_handed
      ],
    )

-- ---- the statements

there : (s : State) (ws : List ℕ) → Converts s ws → Converted s ws
there s ws c =
    let w = made c.writes in
    let a = w.0 in
    let n = (converted_image_lem s.image).same_length in
    rw w.1 (record {
      same_length = n;
      edition = rw (edition_is a) (other_edition_lem (memory s edition_at) a.edition).2;
      words = rw (edition_is a, words_are a) (laws a).words;
      sound = copy_sound a;
      same_book = rw (words_are a) (laws a).same_book;
      lists = λ r q. lists_alike s r a (rw q (copy_taken a)) (rw q (geometry_same a)) (rw (q, words_are a) (laws a).same_book);
      recovered = λ r q. rw (← geometry_same a, ← q) (recovers r (rw q (copy_taken a)));
      not_mended = not_mended a;
      taken = λ r q. rw (← geometry_same a, ← n, ← q) (takes r (rw q (copy_taken a)));
    })

and_back : (s s' : State) (ws ws' : List ℕ) → Converts s ws → s'.image ≡ ws → Converts s' ws' → ThereAndBack s ws'
and_back s s' ws ws' c q c' =
    let w = made c.writes in
    let a = w.0 in
    let l = convert_laws (memory s edition_at) (shape s) (memory s) in
    let b = subst (SameBook (shape s) (memory s)) (sym (back_words a)) l.same_book in
    rw ((made c'.writes).1, q, w.1) (record {
      edition = ap (λ (x : Memory). x edition_at) (back_words a) ∙ l.words.edition;
      same_book = b;
      lists = λ r q.
          lists_alike s r a (rw q (copy_taken (copy_taken a))) (rw q (geometry_same (copy_taken a) ∙ geometry_same a)) (rw q b);
    })

again : (s s' s'' : State) (ws ws' ws'' : List ℕ) → Converts s ws → s'.image ≡ ws → Converts s' ws' → s''.image ≡ ws'
    → Converts s'' ws'' → ws'' ≡ ws
again s s' s'' ws ws' ws'' c q c' q' c'' =
    let w = made c.writes in
    rw ((made c''.writes).1, q', (made c'.writes).1, q, w.1) (copy_again w.0)

-- ---- in a history

copy_shows : (s : State) (t : Table) (ws : List ℕ) → Shows s.image t → Converts s ws → Shows ws t
unfolding in_range
copy_shows s t ws v c =
    let w = made c.writes in
    let a = w.0 in
    let b = (laws a).same_book in
    rw w.1 (record {
      fits = λ i. subst (λ (x : Memory). x i < 2 ^ 64) (sym (words_are a))
          ((laws a).fits v.fits (edition_fits (other_edition_lem _ a.edition).0) i);
      edition = (copy_taken a).edition;
      in_range_lem = rw (geometry_same a) v.in_range_lem;
      words = rw ((converted_image_lem s.image).same_length, geometry_same a) v.words;
      slots = rw (geometry_same a) v.slots;
      nodes = rw (geometry_same a) v.nodes;
      own = (copy_taken a).no_own ∙ sym a.no_own ∙ v.own;
      good_table = rw (words_are a) (laws a).by_edition.good_table;
      sound = (copy_sound a).sound;
      reels = rw (geometry_same a, words_are a, b.reels) v.reels;
      frames = λ k r f x q.
          let f' = b.filled.0 (rw (geometry_same a, words_are a) at f) in
          let q' = sym (b.reel_words f') ∙ ap (λ (x : Memory). x (reel_at k)) (sym (words_are a)) ∙ q in
          rw (geometry_same a, words_are a, b.listings f') (v.frames k r f' x q');
    })

-- ---- power lost

query_leaves : (q : Query) (s : State) → (perform (query q) s).work.after ≡ s
unfolding granted leaves
query_leaves q s = elim (ℕ_discrete (perform (query q) s).answer 0) [
  | yes h ↦ ap (λ w. w.after) (work_granted (query q) s h)
  | no h ↦ ap (λ w. w.after) (work_refused (query q) s h)
]

no_script : (q : Query) (s : State) → (perform (query q) s).work.script ≡ []
unfolding granted
no_script q s = elim (ℕ_discrete (perform (query q) s).answer 0) [
  | yes h ↦ ap (λ w. w.script) (work_granted (query q) s h)
  | no h ↦ (demand1.refused (query q) s h).no_store
]

interrupted : {on : Module} (q : Query) (s : State) (k : ℕ) (m : List ℕ) → Interrupted on (query q) s k m → m ≡ s.image
interrupted q s k m c =
    crash_none c.itself _ m (rw (no_script q s) at (our_crash c)) ∙ itself_same c (ap (λ (x : State). x.image) (query_leaves q s))

-- ---- nothing else writes a second image

none_copied : (op : Operation) (s : State) (ws : List ℕ) → (perform op s).answer ≡ 0 → (granted op s).handed.copy ≡ some ws
    → Writes op s ws
unfolding granted
none_copied (format words table slots nodes) s ws h e = none_some e
none_copied (recover words) s ws h e = none_some e
none_copied (open_reel words script reel) s ws h e = none_some e
none_copied (claim words script i reel f) s ws h e = none_some e
none_copied (fill script i) s ws h e = none_some e
none_copied (commit script i) s ws h e = none_some e
none_copied (abandon script i) s ws h e = none_some e
none_copied (remove script reel f) s ws h e = none_some e
none_copied (retire words scratch script reel) s ws h e = none_some e
none_copied (tidy words scratch script reel) s ws h e = none_some e
none_copied (query (has reel f)) s ws h e = none_some e
none_copied (query (list scratch room reel)) s ws h e = none_some e
none_copied (query (convert scratch copy)) s ws h e = written h (copied scratch copy s h ∙ e)

alone : (op : Operation) (s : State) (ws : List ℕ) → (perform op s).work.handed.copy ≡ some ws → Writes op s ws
alone op s ws e = elim (ℕ_discrete (perform op s).answer 0) [
  | yes h ↦ none_copied op s ws h (sym (ap (λ w. w.handed.copy) (work_granted op s h)) ∙ e)
  | no h ↦ none_some (sym (ap (λ x. x.copy) (demand1.refused op s h).none_handed) ∙ e)
]

pub conversions_from : {on : Module} → Demand3 on → Conversions on
conversions_from {on} demand3 = record {
  answered = λ scratch copy s h. (converted_image s.image, written h (copied scratch copy s h));
  alone = alone;
  all = λ op s ws w. record { by = op; writes = w };
  only_reads = λ scratch copy s. (no_script (convert scratch copy) s, query_leaves (convert scratch copy) s);
  there = there;
  and_back = and_back;
  again = again;
  shows = λ s t ws f c. copy_shows s t ws (demand3 s t f).agrees.shows c;
  starts_on = λ s s' ws fit c r.
      let v = held_shown (map_words (shape s)) s fit (recovers s (made c.writes).0) in
      subst (Starts on s') (idle_held s.image) (found (copy_shows s (table_of s.image) ws v c) r);
  starts = λ s s' t ws f c r. found (copy_shows s t ws (demand3 s t f).agrees.shows c) r;
  interrupted = λ scratch copy s k m c. interrupted (convert scratch copy) s k m c;
  goes_on = λ scratch copy s s' t k m f c r.
      let q = convert scratch copy in
      elim (((demand3 s t f).survives (query q) (words_fit [] tt) k m m c none_yet).whole s' r) [
        | inl p ↦ p.1
        | inr a ↦ rw (query_after q _ t) at a
      ];
}
