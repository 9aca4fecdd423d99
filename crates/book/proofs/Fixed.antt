-- What document 01 fixes of single operations besides the demands.
use mathlib.Core.Path.{◌≡◌, refl, sym, ◌∙◌, ap}
use mathlib.Core.Bool.{true, false}
use mathlib.Core.Logic.{inl, inr, ◌↔◌}
use mathlib.Core.List.{List, [], ◌∷◌}
use Prim.Native.Nat.{ℕ, ◌+◌, ◌≤◌, ◌<◌}
use native.Mathlib.Omega.{arith}
use native.Mathlib.Decide.{ℕ_discrete}
use borrow.Author.Tests.{not-false}
use lib.ListN.{length, get_or}
use Rattle.tree.specs.Memory.{reads, stores}
use Rattle.tree.specs.Test.{holds}
use Rattle.tree.specs.declared.layout.Geometry.{Geometry}
use Rattle.tree.specs.Layout.{bad_image, in_range, image_words, edition_at, slots_at, nodes_at, table_at, root_at, bad_edition}
use Rattle.tree.specs.Fingerprint.{rule_of, is_given}
use Rattle.tree.specs.Slots.{empty_slot}
use Rattle.tree.specs.Sound.{Sound, SoundImage}
use Rattle.tree.specs.Lookup.{free_run}
use Rattle.tree.specs.Pool.{used}
use Rattle.tree.specs.Subtree.{all_trees}
use Rattle.tree.proofs.Cases.{test, true_not_false}
use Rattle.tree.proofs.Laws.{slot_laws, sound_laws, run_laws, node_laws, pool_laws, table_laws}
use Rattle.tree.proofs.Fingerprints.{unpacked_at}
use Rattle.tree.proofs.OwnTables.{given_good, given_none}
use Rattle.tree.proofs.Memory.{apply_laws, torn_whole}
use Rattle.book.specs.Refusals.{◌gives◌, refusal}
use Rattle.book.specs.State.{State, Operation, format, recover, open_reel, claim, fill, commit, abandon, remove, retire, tidy, query, memory, shape}
use Rattle.book.specs.Checks.{bad_map, not_sound, refusals}
use Rattle.tree.specs.Subtree.{nodes_of}
use Rattle.tree.specs.Recovery.{recover_stores}
use Rattle.book.specs.Perform.{format_stores, open_script, granted, perform}
use Rattle.book.specs.Agrees.{Reached}
use Rattle.book.specs.Fixed.{HeaderRest, no_table, own_table, FormatWrites, RecoverWrites, Right, OpenTakes, WritesHeads, by_format, by_recover, by_claim, by_fill, by_commit, by_abandon, Fixed}
use Rattle.book.proofs.Refusals.{Denies, denied, passes, refused_later}
use Rattle.book.proofs.Performed.{answer_is, work_granted}
use Rattle.book.proofs.Done.{refused_heads}
use Rattle.book.proofs.Stores.{claims, fills, commits, abandons, removes, retires, tidies, asks, lists}
use Rattle.book.proofs.GivenTable.{with_table, none_given, beside_table, own_put, entries_put}
use Rattle.book.proofs.Formatted.{header_stored, root_stored, unread_stored, format_avoids, blank, made, written, granted_format, Answered, format_answered}
use Rattle.book.proofs.Recovery.{nodes_reached, corrects_stored, stored_once, now_equal, granted_recover, recover_refusals, sound_test}

-- ---- Format

-- words 3 to 63, by the table's stores over zeros
header_rest : (table : List ℕ) (g : Geometry) (s : State) → Answered table g s → HeaderRest (reads (made table g s.image)) table
header_rest table g s a =
    let im = blank g s.image in
    let long : 40 ≤ length im = omega (arith, apply_laws.length_apply s.image (stores (format_stores g)), a.words) in
    let clear : (i : ℕ) → 3 ≤ i → i < 64 → reads im i ≡ 0 = λ i l h. written g s.image i 0 (omega (arith, a.words)) (unread_stored g i l h) in
    elim (test (is_given table)) [
      | inl e ↦
          let t = given_good table e a.good in
          own_table t (own_put table im e long)
          (λ i h. sym (unpacked_at (reads (made table g s.image)) table_at i h) ∙ ap (λ x. get_or x i 0) (table_laws.read_back t _ (entries_put table im e long)))
          (λ j h. rw (entries_put table im e long j h) (table_laws.word_fits t j h))
          (λ i l h o. beside_table table im i (λ q. omega arith) o ∙ clear i (omega arith) h)
      | inr e ↦ no_table (given_none table e) (λ i l h. none_given table im e i ∙ clear i l h)
    ]

formats : (words : ℕ) (table : List ℕ) (g : Geometry) (s : State) → (perform (format words table g.slots g.nodes) s).answer ≡ 0
    → FormatWrites table g s (perform (format words table g.slots g.nodes) s).work.after
formats words table g s h =
    let a = format_answered words table g s h in
    let l = a.words in
    let c = header_stored g in
    let im = blank g s.image in
    let low : (i : ℕ) → i < 3 → reads (with_table table im) i ≡ reads im i = λ i k. beside_table table im i (λ q. omega arith) (inl (omega arith)) in
    let high : (i : ℕ) → 64 ≤ i → reads (with_table table im) i ≡ reads im i = λ i k. beside_table table im i (λ q. omega arith) (inr (omega arith)) in
    rw (work_granted (format words table g.slots g.nodes) s h ∙ granted_format words table g s) (record {
      edition = low edition_at (omega arith) ∙ written g s.image edition_at 2 (omega arith) c.0;
      slots = low slots_at (omega arith) ∙ written g s.image slots_at g.slots (omega arith) c.1;
      nodes = low nodes_at (omega arith) ∙ written g s.image nodes_at g.nodes (omega arith) c.2;
      rest = header_rest table g s a;
      roots = λ k b. high (root_at k) (omega arith) ∙ written g s.image (root_at k) 0 (omega arith) (root_stored g k b);
      others = λ i b k.
          high i b ∙ (elim ((torn_whole s.image (format_stores g)).each i) [ inl q ↦ q | inr x ↦ absurd (format_avoids g i _ b k x) ]);
      map = refl;
      heads = refl;
    })

-- ---- Recover

recover_answer : (words : ℕ) (s : State) → Right words s → (perform (recover words) s).answer ≡
    refusal ((not_sound (memory s) gives 4) ∷ [])
unfolding bad_image in_range
recover_answer words s r =
    let d : Denies (bad_image (length s.image) (shape s)) = omega (arith, r.image_words_lem, r.in_range_lem) in
    rw (answer_is, recover_refusals) (
    refused_later _ _ (denied (bad_image (length s.image) (shape s)) d)
    ∙ refused_later _ _ (denied (bad_edition (memory s)) r.edition)
    ∙ refused_later _ _ (denied (bad_map (shape s) words) r.map_words_lem))

unsound : (words : ℕ) (s : State) → Right words s → ((perform (recover words) s).answer ≡ 4) ↔ (SoundImage (memory s) → ⊥)
unfolding refusal
unsound words s r =
    let d = sound_test (memory s) in
    rw (recover_answer words s r) (elim (test (holds (not_sound (memory s)))) [
      | inl e ↦ rw e (λ q a. true_not_false e (d.1 a), λ n. refl)
      | inr e ↦ rw e (λ q. absurd (omega arith), λ n. absurd (n (d.0 e)))
    ])

sound : (words : ℕ) (s : State) → Right words s → SoundImage (memory s) → (perform (recover words) s).answer ≡ 0
unfolding refusal
sound words s r a = rw (recover_answer words s r, (sound_test (memory s)).1 a) refl

-- what an answer says of the image
record Accepted (s : State) : Type 0 where
  words : length s.image ≡ image_words (shape s)
  sound : Sound (rule_of (memory s)) (shape s) (memory s)

accepted : (words : ℕ) (s : State) → (perform (recover words) s).answer ≡ 0 → Accepted s
unfolding refusals bad_image
accepted words s h =
    let p = passes (refusals (recover words) s) (omega arith) (sym (answer_is (recover words) s) ∙ h) in
    record {
      words = omega (arith, p.0);
      sound = (sound_laws (rule_of (memory s)) (shape s) (memory s)).image.0 (not-false _ p.1.1.1.0.1);
    }

inside : {s : State} {n : ℕ} → Accepted s → Reached (shape s) (memory s) n → n < (shape s).nodes
inside {s} {n} a r = (((node_laws (shape s) (memory s)).facts (length r.way) n).0 (a.sound.well_formed_lem r.there)).inside

recovers : (words : ℕ) (s : State) → (perform (recover words) s).answer ≡ 0 → RecoverWrites s (perform (recover words) s).work.after
recovers words s h =
    let g = shape s in
    let m = memory s in
    let a = accepted words s h in
    let nodes = nodes_of (all_trees g m) in
    rw (work_granted (recover words) s h ∙ granted_recover words s) (record {
      stores = corrects_stored g m;
      once = stored_once g m a.sound;
      equal = λ n r. now_equal g s.image r (omega (arith, a.words, inside a r));
      alone = λ i d. elim ((torn_whole s.image (recover_stores g m)).each i) [ inl q ↦ absurd (d q) | inr x ↦ (corrects_stored g m i _).0 x ];
      map_words_lem = pool_laws.length-map g nodes;
      marks = λ n.
          let t = pool_laws.map g nodes n (λ k x. inside a ((nodes_reached g m k).0 x)) in
          let b = nodes_reached g m n in
          (λ e. b.0 (t.0 e), λ r. t.1 (b.1 r));
      heads = refl;
    })

-- ---- heads

granted_heads : (op : Operation) (s : State) → (WritesHeads op → ⊥) → (granted op s).after.heads ≡ s.heads
unfolding granted
granted_heads (format words table slots nodes) s n = absurd (n by_format)
granted_heads (recover words) s n = absurd (n by_recover)
granted_heads (open_reel words script reel) s n = refl
granted_heads (claim words script h reel f) s n = absurd (n by_claim)
granted_heads (fill script h) s n = absurd (n by_fill)
granted_heads (commit script h) s n = absurd (n by_commit)
granted_heads (abandon script h) s n = absurd (n by_abandon)
granted_heads (remove script reel f) s n = refl
granted_heads (retire words scratch script reel) s n = refl
granted_heads (tidy words scratch script reel) s n = refl
granted_heads (query q) s n = refl

heads_left : (op : Operation) (s : State) → (WritesHeads op → ⊥) → (perform op s).work.after.heads ≡ s.heads
heads_left op s n = elim (ℕ_discrete (perform op s).answer 0) [
  | yes h ↦ ap (λ w. w.after.heads) (work_granted op s h) ∙ granted_heads op s n
  | no h ↦ refused_heads op s h
]

-- ---- Open

open_passes : (words script reel : ℕ) (s : State) → (perform (open_reel words script reel) s).answer ≡ 0
    → (empty_slot (shape s) (memory s) < (shape s).slots) × (free_run (shape s) (reads s.pool) 1 < (shape s).nodes)
unfolding refusals
open_passes words script reel s h =
    let op = open_reel words script reel in
    let p = passes (refusals op s) (omega arith) (sym (answer_is op s) ∙ h) in
    (p.1.1.1.1.1.0, p.1.1.1.1.1.1.0)

-- the lowest free node of a map
module _ (g : Geometry) (pool : List ℕ) (l : free_run g (reads pool) 1 < g.nodes) where
  free_node : used pool (free_run g (reads pool) 1) ≡ false
  free_node =
      let z : free_run g (reads pool) 1 + 0 ≡ free_run g (reads pool) 1 = omega arith in
      rw z at (((run_laws g (reads pool) 1).found l).free 0 (omega arith))

  lowest_node : (n : ℕ) → n < free_run g (reads pool) 1 → used pool n ≡ true
  lowest_node n k = elim (test (used pool n)) [
    | inl e ↦ e
    | inr e ↦ absurd (omega (
      arith,
      (run_laws g (reads pool) 1).lowest n (omega arith) (record {
        inside = omega arith;
        free = λ i j. let z : n + i ≡ n = omega arith in rw z e;
      }),
    ))
  ]

opens : (words script reel : ℕ) (s : State) → (perform (open_reel words script reel) s).answer ≡ 0 → OpenTakes words script reel s
unfolding granted open_script
opens words script reel s h =
    let p = open_passes words script reel s h in
    let w = work_granted (open_reel words script reel) s h in
    let l = slot_laws (shape s) (memory s) in
    record {
      slot = empty_slot (shape s) (memory s);
      slot_inside = p.0;
      slot_empty = l.empty p.0;
      slot_lowest = λ k a z. omega (arith, p.0, l.lowest_empty k (omega (arith, p.0)) z);
      node = free_run (shape s) (reads s.pool) 1;
      node_inside = p.1;
      node_free = free_node (shape s) s.pool p.1;
      node_lowest = lowest_node (shape s) s.pool p.1;
      script_is = ap (λ x. x.script) w;
      map = ap (λ x. x.after.pool) w;
    }

pub fixed : Fixed
fixed = record {
  formats = formats;
  unsound = unsound;
  sound = sound;
  recovers = recovers;
  opens = opens;
  heads_left = heads_left;
  claims = claims;
  fills = fills;
  commits = commits;
  abandons = abandons;
  removes = removes;
  retires = retires;
  tidies = tidies;
  asks = asks;
  lists = lists;
}
