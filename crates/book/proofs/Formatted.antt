-- A format that is answered leaves a book that agrees with the empty table.
use mathlib.Core.Path.{◌≡◌, refl, sym, ◌∙◌, ap, ap₂}
use mathlib.Core.Bool.{Bool, false, cond}
use mathlib.Core.Logic.{◌⊎◌, inl, inr, ◌≢◌}
use mathlib.Core.List.Memᴰ
use mathlib.Core.List.{List, [], ◌∷◌, map, Memᴰ}
use Prim.Native.Nat.{ℕ, zero, suc, ◌^◌, ◌≤◌, ◌<◌}
use native.Mathlib.Omega.{arith}
use lib.ListN.{length}
use Rattle.tree.specs.Memory.{Memory, reads, Store, stores, apply, Fit}
use Rattle.tree.specs.Test.{Says, holds}
use Rattle.tree.specs.Lists.{range, up_to, empty}
use Rattle.tree.specs.declared.layout.Geometry.{Geometry}
use Rattle.tree.specs.Layout.{bad_image, in_range, image_words, map_words, edition_at, slots_at, nodes_at, own_at, geometry_of, root_at}
use Rattle.tree.specs.Fingerprint.{rule_for, own_rule, rule_of, is_given, bad_given, GoodTable}
use Rattle.tree.specs.Slots.{Filled}
use Rattle.tree.specs.Reach.{Reaches}
use Rattle.tree.specs.Pool.{clear_map}
use Rattle.tree.proofs.Cases.{test, true_not_false}
use Rattle.tree.proofs.Lists.{in_range_lem, range_has, up_to_members}
use Rattle.tree.proofs.Memory.{apply_laws, settles, torn_whole}
use Rattle.tree.proofs.Pool.{pool_laws}
use Rattle.tree.proofs.Laws.{reach_laws, sound_laws, table_laws}
use Rattle.book.specs.Heads.{idle_heads}
use Rattle.book.specs.Refusals.{◌gives◌, refusal}
use Rattle.book.specs.State.{State, format, leaving, memory}
use Rattle.book.specs.Checks.{bad_map, refusals}
use Rattle.book.specs.Perform.{format_stores, given_stores, granted, perform}
use Rattle.book.specs.Table.{empty_table}
use Rattle.book.specs.Agrees.{Agrees}
use Rattle.book.specs.Histories.{carried_out, done}
use Rattle.book.proofs.Refusals.{denies, denied, passes, passed_all}
use Rattle.book.proofs.Performed.{answer_is}
use Rattle.book.proofs.Done.{carried_leaving, done_granted}
use Rattle.book.proofs.View.{Header, View}
use Rattle.book.proofs.GivenTable.{with_table, beside_table, fits_table, as_given, not_bad, rule_given}
use Rattle.book.proofs.Settled.{idle_table, Settled, agrees_settled}

-- ---- its stores

-- what each word gets, where it gets any
abbrev format_word : Geometry → ℕ → ℕ
format_word g zero = 2
format_word g (suc zero) = g.slots
format_word g (suc (suc zero)) = g.nodes
format_word g (suc (suc (suc i))) = 0

clear_word : (g : Geometry) (i : ℕ) → 3 ≤ i → format_word g i ≡ 0
clear_word g zero h = absurd (omega arith)
clear_word g (suc zero) h = absurd (omega arith)
clear_word g (suc (suc zero)) h = absurd (omega arith)
clear_word g (suc (suc (suc i))) h = refl

formats : (g : Geometry) (i v : ℕ) → Memᴰ (i, v) (format_stores g) → v ≡ format_word g i
unfolding format_stores
formats g i v (Memᴰ.head q) = ap (λ s. s.1) q ∙ ap (format_word g) (sym (ap (λ s. s.0) q))
formats g i v (Memᴰ.tail (Memᴰ.head q)) = ap (λ s. s.1) q ∙ ap (format_word g) (sym (ap (λ s. s.0) q))
formats g i v (Memᴰ.tail (Memᴰ.tail (Memᴰ.head q))) = ap (λ s. s.1) q ∙ ap (format_word g) (sym (ap (λ s. s.0) q))
formats g i v (Memᴰ.tail (Memᴰ.tail (Memᴰ.tail x))) = elim (Memᴰ.append_cases (map (λ i. (i, 0)) (range 3 61)) x) [
  | inl y ↦ let t = Memᴰ.of_map {A = ℕ} {B = Store} (λ i. (i, 0)) (range 3 61) y in
      sym (ap (λ s. s.1) t.2) ∙ sym (clear_word g i (omega (arith, in_range_lem 3 61 t.1, ap (λ s. s.0) t.2)))
  | inr y ↦ let t = Memᴰ.of_map {A = ℕ} {B = Store} (λ s. (root_at s, 0)) (up_to g.slots) y in
      sym (ap (λ s. s.1) t.2) ∙ sym (clear_word g i (omega (arith, ap (λ s. s.0) t.2)))
]

pub header_stored : (g : Geometry)
    → Memᴰ (edition_at, 2) (format_stores g) × Memᴰ (slots_at, g.slots) (format_stores g) × Memᴰ (nodes_at, g.nodes) (format_stores g)
unfolding format_stores
header_stored g = (Memᴰ.head refl, Memᴰ.tail (Memᴰ.head refl), Memᴰ.tail (Memᴰ.tail (Memᴰ.head refl)))

pub root_stored : (g : Geometry) (s : ℕ) → s < g.slots → Memᴰ (root_at s, 0) (format_stores g)
unfolding format_stores
root_stored g s h = Memᴰ.tail (Memᴰ.tail (Memᴰ.tail
    (Memᴰ.append_right (map (λ i. (i, 0)) (range 3 61)) (Memᴰ.map (λ s. (root_at s, 0)) ((up_to_members g.slots).1 h)))))

pub unread_stored : (g : Geometry) (i : ℕ) → 3 ≤ i → i < 64 → Memᴰ (i, 0) (format_stores g)
unfolding format_stores
unread_stored g i l h = Memᴰ.tail (Memᴰ.tail (Memᴰ.tail
    (Memᴰ.append_left (map (λ s. (root_at s, 0)) (up_to g.slots)) (Memᴰ.map (λ i. (i, 0)) (range_has 3 61 l (omega arith))))))

-- and to no other word
pub format_avoids : (g : Geometry) (i v : ℕ) → 64 ≤ i → ((s : ℕ) → s < g.slots → i ≢ root_at s) → Memᴰ (i, v) (format_stores g) → ⊥
unfolding format_stores
format_avoids g i v l h (Memᴰ.head q) = omega (arith, ap (λ s. s.0) q)
format_avoids g i v l h (Memᴰ.tail (Memᴰ.head q)) = omega (arith, ap (λ s. s.0) q)
format_avoids g i v l h (Memᴰ.tail (Memᴰ.tail (Memᴰ.head q))) = omega (arith, ap (λ s. s.0) q)
format_avoids g i v l h (Memᴰ.tail (Memᴰ.tail (Memᴰ.tail x))) = elim (Memᴰ.append_cases (map (λ i. (i, 0)) (range 3 61)) x) [
  | inl y ↦ let t = Memᴰ.of_map {A = ℕ} {B = Store} (λ i. (i, 0)) (range 3 61) y in omega (arith, in_range_lem 3 61 t.1, ap (λ s. s.0) t.2)
  | inr y ↦ let t = Memᴰ.of_map {A = ℕ} {B = Store} (λ s. (root_at s, 0)) (up_to g.slots) y in
      h t.0 ((up_to_members g.slots).0 t.1) (sym (ap (λ s. s.0) t.2))
]

geometry_is : (m : Memory) {g : Geometry} → m slots_at ≡ g.slots → m nodes_at ≡ g.nodes → geometry_of m ≡ g
unfolding geometry_of
geometry_is m p q = ap₂ (λ a b. record { slots = a; nodes = b }) p q

-- ---- the image that it leaves

abbrev pub blank : Geometry → List ℕ → List ℕ
blank g im = apply im (stores (format_stores g))

pub written : (g : Geometry) (im : List ℕ) (i v : ℕ) → i < length im → Memᴰ (i, v) (format_stores g) → reads (blank g im) i ≡ v
written g im i v l x = settles im (format_stores g) i v l (λ u y. formats g i u y ∙ sym (formats g i v x)) (inr x)

-- and then with the table that is given
abbrev pub made : List ℕ → Geometry → List ℕ → List ℕ
made table g im = with_table table (blank g im)

pub made_geometry : (table : List ℕ) (g : Geometry) (im : List ℕ) → 2 < length im → geometry_of (reads (made table g im)) ≡ g
made_geometry table g im l =
    let h = header_stored g in
    geometry_is (reads (made table g im))
    (beside_table table (blank g im) slots_at (λ q. omega arith) (inl (omega arith)) ∙ written g im slots_at g.slots (omega arith) h.1)
    (beside_table table (blank g im) nodes_at (λ q. omega arith) (inl (omega arith)) ∙ written g im nodes_at g.nodes (omega arith) h.2)

module _ (table : List ℕ) (good : holds (bad_given table) ≡ false) (g : Geometry) (im : List ℕ) (fit : Fit im) (range : Says (in_range g))
    (words : length im ≡ image_words g) where
  word_fits : (i : ℕ) → format_word g i < 2 ^ 64
  unfolding in_range
  word_fits zero = omega arith
  word_fits (suc zero) = omega arith
  word_fits (suc (suc zero)) = omega arith
  word_fits (suc (suc (suc i))) = omega arith

  blank_words : length (blank g im) ≡ image_words g
  blank_words = apply_laws.length_apply im (stores (format_stores g)) ∙ words

  blank_fits : Fit (blank g im)
  blank_fits i = elim ((torn_whole im (format_stores g)).each i) [ inl q ↦ rw q (fit i) | inr x ↦ rw (formats g i _ x) (word_fits i) ]

  -- a word that the table leaves
  beside : (i v : ℕ) → i < length im → i ≢ own_at → (i < 8) ⊎ (40 ≤ i) → Memᴰ (i, v) (format_stores g) → reads (made table g im) i ≡ v
  beside i v l n o x = beside_table table (blank g im) i n o ∙ written g im i v l x

  header : Header g (is_given table) (made table g im)
  unfolding in_range
  header =
      let h = header_stored g in
      let long : 40 ≤ length (blank g im) = omega (arith, blank_words) in
      let edition = written g im edition_at 2 (omega arith) h.0 in
      let clear = written g im own_at 0 (omega arith) (unread_stored g own_at (omega arith) (omega arith)) in
      record {
        fits = fits_table table (blank g im) good blank_fits;
        edition = inr (beside edition_at 2 (omega arith) (λ q. omega arith) (inl (omega arith)) h.0);
        geometry = made_geometry table g im (omega arith);
        in_range_lem = range;
        words = apply_laws.length_apply (blank g im) (stores (given_stores table)) ∙ blank_words;
        own = as_given table (blank g im) good long edition clear;
        good_table = not_bad table (blank g im) good long edition clear;
      }

  root_clear : (s : ℕ) → s < g.slots → reads (made table g im) (root_at s) ≡ 0
  root_clear s h = beside (root_at s) 0 (omega arith) (λ q. omega arith) (inr (omega arith)) (root_stored g s h)

  none_filled : {s : ℕ} → Filled g (reads (made table g im)) s → ⊥
  none_filled {s} b = omega (arith, b.linked, root_clear s b.inside)

  none_reached : {s n : ℕ} {w : List ℕ} → Reaches g (reads (made table g im)) s w n → ⊥
  none_reached r = none_filled ((reach_laws g (reads (made table g im))).slot_filled r)

  made_view : View g (is_given table) (made table g im) []
  made_view = record {
    header = header;
    sound = (sound_laws (rule_of (reads (made table g im))) g (reads (made table g im))).formatted root_clear;
    once = record { numbers = empty; frames = λ r x. absurd (Memᴰ.not-nil x) };
    same = record {
      present = λ reel. (λ t. absurd (none_filled t.1.open_slot), λ t. absurd (Memᴰ.not-nil t.1));
      frames = λ b x q f. absurd (none_filled b);
    };
  }

  made_settled : Settled g (is_given table) (made table g im) (clear_map (map_words g)) []
  made_settled = record {
    view = made_view;
    map_words_lem = pool_laws.length_clear (map_words g);
    marks = λ n. (λ e. absurd (true_not_false e (pool_laws.clear (map_words g) n)), λ r. absurd (none_reached r.there));
    equal = λ n r. absurd (none_reached r.there);
  }

-- ---- answered

pub format_refusals : (words : ℕ) (table : List ℕ) (g : Geometry) (s : State) → refusals (format words table g.slots g.nodes) s ≡
    (bad_image (length s.image) g gives 1) ∷ (bad_map g words gives 3) ∷ (bad_given table gives 16) ∷ []
unfolding refusals
format_refusals words table g s = refl

pub granted_format : (words : ℕ) (table : List ℕ) (g : Geometry) (s : State) → granted (format words table g.slots g.nodes) s ≡ leaving (record {
  image = made table g s.image;
  pool = clear_map (map_words g);
  heads = idle_heads;
})
unfolding granted
granted_format words table g s = refl

-- what 1 and 16 leave of an answered format
pub record Answered (table : List ℕ) (g : Geometry) (s : State) : Type 0 where
  pub range : Says (in_range g)
  pub words : length s.image ≡ image_words g
  pub good : holds (bad_given table) ≡ false

pub format_answered : (words : ℕ) (table : List ℕ) (g : Geometry) (s : State) → (perform (format words table g.slots g.nodes) s).answer ≡ 0
    → Answered table g s
unfolding bad_image in_range
format_answered words table g s h =
    let p = passes _ (omega arith) (sym (ap refusal (format_refusals words table g s)) ∙ sym (answer_is (format words table g.slots g.nodes) s) ∙ h) in
    record { range = omega (arith, p.0); words = omega (arith, p.0); good = denied (bad_given table) p.1.1.0 }

pub done_format : (words : ℕ) (table : List ℕ) (g : Geometry) (s : State) → (perform (format words table g.slots g.nodes) s).answer ≡ 0
    → done (format words table g.slots g.nodes) s
    ≡ record { image = made table g s.image; pool = clear_map (map_words g); heads = idle_heads }
done_format words table g s h =
    done_granted (format words table g.slots g.nodes) s h ∙ ap carried_out (granted_format words table g s) ∙ carried_leaving _

idle_empty : (own : Bool) (slots nodes : ℕ) → idle_table (record { slots = slots; nodes = nodes }) own [] ≡ empty_table own slots nodes
unfolding empty_table
idle_empty own slots nodes = refl

pub format_agrees : (words : ℕ) (table : List ℕ) (slots nodes : ℕ) (s : State) → Fit s.image → (perform (format words table slots nodes) s).answer ≡ 0
    → Agrees (done (format words table slots nodes) s) (empty_table (is_given table) slots nodes)
format_agrees words table slots nodes s fit h =
    let g : Geometry = record { slots = slots; nodes = nodes } in
    let a = format_answered words table g s h in
    rw (done_format words table g s h, ← idle_empty (is_given table) slots nodes)
    (agrees_settled (made_settled table a.good g s.image fit a.range a.words))

-- the rule by which its book is read
pub format_rule : (words : ℕ) (table : List ℕ) (g : Geometry) (s : State) → (perform (format words table g.slots g.nodes) s).answer ≡ 0
    → rule_of (memory (done (format words table g.slots g.nodes) s)) ≡ cond (is_given table) (own_rule table) (rule_for 2)
format_rule words table g s h =
    let a = format_answered words table g s h in
    let im = blank g s.image in
    let long : 40 ≤ length im = omega (arith, apply_laws.length_apply s.image (stores (format_stores g)), a.words) in
    let edition = written g s.image edition_at 2 (omega (arith, a.words)) (header_stored g).0 in
    let clear = written g s.image own_at 0 (omega (arith, a.words)) (unread_stored g own_at (omega arith) (omega arith)) in
    let r = rule_given table im a.good long edition clear in
    ap (λ (x : State). rule_of (memory x)) (done_format words table g s h)
    ∙ (elim (test (is_given table)) [ inl e ↦ r.0 e ∙ sym (ap (λ b. cond b (own_rule table) (rule_for 2)) e) | inr e ↦ r.1 e ∙ sym (ap (λ b. cond b (own_rule table) (rule_for 2)) e) ])

-- a format is answered where its numbers and the lengths are right, and its table is none or a good one
pub format_starts : (table : List ℕ) (g : Geometry) (s : State) → (table ≡ []) ⊎ GoodTable table → Says (in_range g) → length s.image ≡ image_words g
    → (perform (format (map_words g) table g.slots g.nodes) s).answer ≡ 0
unfolding perform refusals bad_image in_range
format_starts table g s o r l =
    passed_all _ (((omega arith, (omega arith, (omega arith, omega arith))), l), (refl, (denies (bad_given table) ((table_laws.given table).1 o), tt)))
