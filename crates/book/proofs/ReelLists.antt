-- Lists of reels and of frames as an operation changes them: members, and that each is listed once.
use mathlib.Core.Path.{◌≡◌, refl, sym, ◌∙◌, ap, subst}
use mathlib.Core.Bool.{true, not}
use mathlib.Core.Logic.{◌⊎◌, inl, inr, ◌↔◌, ◌≢◌}
use mathlib.Core.List.Memᴰ
use mathlib.Core.List.{List, [], ◌∷◌}
use mathlib.Core.List.{Memᴰ}
use Prim.Native.Nat.{ℕ}
use lib.Dec.{eqb}
use borrow.Author.Tests.{eqb-true, eqb-false, eq-eqb, ne_eqb, not-true}
use Rattle.tree.specs.Lists.{keep, has_key, Distinct, empty, onto}
use Rattle.tree.proofs.Cases.{test, true_not_false, or-true, or_left, or_right}
use Rattle.tree.proofs.Lists.{kept, keeps}
use Rattle.tree.proofs.Distinct.{distinct_keep}
use Rattle.book.specs.Table.{Reel, change_reel, change_frames, joined, without}
use Rattle.book.proofs.View.{OnceListed}

-- ---- a list of frames with one more, or without one

pub has_member : (f : ℕ) (fs : List ℕ) → (has_key (λ x. x) f fs ≡ true) ↔ Memᴰ f fs
unfolding has_key
has_member f [] = (λ h. absurd (true_not_false h refl), λ x. absurd (Memᴰ.not-nil x))
has_member f (x ∷ fs) = (
  λ h. elim (or-true (eqb x f) (has_key (λ x. x) f fs) h) [ inl e ↦ Memᴰ.head (sym (eqb-true x f e)) | inr e ↦ Memᴰ.tail ((has_member f fs).0 e) ],
  λ y. elim (Memᴰ.cases_cons y) [
    | inl q ↦ or_left (has_key (λ x. x) f fs) (eq-eqb x f (sym q))
    | inr z ↦ or_right (eqb x f) ((has_member f fs).1 z)
  ],
)

pub joined_members : (f : ℕ) (fs : List ℕ) {x : ℕ} → Memᴰ x (joined f fs) ↔ (Memᴰ x fs ⊎ (x ≡ f))
unfolding joined
joined_members f fs {x} = elim (test (has_key (λ x. x) f fs)) [
  | inl e ↦ rw e (λ y. inl y, λ y. elim y [ inl z ↦ z | inr q ↦ Memᴰ.cast q ((has_member f fs).0 e) ])
  | inr e ↦ rw e (
    λ y. elim (Memᴰ.cases_cons y) [ inl q ↦ inr q | inr z ↦ inl z ],
    λ y. elim y [ inl z ↦ Memᴰ.tail z | inr q ↦ Memᴰ.head q ],
  )
]

pub joined_once : (f : ℕ) (fs : List ℕ) → Distinct (λ x. x) fs → Distinct (λ x. x) (joined f fs)
unfolding joined
joined_once f fs d = elim (test (has_key (λ x. x) f fs)) [
  | inl e ↦ rw e d
  | inr e ↦ rw e (onto (λ y z q. true_not_false ((has_member f fs).1 (Memᴰ.cast (sym q) z)) e) d)
]

pub without_members : (f : ℕ) (fs : List ℕ) {x : ℕ} → Memᴰ x (without f fs) ↔ (Memᴰ x fs × (x ≢ f))
unfolding without
without_members f fs {x} = (
  λ y. let t = kept (λ x. not (eqb x f)) fs y in (t.0, eqb-false x f (not-true _ t.1)),
  λ t. keeps (λ x. not (eqb x f)) t.0 (rw (ne_eqb x f t.1)),
)

pub without_once : (f : ℕ) (fs : List ℕ) → Distinct (λ x. x) fs → Distinct (λ x. x) (without f fs)
unfolding without
without_once f fs d = distinct_keep (λ x. not (eqb x f)) d

-- ---- a list of reels with one more, without one, or with one's frames changed

pub once_more : {reel : ℕ} {rs : List Reel} → OnceListed rs → ((r : Reel) → Memᴰ r rs → r.number ≢ reel)
    → OnceListed (record { number = reel; frames = [] } ∷ rs)
once_more {reel} o h = record {
  numbers = onto h o.numbers;
  frames = λ r x. elim (Memᴰ.cases_cons x) [ inl q ↦ rw q empty | inr z ↦ o.frames r z ];
}

-- the reels but one
pub others_members : (reel : ℕ) (rs : List Reel) {r : Reel} → Memᴰ r (keep (λ r. not (eqb r.number reel)) rs) ↔ (Memᴰ r rs × (r.number ≢ reel))
others_members reel rs {r} = (
  λ y. let t = kept (λ r. not (eqb r.number reel)) rs y in (t.0, eqb-false r.number reel (not-true _ t.1)),
  λ t. keeps (λ r. not (eqb r.number reel)) t.0 (rw (ne_eqb r.number reel t.1)),
)

pub once_others : (reel : ℕ) {rs : List Reel} → OnceListed rs → OnceListed (keep (λ r. not (eqb r.number reel)) rs)
once_others reel {rs} o = record {
  numbers = distinct_keep (λ r. not (eqb r.number reel)) o.numbers;
  frames = λ r x. o.frames r ((others_members reel rs).0 x).0;
}

module _ (reel : ℕ) (change : List ℕ → List ℕ) where
  -- a reel of the changed list, and the one that it was
  pub was_reel : (rs : List Reel) {r : Reel} → Memᴰ r (change_frames reel change rs) → (r' : Reel) × Memᴰ r' rs × (change_reel reel change r' ≡ r)
  unfolding change_frames
  was_reel rs x = Memᴰ.of_map (change_reel reel change) rs x

  pub is_reel : {rs : List Reel} {r : Reel} → Memᴰ r rs → Memᴰ (change_reel reel change r) (change_frames reel change rs)
  unfolding change_frames
  is_reel x = Memᴰ.map (change_reel reel change) x

  numbers_change : {rs : List Reel} → Distinct (λ r. r.number) rs → Distinct (λ r. r.number) (change_frames reel change rs)
  unfolding change_frames
  numbers_change empty = empty
  numbers_change (onto {xs = rs} a d) = onto (λ y z q. let t = was_reel rs z in a t.0 t.1 (ap (λ r. r.number) t.2 ∙ q)) (numbers_change d)

  pub once_change : {rs : List Reel} → ((fs : List ℕ) → Distinct (λ x. x) fs → Distinct (λ x. x) (change fs)) → OnceListed rs
      → OnceListed (change_frames reel change rs)
  once_change {rs} h o = record {
    numbers = numbers_change o.numbers;
    frames = λ r x.
        let t = was_reel rs x in let d = o.frames t.0 t.1 in
        subst (λ r. Distinct (λ x. x) r.frames) t.2 (elim (test (eqb t.0.number reel)) [ inl e ↦ rw e (h _ d) | inr e ↦ rw e d ]);
  }
