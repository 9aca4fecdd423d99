-- Images that a crash leaves of a script's segments.
use mathlib.Core.Path.{◌≡◌, sym, ◌∙◌, ap}
use mathlib.Core.Logic.{◌⊎◌, inl, inr, ◌≢◌}
use mathlib.Core.Bool.{Bool}
use mathlib.Core.List.Memᴰ
use mathlib.Core.List.{List, [], ◌∷◌, map, Memᴰ}
use Prim.Native.Nat.{ℕ, ◌^◌, ◌≤◌, ◌<◌}
use native.Mathlib.Omega.{arith}
use native.Mathlib.Decide.{ℕ_discrete}
use lib.ListN.{set, length-set}
use lib.Seq.{get_or-set_same, get_or-set_other, ext_get_or}
use Rattle.tree.specs.Memory.{Memory, reads, Store, stores, apply, Torn, FallsIn, after_all, here, later}
use Rattle.tree.specs.declared.layout.Geometry.{Geometry}
use Rattle.tree.proofs.Memory.{segment_laws}
use Rattle.book.specs.Table.{Reel}
use Rattle.book.specs.Editions.{SameHeader}
use Rattle.book.proofs.View.{Header, View}
use Rattle.book.proofs.Stored.{header_same, HeaderAs, same_rule}
use Rattle.book.proofs.Sames.{Unread, of_node, of_slot, view_fresh}
use Rattle.tree.specs.Fingerprint.{rule_of}

-- ---- a segment of one store

this_store : {i v j u : ℕ} → Memᴰ {A = Store} (j, u) ((i, v) ∷ []) → (j ≡ i) × (u ≡ v)
this_store x = let q = Memᴰ.eq_of_singleton x in (ap (λ (s : Store). s.0) q, ap (λ (s : Store). s.1) q)

-- a crash leaves it undone or done
pub torn_one : {im im' : List ℕ} {i v : ℕ} → Torn im ((i, v) ∷ []) im' → (im' ≡ im) ⊎ (im' ≡ set im i v)
torn_one {im} {im'} {i} {v} t = elim (t.each i) [
  | inl q ↦ inl (ext_get_or 0 im' im t.same_length (λ j h. elim (ℕ_discrete j i) [ yes e ↦ rw e q | no e ↦ beside j e ]))
  | inr x ↦ inr (ext_get_or 0 im' (set im i v) (t.same_length ∙ sym (length-set im i v)) (λ j h. elim (ℕ_discrete j i) [
    | yes e ↦ rw (e, get_or-set_same im i v 0 (omega (arith, t.same_length))) (this_store x).1
    | no e ↦ rw (get_or-set_other im i j v 0 e) (beside j e)
  ]))
]
  where
    beside : (j : ℕ) → j ≢ i → reads im' j ≡ reads im j
    beside j e = elim (t.each j) [ inl q ↦ q | inr x ↦ absurd (e (this_store x).0) ]

pub apply_one : (im : List ℕ) (i v : ℕ) → apply im (stores ((i, v) ∷ [])) ≡ set im i v
apply_one im i v = segment_laws.apply_stores im ((i, v) ∷ [])

-- ---- scripts

-- what a crash of a script leaves, by its segments: a predicate holds of each one's torn images, and at the end
abbrev pub Through : (List ℕ → Type 0) → List ℕ → List (List Store) → Type 0
Through P im [] = P im
Through P im (seg ∷ segs) = ((im' : List ℕ) → Torn im seg im' → P im') × Through P (apply im (stores seg)) segs

pub falls_through : {im' im : List ℕ} {segs : List (List Store)} (P : List ℕ → Type 0) → FallsIn im' im segs → Through P im segs → P im'
falls_through P (after_all q) h = rw q h
falls_through {im'} P (here t) h = h.0 im' t
falls_through P (later f) h = falls_through P f h.1

-- of segments of one store each: it holds before them, and after each
abbrev pub AfterEach : (List ℕ → Type 0) → List ℕ → List Store → Type 0
AfterEach P im [] = Unit {0}
AfterEach P im (s ∷ ss) = P (set im s.0 s.1) × AfterEach P (set im s.0 s.1) ss

pub through_each : (P : List ℕ → Type 0) (im : List ℕ) (ss : List Store) → P im → AfterEach P im ss → Through P im (map (λ s. s ∷ []) ss)
through_each P im [] h a = h
through_each P im (s ∷ ss) h a = (
  λ im' t. elim (torn_one t) [ inl q ↦ rw q h | inr q ↦ rw q a.0 ],
  rw (apply_one im s.0 s.1) (through_each P (set im s.0 s.1) ss a.0 a.1),
)

-- ---- a segment of any stores

-- every store of a segment is past the header, and its value a word
abbrev pub PastHeader : List Store → Type 0
PastHeader seg = (i v : ℕ) → Memᴰ {A = Store} (i, v) seg → (64 ≤ i) × (v < 2 ^ 64)

-- such a segment keeps the header, torn or whole, and so the rule
header_kept : {im im' : List ℕ} {seg : List Store} → Torn im seg im' → PastHeader seg → SameHeader (reads im) (reads im')
header_kept {im' = im'} t p i l = elim (t.each i) [ inl q ↦ sym q | inr x ↦ absurd (omega (arith, (p i (reads im' i) x).0)) ]

pub header_torn : {g : Geometry} {o : Bool} {im im' : List ℕ} {seg : List Store} → Header g o im → Torn im seg im' → PastHeader seg → HeaderAs g o im im'
header_torn h t p =
    header_same h t.same_length (λ i. elim (t.each i) [ inl q ↦ rw q (h.fits i) | inr x ↦ (p i _ x).1 ]) (header_kept t p)

pub rule_torn : {im im' : List ℕ} {seg : List Store} → Torn im seg im' → PastHeader seg → rule_of (reads im) ≡ rule_of (reads im')
rule_torn t p = same_rule _ _ (header_kept t p)

-- a segment whose words nothing reads leaves the view as it is, torn or whole
pub unread_past : {g : Geometry} {m : Memory} {i : ℕ} → Unread g m i → 64 ≤ i
unread_past (of_node n l h o) = omega arith
unread_past (of_slot s h e q) = omega arith

pub view_torn : {g : Geometry} {o : Bool} {im im' : List ℕ} {rs : List Reel} {seg : List Store} → View g o im rs → Torn im seg im'
    → ((i v : ℕ) → Memᴰ {A = Store} (i, v) seg → Unread g (reads im) i × (v < 2 ^ 64)) → View g o im' rs
view_torn v t u = view_fresh v (header_torn v.header t (λ i x z. (unread_past (u i x z).0, (u i x z).1)))
    (λ i. elim (t.each i) [ inl q ↦ inl (sym q) | inr x ↦ inr (u i _ x).0 ])
