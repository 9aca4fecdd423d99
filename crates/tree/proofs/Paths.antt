-- The nodes on a frame's path are exactly those that the frame's ways reach.
use mathlib.Core.Path.{◌≡◌, refl, ap, subst}
use mathlib.Core.Bool.{true, false}
use mathlib.Core.Logic.{inl, inr}
use mathlib.Core.Option.{Option, none, some}
use mathlib.Core.List.{List, [], ◌∷◌}
use Prim.Native.Nat.{ℕ, zero, suc, ◌+◌, ◌<◌}
use native.Mathlib.Omega.{arith}
use native.Mathlib.Decide.{ℕ_discrete}
use lib.ListN.{get_elem?}
use lib.Dec.{eqb}
use borrow.Author.Tests.{eqb-true}
use Rattle.memory.specs.Words.{Memory}
use Rattle.tree.specs.declared.layout.Geometry.{Geometry}
use Rattle.tree.specs.Layout.{next_at}
use Rattle.tree.specs.Path.{levels, child, way_of}
use Rattle.tree.specs.Node.{child_of, well_formed}
use Rattle.tree.specs.Slots.{Filled, root_of}
use Rattle.tree.specs.Reach.{Reaches, root, down}
use Rattle.tree.specs.Sound.{SoundTree}
use Rattle.tree.specs.Lookup.{path, path_from}
use Rattle.tree.specs.Laws.{Malformed, PathLaws}
use Rattle.tree.proofs.Cases.{test, true_not_false, seen, nothing, just, some_inj, none_some, nonzero}
use Rattle.tree.proofs.Ways.{child_lt, length_way}
use Rattle.tree.proofs.Nodes.{linked_depth}
use Rattle.tree.proofs.Reach.{one_node, depth}

module _ (g : Geometry) (m : Memory) (s f : ℕ) where
  pub way_down : (d : ℕ) {n : ℕ} → Reaches g m s (way_of d f) n → d < 31 → 0 < m (next_at g n) → Reaches g m s (way_of (suc d) f) (child_of g m n (child d f))
  unfolding way_of
  way_down d r h l = let q = length_way d f in down {c = child d f} r l (rw q (child_lt d f h)) refl

  -- the step down to a level of the way
  pub record Step (d n : ℕ) : Type 0 where
    pub parent : ℕ
    pub there : Reaches g m s (way_of d f) parent
    pub linked : 0 < m (next_at g parent)

  pub way_up : (d : ℕ) {n : ℕ} → Reaches g m s (way_of (suc d) f) n → Step d n
  unfolding way_of
  way_up d (down {p = p} r k l e) = record { parent = p; there = r; linked = k }

  pub way_above : (d k : ℕ) {n : ℕ} → d < k → Reaches g m s (way_of k f) n → Step d n
  way_above d zero h r = absurd (omega arith)
  way_above d (suc k) {n} h r = let t = way_up k r in elim (ℕ_discrete d k) [
    | yes q ↦ record { parent = t.parent; there = rw q t.there; linked = t.linked }
    | no q ↦ let u = way_above d k (omega arith) t.there in record { parent = u.parent; there = u.there; linked = u.linked }
  ]

  -- the nodes from level d on, each by the frame's way, to one with no children
  data Along : ℕ → List ℕ → Type 0 where
    end : {d n : ℕ} → Reaches g m s (way_of d f) n → well_formed g m d n ≡ true → m (next_at g n) ≡ 0 → Along d (n ∷ [])
    on : {d n : ℕ} {ns : List ℕ} → Reaches g m s (way_of d f) n → well_formed g m d n ≡ true → Along (suc d) ns → Along d (n ∷ ns)

  along_at : {d : ℕ} {ns : List ℕ} → Along d ns → (i k : ℕ) {x : ℕ} → k ≡ d + i → get_elem? ns i ≡ some x
      → Reaches g m s (way_of k f) x × (well_formed g m k x ≡ true)
  along_at {d} (end r w e) zero k q h = let t : k ≡ d = omega arith in rw (t, ← some_inj h) (r, w)
  along_at (end r w e) (suc i) k q h = none_some h
  along_at {d} (on r w a) zero k q h = let t : k ≡ d = omega arith in rw (t, ← some_inj h) (r, w)
  along_at (on r w a) (suc i) k q h = along_at a i k (omega arith) h

  along_has : {d : ℕ} {ns : List ℕ} → Along d ns → (i k : ℕ) {x : ℕ} → k ≡ d + i → Reaches g m s (way_of k f) x → get_elem? ns i ≡ some x
  along_has {d} (end r w e) zero k q r' = let t : k ≡ d = omega arith in ap some (one_node r (rw t at r'))
  along_has {d} (end {n = n} r w e) (suc i) k q r' =
      let t = way_above d k (omega arith) r' in
      absurd (omega (arith, ap (λ x. m (next_at g x)) (one_node r t.there), t.linked))
  along_has {d} (on r w a) zero k q r' = let t : k ≡ d = omega arith in ap some (one_node r (rw t at r'))
  along_has (on r w a) (suc i) k q r' = along_has a i k (omega arith) r'

  -- how the path goes on from a node
  data Goes (left d n : ℕ) : Option (List ℕ) → Type 0 where
    stops : well_formed g m d n ≡ false → Goes left d n none
    ends : well_formed g m d n ≡ true → m (next_at g n) ≡ 0 → Goes left d n (some (n ∷ []))
    breaks : well_formed g m d n ≡ true → 0 < m (next_at g n) → path g m left (suc d) (child_of g m n (child d f)) f ≡ none → Goes left d n none
    continues : {ns : List ℕ} → well_formed g m d n ≡ true → 0 < m (next_at g n) → path g m left (suc d) (child_of g m n (child d f)) f ≡ some ns
        → Goes left d n (some (n ∷ ns))

  goes : (left d n : ℕ) → Goes left d n (path g m (suc left) d n f)
  unfolding path
  goes left d n = elim (test (well_formed g m d n)) [
    | inr w ↦ rw w (stops w)
    | inl w ↦ elim (test (eqb (m (next_at g n)) 0)) [
      | inl z ↦ rw (w, z) (ends w (eqb-true (m (next_at g n)) 0 z))
      | inr z ↦ let l = nonzero (m (next_at g n)) z in elim (seen (path g m left (suc d) (child_of g m n (child d f)) f)) [
        | nothing q ↦ rw (w, z, q) (breaks w l q)
        | just ns q ↦ rw (w, z, q) (continues w l q)
      ]
    ]
  ]

  path_along : (left d : ℕ) {n : ℕ} (ns : List ℕ) → Reaches g m s (way_of d f) n → path g m left d n f ≡ some ns → Along d ns
  unfolding path
  path_along zero d ns r h = none_some h
  path_along (suc left) d {n} ns r h = go ns (subst (Goes left d n) h (goes left d n)) (λ ms x q. path_along left (suc d) ms x q)
    where
      go : (ns : List ℕ) → Goes left d n (some ns)
          → ((ms : List ℕ) → Reaches g m s (way_of (suc d) f) (child_of g m n (child d f))
          → path g m left (suc d) (child_of g m n (child d f)) f ≡ some ms → Along (suc d) ms)
          → Along d ns
      go _ (ends w z) ih = end r w z
      go _ (continues {ns = ms} w l q) ih = on r w (ih ms (way_down d r (linked_depth g m d n w l) l) q)

  path_none : (left d : ℕ) {n : ℕ} → left + d ≡ levels → Reaches g m s (way_of d f) n → path g m left d n f ≡ none → Malformed g m s f
  path_none zero d e r h = absurd (omega (arith, length_way d f, depth r))
  path_none (suc left) d {n} e r h = go (subst (Goes left d n) h (goes left d n)) (λ x q. path_none left (suc d) (omega arith) x q)
    where
      go : Goes left d n none
          → (Reaches g m s (way_of (suc d) f) (child_of g m n (child d f)) → path g m left (suc d) (child_of g m n (child d f)) f ≡ none → Malformed g m s f)
          → Malformed g m s f
      go (stops w) ih = record { level = d; node = n; there = r; is = w }
      go (breaks w l q) ih = ih (way_down d r (linked_depth g m d n w l) l) q

pub path_laws : {g : Geometry} {m : Memory} {s : ℕ} (f : ℕ) (b : Filled g m s) → PathLaws g m s f b
unfolding path_from way_of
path_laws {g} {m} {s} f b = record {
  nodes = λ ns h d n. let a = along ns h in (λ q. (along_at g m s f a d d (omega arith) q).0, λ r. along_has g m s f a d d (omega arith) r);
  formed = λ ns h d n q. (along_at g m s f (along ns h) d d (omega arith) q).1;
  malformed = (
    λ h. path_none g m s f levels 0 (omega arith) start h,
    λ t. elim (seen (path_from g m s f)) [
      | nothing q ↦ q
      | just ns q ↦
          let a = along ns q in
          let h = along_has g m s f a t.level t.level (omega arith) t.there in
          absurd (true_not_false (along_at g m s f a t.level t.level (omega arith) h).1 t.is)
    ],
  );
}
  where
    start : Reaches g m s (way_of 0 f) (root_of m s)
    start = root b refl

    along : (ns : List ℕ) → path_from g m s f ≡ some ns → Along g m s f 0 ns
    along ns h = path_along g m s f levels 0 ns start h

-- where no node is malformed, every frame has its path
pub sound_path : {g : Geometry} {m : Memory} {s : ℕ} → SoundTree g m s → Filled g m s → (f : ℕ) → (ns : List ℕ) × (path_from g m s f ≡ some ns)
sound_path {g} {m} {s} a b f = elim (seen (path_from g m s f)) [
  | nothing q ↦
      let t = (path_laws f b).malformed.0 q in
      absurd (true_not_false (rw (length_way t.level f) at (a.well_formed_lem t.there)) t.is)
  | just ns q ↦ (ns, q)
]
