-- A head's record replaced: the book agrees again where no more than its own place has changed.
use mathlib.Core.Path.{◌≡◌, refl, sym, ◌∙◌, ap, subst}
use mathlib.Core.Bool.{true}
use mathlib.Core.Logic.{◌⊎◌, inl, inr, ◌↔◌, ◌≢◌}
use mathlib.Core.List.{List}
use Prim.Native.Nat.{ℕ, ◌+◌, ◌*◌, ◌≤◌, ◌<◌}
use native.Mathlib.Omega.{arith}
use native.Mathlib.Decide.{ℕ_discrete}
use lib.ListN.{length, set}
use Rattle.tree.specs.Memory.{Memory, reads, is_set}
use Rattle.tree.specs.declared.layout.Geometry.{Geometry}
use Rattle.tree.specs.Layout.{locate_at}
use Rattle.tree.specs.Path.{way_of}
use Rattle.tree.specs.Fingerprint.{Rule}
use Rattle.tree.specs.Node.{held}
use Rattle.tree.specs.Reach.{FrameOf}
use Rattle.tree.specs.Sound.{Sound}
use Rattle.tree.specs.Laws.{WellFormed}
use Rattle.tree.proofs.Same.{reaches_on}
use Rattle.tree.proofs.Nodes.{well_formed_facts, size_most}
use Rattle.book.specs.declared.Target.{Target}
use Rattle.book.specs.declared.HeadState.{HeadState}
use Rattle.book.specs.declared.HeadState.TheVariants as heads
use Rattle.book.specs.Heads.{head_count, head_at, with_head}
use Rattle.book.specs.State.{State}
use Rattle.book.specs.Table.{Table, TableHead, Reel, idle, table_head}
use Rattle.book.specs.Agrees.{Reached, Claims, HeadAgrees, both_idle, About, by_fill, ClaimsPlace}
use Rattle.book.proofs.Heads.{length_with, head_written, head_stays, one_target, idle_nothing, table_head_written, table_head_stays, length_with_table}
use Rattle.book.proofs.Claims.{SameClaim, head_on, AgreesBy}
use Rattle.book.proofs.Reels.{same_reached}
use Rattle.book.proofs.OnePlace.{OnePlace}
use Rattle.book.proofs.Stored.{same_rule}

-- ---- claims, where one place changes

-- a claim's node is well formed, and its place inside it
pub claim_formed : {r : Rule} {g : Geometry} {m : Memory} {x : Target} {reel f : ℕ} → Sound r g m → (c : Claims g m x reel f)
    → WellFormed g m (length (way_of c.depth f)) x.node
claim_formed {g = g} {m = m} {x = x} {f = f} d c = (well_formed_facts g m (length (way_of c.depth f)) x.node).0 (d.well_formed_lem c.on_path_lem)

pub claim_low : {r : Rule} {g : Geometry} {m : Memory} {x : Target} {reel f : ℕ} → Sound r g m → Claims g m x reel f → x.place < 64
claim_low d c = omega (arith, c.place, size_most (claim_formed d c))

-- a claim of another place stays
pub beside_claim : {r : Rule} {g : Geometry} {m m' : Memory} {n p : ℕ} {b : Target} {reel f : ℕ} → Sound r g m → OnePlace g m m' n p → Claims g m b reel f
    → ((b.node ≡ n) × (b.place ≡ p) → ⊥) → (FrameOf g m' b.slot b.frame → FrameOf g m b.slot b.frame) → SameClaim g m m' b
beside_claim {b = b} d o c e frames = let u = o.beside (claim_low d c) e in record {
  reel = o.reels c.open_slot;
  ways = reaches_on o.links;
  size = omega (arith, o.sizes b.node);
  locate = u.locate;
  set = u.set;
  frame = u.frames;
  fingerprint = u.fingerprints;
  frames = frames;
}

-- a place is located exactly if it is held or claimed
abbrev pub Located : Geometry → Memory → (heads : List ℕ) → (n p : ℕ) → Type 0
Located g m ws n p = (is_set (m (locate_at g n)) p ≡ true) ↔ ((held g m n p ≡ true) ⊎ ((h : ℕ) × ClaimsPlace ws h n p))

pub located_on : (g : Geometry) (m m' : Memory) {ws ws' : List ℕ} {n p : ℕ}
    → is_set (m (locate_at g n)) p ≡ is_set (m' (locate_at g n)) p → held g m n p ≡ held g m' n p
    → ((h : ℕ) → ClaimsPlace ws h n p → ClaimsPlace ws' h n p) → ((h : ℕ) → ClaimsPlace ws' h n p → ClaimsPlace ws h n p)
    → Located g m ws n p → Located g m' ws' n p
located_on g m m' e f on back k = (
  λ z. elim (k.0 (e ∙ z)) [ inl y ↦ inl (sym f ∙ y) | inr y ↦ inr (y.0, on y.0 y.1) ],
  λ z. sym e ∙ k.1 (elim z [ inl y ↦ inl (f ∙ y) | inr y ↦ inr (y.0, back y.0 y.1) ]),
)

-- a place is the given one or another
pub same_place? : (n p j q : ℕ) → ((j ≡ n) × (q ≡ p)) ⊎ ((j ≡ n) × (q ≡ p) → ⊥)
same_place? n p j q = elim (ℕ_discrete j n) [
  | yes e ↦ elim (ℕ_discrete q p) [ yes f ↦ inl (e, f) | no f ↦ inr (λ z. f z.1) ]
  | no e ↦ inr (λ z. e z.0)
]

-- ---- head h, which is about x, becomes y, about x or idle

-- the table with its reels and one head changed, and the state with its image and one head changed
abbrev pub retabled : Table → List Reel → ℕ → TableHead → Table
retabled t rs h z = record { slots = t.slots; nodes = t.nodes; own = t.own; reels = rs; heads = set t.heads h z }

abbrev pub restated : State → List ℕ → ℕ → HeadState → State
restated s im h y = record { image = im; pool = s.pool; heads = with_head s.heads h y }

own_place : {ws : List ℕ} (h : ℕ) {x : Target} → About x (head_at ws h) → (k n p : ℕ) → k ≡ h → ClaimsPlace ws k n p → (n ≡ x.node) × (p ≡ x.place)
own_place {ws} h about k n p e c =
    let q = one_target (subst (λ i. About c.target (head_at ws i)) e c.about) about in
    (sym c.node ∙ ap (λ t. t.node) q, sym c.place ∙ ap (λ t. t.place) q)

module _ {g : Geometry} {s : State} {t : Table} {h : ℕ} {x : Target} (a : AgreesBy g s t) (low : h < head_count) (about : About x (head_at s.heads h))
    (y : HeadState) (same_target : (b : Target) → About b y → b ≡ x) where
  inside : 5 * h + 5 ≤ length s.heads
  inside = omega (arith, a.head_words)

  own_about : (k : ℕ) {b : Target} → k ≡ h → About b (head_at (with_head s.heads h y) k) → About b y
  own_about k {b} e z = subst (About b) (ap (head_at (with_head s.heads h y)) e ∙ head_written s.heads h y inside) z

  -- what a head is about it was about before
  was_about : (k : ℕ) {b : Target} → About b (head_at (with_head s.heads h y) k) → About b (head_at s.heads k)
  was_about k {b} z = elim (ℕ_discrete k h) [
    | yes e ↦ rw (e, same_target b (own_about k e z)) about
    | no e ↦ subst (About b) (head_stays s.heads h y inside k e) z
  ]

  was_claimed : (n p k : ℕ) → ClaimsPlace (with_head s.heads h y) k n p → ClaimsPlace s.heads k n p
  was_claimed n p k c = record { target = c.target; low = c.low; about = was_about k c.about; node = c.node; place = c.place }

  still_claimed : (n p k : ℕ) → k ≢ h → ClaimsPlace s.heads k n p → ClaimsPlace (with_head s.heads h y) k n p
  still_claimed n p k e c = record {
    target = c.target;
    low = c.low;
    about = subst (About c.target) (sym (head_stays s.heads h y inside k e)) c.about;
    node = c.node;
    place = c.place;
  }

  module _ {r : Rule} (im' : List ℕ) (d : Sound r g (reads s.image)) (o : OnePlace g (reads s.image) (reads im') x.node x.place)
      (frames : (slot f : ℕ) → ((slot ≡ x.slot) × (f ≡ x.frame) → ⊥) → FrameOf g (reads im') slot f → FrameOf g (reads s.image) slot f) where
    -- the claims of the other heads stay
    others : (k : ℕ) → k < head_count → k ≢ h → HeadAgrees g (reads im') (head_at s.heads k) (table_head t k)
    others k l e = head_on (same_rule _ _ o.header) (λ b reel f z c.
        beside_claim d o c (λ q. e (a.apart k h l low z about (inl q.0)))
        (frames b.slot b.frame (λ q. e (a.apart k h l low z about (inr q))))) (a.heads k l)

    pub replaced : {z : TableHead} (rs : List Reel) → HeadAgrees g (reads im') y z
        → ((n p : ℕ) → Reached g (reads s.image) n → p < 64 → Located g (reads im') (with_head s.heads h y) n p)
        → AgreesBy g (restated s im' h y) (retabled t rs h z)
    replaced {z} rs own locates = record {
      map_words_lem = a.map_words_lem;
      marks = λ n. (λ q. (same_reached o.links).0 ((a.marks n).0 q), λ c. (a.marks n).1 ((same_reached o.links).1 c));
      head_words = length_with s.heads h y inside ∙ a.head_words;
      table_heads = length_with_table t h z ∙ a.table_heads;
      heads = λ k l. elim (ℕ_discrete k h) [
        | yes e ↦ rw (e, head_written s.heads h y inside, table_head_written t h z (omega (arith, a.table_heads))) own
        | no e ↦ rw (head_stays s.heads h y inside k e, table_head_stays t h k z e) (others k l e)
      ];
      apart = λ k k' l l' u v q. a.apart k k' l l' (was_about k u) (was_about k' v) q;
      locates = λ n p c. locates n p ((same_reached o.links).1 c);
    }

-- ---- head h becomes idle, or filled

module _ {r : Rule} {g : Geometry} {s : State} {t : Table} {h : ℕ} {x : Target} (a : AgreesBy g s t) (low : h < head_count)
    (about : About x (head_at s.heads h)) (im' : List ℕ) (d : Sound r g (reads s.image))
    (o : OnePlace g (reads s.image) (reads im') x.node x.place)
    (frames : (slot f : ℕ) → ((slot ≡ x.slot) × (f ≡ x.frame) → ⊥) → FrameOf g (reads im') slot f → FrameOf g (reads s.image) slot f) where
  -- idle: its place is located exactly if it is held
  pub idled : (rs : List Reel) → is_set (reads im' (locate_at g x.node)) x.place ≡ held g (reads im') x.node x.place
      → AgreesBy g (restated s im' h heads.Idle) (retabled t rs h idle)
  idled rs e = replaced a low about heads.Idle no_target im' d o frames rs both_idle (λ n p c l. elim (same_place? x.node x.place n p) [
    | inl q ↦ here n p q
    | inr q ↦
        let u = o.beside l q in
        located_on g (reads s.image) (reads im') u.locate u.set
        (λ k y. still_claimed a low about heads.Idle no_target n p k (λ z. q (own_place h about k n p z y)) y) (was n p) (a.locates n p c l)
  ])
    where
      no_target : (b : Target) → About b heads.Idle → b ≡ x
      no_target b z = absurd (idle_nothing refl z)

      was : (n p k : ℕ) → ClaimsPlace (with_head s.heads h heads.Idle) k n p → ClaimsPlace s.heads k n p
      was = was_claimed a low about heads.Idle no_target

      -- no other head claims it
      here : (n p : ℕ) → (n ≡ x.node) × (p ≡ x.place) → Located g (reads im') (with_head s.heads h heads.Idle) n p
      here n p q =
          let e' : is_set (reads im' (locate_at g n)) p ≡ held g (reads im') n p = rw (q.0, q.1) e in (
            λ z. inl (sym e' ∙ z),
            λ z. elim z [
              | inl z ↦ e' ∙ z
              | inr z ↦
                  let c = was n p z.0 z.1 in
                  let k = a.apart z.0 h c.low low c.about about (inl (c.node ∙ q.0)) in
                  absurd (idle_nothing refl (own_about a low about heads.Idle no_target z.0 k z.1.about))
            ],
          )

  -- filled: its place is located, and not held, as before
  pub filled_in : {z : TableHead} → HeadAgrees g (reads im') (heads.Filled x) z
      → is_set (reads s.image (locate_at g x.node)) x.place ≡ is_set (reads im' (locate_at g x.node)) x.place
      → held g (reads s.image) x.node x.place ≡ held g (reads im') x.node x.place
      → AgreesBy g (restated s im' h (heads.Filled x)) (retabled t t.reels h z)
  filled_in own q u = replaced a low about (heads.Filled x) same_target im' d o frames t.reels own (λ n p c l.
      let b = bits n p l in
      located_on g (reads s.image) (reads im') b.0 b.1 (on n p) (was_claimed a low about (heads.Filled x) same_target n p) (a.locates n p c l))
    where
      same_target : (b : Target) → About b (heads.Filled x) → b ≡ x
      same_target b by_fill = refl

      bits : (n p : ℕ) → p < 64
          → (is_set (reads s.image (locate_at g n)) p ≡ is_set (reads im' (locate_at g n)) p) × (held g (reads s.image) n p ≡ held g (reads im') n p)
      bits n p l = elim (same_place? x.node x.place n p) [
        | inl e ↦ rw (e.0, e.1) (q, u)
        | inr e ↦ let b = o.beside {j = n} {q = p} l e in (b.locate, b.set)
      ]

      on : (n p k : ℕ) → ClaimsPlace s.heads k n p → ClaimsPlace (with_head s.heads h (heads.Filled x)) k n p
      on n p k c = elim (ℕ_discrete k h) [
        | no e ↦ still_claimed a low about (heads.Filled x) same_target n p k e c
        | yes e ↦
            let w = own_place h about k n p e c in
            record {
              target = x;
              low = c.low;
              about = rw (e, head_written s.heads h (heads.Filled x) (omega (arith, a.head_words))) by_fill;
              node = sym w.0;
              place = sym w.1;
            }
      ]
