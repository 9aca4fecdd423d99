-- A claim that is granted: what it asks of the book, and what makes the book agree with the table after it.
use mathlib.Core.Path.{◌≡◌, sym, ◌∙◌, ap}
use mathlib.Core.Bool.{true}
use mathlib.Core.Logic.{◌⊎◌, inl, inr, ◌↔◌, ◌≢◌}
use mathlib.Core.List.{List}
use Prim.Native.Nat.{ℕ, ◌+◌, ◌*◌, ◌≤◌, ◌<◌, ◌^◌}
use native.Mathlib.Omega.{arith}
use native.Mathlib.Decide.{ℕ_discrete}
use lib.ListN.{length}
use Rattle.tree.specs.Memory.{reads, is_set}
use Rattle.tree.specs.declared.layout.Geometry.{Geometry}
use Rattle.tree.specs.Layout.{geometry_of, locate_at}
use Rattle.tree.specs.Node.{held}
use Rattle.tree.specs.Reach.{FrameOf}
use Rattle.book.specs.declared.Target.{Target}
use Rattle.book.specs.declared.HeadState.{HeadState}
use Rattle.book.specs.declared.HeadState.TheVariants.{Claimed}
use Rattle.book.specs.Heads.{head_count, head_at, with_head, is_idle}
use Rattle.book.specs.State.{State}
use Rattle.book.specs.Table.{Table, TableHead, claimed, table_head, with_table_head}
use Rattle.book.specs.Agrees.{Reached, Shows, Claims, HeadAgrees, both_claimed, About, by_claim, ClaimsPlace, Agrees}
use Rattle.book.specs.Ways.{SlotHas}
use Rattle.book.proofs.Reading.{sizes_of}
use Rattle.book.proofs.Claims.{SameClaim, head_on, agrees_of}
use Rattle.book.proofs.Heads.{length_with, head_written, head_stays, one_target, idle_nothing, table_head_written, table_head_stays, length_with_table}
use Rattle.tree.specs.Fingerprint.{rule_of}

-- no head is at the node
pub record NoneAt (ws : List ℕ) (n : ℕ) : Type 0 where
  pub none : (k : ℕ) {x : Target} → k < head_count → About x (head_at ws k) → x.node ≢ n

-- what the tests of a granted claim say
pub record Asked (s : State) (t : Table) (h reel f slot : ℕ) : Type 0 where
  pub agrees : Agrees s t
  pub low : h < head_count
  pub idle : is_idle (head_at s.heads h) ≡ true
  pub has : SlotHas (sizes_of s.image) (reads s.image) reel slot
  -- no head is about the frame in this slot
  pub other_frame : (k : ℕ) {x : Target} → k < head_count → About x (head_at s.heads k) → x.slot ≡ slot → x.frame ≢ f
  pub word : f < 2 ^ 64
  pub absent : FrameOf (sizes_of s.image) (reads s.image) slot f → ⊥

abbrev pub target_at : (slot node place f : ℕ) → Target
target_at slot n p f = record { slot = slot; node = n; place = p; frame = f }

-- the image after it, and the place that it takes, where there is a clear one
pub record Lands (g : Geometry) (s : State) (t : Table) (reel f slot : ℕ) (im' : List ℕ) (n p : ℕ) : Type 0 where
  pub shows : Shows im' t
  pub geometry : geometry_of (reads im') ≡ g
  pub reached : (k : ℕ) → Reached g (reads s.image) k ↔ Reached g (reads im') k
  pub rule : rule_of (reads s.image) ≡ rule_of (reads im')
  pub carries : (x : Target) (reel f : ℕ) → Claims g (reads s.image) x reel f → SameClaim g (reads s.image) (reads im') x
  pub claims : Claims g (reads im') (target_at slot n p f) reel f
  -- no head is at the node, and locate has the place besides those held and those claimed
  pub unclaimed : NoneAt s.heads n
  pub locates : (k q : ℕ) → Reached g (reads im') k → q < 64 → (is_set (reads im' (locate_at g k)) q ≡ true)
      ↔ (((held g (reads im') k q ≡ true) ⊎ ((i : ℕ) × ClaimsPlace s.heads i k q)) ⊎ ((k ≡ n) × (q ≡ p)))

-- what a table shows is said of its reels, not of its heads
pub shows_heads : {im : List ℕ} {t : Table} (h : ℕ) (x : TableHead) → Shows im t → Shows im (with_table_head t h x)
shows_heads h x v = record {
  fits = v.fits;
  edition = v.edition;
  in_range_lem = v.in_range_lem;
  words = v.words;
  slots = v.slots;
  nodes = v.nodes;
  own = v.own;
  good_table = v.good_table;
  sound = v.sound;
  reels = v.reels;
  frames = v.frames;
}

module _ {s : State} {t : Table} {h reel f slot n p : ℕ} {im' : List ℕ}
    (a : Asked s t h reel f slot) (l : Lands (sizes_of s.image) s t reel f slot im' n p) where
  abbrev g : Geometry
  g = sizes_of s.image

  abbrev new : HeadState
  new = Claimed (target_at slot n p f)

  abbrev heads' : List ℕ
  heads' = with_head s.heads h new

  fits_head : 5 * h + 5 ≤ length s.heads
  fits_head = omega (arith, a.low, a.agrees.head_words)

  -- the head's record, and the others
  this : head_at heads' h ≡ new
  this = head_written s.heads h new fits_head

  other : (k : ℕ) → k ≢ h → head_at heads' k ≡ head_at s.heads k
  other = head_stays s.heads h new fits_head

  about_new : {x : Target} → About x (head_at heads' h) → x ≡ target_at slot n p f
  about_new b = one_target (rw this at b) by_claim

  heads_agree : (k : ℕ) → k < head_count → HeadAgrees g (reads im') (head_at heads' k) (table_head (with_table_head t h (claimed reel f)) k)
  heads_agree k b = elim (ℕ_discrete k h) [
    | yes q ↦ rw (q, this, table_head_written t h (claimed reel f) (omega (arith, a.low, a.agrees.table_heads))) (both_claimed l.claims)
    | no q ↦ rw (other k q, table_head_stays t h k (claimed reel f) q) (head_on l.rule (λ x r f b c. l.carries x r f c) (a.agrees.heads k b))
  ]

  -- no other head meets the new one
  not_both : {x y : Target} (k : ℕ) → k < head_count → k ≢ h → About x (head_at heads' h) → About y (head_at heads' k)
      → (x.node ≡ y.node) ⊎ ((x.slot ≡ y.slot) × (x.frame ≡ y.frame)) → ⊥
  not_both {x} {y} k b d c c' e =
      let z = about_new c in
      let o = rw (other k d) at c' in
      elim e [
        | inl q ↦ l.unclaimed.none k b o (sym q ∙ ap (λ x. x.node) z)
        | inr q ↦ a.other_frame k b o (sym q.0 ∙ ap (λ x. x.slot) z) (sym q.1 ∙ ap (λ x. x.frame) z)
      ]

  turned : (x y : Target) → (x.node ≡ y.node) ⊎ ((x.slot ≡ y.slot) × (x.frame ≡ y.frame))
      → (y.node ≡ x.node) ⊎ ((y.slot ≡ x.slot) × (y.frame ≡ x.frame))
  turned x y (inl q) = inl (sym q)
  turned x y (inr q) = inr (sym q.0, sym q.1)

  heads_apart : (k k' : ℕ) {x y : Target} → k < head_count → k' < head_count → About x (head_at heads' k) → About y (head_at heads' k')
      → (x.node ≡ y.node) ⊎ ((x.slot ≡ y.slot) × (x.frame ≡ y.frame)) → k ≡ k'
  heads_apart k k' {x} {y} b b' c c' e = elim (ℕ_discrete k h) [
    | yes q ↦ elim (ℕ_discrete k' h) [
      | yes q' ↦ q ∙ sym q'
      | no q' ↦ absurd (not_both k' b' q' (rw q at c) c' e)
    ]
    | no q ↦ elim (ℕ_discrete k' h) [
      | yes q' ↦ absurd (not_both k b q (rw q' at c') c (turned x y e))
      | no q' ↦ a.agrees.apart k k' b b' (rw (other k q) at c) (rw (other k' q') at c') e
    ]
  ]

  -- the places claimed are those before, and the new one
  claims_place : (k q : ℕ) → ((i : ℕ) × ClaimsPlace heads' i k q) ↔ (((i : ℕ) × ClaimsPlace s.heads i k q) ⊎ ((k ≡ n) × (q ≡ p)))
  claims_place k q = (there, back)
    where
      there : (i : ℕ) × ClaimsPlace heads' i k q → ((i : ℕ) × ClaimsPlace s.heads i k q) ⊎ ((k ≡ n) × (q ≡ p))
      there (i, c) = elim (ℕ_discrete i h) [
        | yes e ↦ let z = about_new (rw e at c.about) in inr (sym c.node ∙ ap (λ x. x.node) z, sym c.place ∙ ap (λ x. x.place) z)
        | no e ↦ inl (i, record { target = c.target; low = c.low; about = rw (other i e) at c.about; node = c.node; place = c.place })
      ]

      back : ((i : ℕ) × ClaimsPlace s.heads i k q) ⊎ ((k ≡ n) × (q ≡ p)) → (i : ℕ) × ClaimsPlace heads' i k q
      back (inl (i, c)) =
          let e : i ≢ h = λ e. idle_nothing a.idle (rw e at c.about) in
          (i, record { target = c.target; low = c.low; about = rw (other i e) c.about; node = c.node; place = c.place })
      back (inr (e, e')) = (h, record { target = target_at slot n p f; low = a.low; about = rw this by_claim; node = sym e; place = sym e' })

  heads_located : (k q : ℕ) → Reached g (reads im') k → q < 64
      → (is_set (reads im' (locate_at g k)) q ≡ true) ↔ ((held g (reads im') k q ≡ true) ⊎ ((i : ℕ) × ClaimsPlace heads' i k q))
  heads_located k q r b =
      let u = l.locates k q r b in
      let c = claims_place k q in (
        λ e. elim (u.0 e) [ inl x ↦ elim x [ inl y ↦ inl y | inr y ↦ inr (c.1 (inl y)) ] | inr x ↦ inr (c.1 (inr x)) ],
        λ e. elim e [ inl y ↦ u.1 (inl (inl y)) | inr y ↦ elim (c.0 y) [ inl z ↦ u.1 (inl (inr z)) | inr z ↦ u.1 (inr z) ] ],
      )

  pub landed : Agrees (record { image = im'; pool = s.pool; heads = heads' }) (with_table_head t h (claimed reel f))
  landed = agrees_of l.geometry (shows_heads h (claimed reel f) l.shows) (record {
    map_words_lem = a.agrees.map_words_lem;
    marks = λ k. let u = a.agrees.marks k in (λ e. (l.reached k).0 (u.0 e), λ r. u.1 ((l.reached k).1 r));
    head_words = length_with s.heads h new fits_head ∙ a.agrees.head_words;
    table_heads = length_with_table t h (claimed reel f) ∙ a.agrees.table_heads;
    heads = heads_agree;
    apart = heads_apart;
    locates = heads_located;
  })
