-- `line_of` reads what `shown` writes, and nothing else.
use mathlib.Core.Path.{◌≡◌, refl, sym, ◌∙◌, ap}
use mathlib.Core.Bool.{Bool, true, false, cond}
use Rattle.std.specs.Prelude.{Option, Some, None}
use Rattle.std.proofs.lemmas.Option.{none-some}
use mathlib.Core.List.{List, [], ◌∷◌, ◌++◌}
use Prim.Native.Nat.{ℕ, ◌^◌, ◌≤◌, ◌<◌}
use native.Mathlib.Omega.{arith}
use lib.ListN.{length, drop}
use lib.Dec.{ltb}
use borrow.Author.Tests.{ltb-false, le-ltb}
use Rattle.lines.specs.Decimal.{decimal}
use Rattle.lines.specs.Line.{shown, Fits}
use Rattle.lines.specs.Reading.{digit_at, number, begins, field, Awaits, and_then, read_as, Kind, kinds, or_else, read_first, longest, line_of}
use Rattle.lines.specs.declared.line.Line.{Line}
use Rattle.lines.specs.declared.line.Line.TheVariants.{Open, Claim, Fill, Commit, Abandon, Remove, Has, List as ListOf, Retire}
use Rattle.lines.specs.Laws.{LineLaws}
use Rattle.lines.proofs.Numbers.{decimal_read, read_decimal}
use Rattle.lines.proofs.Places.{begins_is}

-- ---- a text and its number

field_is : (t bs : List ℕ) (p : ℕ × List ℕ) → field t bs ≡ Some p → (bs ≡ t ++ (decimal p.0 ++ p.1)) × (p.0 < 2 ^ 64)
unfolding field
field_is t bs p e = go (begins t bs) refl e
  where
    go : (y : Bool) → begins t bs ≡ y → cond y (number (drop (length t) bs)) None ≡ Some p → (bs ≡ t ++ (decimal p.0 ++ p.1)) × (p.0 < 2 ^ 64)
    go true q e = let w = read_decimal (drop (length t) bs) p e in (begins_is t bs q ∙ ap (λ x. t ++ x) w.0, w.1)
    go false q e = absurd (none-some p e)

-- ---- what is read was shown

-- a line that waits for its numbers is shown, once it has them, as the texts and numbers behind what stands before them
abbrev Makes : (ts : List (List ℕ)) → Awaits ts → (List ℕ → List ℕ) → Type 0
Makes [] l k = (shown l ≡ k []) × Fits l
Makes (t ∷ ts) f k = (n : ℕ) → n < 2 ^ 64 → Makes ts (f n) (λ x. k (t ++ (decimal n ++ x)))

was_shown : (ts : List (List ℕ)) (f : Awaits ts) (k : List ℕ → List ℕ) (bs : List ℕ) (l : Line)
    → Makes ts f k → read_as ts f bs ≡ Some l → (shown l ≡ k bs) × Fits l
unfolding read_as
was_shown [] m k [] l g e = let q : m ≡ l = cc in rw q at g
was_shown [] m k (b ∷ bs) l g e = absurd (none-some l e)
was_shown (t ∷ ts) f k bs l g e = go (field t bs) refl e
    (λ n x h. was_shown ts (f n) (λ y. k (t ++ (decimal n ++ y))) x l (g n h))
  where
    go : (o : Option (ℕ × List ℕ)) → field t bs ≡ o → and_then o (λ n x. read_as ts (f n) x) ≡ Some l
        → ((n : ℕ) (x : List ℕ) → n < 2 ^ 64 → read_as ts (f n) x ≡ Some l → (shown l ≡ k (t ++ (decimal n ++ x))) × Fits l)
        → (shown l ≡ k bs) × Fits l
    go None q e rest = absurd (none-some l e)
    go (Some p) q e rest =
        let w = field_is t bs p q in
        let r = rest p.0 p.1 w.1 e in
        (r.0 ∙ ap k (sym w.0), r.1)

abbrev AllMake : List Kind → Type 0
AllMake [] = Unit {0}
AllMake (k ∷ ks) = Makes k.texts k.line (λ x. x) × AllMake ks

all_make : AllMake kinds
unfolding shown
all_make = (
  λ r h. (refl, (h, tt)),
  (
    λ h g r i f j. (refl, (g, (i, (j, tt)))),
    (
      λ h g. (refl, (g, tt)),
      (
        λ h g. (refl, (g, tt)),
        (
          λ h g. (refl, (g, tt)),
          (λ r h f i. (refl, (h, (i, tt))), (λ r h f i. (refl, (h, (i, tt))), (λ r h. (refl, (h, tt)), (λ r h. (refl, (h, tt)), tt)))),
        ),
      ),
    ),
  ),
)

first_shown : (ks : List Kind) (bs : List ℕ) (l : Line) → AllMake ks → read_first ks bs ≡ Some l → (shown l ≡ bs) × Fits l
unfolding read_first
first_shown [] bs l g e = absurd (none-some l e)
first_shown (k ∷ ks) bs l g e = go (read_as k.texts k.line bs) refl e (first_shown ks bs l g.1)
  where
    go : (o : Option Line) → read_as k.texts k.line bs ≡ o → or_else o (read_first ks bs) ≡ Some l
        → (read_first ks bs ≡ Some l → (shown l ≡ bs) × Fits l) → (shown l ≡ bs) × Fits l
    go None q e rest = rest e
    go (Some m) q e rest = was_shown k.texts k.line (λ x. x) bs l g.0 (q ∙ e)

read_was_shown : (bs : List ℕ) (l : Line) → line_of bs ≡ Some l → (shown l ≡ bs) × Fits l × (length bs ≤ longest)
unfolding line_of
read_was_shown bs l e = go (ltb longest (length bs)) refl e
  where
    go : (y : Bool) → ltb longest (length bs) ≡ y → cond y None (read_first kinds bs) ≡ Some l
        → (shown l ≡ bs) × Fits l × (length bs ≤ longest)
    go true q e = absurd (none-some l e)
    go false q e = let w = first_shown kinds bs l all_make e in (w.0, w.1, ltb-false longest (length bs) q)

empty_is_none : line_of [] ≡ None
unfolding line_of read_first read_as field begins
empty_is_none = refl

-- ---- what is shown is read

-- a number at the line's end, and one before a space
ended : (n : ℕ) → n < 2 ^ 64 → number (decimal n ++ []) ≡ Some (n, [])
unfolding digit_at
ended n h = decimal_read n [] h (omega arith)

spaced : (n : ℕ) → n < 2 ^ 64 → (x : List ℕ) → number (decimal n ++ 32 ∷ x) ≡ Some (n, 32 ∷ x)
unfolding digit_at
spaced n h x = decimal_read n (32 ∷ x) h (omega arith)

-- every kind before a line's own is refused at its first text; its own finds the numbers
first_own : (l : Line) → Fits l → read_first kinds (shown l) ≡ Some l
unfolding read_first read_as field begins shown
first_own (Open r) w = rw (ended r w.0)
first_own (Claim h r f) w = rw (spaced h w.0, spaced r w.1.0, ended f w.1.1.0)
first_own (Fill h) w = rw (ended h w.0)
first_own (Commit h) w = rw (ended h w.0)
first_own (Abandon h) w = rw (ended h w.0)
first_own (Remove r f) w = rw (spaced r w.0, ended f w.1.0)
first_own (Has r f) w = rw (spaced r w.0, ended f w.1.0)
first_own (ListOf r) w = rw (ended r w.0)
first_own (Retire r) w = rw (ended r w.0)

shown_is_read : (l : Line) → Fits l → length (shown l) ≤ longest → line_of (shown l) ≡ Some l
unfolding line_of
shown_is_read l w h = rw (le-ltb longest (length (shown l)) h) (first_own l w)

pub line_laws : LineLaws
line_laws = record { shown_is_read = shown_is_read; read_was_shown = read_was_shown; empty_is_none = empty_is_none }
