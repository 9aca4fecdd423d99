-- Fields that the code found, and the lines read with them: one law for each way through the code.
use mathlib.Core.Path.{◌≡◌, refl, sym, ◌∙◌, ap}
use mathlib.Core.Bool.{true, false}
use mathlib.Core.List.{List, [], ◌∷◌, ◌++◌}
use Prim.Native.Nat.{ℕ, ◌+◌, ◌≤◌, ◌<◌}
use native.Mathlib.Omega.{arith}
use native.Mathlib.Numerals.{add-one}
use lib.ListN.{length, get_or, take, drop, set, drop_of_length-le, take-append-drop}
use lib.Seq.{take_all, length-take-le, drop-cons}
use denote.Ref.{Bor}
use borrow.Author.Tests.{lt-ltb, le-ltb}
use Rattle.std.specs.Prelude.{Option, Some, None, ◌==◌}
use Rattle.std.specs.Bool.{then_some}
use Rattle.std.proofs.Math.Dec.{eqb-suc-zero}
use Rattle.std.proofs.lemmas.List.{get_or-map, length-map, take_more_set}
use Rattle.lines.specs.Reading.{number, begins, field, Awaits, read_as, Kind, kinds, read_first, longest, line_of}
use Rattle.lines.specs.declared.line.Line.{Line}
use Rattle.lines.specs.Found.{texts_in, given_from, with_found}

-- ---- a text, then a number

pub text_missing : (text bs : List ℕ) → begins text bs ≡ false → field text bs ≡ None
unfolding field
text_missing text bs e = rw e refl

pub text_found : (text bs : List ℕ) → begins text bs ≡ true → field text bs ≡ number (drop (length text) bs)
unfolding field
text_found text bs e = rw e refl

-- ---- fields in turn

-- a line read with the numbers found so far, and the bytes behind them
unfoldable pub read_on : (texts : List (List ℕ)) → Awaits texts → List ℕ → List ℕ → Option Line
read_on texts f [] bs = read_as texts f bs
read_on [] l (n ∷ ns) bs = None
read_on (t ∷ ts) f (n ∷ ns) bs = read_on ts (f n) ns bs

-- the next text is missing
on_missing : (texts : List (List ℕ)) (f : Awaits texts) (ns bs : List ℕ) → length ns < length texts
    → field (get_or texts (length ns) []) bs ≡ None → read_on texts f ns bs ≡ None
unfolding read_on read_as
on_missing [] f ns bs h e = absurd (omega arith)
on_missing (t ∷ ts) f [] bs h e = rw e refl
on_missing (t ∷ ts) f (n ∷ ns) bs h e = on_missing ts (f n) ns bs (omega arith) e

-- it stands there with its number
on_found : (texts : List (List ℕ)) (f : Awaits texts) (ns bs : List ℕ) (n : ℕ) (rest : List ℕ) → length ns < length texts
    → field (get_or texts (length ns) []) bs ≡ Some (n, rest) → read_on texts f ns bs ≡ read_on texts f (ns ++ n ∷ []) rest
unfolding read_on read_as
on_found [] f ns bs n rest h e = absurd (omega arith)
on_found (t ∷ ts) f [] bs n rest h e = rw e refl
on_found (t ∷ ts) f (m ∷ ns) bs n rest h e = on_found ts (f m) ns bs n rest (omega arith) e

-- behind the last number the line ends, or it does not
on_ended : (texts : List (List ℕ)) (f : Awaits texts) (i : ℕ) (ns : List ℕ) → length ns ≡ i + length texts
    → read_on texts f (drop i ns) [] ≡ Some (given_from i texts f ns)
unfolding read_on read_as
on_ended [] l i ns h = let none : length ns ≤ i = omega arith in rw (drop_of_length-le ns none) refl
on_ended (t ∷ ts) f i ns h = rw (drop-cons ns i 0 (omega arith), ← add-one i) (on_ended ts (f (get_or ns i 0)) (i + 1) ns (omega arith))

pub more_left : (line : List ℕ) (next : ℕ) (l : Line) → next < length line → read_as [] l (drop next line) ≡ None
unfolding read_as
more_left line next l h = rw (drop-cons line next 0 h)

on_more : (texts : List (List ℕ)) (f : Awaits texts) (ns bs : List ℕ) → length ns ≡ length texts → 0 < length bs → read_on texts f ns bs ≡ None
unfolding read_on read_as
on_more texts f ns [] h g = absurd (omega arith)
on_more [] f [] (b ∷ bs) h g = more_left (b ∷ bs) 0 f g
on_more [] f (n ∷ ns) (b ∷ bs) h g = refl
on_more (t ∷ ts) f [] (b ∷ bs) h g = absurd (omega arith)
on_more (t ∷ ts) f (n ∷ ns) (b ∷ bs) h g = on_more ts (f n) ns (b ∷ bs) (omega arith) g

-- the code's loop over the texts: the numbers of the first i are found
module _ (texts : List (Bor (List ℕ))) (f : Awaits (texts_in texts)) (numbers bs : List ℕ) (i : ℕ) (t : Bor (List ℕ)) (h : i < length texts)
    (g : i < length numbers) where
  here : get_or (texts_in texts) (length (take i numbers)) [] ≡ (get_or texts i t).now
  here = rw (length-take-le i numbers (omega arith)) (get_or-map (λ x. x.now) texts i t [] h)

  room : length (take i numbers) < length (texts_in texts)
  room = rw (length-take-le i numbers (omega arith), length-map texts (λ x. x.now)) h

  pub next_missing : None ≡ field (get_or texts i t).now bs → read_on (texts_in texts) f (take i numbers) bs ≡ None
  next_missing e = on_missing _ f _ bs room (ap (λ x. field x bs) here ∙ sym e)

  pub next_found : (n : ℕ) (rest : List ℕ) → Some (n, rest) ≡ field (get_or texts i t).now bs
      → read_on (texts_in texts) f (take i numbers) bs ≡ read_on (texts_in texts) f (take (i + 1) (set numbers i n)) rest
  next_found n rest e =
      on_found _ f _ bs n rest room (ap (λ x. field x bs) here ∙ sym e) ∙ ap (λ ns. read_on (texts_in texts) f ns rest) (sym (take_more_set numbers i n g))

-- all of them are found: the line is read where nothing is left
pub all_found : (texts : List (List ℕ)) (f : Awaits texts) (numbers rest : List ℕ) (i : ℕ) → length numbers ≡ length texts → length numbers ≤ i
    → read_on texts f (take i numbers) rest ≡ with_found texts f (then_some (length rest == 0) numbers)
all_found texts f numbers [] i e h = rw (take_all i numbers h) (on_ended texts f 0 numbers (omega arith))
all_found texts f numbers (b ∷ rest) i e h = rw (take_all i numbers h, eqb-suc-zero (length rest)) (on_more texts f numbers (b ∷ rest) e (omega arith))

-- ---- kinds in turn

module _ (k : Kind) (ks : List Kind) (bs : List ℕ) where
  pub not_this : read_as k.texts k.line bs ≡ None → read_first (k ∷ ks) bs ≡ read_first ks bs
  unfolding read_first
  not_this e = rw e

  pub this : {l : Line} → read_as k.texts k.line bs ≡ Some l → read_first (k ∷ ks) bs ≡ Some l
  unfolding read_first
  this e = rw e

-- a line can be read as none of some kinds
abbrev pub IsNone : List Kind → List ℕ → Type 0
IsNone [] bs = Unit {0}
IsNone (k ∷ ks) bs = (read_as k.texts k.line bs ≡ None) × IsNone ks bs

after : (ks more : List Kind) (bs : List ℕ) → IsNone ks bs → read_first (ks ++ more) bs ≡ read_first more bs
after [] more bs w = refl
after (k ∷ ks) more bs w = not_this k (ks ++ more) bs w.0 ∙ after ks more bs w.1

pub too_long : (bs : List ℕ) → longest < length bs → line_of bs ≡ None
unfolding line_of
too_long bs h = rw (lt-ltb longest (length bs) h)

pub not_too_long : (bs : List ℕ) → length bs ≤ longest → line_of bs ≡ read_first kinds bs
unfolding line_of
not_too_long bs h = rw (le-ltb longest (length bs) h)

pub none_of_them : (bs : List ℕ) → read_first [] bs ≡ None
unfolding read_first
none_of_them bs = refl

-- a line that can be read as none of the first kinds is read as one of the others
pub read_from : (i : ℕ) (bs : List ℕ) → length bs ≤ longest → IsNone (take i kinds) bs → line_of bs ≡ read_first (drop i kinds) bs
read_from i bs h w =
    not_too_long bs h ∙ (ap (λ ks. read_first ks bs) (sym (take-append-drop i kinds)) ∙ after (take i kinds) (drop i kinds) bs w)
