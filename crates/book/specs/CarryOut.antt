-- Carry out: the driver's own call, which applies a script of words to the image; and what it answers and leaves, said by words and entries.
use Rattle.std.specs.Prelude.{◌≡◌, cond, List, ℕ, length}
use Rattle.tree.specs.Memory.{reads, Entry, encode, apply, Inside, carry_out}
use Rattle.tree.specs.Test.{holds}
use Rattle.tree.specs.Layout.{bad_image, geometry_of}
use Rattle.book.specs.Due.{RightImage}

pub record Carried : Type 0 where
  pub answer : ℕ
  pub image : List ℕ

abbrev pub carried : ℕ → List ℕ → Carried
carried n m = record { answer = n; image = m }

-- refused 1 for the image, then 3 where the words are no script inside it; nothing is written then
unfoldable pub carry : List ℕ → List ℕ → Carried
carry image script =
    let o = carry_out image script in
    cond (holds (bad_image (length image) (geometry_of (reads image)))) (carried 1 image) (carried o.answer o.image)

-- the three ways in which it ends, each where the others do not hold
pub data CarriesOut (image : List ℕ) : (script : List ℕ) → Carried → Type 0 where
  -- 1 where the image's length, R or N is wrong: the image is kept
  wrong_image : {script : List ℕ} → (RightImage (length image) (geometry_of (reads image)) → ⊥) → CarriesOut image script (carried 1 image)
  -- 3 where the words are those of no entries inside the image: it is kept too
  no_script : {script : List ℕ} → RightImage (length image) (geometry_of (reads image))
      → ((es : List Entry) → Inside (length image) es → encode es ≡ script → ⊥) → CarriesOut image script (carried 3 image)
  -- 0 else: the entries, carried out one after the other
  entries : {script : List ℕ} (es : List Entry) → RightImage (length image) (geometry_of (reads image)) → Inside (length image) es → encode es ≡ script
      → CarriesOut image script (carried 0 (apply image es))

-- over any words
abbrev pub CarryLaws : Type 0
CarryLaws = (image script : List ℕ) → CarriesOut image script (carry image script)
