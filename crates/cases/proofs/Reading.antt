-- Words read as values: one law for each way through the code.
use mathlib.Core.Path.{◌≡◌, refl, sym, ◌∙◌, ap}
use mathlib.Core.Bool.{true, false}
use mathlib.Core.List.{List, [], ◌∷◌}
use Prim.Native.Nat.{ℕ}
use lib.ListN.{get_or}
use Rattle.std.specs.Prelude.{Option, Some, None, option_map, option_and_then, codes, bytes_eq, find, ◌-◌, ◌^◌, MatchOption, IsSomeAnd, Result, Ok, Err}
use Rattle.std.specs.Result.{result_ok}
use Rattle.lines.specs.Reading.{read_as, and_then, field}
use Rattle.lines.specs.Found.{ReadsAs, with_found}
use Rattle.lines.specs.declared.line.Line.{Line}
use Rattle.lines.specs.declared.line.Line.TheVariants.{Open}
use Rattle.cases.specs.Buffers.{names, number_of, word_of, Spelled}
use Rattle.cases.specs.Values.{alone, number_behind, named}
use Rattle.cases.specs.declared.outcome.Mistake.{Mistake}
use Rattle.cases.specs.declared.buffers.Name.{Name}
use Rattle.cases.specs.declared.buffers.Name.TheVariants.{Image, Map, Heads, Scratch, Script, List as ListBuffer, Table, Copy, Module}

-- ---- a number behind a text: read with the line of a reel, which has one number

abbrev reel : Line → ℕ
reel (Open r) = r
reel _ = 0

ended : (n : ℕ) (rest : List ℕ) → option_map reel (read_as [] (Open n) rest) ≡ alone n rest
unfolding read_as
ended n [] = refl
ended n (b ∷ bs) = refl

behind : (o : Option (ℕ × List ℕ)) → option_map reel (and_then o (λ n rest. read_as [] (Open n) rest)) ≡ option_and_then (λ p. alone p.0 p.1) o
behind None = refl
behind (Some p) = ended p.0 p.1

first_of : (text : List ℕ) (r : Option (List ℕ)) → option_map reel (with_found (text ∷ []) Open r) ≡ option_map (λ ns. get_or ns 0 0) r
first_of text None = refl
first_of text (Some ns) = refl

pub read_behind : (text word : List ℕ) (r : Option (List ℕ)) → ReadsAs (text ∷ []) word r → option_map (λ ns. get_or ns 0 0) r ≡ number_behind text word
unfolding number_behind read_as
read_behind text word r h = sym (first_of text r) ∙ (ap (option_map reel) (sym (h Open)) ∙ behind (field text word))

-- ---- names

pub is_ones : (word : List ℕ) → bytes_eq word (codes "ones") ≡ true → named word ≡ Some (2 ^ 64 - 1)
unfolding named
is_ones word e = rw e refl

pub is_no_name : (word : List ℕ) → bytes_eq word (codes "ones") ≡ false → find (λ name. bytes_eq word (word_of name)) names ≡ None → named word ≡ None
unfolding named
is_no_name word e f = rw (e, f) refl

pub is_name : (word : List ℕ) (name : Name) → word_of name ≡ word → named word ≡ Some (number_of name)
unfolding named
is_name word Image e = rw (sym e) refl
is_name word Map e = rw (sym e) refl
is_name word Heads e = rw (sym e) refl
is_name word Scratch e = rw (sym e) refl
is_name word Script e = rw (sym e) refl
is_name word ListBuffer e = rw (sym e) refl
is_name word Table e = rw (sym e) refl
is_name word Copy e = rw (sym e) refl
is_name word Module e = rw (sym e) refl

-- the word as it was parsed
parsed_as : (word : List ℕ) (parsed : Result Name Mistake) → bytes_eq word (codes "ones") ≡ false → Spelled word parsed
    → option_map number_of (result_ok parsed) ≡ named word
parsed_as word (Ok name) e w = sym (is_name word name w)
parsed_as word (Err mistake) e w = sym (is_no_name word e w)

mapped : {P : Name → ℕ → Type 0} (o : Option Name) (r : Option ℕ) → MatchOption o (r ≡ None) (λ x. IsSomeAnd r (P x))
    → ((x : Name) (n : ℕ) → P x n → n ≡ number_of x) → r ≡ option_map number_of o
mapped None r w same = w
mapped (Some x) None w same = absurd w
mapped (Some x) (Some n) w same = ap Some (same x n w)

pub is_parsed : {P : Name → ℕ → Type 0} (word : List ℕ) (parsed : Result Name Mistake) (o : Option Name) (r : Option ℕ)
    → bytes_eq word (codes "ones") ≡ false → Spelled word parsed → o ≡ result_ok parsed
    → MatchOption o (r ≡ None) (λ x. IsSomeAnd r (P x)) → ((x : Name) (n : ℕ) → P x n → n ≡ number_of x) → r ≡ named word
is_parsed word parsed o r e w q m same = mapped o r m same ∙ (ap (option_map number_of) q ∙ parsed_as word parsed e w)
