-- Refusals as a list: tests in the paper's sequence, each with its number.
use Rattle.std.specs.Prelude.{Bool, true, cond, not, ◌&&◌, ◌||◌, List, [], ◌∷◌, ℕ, eqb}
use Rattle.tree.specs.Test.{Test, holds}

pub record Refusal : Type 0 where
  pub test : Test
  pub number : ℕ

infix 20 ◌gives◌
abbrev pub ◌gives◌ : Test → ℕ → Refusal
t gives n = record { test = t; number = n }

-- the answer: the number of the first test that holds, or 0
unfoldable pub refusal : List Refusal → ℕ
refusal [] = 0
refusal (r ∷ rs) = cond (holds r.test) r.number (refusal rs)

-- a number is come to: no test before it holds; where no test has the number, none holds at all
unfoldable pub comes_to : ℕ → List Refusal → Bool
comes_to n [] = true
comes_to n (r ∷ rs) = eqb r.number n || (not (holds r.test) && comes_to n rs)
