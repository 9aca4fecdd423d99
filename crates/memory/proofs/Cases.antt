-- Cases of small types, with what each case tells.
use mathlib.Core.Path.{◌≡◌, refl}
use mathlib.Core.Bool.{Bool, true, false}
use mathlib.Core.Logic.{◌⊎◌, inl, inr}
use Prim.Native.Nat.{ℕ}
use native.Mathlib.Omega.{arith}

-- a test's two cases, with the equation
pub test : (b : Bool) → (b ≡ true) ⊎ (b ≡ false)
test true = inl refl
test false = inr refl

-- a test has one answer
pub clash : {A : Type 0} (t : Bool) → t ≡ true → t ≡ false → A
clash t e f = let z : ◌≡◌ {A = ℕ} 0 1 = cc in absurd (omega arith)
