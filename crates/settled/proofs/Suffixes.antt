-- The suffix of a way: the low bits of the frames that go it.
use mathlib.Core.Path.{◌≡◌, refl, sym, ◌∙◌, ap₂}
use mathlib.Core.Logic.{◌↔◌}
use mathlib.Core.List.{List, [], ◌∷◌}
use Prim.Native.Nat.{ℕ, suc, ◌+◌, ◌*◌, ◌%◌, ◌^◌, ◌≤◌, ◌<◌}
use native.Mathlib.Nat.{mod-eq_of_lt, suc-mul, mul-le-mul_right}
use native.Mathlib.Omega.{arith}
use lib.ListN.{length}
use lib.Pow.{high, low}
use Rattle.memory.specs.Words.{Memory}
use Rattle.tree.specs.declared.layout.Geometry.{Geometry}
use Rattle.tree.specs.Path.{fanout, child, way_of, bits_to}
use Rattle.tree.specs.Reach.{Reaches, root, down}
use Rattle.tree.proofs.Ways.{fanout_depth, bits_next}
use Rattle.tree.proofs.Laws.{child_laws}

unfoldable pub suffix_of : List ℕ → ℕ
suffix_of [] = 0
suffix_of (c ∷ w) = c * 2 ^ bits_to (length w) + suffix_of w

-- a way and a number below the bits that it reads, which goes that way
record Leads (w : List ℕ) (x : ℕ) : Type 0 where
  fits : x < 2 ^ bits_to (length w)
  goes : w ≡ way_of (length w) x

leads_down : (w : List ℕ) (c x : ℕ) → c < fanout (length w) → Leads w x → Leads (c ∷ w) (c * 2 ^ bits_to (length w) + x)
unfolding way_of
leads_down w c x l a =
    let k = length w in
    let y = c * 2 ^ bits_to k + x in
    let h = fanout_depth k c l in
    let more : suc c * 2 ^ bits_to k ≤ fanout k * 2 ^ bits_to k = mul-le-mul_right _ l in
    let digit : c ≡ child k y = sym (child_laws.remainder k y h ∙ rw (high c (bits_to k) a.fits) (mod-eq_of_lt l)) in
    let rest : w ≡ way_of k y = a.goes ∙ (child_laws.same_way k x y).1 (mod-eq_of_lt a.fits ∙ sym (low c (bits_to k) a.fits)) in
    record { fits = rw (bits_next k h) (omega (arith, more, suc-mul c (2 ^ bits_to k), a.fits)); goes = ap₂ ◌∷◌ digit rest }

module _ {g : Geometry} {m : Memory} {s : ℕ} where
  leads : {w : List ℕ} {n : ℕ} → Reaches g m s w n → Leads w (suffix_of w)
  unfolding suffix_of way_of
  leads (root f e) = record { fits = omega arith; goes = refl }
  leads (down {w} {c} r k l e) = leads_down w c (suffix_of w) l (leads r)

  -- the frames with a way's suffix are those that go it
  pub on_way : {w : List ℕ} {n : ℕ} → Reaches g m s w n → (f : ℕ) → (f % 2 ^ bits_to (length w) ≡ suffix_of w) ↔ (w ≡ way_of (length w) f)
  on_way {w} r f =
      let a = leads r in
      let x = suffix_of w in
      let same = child_laws.same_way (length w) x f in
      let low = mod-eq_of_lt a.fits in
      (λ q. a.goes ∙ same.1 (low ∙ sym q), λ q. sym (same.0 (sym a.goes ∙ q)) ∙ low)
