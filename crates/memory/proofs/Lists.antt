-- Elements of a list: in its front, and by their numbers.
use mathlib.Core.Path.{◌≡◌, sym, ap}
use mathlib.Core.Option.{some, none-ne-some}
use mathlib.Core.List.Memᴰ
use mathlib.Core.List.{List, [], ◌∷◌, ◌++◌, Memᴰ}
use Prim.Native.Nat.{ℕ, zero, suc, ◌≤◌, ◌<◌}
use native.Mathlib.Omega.{arith}
use lib.ListN.{length, take, drop, get_elem?, take-append-drop}
use lib.Seq.{drop-nil, take-length}

-- what is among the first k is in the list
pub mem_take : {A : Type 0} (k : ℕ) (l : List A) {a : A} → Memᴰ a (take k l) → Memᴰ a l
mem_take k l x = rw take-append-drop at (Memᴰ.append_left (drop k l) x)

-- the elements from b on among the first k have numbers from b on and below k, and all such numbers are theirs
pub number_of : {A : Type 0} (l : List A) (b k : ℕ) {a : A} → Memᴰ a (drop b (take k l))
    → (j : ℕ) × (b ≤ j) × (j < k) × (get_elem? l j ≡ some a)
number_of l b zero x = absurd (Memᴰ.not-nil (rw drop-nil at x))
number_of [] b (suc k) x = absurd (Memᴰ.not-nil (rw drop-nil at x))
number_of (y ∷ l) zero (suc k) (Memᴰ.head q) = (0, omega arith, omega arith, ap some (sym q))
number_of (y ∷ l) zero (suc k) (Memᴰ.tail x) = let r = number_of l zero k x in (suc r.0, omega arith, omega arith, r.3)
number_of (y ∷ l) (suc b) (suc k) x = let r = number_of l b k x in (suc r.0, omega arith, omega arith, r.3)

number_below : {A : Type 0} (l : List A) (j : ℕ) {a : A} → get_elem? l j ≡ some a → j < length l
number_below [] j q = absurd (none-ne-some _ q)
number_below (y ∷ l) zero q = omega arith
number_below (y ∷ l) (suc j) q = let r = number_below l j q in omega arith

pub element_at : {A : Type 0} (l : List A) (b k j : ℕ) {a : A} → b ≤ j → j < k → get_elem? l j ≡ some a → Memᴰ a (drop b (take k l))
element_at l b zero j g h q = absurd (omega arith)
element_at [] b (suc k) j g h q = absurd (none-ne-some _ q)
element_at (y ∷ l) zero (suc k) zero g h q = Memᴰ.head {x = y} cc
element_at (y ∷ l) zero (suc k) (suc j) g h q = Memᴰ.tail (element_at l zero k j (omega arith) (omega arith) q)
element_at (y ∷ l) (suc b) (suc k) zero g h q = absurd (omega arith)
element_at (y ∷ l) (suc b) (suc k) (suc j) g h q = element_at l b k j (omega arith) (omega arith) q

-- the same of all elements from b on
pub number_from : {A : Type 0} (l : List A) (b : ℕ) {a : A} → Memᴰ a (drop b l) → (j : ℕ) × (b ≤ j) × (get_elem? l j ≡ some a)
number_from l b {a} x = let r = number_of l b (length l) {a = a} (rw take-length x) in (r.0, r.1, r.3)

pub element_from : {A : Type 0} (l : List A) (b j : ℕ) {a : A} → b ≤ j → get_elem? l j ≡ some a → Memᴰ a (drop b l)
element_from l b j h q = rw take-length at (element_at l b (length l) j h (number_below l j q) q)

-- one more element in front
pub take_through : {A : Type 0} (l : List A) (j : ℕ) {a : A} → get_elem? l j ≡ some a → take (suc j) l ≡ take j l ++ a ∷ []
take_through [] j q = absurd (none-ne-some _ q)
take_through (y ∷ l) zero q = cc
take_through (y ∷ l) (suc j) q = ap (λ t. y ∷ t) (take_through l j q)
