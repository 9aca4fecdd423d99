-- `&mut buffer[n..]` lends what is left of a buffer, and puts it back behind what stands before it.
use mathlib.Core.Path.{◌≡◌, refl}
use mathlib.Core.List.{List, [], ◌++◌, append-nil}
use Prim.Native.Nat.{ℕ, ◌-◌}
use native.Mathlib.Nat.{le_of_eq}
use lib.ListN.{length, take, drop, length-drop, drop_of_length-le}
use lib.Seq.{take_all}
use borrow.Rule.Slice.PartMut.{mid_of, post_of, put_mid}

pub rest_lent : (n : ℕ) (xs : List ℕ) → mid_of n (length xs - n) xs ≡ drop n xs
rest_lent n xs = take_all (length xs - n) (drop n xs) (le_of_eq (length-drop n xs))

pub rest_back : (n : ℕ) (xs ys : List ℕ) → put_mid n (length xs - n) xs ys ≡ take n xs ++ ys
rest_back n xs ys =
    let none : post_of n (length xs - n) xs ≡ [] = drop_of_length-le (drop n xs) (le_of_eq (length-drop n xs)) in
    rw (none, append-nil) refl
