-- A list that frames are written to in turn: some are written, some are left.
use mathlib.Core.Path.{◌≡◌, refl, sym, ◌∙◌, ap}
use mathlib.Core.List.{List, [], ◌∷◌, ◌++◌, append_assoc, append-nil}
use Prim.Native.Nat.{ℕ, suc, ◌+◌, ◌-◌, ◌≤◌, ◌<◌}
use native.Mathlib.Omega.{arith}
use native.Mathlib.Numerals.{add-one}
use lib.ListN.{length, take, drop, set, length-append, length-drop, length-set, take-append-drop}
use lib.Seq.{length-take-le, take_at, drop_at, take-suc-set, drop-set-lt, drop-cons, drop-drop}
use borrow.Rule.Slice.PartMut.{mid_of, put_mid}
use Rattle.slices.proofs.Rest.{rest_lent, rest_back}
use Rattle.tree.specs.Subtree.{listed}

-- k of all frames are written; with those left, all are listed in the buffer
pub record Writing (all buffer : List ℕ) (k : ℕ) (left list : List ℕ) : Type 0 where
  pub counts : k + length left ≡ length all
  pub same_length : length list ≡ length buffer
  pub is : take k list ++ listed left (drop k list) ≡ listed all buffer

pub starts : (all buffer : List ℕ) → Writing all buffer 0 all buffer
starts all buffer = record { counts = omega arith; same_length = refl; is = refl }

pub ends : {all buffer : List ℕ} {k : ℕ} {list : List ℕ} → Writing all buffer k [] list → (k ≡ length all) × (list ≡ listed all buffer)
unfolding listed
ends {k = k} {list = list} w = (omega (arith, w.counts), sym (take-append-drop k list) ∙ w.is)

-- one more frame
pub one_more : {all buffer : List ℕ} {k v : ℕ} {left list : List ℕ} → k < length list → Writing all buffer k (v ∷ left) list
    → Writing all buffer (k + 1) left (set list k v)
unfolding listed
one_more {k = k} {v} {left} {list} h w = record {
  counts = omega (arith, w.counts);
  same_length = length-set list k v ∙ w.same_length;
  is = rw (add-one k, take-suc-set list k v h, drop-set-lt (suc k) list k v (omega arith), append_assoc) (rw (drop-cons list k 0 h) at w.is);
}

listed_append : (fs gs buffer : List ℕ) → listed (fs ++ gs) buffer ≡ fs ++ listed gs (drop (length fs) buffer)
unfolding listed
listed_append fs gs buffer = rw (length-append fs gs, append_assoc, drop-drop (length gs) (length fs) buffer) refl

-- what is left begins with fs, and the rest of the list has room for them
pub rest_room : {all buffer : List ℕ} {k : ℕ} {left list : List ℕ} (fs more : List ℕ) → left ≡ fs ++ more → length all ≤ length buffer
    → Writing all buffer k left list → (k + length fs ≤ length list) × (length fs ≤ length (mid_of k (length list - k) list))
rest_room {k = k} {list = list} fs more e h w =
    rw (rest_lent k list, length-drop k list) (omega (arith, ap length e, length-append fs more, w.counts, w.same_length))

-- the rest is lent on, and they are written there
pub several : {all buffer : List ℕ} {k : ℕ} {left list : List ℕ} (fs more ys : List ℕ) → left ≡ fs ++ more → length all ≤ length buffer
    → Writing all buffer k left list → ys ≡ listed fs (mid_of k (length list - k) list)
    → Writing all buffer (k + length fs) more (put_mid k (length list - k) list ys)
unfolding listed
several {k = k} {list = list} fs more ys e h w q =
    let fits = (rest_room fs more e h w).0 in
    let front = take k list in
    let rest = drop (length fs) (drop k list) in
    let now : put_mid k (length list - k) list ys ≡ (front ++ fs) ++ rest = rw (rest_back k list ys, q, rest_lent k list, append_assoc) refl in
    let at : length (front ++ fs) ≡ k + length fs = simp length-append (omega (arith, length-take-le k list (omega arith))) in
    record {
      counts = omega (arith, ap length e, length-append fs more, w.counts);
      same_length = rw now (simp (length-append, length-drop) (omega (arith, length-take-le k list (omega arith), w.same_length)));
      is = rw (now, take_at (front ++ fs) rest (k + length fs) at, drop_at (front ++ fs) rest (k + length fs) at, append_assoc)
          (rw (e, listed_append fs more (drop k list)) at w.is);
    }

-- all that is left is written there
pub rest_fits : {all buffer : List ℕ} {k : ℕ} {left list : List ℕ} → length all ≤ length buffer → Writing all buffer k left list
    → (k + length left ≤ length list) × (length left ≤ length (mid_of k (length list - k) list))
rest_fits {left = left} h w = rest_room left [] (sym (append-nil left)) h w

pub rest_written : {all buffer : List ℕ} {k : ℕ} {left list : List ℕ} (r : ℕ) (ys : List ℕ) → length all ≤ length buffer → Writing all buffer k left list
    → r ≡ length left → ys ≡ listed left (mid_of k (length list - k) list) → (k + r ≡ length all) × (put_mid k (length list - k) list ys ≡ listed all buffer)
rest_written {left = left} r ys h w p q = rw p (ends (several left [] ys (sym (append-nil left)) h w q))

-- the first are written
pub begun : {all : List ℕ} (fs more buffer : List ℕ) → all ≡ fs ++ more → length all ≤ length buffer
    → Writing all buffer (length fs) more (listed fs buffer)
unfolding listed
begun {all} fs more buffer e h =
    let rest = drop (length fs) buffer in
    let counts : length fs + length more ≡ length all = sym (length-append fs more) ∙ ap length (sym e) in
    record {
      counts = counts;
      same_length = simp (length-append, length-drop) (omega arith);
      is = rw (take_at fs rest (length fs) refl, drop_at fs rest (length fs) refl, e) (sym (listed_append fs more buffer));
    }
