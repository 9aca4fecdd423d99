-- A test computes to true exactly if what it says holds.
use mathlib.Core.Path.{◌≡◌}
use mathlib.Core.Bool.{true}
use mathlib.Core.Logic.{inl, inr}
use lib.Dec.{eqb}
use borrow.Author.Tests.{ltb-true, leb-true, eqb-true, eqb-false, lt-ltb, le-leb, eq-eqb, ne_eqb, not-true}
use Rattle.tree.specs.Test.{Test, lt, le, eq, ne, is, ◌and◌, ◌or◌, holds, Says}
use Rattle.tree.proofs.Cases.{and-true, true_and, or-true, or_left, or_right}

pub says : (t : Test) → holds t ≡ true → Says t
says (lt a b) h = ltb-true a b h
says (le a b) h = leb-true a b h
says (eq a b) h = eqb-true a b h
says (ne a b) h = eqb-false a b (not-true (eqb a b) h)
says (is b) h = h
says (t and u) h = let p = and-true (holds t) (holds u) h in (says t p.0, says u p.1)
says (t or u) h = elim (or-true (holds t) (holds u) h) [ inl x ↦ inl (says t x) | inr x ↦ inr (says u x) ]

pub said : (t : Test) → Says t → holds t ≡ true
said (lt a b) h = lt-ltb a b h
said (le a b) h = le-leb a b h
said (eq a b) h = eq-eqb a b h
said (ne a b) h = rw (ne_eqb a b h)
said (is b) h = h
said (t and u) h = true_and (said t h.0) (said u h.1)
said (t or u) h = elim h [ inl x ↦ or_left (holds u) (said t x) | inr x ↦ or_right (holds t) (said u x) ]
