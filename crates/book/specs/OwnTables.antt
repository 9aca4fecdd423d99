-- A mill's own table through histories: statements alone. When 16 comes, and 4 for a bad table, Due.antt says; what Format stores,
-- Fixed.antt. The lookup's rule is stated for every table (`LookupRule` of `tree`).
use Rattle.std.specs.Prelude.{◌≡◌, cond, List, ℕ}
use Rattle.tree.specs.Memory.{Module}
use Rattle.tree.specs.Fingerprint.{rule_for, own_rule, has_own, rule_of, is_given, OnceEach}
use Rattle.book.specs.State.{State, Operation, format, memory}
use Rattle.book.specs.Perform.{perform}
use Rattle.book.specs.Table.{Table}
use Rattle.book.specs.Histories.{done, Steady, Interrupted, Recovered, Follows}

-- in a history, the plain table keeps whether one was given, and every byte occurs once in the table by which the book is read
pub record TableKept (s : State) (t : Table) : Type 0 where
  pub own : has_own (memory s) ≡ t.own
  pub once_each : OnceEach (rule_of (memory s)).table

pub record OwnTables (on : Module) : Type 0 where
  -- an answered format makes the book one that is read by the table given, or by the paper's where none was
  pub formatted : (words : ℕ) (table : List ℕ) (slots nodes : ℕ) (s : State) → (perform (format words table slots nodes) s).answer ≡ 0
      → rule_of (memory (done (format words table slots nodes) s)) ≡ cond (is_given table) (own_rule table) (rule_for 2)
  -- no other operation changes by which rule it is read, nor does a crash with its recoveries
  pub kept : (op : Operation) (s : State) → (Steady op (perform op s).answer → ⊥) → rule_of (memory s) ≡ rule_of (memory (done op s))
  pub crashed : (op : Operation) (s s' : State) (k : ℕ) (m : List ℕ) → Interrupted on op s k m → Recovered on m s'
      → rule_of (memory s) ≡ rule_of (memory s')
  pub histories : (s : State) (t : Table) → Follows on s t → TableKept s t
