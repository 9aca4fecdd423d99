-- The edition, word 0 of the image, and with it the header through histories: statements alone, over any state. The rule of
-- an edition is `rule_for` of `tree`; that of an image, which may have its own table, is `rule_of` (OwnTables).
use Rattle.std.specs.Prelude.{◌≡◌, List, ℕ, ◌<◌}
use Rattle.tree.specs.Memory.{Memory, Module}
use Rattle.tree.specs.Layout.{edition_at}
use Rattle.book.specs.State.{State, Operation, format, memory}
use Rattle.book.specs.Perform.{perform}
use Rattle.book.specs.Histories.{done, Steady, Interrupted, Recovered}

-- words 0 to 63 are the same
abbrev pub SameHeader : Memory → Memory → Type 0
SameHeader m m' = (i : ℕ) → i < 64 → m i ≡ m' i

pub record Editions (on : Module) : Type 0 where
  -- an answered format makes the book one of edition 2
  pub formatted : (words : ℕ) (table : List ℕ) (slots nodes : ℕ) (s : State) → (perform (format words table slots nodes) s).answer ≡ 0
      → memory (done (format words table slots nodes) s) edition_at ≡ 2
  -- any other operation, or a refused format, keeps the header, and so the edition
  pub kept : (op : Operation) (s : State) → (Steady op (perform op s).answer → ⊥) → SameHeader (memory s) (memory (done op s))
  -- and so does a crash in it, with any recoveries up to the one that ends
  pub crashed : (op : Operation) (s s' : State) (k : ℕ) (m : List ℕ) → Interrupted on op s k m → Recovered on m s'
      → SameHeader (memory s) (memory s')
