-- A mill's own table through histories, proved: the rule is read from the header, which a format alone changes.
use Rattle.tree.specs.Memory.{Module}
use Rattle.tree.proofs.Laws.{table_laws}
use Rattle.book.specs.State.{memory}
use Rattle.book.specs.Histories.{done}
use Rattle.book.specs.Demands.{Demand3}
use Rattle.book.specs.OwnTables.{OwnTables}
use Rattle.book.proofs.Stored.{same_rule}
use Rattle.book.proofs.Editions.{editions}
use Rattle.book.proofs.Formatted.{format_rule}

pub own_tables_from : {on : Module} → Demand3 on → OwnTables on
own_tables_from {on} demand3 = record {
  formatted = λ words table slots nodes s h. format_rule words table (record { slots = slots; nodes = nodes }) s h;
  kept = λ op s u. same_rule (memory s) (memory (done op s)) ((editions {on = on}).kept op s u);
  crashed = λ op s s' k m c r. same_rule (memory s) (memory s') (editions.crashed op s s' k m c r);
  histories = λ s t f.
      let v = (demand3 s t f).agrees.shows in
      record { own = v.own; once_each = table_laws.image_once (memory s) v.good_table };
}
