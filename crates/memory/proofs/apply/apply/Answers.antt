use Rattle.memory.proofs.Passes.{refused, done}
use Rattle.memory.proofs.apply.apply.Goals as goal

pub returns-then-not-is_script : goal.returns-then-not-is_script
returns-then-not-is_script c = refused _ _ cc

pub returns : goal.returns
returns c = done _ _ _ (cc) c.make_stores.ensures
