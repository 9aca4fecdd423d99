-- A crash on either memory module, as one on the present module: cut as far into the script.
use mathlib.Core.List.{List}
use Prim.Native.Nat.{ℕ}
use Rattle.tree.specs.Memory.{segmented, Module, ours_on, CrashImage}
use Rattle.tree.proofs.Memory.{module_laws}
use Rattle.book.specs.State.{State, Operation}
use Rattle.book.specs.Perform.{perform}
use Rattle.book.specs.Histories.{Interrupted}

pub our_crash : {op : Operation} {s : State} {k : ℕ} {m : List ℕ} {on : Module} (c : Interrupted on op s k m)
    → let es = segmented (perform op s).work.script in CrashImage c.itself es (ours_on on es k) m
our_crash {op} {s} {k} {m} {on} c = module_laws.refines on c.itself (perform op s).work.script k m c.script
