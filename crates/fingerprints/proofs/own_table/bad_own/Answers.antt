use Rattle.std.proofs.Common.{rules, refl}
use Rattle.tree.specs.Layout.{table_at}
use Rattle.tree.specs.Fingerprint.{bad_own}
use Rattle.fingerprints.proofs.Flags.{words_alone}
use Rattle.fingerprints.proofs.own_table.bad_own.Goals as goal

pub returns-in-1 : goal.returns-in-1
unfolding bad_own
returns-in-1 c =
    rw (c.has_every.ensures, words_alone c.args.image.now table_at, ← c.edition.ensures, ← c.own_word.ensures, c.if-edition-eq2.true, c.in-1.is)
    refl

pub returns-in_default : goal.returns-in_default
unfolding bad_own
returns-in_default c = search rules

pub returns-else-edition-eq2 : goal.returns-else-edition-eq2
unfolding bad_own
returns-else-edition-eq2 c = search rules
