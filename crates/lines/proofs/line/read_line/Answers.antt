use mathlib.Core.Path.{sym, ◌∙◌}
use Rattle.std.proofs.Common.{arith}
use Rattle.lines.specs.declared.line.Line.TheVariants.{Open, Claim, Fill, Commit, Abandon, Remove, Has, List as ListOf, Retire}
use Rattle.lines.proofs.Fields.{too_long, this, read_from, none_of_them}
use Rattle.lines.proofs.line.read_line.Goals as goal

pub returns-then-line-gt-LONGEST : goal.returns-then-line-gt-LONGEST
returns-then-line-gt-LONGEST c = sym (too_long _ (omega arith))

pub returns-in-Some : goal.returns-in-Some
returns-in-Some c =
    sym (read_from 0 _ (omega arith) tt
    ∙ this _ _ _ (c.in-Some.ensures Open))

pub returns-in-Some-read_fields : goal.returns-in-Some-read_fields
returns-in-Some-read_fields c =
    sym (read_from 1 _ (omega arith) (c.in_default.ensures Open, tt)
    ∙ this _ _ _ (c.in-Some-read_fields.ensures Claim))

pub returns-in-Some-read_fields-2 : goal.returns-in-Some-read_fields-2
returns-in-Some-read_fields-2 c =
    sym (read_from 2 _ (omega arith) (c.in_default.ensures Open, (c.in_default-read_fields.ensures Claim, tt))
    ∙ this _ _ _ (c.in-Some-read_fields-2.ensures Fill))

pub returns-in-Some-read_fields-3 : goal.returns-in-Some-read_fields-3
returns-in-Some-read_fields-3 c =
    sym (read_from 3 _ (omega arith) (c.in_default.ensures Open, (c.in_default-read_fields.ensures Claim, (c.in_default-read_fields-2.ensures Fill, tt)))
    ∙ this _ _ _ (c.in-Some-read_fields-3.ensures Commit))

pub returns-in-Some-read_fields-4 : goal.returns-in-Some-read_fields-4
returns-in-Some-read_fields-4 c =
    sym (read_from 4 _ (omega arith) (c.in_default.ensures Open, (c.in_default-read_fields.ensures Claim, (c.in_default-read_fields-2.ensures Fill, (c.in_default-read_fields-3.ensures Commit, tt))))
    ∙ this _ _ _ (c.in-Some-read_fields-4.ensures Abandon))

pub returns-in-Some-read_fields-5 : goal.returns-in-Some-read_fields-5
returns-in-Some-read_fields-5 c =
    sym (read_from 5 _ (omega arith) (c.in_default.ensures Open, (c.in_default-read_fields.ensures Claim, (c.in_default-read_fields-2.ensures Fill, (c.in_default-read_fields-3.ensures Commit, (c.in_default-read_fields-4.ensures Abandon, tt)))))
    ∙ this _ _ _ (c.in-Some-read_fields-5.ensures Remove))

pub returns-in-Some-read_fields-6 : goal.returns-in-Some-read_fields-6
returns-in-Some-read_fields-6 c =
    sym (read_from 6 _ (omega arith) (c.in_default.ensures Open, (c.in_default-read_fields.ensures Claim, (c.in_default-read_fields-2.ensures Fill, (c.in_default-read_fields-3.ensures Commit, (c.in_default-read_fields-4.ensures Abandon, (c.in_default-read_fields-5.ensures Remove, tt))))))
    ∙ this _ _ _ (c.in-Some-read_fields-6.ensures Has))

pub returns-in-Some-read_fields-7 : goal.returns-in-Some-read_fields-7
returns-in-Some-read_fields-7 c =
    sym (read_from 7 _ (omega arith) (c.in_default.ensures Open, (c.in_default-read_fields.ensures Claim, (c.in_default-read_fields-2.ensures Fill, (c.in_default-read_fields-3.ensures Commit, (c.in_default-read_fields-4.ensures Abandon, (c.in_default-read_fields-5.ensures Remove, (c.in_default-read_fields-6.ensures Has, tt)))))))
    ∙ this _ _ _ (c.in-Some-read_fields-7.ensures ListOf))

pub returns-in-Some-read_fields-8 : goal.returns-in-Some-read_fields-8
returns-in-Some-read_fields-8 c =
    sym (read_from 8 _ (omega arith) (c.in_default.ensures Open, (c.in_default-read_fields.ensures Claim, (c.in_default-read_fields-2.ensures Fill, (c.in_default-read_fields-3.ensures Commit, (c.in_default-read_fields-4.ensures Abandon, (c.in_default-read_fields-5.ensures Remove, (c.in_default-read_fields-6.ensures Has, (c.in_default-read_fields-7.ensures ListOf, tt))))))))
    ∙ this _ _ _ (c.in-Some-read_fields-8.ensures Retire))

pub returns-in_default-read_fields-8 : goal.returns-in_default-read_fields-8
returns-in_default-read_fields-8 c =
    sym (read_from 9 _ (omega arith) (c.in_default.ensures Open, (c.in_default-read_fields.ensures Claim, (c.in_default-read_fields-2.ensures Fill, (c.in_default-read_fields-3.ensures Commit, (c.in_default-read_fields-4.ensures Abandon, (c.in_default-read_fields-5.ensures Remove, (c.in_default-read_fields-6.ensures Has, (c.in_default-read_fields-7.ensures ListOf, (c.in_default-read_fields-8.ensures Retire, tt)))))))))
    ∙ none_of_them _)
