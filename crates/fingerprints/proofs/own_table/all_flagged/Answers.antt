use Rattle.std.proofs.Common.{arith, rules, length, ◌≡◌, true, nat_eq, ◌&&◌}
use Rattle.std.specs.List.{fold}
use Rattle.std.proofs.lemmas.Grind.{common_steps}
use Rattle.fingerprints.proofs.Flags.{all_ones}
use Rattle.fingerprints.proofs.own_table.all_flagged.Goals as goal

pub returns : goal.returns
returns c =
    let e : c.fold.result ≡ fold (λ all x. all && nat_eq x 1) true c.args.seen.now = grind (arith, common_steps) in
    let long : length c.args.seen.now ≡ 256 = search rules in
    rw (e, ← long) (all_ones _)
