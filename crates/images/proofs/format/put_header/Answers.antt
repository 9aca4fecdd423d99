use Rattle.std.proofs.Common.{arith}
use Rattle.images.proofs.Formatting.{header_filled}
use Rattle.images.proofs.format.put_header.Goals as goal

pub returns : goal.returns
returns c = header_filled c.args.g c.args.image.now c.fill.new.self (omega arith) (c.fill.ensures.after (λ y p. p))
