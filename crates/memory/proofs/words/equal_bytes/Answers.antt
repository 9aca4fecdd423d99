use Rattle.std.specs.Prelude.{◌*◌, bit_xor}
use Rattle.memory.proofs.Bytes.{low_sum_fits, equal_bytes}
use Rattle.memory.proofs.words.equal_bytes.Goals as goal

pub overflow_add-differs : goal.overflow_add-differs
overflow_add-differs c = record { fits = low_sum_fits (bit_xor c.args.w (c.args.b * 0x0101010101010101)) }

pub returns : goal.returns
returns c = equal_bytes _ _ c.requires
