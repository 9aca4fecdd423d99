use Rattle.std.proofs.Common.{◌≡◌, ℕ, ◌<◌, length, get_or}
use Rattle.book.specs.declared.HeadState.TheVariants.{Idle}
use Rattle.book.specs.Heads.{head_count, head_at}
use Rattle.operations.specs.HeadLists.{head_of}
use Rattle.operations.proofs.head_words.read_heads.Given as goal

-- the records below h are read
abbrev pub invariant-loop-h : goal.invariant-loop-h
invariant-loop-h l = record {
  count : length l.head-items ≡ head_count;
  below : (k : ℕ) → k < l.h → get_or l.head-items k (head_of Idle) ≡ head_of (head_at l.words k);
}
