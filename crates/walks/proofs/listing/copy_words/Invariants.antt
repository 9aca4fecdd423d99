use Rattle.std.proofs.Common.{◌-◌, ◌≤◌}
use Rattle.tree.specs.Lists.{range, up_to}
use Rattle.visits.specs.Places.{words_at}
use Rattle.walks.proofs.Listings.{Writing}
use Rattle.walks.proofs.listing.copy_words.Given as goal

abbrev pub invariant-loop-k : goal.invariant-loop-k
invariant-loop-k l =
    (l.k ≤ l.count) × Writing (words_at l.image l.first (up_to l.count)) l.fn.list l.k (words_at l.image l.first (range l.k (l.count - l.k))) l.list
