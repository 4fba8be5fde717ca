use Rattle.ts_log.proofs.Vectors.{numbers, says_one_two_three, one_two_three_rise}
use Rattle.ts_log.proofs.tests.reads_checked_bytes.Goals as goal

pub of_checked-requires : goal.of_checked-requires
of_checked-requires g c = (numbers, says_one_two_three)

pub find_sorted-requires-clause-rising : goal.find_sorted-requires-clause-rising
find_sorted-requires-clause-rising g c = rw c.copy-view.ensures (one_two_three_rise c.of_checked.result c.of_checked.ensures.only)

pub find_sorted-requires-2-clause-rising : goal.find_sorted-requires-2-clause-rising
find_sorted-requires-2-clause-rising g c = rw c.copy-view.ensures (one_two_three_rise c.of_checked.result c.of_checked.ensures.only)

pub first_at_least-requires-clause-rising : goal.first_at_least-requires-clause-rising
first_at_least-requires-clause-rising g c = rw c.copy-view.ensures (one_two_three_rise c.of_checked.result c.of_checked.ensures.only)

pub first_at_least-requires-2-clause-rising : goal.first_at_least-requires-2-clause-rising
first_at_least-requires-2-clause-rising g c = rw c.copy-view.ensures (one_two_three_rise c.of_checked.result c.of_checked.ensures.only)
