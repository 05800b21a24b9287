-- No more numbers are counted than are stored.
use Rattle.std.proofs.Common.{◌≤◌, length}
use Rattle.call_cases.proofs.read_numbers.Given as goal

abbrev pub invariant-loop-word : goal.invariant-loop-word
invariant-loop-word l = l.count ≤ length l.numbers
