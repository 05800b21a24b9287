-- The words before the turn's are summed, those from it on are still what the rounds gave.
use Rattle.block.proofs.Sums.{Summed}
use Rattle.block.proofs.compress.Given as goal

abbrev pub invariant-loop-i : goal.invariant-loop-i
invariant-loop-i l = Summed l.fn.s l.initial.sums l.sums l.i
