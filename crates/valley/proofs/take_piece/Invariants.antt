-- The loop ends: each turn takes at least one byte of what is left.
use Rattle.std.specs.Bool.{⊤}
use Rattle.std.proofs.Common.{length}
use Rattle.valley.proofs.take_piece.Given as goal

abbrev pub invariant-loop-rest : goal.invariant-loop-rest
invariant-loop-rest g l = ⊤

abbrev pub decreases-loop-rest : goal.decreases-loop-rest
decreases-loop-rest g l = length l.rest
