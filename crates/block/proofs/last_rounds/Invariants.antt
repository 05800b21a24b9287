-- Each turn is one step of `rounds`: what the rounds that remain make of the variables is what the sixteen make.
use Rattle.std.proofs.Common.{◌≡◌, drop}
use Rattle.compression.specs.Steps.{onward}
use Rattle.block.proofs.last_rounds.Given as goal

abbrev pub invariant-loop-i : goal.invariant-loop-i
invariant-loop-i l = onward (drop l.i l.k) (drop l.i l.w) l.v ≡ onward (drop 48 l.k) (drop 48 l.w) l.fn.s
