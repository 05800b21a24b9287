-- By what the calls answer.
use Rattle.format.specs.Words.{step_in}
use Rattle.refusal.specs.Refusal.{jumps_by}
use Rattle.refusal.proofs.jumps.Goals as goal

pub returns : goal.returns
unfolding jumps_by step_in
returns c =
    rw (c.step_of-step.ensures, c.step_in-own.ensures)
