-- The tests are what the calls answer, and the table has their order.
use Rattle.format.specs.Words.{step_in}
use Rattle.refusal.specs.Refusal.{step_refused}
use Rattle.refusal.proofs.step_refusal.Goals as goal

pub returns : goal.returns
unfolding step_refused step_in
returns c =
    rw (c.first_failed.ensures, c.conflicts-clash.ensures, c.in_set-known.ensures, c.step_of-step.ensures, c.step_in-own.ensures)
