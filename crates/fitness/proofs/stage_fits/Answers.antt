-- Each arm is a case of the definition.
use Rattle.fitness.proofs.stage_fits.Goals as goal

pub returns-in-Proposing : goal.returns-in-Proposing
returns-in-Proposing c = rw c.in-Proposing.is

pub returns-in-Voting : goal.returns-in-Voting
returns-in-Voting c = rw c.in-Voting.is
