-- Each arm is a case of the definition.
use Rattle.refusal.specs.Refusal.{conflicting}
use Rattle.refusal.proofs.conflicts.Goals as goal

pub returns-in-Gathering : goal.returns-in-Gathering
unfolding conflicting
returns-in-Gathering c = rw c.in-Gathering.is

pub returns-in-Proposing : goal.returns-in-Proposing
unfolding conflicting
returns-in-Proposing c = rw (c.both_values.ensures, c.in-Proposing.is)

pub returns-in-Voting : goal.returns-in-Voting
unfolding conflicting
returns-in-Voting c = rw (c.both_values-in-Voting.ensures, c.in-Voting.is)
