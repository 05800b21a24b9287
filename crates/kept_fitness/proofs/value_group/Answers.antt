-- Each arm is a case of the definition.
use Rattle.kept_fitness.proofs.value_group.Goals as goal

pub returns-in-Proposing : goal.returns-in-Proposing
returns-in-Proposing c = rw (c.d_get_group.ensures, c.in-Proposing.is)

pub returns-in-Voting : goal.returns-in-Voting
returns-in-Voting c = rw (c.proposals.ensures, c.in-Voting.is)
