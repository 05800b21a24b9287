-- The two loops, one after the other, are the rounds over the whole schedule.
use Rattle.std.proofs.Common.{◌∙◌}
use Rattle.compression.specs.Compression.{constants, rounds_from}
use Rattle.compression.specs.Steps.{onward}
use Rattle.block.proofs.all_rounds.Goals as goal

pub returns : goal.returns
unfolding rounds_from onward constants
returns c = c.last_rounds-v.ensures ∙ c.first_rounds-half.ensures.1
