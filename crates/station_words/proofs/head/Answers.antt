-- The words of the settings one by one, those of the stage as they were told.
use Rattle.station_words.proofs.Laws.Code.{head_is, truth_is}
use Rattle.station_words.proofs.head.Goals as goal

pub returns : goal.returns
returns c = head_is c.args.t _ _ c.stage_words.ensures (truth_is c.args.t.closed _ c.from.ensures)
