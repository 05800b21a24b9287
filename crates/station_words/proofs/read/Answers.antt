-- Words that are no station are malformed.
use Rattle.std.proofs.Common.{ap, ◌∙◌}
use Rattle.station_words.specs.Words.{read_by}
use Rattle.station_words.proofs.Laws.Code.{read_is}
use Rattle.station_words.proofs.read.Goals as goal

pub returns : goal.returns
returns c = ap read_by c.ok_or.ensures.value ∙ read_is c.args.ws.now _ c.station_in.ensures
