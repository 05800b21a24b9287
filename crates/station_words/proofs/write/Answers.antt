-- A refusal changes nothing; else the words are put.
use Rattle.std.proofs.Common.{sym, ap, ◌∙◌}
use Rattle.std.proofs.lemmas.Result.{err_from_is_err_and}
use Rattle.format.specs.Returns.{number_in}
use Rattle.station_words.proofs.Laws.Code.{not_wrote, wrote, has_room}
use Rattle.station_words.proofs.write.Goals as goal

pub returns-in_err-refusal : goal.returns-in_err-refusal
returns-in_err-refusal c =
    let p = err_from_is_err_and c.from_residual.result c.from_residual.ensures.1 in
    rw (p.1, p.2) (not_wrote c.args.t c.args.out.now _ (sym (ap number_in c.in_err-refusal.was) ∙ c.refusal.ensures))

pub put_station-requires : goal.put_station-requires
put_station-requires c = has_room c.args.t _ (sym (ap number_in c.in_ok-refusal.was) ∙ c.refusal.ensures)

pub returns : goal.returns
returns c =
    wrote c.args.t c.args.out.now _ (sym (ap number_in c.in_ok-refusal.was) ∙ c.refusal.ensures) c.put_station.ensures
