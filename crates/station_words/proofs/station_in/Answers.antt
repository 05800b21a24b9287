-- The length is tested first; then the stage, the closed word and the jump word are read, and no station has a part that cannot be.
use Rattle.std.proofs.Common.{sym, ◌∙◌}
use Rattle.station_words.proofs.Laws.Code.{not_long, no_stage, no_closed, no_jump, all_read}
use Rattle.station_words.proofs.station_in.Goals as goal

pub returns-then-ws-ne-STATION_WORDS : goal.returns-then-ws-ne-STATION_WORDS
returns-then-ws-ne-STATION_WORDS c = not_long c.args.ws.now c.if-ws-ne-STATION_WORDS.true

pub returns-in_err-stage_in : goal.returns-in_err-stage_in
returns-in_err-stage_in c =
    rw c.from_residual.ensures (no_stage c.args.ws.now (sym c.stage_in.ensures ∙ c.in_err-stage_in.was))

pub returns-in_err-truth_in : goal.returns-in_err-truth_in
returns-in_err-truth_in c =
    rw c.from_residual-in_err-truth_in.ensures
    (no_closed c.args.ws.now (sym c.truth_in.ensures ∙ c.in_err-truth_in.was))

pub returns-in_err-truth_in-2 : goal.returns-in_err-truth_in-2
returns-in_err-truth_in-2 c =
    rw c.from_residual-in_err-truth_in-2.ensures
    (no_jump c.args.ws.now (sym c.truth_in-2.ensures ∙ c.in_err-truth_in-2.was))

pub returns : goal.returns
returns c =
    all_read c.args.ws.now _ _ _ _ _ _ c.if-ws-ne-STATION_WORDS.false (sym c.stage_in.ensures ∙ c.in_ok-stage_in.was)
    (sym c.truth_in.ensures ∙ c.in_ok-truth_in.was) (sym c.truth_in-2.ensures ∙ c.in_ok-truth_in-2.was) c.part.ensures c.part-2.ensures c.part-3.ensures
