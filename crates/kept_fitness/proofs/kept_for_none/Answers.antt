-- Where the scan finds a station that supplies the group, it is a quorum of none votes of the round before.
use Rattle.kept_fitness.specs.Laws.Parts.{for_none_found, for_none_missing}
use Rattle.kept_fitness.proofs.kept_for_none.Goals as goal

pub returns-then-found-eq0 : goal.returns-then-found-eq0
returns-then-found-eq0 c =
    let a = c.args in
    let s = c.for_none-found in
    for_none_missing a.n a.stage a.held.now.heard a.held.now.slots s.result c.no_group.result s.ensures c.if-found-eq0.true c.no_group.ensures

pub returns : goal.returns
returns c =
    let a = c.args in
    let s = c.for_none-found in
    for_none_found a.n a.stage a.held.now.heard a.held.now.slots s.result c.votes_for_none.result s.ensures c.round_before_in.result.0 c.if-found-eq0.false
    c.round_before_in.ensures c.votes_for_none.ensures
