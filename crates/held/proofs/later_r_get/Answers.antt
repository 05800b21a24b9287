-- By the scan; in round 1 it finds none.
use Rattle.held.proofs.Laws.Held.{scan_early}
use Rattle.held.proofs.later_r_get.Goals as goal

pub returns : goal.returns
returns c =
    let a = c.args in
    scan_early a.held.now.heard a.held.now.slots a.r.0 c.if-r-gt1.false
