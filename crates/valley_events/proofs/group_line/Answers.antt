-- By whether the size is allowed.
use Rattle.std.proofs.Common.{rules}
use Rattle.valley_events.proofs.Laws.Turns.{turned_as, no_size, group_turned}
use Rattle.valley_events.proofs.group_line.Goals as goal

pub returns-then-not-contains : goal.returns-then-not-contains
returns-then-not-contains c = let a = c.args in
    turned_as (no_size a.w a.number a.n (search rules)) c.bad.ensures

pub returns : goal.returns
returns c = let a = c.args in
    group_turned a.w _ a.number a.n a.out.now (search rules) c.group_of.ensures
