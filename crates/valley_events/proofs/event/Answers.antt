-- By whether a bundle was written, and whether there is room for it.
use native.Mathlib.Omega.{arith}
use Rattle.valley_world.specs.Group.{returned_by}
use Rattle.valley_events.proofs.Laws.Turns.{turned_as, quiet_event, bundle_event}
use Rattle.valley_events.proofs.event.Goals as goal

pub returns-then-c-eq0 : goal.returns-then-c-eq0
returns-then-c-eq0 c = let a = c.args in
    turned_as
    (quiet_event a.w _ a.number a.s (returned_by a.c) c.if-c-eq0.true c.moved-u.ensures)
    c.told.ensures

pub returns : goal.returns
returns c = let a = c.args in
    turned_as
    (bundle_event a.w _ _ a.number a.s (returned_by a.c) c.if-c-eq0.false
    (omega arith) c.moved-u.ensures
    c.with_bundle.ensures)
    c.told-2.ensures
