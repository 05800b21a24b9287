-- A refused opening changes nothing; any other is an event.
use mathlib.Core.Path.{◌∙◌, ap}
use native.Mathlib.Omega.{arith}
use Rattle.station.specs.Calls.{Returned}
use Rattle.valley_world.specs.Group.{returned_by}
use Rattle.valley_events.proofs.Laws.Turns.{turned_as, refused_opening}
use Rattle.valley_world.specs.Valley.{event, after_opening, later_turn}
use Rattle.valley_events.proofs.open_event.Goals as goal

pub returns : goal.returns
unfolding later_turn
returns c = let a = c.args in
    let k = c.open_call-c in
    turned_as
    (refused_opening a.w a.number a.s (returned_by k.result) (omega (arith, c.if-c-gt0.false))
    ∙ ap (λ (x : Returned). event a.w a.number a.s x (after_opening a.w a.s x)) k.ensures)
    c.told.ensures
