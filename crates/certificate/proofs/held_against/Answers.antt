-- A turn is one unfolding of the definition.
use Rattle.std.proofs.Common.{◌≡◌, ◌+◌, ◌∙◌, sym, ap, false, ◌||◌}
use Rattle.laws.specs.Bools.{neither}
use Rattle.hmac.specs.Hmac.{code_from}
use Rattle.certificate.proofs.Laws.Calls.{group_turn}
use Rattle.certificate.proofs.held_against.Goals as goal

pub loop-place-preserved : goal.loop-place-preserved
loop-place-preserved c =
    let a = c.args in
    let f = c.loop-place.f in
    let i = c.loop-place.invariant in
    let clean : (f.malformed || f.other || f.wrong) ≡ false = sym c.at_fault.ensures ∙ c.if-at_fault.false in
    let formed : f.malformed ≡ false = (neither f.malformed f.other (neither (f.malformed || f.other) f.wrong clean).0).0 in
    let here = i.0 in
    let inside = rw (← here) at c.loop-place-test.true in
    let words = rw (← here) at c.take_up-t.ensures in
    let turned = rw (← here) at c.turn.ensures in
    let t = group_turn (code_from a.key) a.n a.g a.question a.ws.now f c.turn.result c.take_up-t.result.words a.end inside formed words turned in
    (t.0 ∙ ap (λ p. p + 1) here, i.1 ∙ t.1)
