-- The invariant: the statements from here on, above the last station, decide the whole. Each turn is one unfolding of the definition.
use Rattle.std.proofs.Common.{refl, sym, ◌∙◌}
use Rattle.kept_fitness.proofs.Laws.Groups.{fit_start, fit_fails, fit_goes_on, fit_end}
use Rattle.kept_fitness.proofs.statements_fit.Goals as goal

pub loop-i-init : goal.loop-i-init
loop-i-init c = fit_start c.args.ws.now c.args.g.size c.args.g c.args.n c.args.question refl

pub returns-then-not-wanted-well_formed : goal.returns-then-not-wanted-well_formed
returns-then-not-wanted-well_formed c =
    let a = c.args in
    let v = c.loop-i in
    sym
    (v.invariant
    ∙ fit_fails a.ws.now a.g.size a.g a.n a.question v.last v.i _ _ _ c.loop-i-test.true c.read_fields-f.ensures c.is_wanted.ensures c.well_formed-in-loop-i.ensures
    c.if-not-wanted-well_formed.true)

pub loop-i-preserved : goal.loop-i-preserved
loop-i-preserved c =
    let a = c.args in
    let v = c.loop-i in
    v.invariant
    ∙ fit_goes_on a.ws.now a.g.size a.g a.n a.question v.last v.i _ _ _ c.loop-i-test.true c.read_fields-f.ensures c.is_wanted.ensures c.well_formed-in-loop-i.ensures
    c.if-not-wanted-well_formed.false

pub returns : goal.returns
returns c =
    let a = c.args in
    let v = c.loop-i in
    fit_end a.ws.now a.g.size a.g a.n a.question v.last v.i c.loop-i-test.false ∙ sym v.invariant
