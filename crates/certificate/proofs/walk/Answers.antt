-- What the calls give is the walk, and its answer is the check's. Where no code is computed any code gives that answer.
use Prim.Native.Nat.{◌+◌, ◌*◌}
use mathlib.Core.Path.{◌≡◌, ap, ◌∙◌}
use native.Mathlib.Omega.{arith}
use lib.ListN.{length, get_or}
use Rattle.format.specs.Form.{present_form}
use Rattle.format.proofs.Laws.Parts.{sizes}
use Rattle.format.specs.Returns.{number_in}
use Rattle.hmac.specs.Hmac.{code_from}
use Rattle.walk.specs.declared.Findings.{Findings}
use Rattle.walk.specs.Walk.{started}
use Rattle.certificate.proofs.Laws.Calls.{glance_counted}
use Rattle.certificate.proofs.Laws.Answers.{judged_walk}
use Rattle.certificate.proofs.walk.Goals as goal

pub take_up-t-requires : goal.take_up-t-requires
take_up-t-requires c =
    let counted : length c.args.ws.now ≡ 1 + (1 + c.args.count) * 10 =
    let b = sizes present_form _ c.requires.1 in
    omega (arith, b.1, c.requires.2) in
    omega (arith, counted)

pub through-f-requires : goal.through-f-requires
unfolding started
through-f-requires c =
    let counted : length c.args.ws.now ≡ 1 + (1 + c.args.count) * 10 =
    let b = sizes present_form _ c.requires.1 in
    omega (arith, b.1, c.requires.2) in
    let z = sizes present_form _ c.requires.1 in
    (ap (λ (r : Findings). r.place) c.start-begun.ensures, omega (arith, z.0, c.requires.2), omega (arith, counted))

pub returns : goal.returns
returns c =
    let counted : length c.args.ws.now ≡ 1 + (1 + c.args.count) * 10 =
    let b = sizes present_form _ c.requires.1 in
    omega (arith, b.1, c.requires.2) in
    let a = c.args in
    judged_walk a.key a.n a.asked a.ws.now c.requires.0 c.requires.1 (code_from c.states_for-states.result) c.take_up-t.result.words c.read_fields-m.result a.count c.start-begun.result (number_in c.answer_behind.result)
    c.well_formed-good.result c.allows-fits.result c.take_up-t.ensures c.read_fields-m.ensures c.well_formed-good.ensures c.allows-fits.ensures c.states_for-states.ensures c.requires.2
    c.start-begun.ensures
    (c.answer_behind.ensures
    ∙ glance_counted a.n (get_or c.take_up-t.result.words 1 0) a.ws.now a.count c.through-f.result counted
    ∙ c.through-f.ensures)
