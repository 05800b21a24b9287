-- Each answer is that of the first test that fails: the tests before it have passed.
use Rattle.refusal.proofs.Laws.Answers.{answer_room, answer_range, answer_closed, answer_judged, station_low, answer_step}
use Rattle.std.proofs.Common.{sym, ap, ◌∙◌, arith}
use Rattle.std.proofs.lemmas.Result.{err_from_is_err_and}
use Rattle.format.specs.Returns.{number_in}
use Rattle.format.proofs.Laws.Returns.{above, of_ok, of_err}
use mathlib.Core.Bool.{not}
use Rattle.refusal.proofs.first_refusal.Goals as goal

pub returns-then-room-lt-OUTPUT_WORDS : goal.returns-then-room-lt-OUTPUT_WORDS
returns-then-room-lt-OUTPUT_WORDS c =
    let a = c.args in
    answer_room a.m a.t a.ws.now a.coin a.room c.if-room-lt-OUTPUT_WORDS.true

pub returns-then-not-fits_module-coin : goal.returns-then-not-fits_module-coin
returns-then-not-fits_module-coin c =
    let a = c.args in
    answer_range a.m a.t a.ws.now a.coin a.room c.if-room-lt-OUTPUT_WORDS.false c.fits_module.result c.fits_module.ensures (ap not c.if-not-fits_module-coin.true)

pub returns-then-t : goal.returns-then-t
returns-then-t c =
    let a = c.args in
    answer_closed a.m a.t a.ws.now a.coin a.room c.if-room-lt-OUTPUT_WORDS.false c.fits_module.result c.fits_module.ensures
    (ap not c.if-not-fits_module-coin.false) c.if-t.true

pub returns-in_err-judge : goal.returns-in_err-judge
returns-in_err-judge c =
    let a = c.args in
    let p = err_from_is_err_and c.from_residual.result c.from_residual.ensures.1 in
    let e = of_err c.judge.result _ c.in_err-judge.was in
    rw (p.1, p.2)
    (sym e ∙ answer_judged a.m a.t a.ws.now a.coin a.room c.if-room-lt-OUTPUT_WORDS.false c.fits_module.result c.fits_module.ensures (ap not c.if-not-fits_module-coin.false) c.if-t.false
    (number_in c.judge.result) c.judge.ensures (λ z. omega (arith, above c.in_err-judge.field-0.0, e, z)))

pub step_refusal-requires : goal.step_refusal-requires
step_refusal-requires c =
    let a = c.args in
    station_low a.m a.t a.ws.now a.coin a.room c.if-room-lt-OUTPUT_WORDS.false c.fits_module.result c.fits_module.ensures (ap not c.if-not-fits_module-coin.false) c.if-t.false
    (number_in c.judge.result) c.judge.ensures (of_ok c.judge.result _ c.in_ok-judge.was)
    a.f c.requires.0

pub returns : goal.returns
returns c =
    let a = c.args in
    answer_step a.m a.t a.ws.now a.coin a.room c.if-room-lt-OUTPUT_WORDS.false c.fits_module.result c.fits_module.ensures (ap not c.if-not-fits_module-coin.false) c.if-t.false
    (number_in c.judge.result) c.judge.ensures (of_ok c.judge.result _ c.in_ok-judge.was)
    a.f c.requires.0 a.leaps c.requires.1 (number_in c.step_refusal.result) c.step_refusal.ensures
