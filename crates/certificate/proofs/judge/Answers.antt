-- Each way out is an answer of the check, by the tests that led there.
use Prim.Native.Nat.{◌%◌}
use mathlib.Core.Bool.{true}
use mathlib.Core.Path.{◌≡◌, sym, ap, ◌∙◌}
use Rattle.format.specs.Present.{size_fits, laid_out}
use Rattle.certificate.proofs.Laws.Answers.{laid_by, judged_size, judged_layout}
use Rattle.certificate.proofs.judge.Goals as goal

pub returns-then-not-size_fits : goal.returns-then-not-size_fits
returns-then-not-size_fits c =
    let a = c.args in
    judged_size a.key a.n a.asked a.ws.now (sym c.size_fits.ensures ∙ c.if-not-size_fits.true)

pub returns-then-not-laid_out : goal.returns-then-not-laid_out
returns-then-not-laid_out c =
    let size : size_fits c.args.n ≡ true =
    sym c.size_fits.ensures ∙ c.if-not-size_fits.false in
    let laid : laid_out c.args.ws.now ≡ c.laid_out.result =
    laid_by _ c.word_at-h.result c.laid_out.result c.word_at-h.ensures c.laid_out.ensures in
    let a = c.args in
    judged_layout a.key a.n a.asked a.ws.now size (laid ∙ c.if-not-laid_out.true)

pub walk-requires : goal.walk-requires
walk-requires c =
    let size : size_fits c.args.n ≡ true =
    sym c.size_fits.ensures ∙ c.if-not-size_fits.false in
    let laid : laid_out c.args.ws.now ≡ c.laid_out.result =
    laid_by _ c.word_at-h.result c.laid_out.result c.word_at-h.ensures c.laid_out.ensures in
    (size, laid ∙ c.if-not-laid_out.false, ap (λ h. h % 65536) c.word_at-h.ensures)

pub returns : goal.returns
returns c = c.walk.ensures
