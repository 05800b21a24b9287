-- The refusal and the answer are those of the definition, since the tests and the value are.
use mathlib.Core.Path.{refl}
use Rattle.std.specs.Prelude.{◌≡◌, Result, Err}
use Rattle.std.proofs.lemmas.Result.{err_from_is_err_and}
use Rattle.format.specs.declared.Refusal.{Refusal}
use Rattle.modules.specs.declared.Module.{Module}
use Rattle.sealed.proofs.Coding.{plain_is, refused, coded}
use Rattle.sealed.proofs.code_plain.Goals as goal

pub returns-in_err-refusal : goal.returns-in_err-refusal
returns-in_err-refusal c =
    let a = c.args in
    let p = err_from_is_err_and c.from_residual.result c.from_residual.ensures.1 in
    let handed : ◌≡◌ {A = Result Module Refusal} c.from_residual.result (Err c.in_err-refusal.field-0.0) = rw (p.1, p.2) refl in
    refused a.m a.ws.now c.read_fields-f.result.value _ c.refusal.result
    (plain_is a.m a.ws.now _ _ _ _ _ c.word_at.ensures c.read_fields-f.ensures c.fits.ensures refl c.refusal.ensures.number_is)
    _ _ c.in_err-refusal.was handed

pub returns : goal.returns
returns c =
    let a = c.args in
    coded a.m a.ws.now c.read_fields-f.result.value _ c.refusal.result
    (plain_is a.m a.ws.now _ _ _ _ _ c.word_at.ensures c.read_fields-f.ensures c.fits.ensures refl c.refusal.ensures.number_is)
    _ _ _ c.in_ok-refusal.was c.finish.ensures
