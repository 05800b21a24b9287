-- Where a test fails, what is returned is as it was; else what was sent is what the definition returns.
use mathlib.Core.Path.{sym, ap, ◌∙◌, refl}
use native.Mathlib.Omega.{arith}
use borrow.Author.Rules.{rules}
use Rattle.std.proofs.lemmas.Result.{err_from_is_err_and}
use Rattle.format.specs.declared.Outcome.TheVariants.{Sent}
use Rattle.format.specs.Returns.{number_in, refusal_number}
use Rattle.format.proofs.Laws.Returns.{above}
use Rattle.hmac.specs.Code.{hmac_code}
use Rattle.station.specs.declared.Answer.{Answer}
use Rattle.station.specs.Present.{opening, no_station}
use Rattle.station.proofs.Laws.Answering.{as_answered, as_refused}
use Rattle.opening.specs.Opens.{refused_answers}
use Rattle.opening.proofs.Laws.Opened.{opens_answers}
use Rattle.opening.proofs.open.Goals as goal

pub returns-in_err-refusal : goal.returns-in_err-refusal
returns-in_err-refusal c =
    let a = c.args in
    let e = c.in_err-refusal.field-0.0 in
    let p = err_from_is_err_and c.from_residual.result c.from_residual.ensures.1 in
    rw (p.1, p.2)
    (as_refused (opening hmac_code a.m a.question a.proposal a.jump a.out.now) no_station a.m a.out.now e
    (refused_answers a.m a.question a.proposal a.jump a.out.now (refusal_number e) no_station (sym (ap number_in c.in_err-refusal.was) ∙ c.refusal.ensures) (λ z. omega (arith, z, above e)) refl))

pub returns : goal.returns
returns c =
    let s = c.send-s in
    let a = c.args in
    let answer : Answer = record { outcome = Sent; count = s.result.count; station = s.result.station; after = s.result.after } in
    as_answered (opening hmac_code a.m a.question a.proposal a.jump a.out.now) no_station a.m _ answer
    (opens_answers a.m a.question a.proposal a.jump a.out.now _ _ _ _ _ _ _ _
    c.refusal.ensures (ap number_in c.in_ok-refusal.was)
    c.init.ensures (rw c.undecided.ensures at s.ensures) (λ i. search rules))
