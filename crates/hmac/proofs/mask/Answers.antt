-- Each turn masks one byte; after the last all are masked.
use Rattle.std.proofs.Common.{refl, sym, ◌∙◌, arith, length-set}
use Rattle.hmac.proofs.Masked.{one_masked, all_masked}
use Rattle.hmac.proofs.mask.Goals as goal

pub loop-b-preserved : goal.loop-b-preserved
loop-b-preserved c =
    let l = c.loop-b in
    (simp length-set l.invariant.0, one_masked l.b-items l.b-index c.args.p _ (omega (arith, c.loop-b-test.true, l.invariant.0)) refl ∙ l.invariant.1)

pub returns : goal.returns
returns c =
    let l = c.loop-b in
    sym (all_masked l.b-items l.b-index c.args.p (omega (arith, l.invariant.0))) ∙ l.invariant.1
