-- Each turn sums one word more; after the eighth all are.
use Rattle.std.proofs.Common.{refl, ap, ◌∙◌, rules, arith}
use Rattle.compression.specs.Compression.{compressed, summed}
use Rattle.block.proofs.Sums.{turn, whole}
use Rattle.block.proofs.compress.Goals as goal

pub loop-i-preserved : goal.loop-i-preserved
loop-i-preserved c =
    let l = c.loop-i in
    turn c.args.s c.all_rounds-sums.result l.sums l.i _ (search rules) (search rules) c.loop-i-test.true refl l.invariant

pub returns : goal.returns
unfolding compressed
returns c =
    let l = c.loop-i in
    whole c.args.s c.all_rounds-sums.result l.sums l.i (search rules) (search rules) (omega arith) l.invariant ∙ ap (summed c.args.s) c.all_rounds-sums.ensures
