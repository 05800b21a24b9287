-- By the module's answer, in the way that the test on the fields takes; where nothing was written, nothing changes.
use native.Mathlib.Omega.{arith}
use Rattle.sending.proofs.Laws.Answering.{main_none, main_tossed, main_plain}
use Rattle.sending.proofs.code_main.Goals as goal

pub returns-then-count-eq0 : goal.returns-then-count-eq0
returns-then-count-eq0 c =
    let a = c.args in
    main_none a.m a.f a.count a.out.now c.if-count-eq0.true

pub slice_bounds-code_coin-end : goal.slice_bounds-code_coin-end
slice_bounds-code_coin-end c = omega (arith, c.requires c.if-count-eq0.false)

pub returns-then-f : goal.returns-then-f
returns-then-f c =
    let a = c.args in
    main_tossed a.m a.f a.count a.out.now c.code_coin.result _ _ c.if-count-eq0.false c.if-f.true c.unwrap_or.ensures c.code_coin.ensures

pub slice_bounds-code_plain-end : goal.slice_bounds-code_plain-end
slice_bounds-code_plain-end c = omega (arith, c.requires c.if-count-eq0.false)

pub returns-else-f : goal.returns-else-f
returns-else-f c =
    let a = c.args in
    main_plain a.m a.f a.count a.out.now c.code_plain.result _ _ c.if-count-eq0.false c.if-f.false c.unwrap_or-else-f.ensures c.code_plain.ensures
