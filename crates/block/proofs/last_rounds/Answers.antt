-- Each turn is one step of `rounds`: what the rounds that remain make of the variables is what the sixteen make.
use Rattle.std.proofs.Common.{◌≡◌, length, arith, sym, refl, ◌∙◌, rules}
use Rattle.block.proofs.Rounds.{turn, last}
use Rattle.block.proofs.last_rounds.Goals as goal

pub loop-i-preserved : goal.loop-i-preserved
loop-i-preserved c =
    let l = c.loop-i in
    turn c.args.k c.args.w _ l.i _ l.v _ (search rules) (search rules) refl c.round-v.ensures l.invariant

pub returns : goal.returns
returns c =
    let l = c.loop-i in
    let all : length c.args.k ≡ 64 = search rules in
    sym (last c.args.k c.args.w l.i l.v (omega arith)) ∙ l.invariant
