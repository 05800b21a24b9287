-- Each turn writes one word's bytes; after the eighth no word remains.
use Rattle.std.proofs.Common.{◌≡◌, length, sym, ◌∙◌, arith, rules}
use Rattle.sha256.proofs.Out.{spelt, kept, all_spelt}
use Rattle.sha256.proofs.state_bytes.Goals as goal

pub loop-i-preserved : goal.loop-i-preserved
loop-i-preserved c =
    let l = c.loop-i in
    let four : length c.copy_from_slice.new.self ≡ 4 = search rules in (
      kept l.r c.copy_from_slice.new.self l.i _ c.loop-i-test.true l.invariant.0 four (omega arith),
      spelt c.args.h l.r c.copy_from_slice.new.self l.i _ c.loop-i-test.true (search rules) l.invariant.0
          (rw c.to_be_bytes.ensures at c.copy_from_slice.ensures.after)
          ∙ l.invariant.1,
    )

pub returns : goal.returns
returns c =
    let l = c.loop-i in
    sym (all_spelt c.args.h l.r l.i (omega arith) (omega arith) (search rules) l.invariant.0) ∙ l.invariant.1
