-- Each turn compresses one block; after the last none remains.
use Rattle.std.proofs.Common.{arith}
use Rattle.sha256.proofs.Chain.{block_turn, block_end}
use Rattle.sha256.proofs.whole_blocks.Goals as goal

pub loop-i-preserved : goal.loop-i-preserved
loop-i-preserved c =
    let l = c.loop-i in
    block_turn _ l.i l.h c.compress-next.result c.load.result c.args.s.now _ c.loop-i-test.true c.load.ensures c.compress-next.ensures l.invariant

pub returns : goal.returns
returns c =
    let l = c.loop-i in block_end _ l.i l.h c.args.s.now _ (omega arith) l.invariant
