-- Each turn joins four bytes to a word; after the sixteenth no byte of the block remains.
use Rattle.std.proofs.Common.{sym, ◌∙◌, arith, length-set}
use Rattle.sha256.proofs.Chain.{loaded, all_loaded}
use Rattle.sha256.proofs.load.Goals as goal

pub loop-j-preserved : goal.loop-j-preserved
loop-j-preserved c =
    let l = c.loop-j in
    let a = c.args in (
      simp length-set l.invariant.0,
      loaded a.s.now l.w a.at l.j c.from_be_bytes.result c.requires c.loop-j-test.true l.invariant.0 c.from_be_bytes.ensures ∙ l.invariant.1,
    )

pub returns : goal.returns
returns c =
    let l = c.loop-j in
    let a = c.args in
    sym (all_loaded a.s.now l.w a.at l.j (omega arith) (omega arith) l.invariant.0) ∙ l.invariant.1
