-- The padding takes one block or two, by the room behind what is left: each case is one law of the padded blocks.
use mathlib.Core.Path.{◌≡◌, refl, sym}
use native.Mathlib.Omega.{arith}
use lib.ListN.{length}
use lib.Seq.{length-take-le, take_all}
use Rattle.digest.proofs.Ends.{ended}
use borrow.Author.Rules.{rules}
use Rattle.digest.proofs.finish.Goals as goal

pub slice_bounds-whole_blocks-end : goal.slice_bounds-whole_blocks-end
slice_bounds-whole_blocks-end c =
    let t = c.with_length-c.result in
    let long : length t ≡ 128 = search rules in
    sym (length-take-le 64 t (omega arith))

pub returns-then-left-lt56 : goal.returns-then-left-lt56
returns-then-left-lt56 c =
    let a = c.args in
    ended a.state a.s.now _ _ _ _ _ a.done 56 c.requires.0 (search rules) (search rules) (omega arith)
    c.whole_blocks-h.ensures c.rest-b.ensures c.with_length-c.ensures refl c.whole_blocks.ensures

pub returns-else-left-lt56 : goal.returns-else-left-lt56
returns-else-left-lt56 c =
    let a = c.args in
    let t = c.with_length-c-else-left-lt56.result in
    let long : length t ≡ 128 = search rules in
    ended a.state a.s.now _ _ _ _ _ a.done 120 c.requires.0 (omega arith) (search rules) (omega arith)
    c.whole_blocks-h.ensures c.rest-b.ensures c.with_length-c-else-left-lt56.ensures (sym (take_all 128 t (omega arith))) c.whole_blocks-else-left-lt56.ensures
