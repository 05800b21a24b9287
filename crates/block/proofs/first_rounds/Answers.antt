-- Each turn is one step of `rounds` over the whole schedule, and one step of `extended`.
use Rattle.std.proofs.Common.{◌≡◌, ◌+◌, length, sym, ◌∙◌, rules, arith, length-set}
use Rattle.compression.specs.Compression.{extended}
use Rattle.compression.proofs.Laws.Shape.{extended_length}
use Rattle.block.proofs.Rounds.{turn}
use Rattle.block.proofs.Words.{grow, full, word_of}
use Rattle.block.proofs.first_rounds.Goals as goal

pub loop-i-preserved : goal.loop-i-preserved
loop-i-preserved c =
    let l = c.loop-i in
    let k = c.args.k in
    let b = c.args.block in
    let p = c.loop-i-test.true in
    let room = l.invariant.0 in
    let sixteen : length b ≡ 16 = search rules in
    let table : length k ≡ 64 = search rules in
    let whole : length (extended 48 b) ≡ 48 + length b = extended_length 48 b in (
      simp length-set room,
      (
        grow l.w l.i _ p room c.word.ensures ∙ l.invariant.1.0,
        turn k (extended 48 b) _ l.i _ l.v _ (omega arith) (omega arith) (word_of l.w _ l.i p room l.invariant.1.0) c.round-v.ensures l.invariant.1.1,
      ),
    )

pub returns : goal.returns
returns c =
    let l = c.loop-i in
    let room = l.invariant.0 in
    let i_is : l.i ≡ 48 = omega arith in
    let words_are = sym (full l.w l.i (omega arith) (omega arith) room) ∙ l.invariant.1.0 in
    (words_are, rw words_are (rw i_is at l.invariant.1.1))
