-- The block's words are those of its first 64 bytes, which are all.
use Rattle.std.proofs.Common.{◌≡◌, ap, ◌∙◌, length, take_all, arith, rules}
use Rattle.sha256.specs.Sha256.{words}
use Rattle.sha256.proofs.block_words.Goals as goal

pub returns : goal.returns
returns c =
    let b = c.args.b in
    let long : length b ≡ 64 = search rules in
    c.load.ensures ∙ ap words (take_all 64 b (omega arith))
