-- The top five bits are kind, value and flag.
use Prim.Native.Nat.{◌^◌, ◌<◌}
use Rattle.glance.proofs.Theorems.Formed.{formed_word}
use borrow.Author.Rules.{rules}
use Rattle.glance.proofs.word_formed.Goals as goal

pub returns : goal.returns
returns c =
    let low : c.args.w < 2 ^ 32 = search rules in
    formed_word c.args.n c.args.w low
