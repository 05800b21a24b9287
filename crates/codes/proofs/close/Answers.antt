-- The block that is compressed is the padded message's; each element of a slice of words is a word.
use mathlib.Core.Path.{sym, ap, ◌∙◌}
use Rattle.compression.specs.Compression.{compressed}
use Rattle.codes.proofs.Last.{closed_block}
use Rattle.codes.proofs.close.Goals as goal

pub returns : goal.returns
returns c =
    let a = c.args in
    c.compress.ensures ∙ ap (compressed a.s) c.last_block.ensures
    ∙ sym (closed_block a.s a.ws.now (λ i. (c.shared_slice_known-1.given i).fits) c.requires)
