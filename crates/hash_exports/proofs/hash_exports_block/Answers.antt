-- What is written is the compression of the words that were read.
use mathlib.Core.Path.{ap, ◌∙◌}
use Rattle.compression.specs.Compression.{compressed}
use Rattle.hash_exports.proofs.hash_exports_block.Goals as goal

pub returns : goal.returns
returns c = c.compress-next.ensures ∙ ap (compressed c.args.state.now) c.block_words.ensures
