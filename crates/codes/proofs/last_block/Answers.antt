-- The words are copied to the front of a block of zeros; then the mark and the length are set.
use Rattle.std.proofs.Common.{refl}
use Rattle.codes.proofs.Last.{filled}
use Rattle.codes.proofs.last_block.Goals as goal

pub returns : goal.returns
returns c = filled c.args.ws.now c.copy_from_slice.new.self _ c.requires c.copy_from_slice.ensures.after refl
