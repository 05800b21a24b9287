-- The words copied are a segment of the group, and those behind them stay.
use Rattle.std.proofs.Common.{◌*◌, arith}
use Rattle.format.specs.Present.{statement_words}
use Rattle.writer.proofs.Laws.Writing.{front_copied}
use Rattle.writer.proofs.write_group.Goals as goal

pub returns : goal.returns
returns c = front_copied (c.args.k * statement_words) c.args.group.now c.args.out.now _ (omega arith) c.copy_from_slice.ensures.after
