-- The copy holds the words that the call sees of the buffer given: the law `given_copy`.
use Rattle.std.proofs.Common.{◌∙◌}
use Rattle.call_cases.specs.Registers.{given_copy, part_lent}
use Rattle.call_cases.proofs.give.Goals as goal

pub returns : goal.returns
returns c =
    given_copy c.args.registers.now c.args.names _ c.length_at-count.result c.args.coin _ _
    (c.copy_from_slice.ensures.after ∙ part_lent c.args.registers.now c.args.names.given 400) c.length_at-count.ensures c.given.ensures
