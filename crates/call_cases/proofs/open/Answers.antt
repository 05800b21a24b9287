-- The answer counts what the call returned, whatever is kept: the law `opened_is`.
use Rattle.call_cases.specs.Registers.{opened_is}
use Rattle.call_cases.proofs.open.Goals as goal

pub returns : goal.returns
returns c =
    opened_is c.args.registers.now c.args.names _ _ _ _ c.module_at-module.ensures c.length_at.ensures.1 _ (c.of_call.ensures _ _ _) _ _ _ c.open-opened.ensures
