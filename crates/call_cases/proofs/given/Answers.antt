-- The answer counts what the call returned, whatever is kept: the law `given_is`.
use Rattle.std.proofs.Common.{◌∙◌}
use Rattle.call_cases.specs.Registers.{given_is, station_or_none}
use Rattle.call_cases.proofs.given.Goals as goal

pub returns : goal.returns
returns c =
    given_is c.args.registers.now c.args.names _ _ _ _ c.module_at-module.ensures c.length_at.ensures.1 _ (c.of_call.ensures _ _ _) _ _ _
    (c.unwrap_or-station.ensures ∙ station_or_none _ _ _ c.station_at.ensures c.none.ensures) c.give-given.ensures
