-- Both are asked of the held statements, and of the one more.
use Rattle.rules.specs.declared.Which.TheVariants.{Only}
use Rattle.held.specs.Scan.{such}
use Rattle.held.proofs.Laws.Held.{scan_some}
use Rattle.refusal.specs.Refusal.{both_values}
use Rattle.refusal.proofs.both_values.Goals as goal

pub returns : goal.returns
unfolding both_values
returns c =
    let a = c.args in
    rw (
      c.allows-such.ensures,
      c.scan-one.ensures,
      c.scan-zero.ensures,
      scan_some (such (Only 0) a.wanted) a.held.now.heard a.held.now.slots,
      scan_some (such (Only 1) a.wanted) a.held.now.heard a.held.now.slots,
    )
