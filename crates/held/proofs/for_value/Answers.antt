-- Each arm is a case of the definition; no vote is both for 0 and for 1, so the two scans add up.
use mathlib.Core.Bool.{false}
use mathlib.Core.Path.{refl}
use native.Mathlib.Omega.{arith}
use Rattle.rules.specs.declared.Which.TheVariants.{Any, Only}
use Rattle.held.specs.Scan.{such}
use Rattle.held.proofs.Laws.Held.{scan_low, scan_nothing, scan_values}
use Rattle.held.proofs.for_value.Goals as goal

pub overflow_add-result : goal.overflow_add-result
overflow_add-result c =
    let a = c.args in
    record {
      fits = omega (arith, c.scan-in-Voting.ensures, c.scan.ensures, scan_low (such (Only 0) Any) a.held.now.heard a.held.now.slots, scan_low (such (Only 1) Any) a.held.now.heard a.held.now.slots);
    }

pub returns-in-Gathering : goal.returns-in-Gathering
returns-in-Gathering c =
    let a = c.args in
    rw c.in-Gathering.is (scan_nothing a.held.now.heard a.held.now.slots (λ s. false) (λ s. refl))

pub returns-in-Proposing : goal.returns-in-Proposing
returns-in-Proposing c = rw (c.first_or_d_get.ensures, c.in-Proposing.is)

pub returns-in-Voting : goal.returns-in-Voting
returns-in-Voting c =
    let a = c.args in
    rw (c.scan-in-Voting.ensures, c.scan.ensures, c.in-Voting.is) (scan_values a.held.now.heard a.held.now.slots)
