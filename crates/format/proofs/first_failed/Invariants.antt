-- The tests before the index have passed: what the table answers is what the rest of it answers.
use Rattle.std.proofs.Common.{◌≡◌, drop}
use Rattle.laws.specs.Refusals.{first_failed}
use Rattle.format.specs.Returns.{table_of}
use Rattle.format.proofs.first_failed.Given as goal

abbrev pub invariant-loop-passed : goal.invariant-loop-passed
invariant-loop-passed l = first_failed (table_of l.tests) ≡ first_failed (table_of (drop l.passed-index l.tests))
