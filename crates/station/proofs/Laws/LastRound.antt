-- Of the rounds that there are: one that is not the last is below it.
use Rattle.std.specs.Prelude.{ℕ, ◌≤◌, ◌<◌, ◌≡◌}
use Rattle.std.proofs.Math.Bool.{false}
use Rattle.std.proofs.Common.{arith}
use Rattle.std.proofs.Math.Dec.{eqb}
use Rattle.std.proofs.lemmas.Bool.{eqb-false}
use Rattle.format.specs.Form.{Form, last_round}

module _ (form : Form) where
  -- a round that is not the last is below it
  pub below_last : (r : ℕ) → r ≤ last_round form → eqb r (last_round form) ≡ false → r < last_round form
  below_last r x y = omega (arith, eqb-false r (last_round form) y)
