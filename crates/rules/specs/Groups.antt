-- The first group, by the main statement's kind, as the code finds it.
use Rattle.std.specs.Prelude.{ℕ, ◌-◌, eqb, ltb}
use Rattle.laws.specs.Pick.{pick}
use Rattle.format.specs.Numbers.{none, d_get}
use Rattle.rules.specs.declared.Which.TheVariants.{Any, Only}
use Rattle.rules.specs.declared.Group.{Group}
use Rattle.rules.specs.Rules.{proposals, none_votes}
use Rattle.rules.specs.Test.{d_get_group}

-- `first_group` for a P, and for a V
unfoldable pub proposal_group : ℕ → ℕ → ℕ → ℕ → Group
proposal_group n value flag round =
    pick (eqb flag d_get) (d_get_group n value round) (none_votes n (round - 1))

unfoldable pub vote_group : ℕ → ℕ → ℕ → Group
vote_group n value round =
    pick (ltb value none) (proposals n round (Only value) Any)
    (pick (eqb round 1) (proposals n 1 Any (Only d_get))
    (proposals n round Any Any))
