-- What follows from the definitions of specs/Groups.antt.
use Rattle.std.specs.Prelude.{ℕ, ◌≡◌, refl, eqb}
use Rattle.laws.specs.Pick.{pick}
use Rattle.format.specs.Numbers.{kind_p}
use Rattle.rules.specs.Test.{first_group}
use Rattle.rules.specs.Groups.{proposal_group, vote_group}

pub first_is : (n kind value flag round : ℕ)
    → first_group n kind value flag round ≡ pick (eqb kind kind_p) (proposal_group n value flag round) (vote_group n value round)
unfolding proposal_group vote_group first_group
first_is n kind value flag round = refl
