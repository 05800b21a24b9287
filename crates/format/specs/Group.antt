-- The group and its thresholds, for any n, with the laws that they are chosen for.
use Rattle.std.specs.Prelude.{ℕ, ◌+◌, ◌-◌, ◌/◌, eqb}
use Rattle.laws.specs.Pick.{pick}

abbrev pub most_faulty : ℕ → ℕ
most_faulty n = (n - 1) / 2  -- "At most (n − 1)/2 rounded down are faulty."

abbrev pub quorum : ℕ → ℕ
quorum n = n / 2 + 1  -- "The quorum q is n/2 rounded down, plus 1."

-- "for value 0 it is n/4 rounded down, plus 1; for value 1 it is (n + 2)/4 rounded down, plus 1", and since Job 1 of document 02: "The two backings
-- trade places between 0 and 1."
unfoldable pub backing : ℕ → ℕ → ℕ
backing n v = pick (eqb v 0) ((n + 2) / 4 + 1) (n / 4 + 1)

-- ---- why these numbers
