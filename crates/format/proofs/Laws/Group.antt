-- Bounds on the backing, and the thresholds at three sizes.
use Rattle.std.specs.Prelude.{◌≡◌, refl, Bool, true, false, List, [], ◌∷◌, ℕ, ◌≤◌}
use Rattle.std.proofs.Common.{arith}
use Rattle.laws.specs.Pick.{pick}
use Rattle.laws.specs.All.{All}
use Rattle.format.specs.Group.{quorum, backing}

pick_most : (b : Bool) (x y most : ℕ) → x ≤ most → y ≤ most → pick b x y ≤ most
unfolding pick
pick_most true x y most p q = p
pick_most false x y most p q = q

-- no backing is over the quorum
pub backing_most : (n v : ℕ) → backing n v ≤ quorum n
unfolding backing
backing_most n v = pick_most _ _ _ (quorum n) (omega arith) (omega arith)

-- ---- the thresholds at three sizes
pub record Counts : Type 0 where
  pub n : ℕ
  pub q : ℕ
  pub of_0 : ℕ
  pub of_1 : ℕ

abbrev pub counts : ℕ → ℕ → ℕ → ℕ → Counts
counts n q a b = record { n = n; q = q; of_0 = a; of_1 = b }

-- "n 2: q 2, backings 1 and 2; n 6: q 4, backings 2 and 3; n 31: q 16, backings 8 and 9", and since Job 1: "the backings at n 2, 6 and 31 change sides".
-- The marked table of all examples stands in station
abbrev pub samples : List Counts
samples = counts 2 2 2 1 ∷ counts 6 4 3 2 ∷ counts 31 16 9 8 ∷ []

pub samples_hold : All (λ r. (quorum r.n ≡ r.q) × (backing r.n 0 ≡ r.of_0) × (backing r.n 1 ≡ r.of_1)) samples
unfolding backing pick
samples_hold = ((refl, refl, refl), ((refl, refl, refl), ((refl, refl, refl), tt)))
