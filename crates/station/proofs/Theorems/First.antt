-- A value is proposed exactly if it has its backing: by counting zeros and ones.
use Rattle.std.specs.Prelude.{ℕ, zero, suc, ◌+◌, ◌*◌, ◌≤◌, ◌<◌, Bool, true, false, List, ◌≡◌, refl, leb, length}
use Rattle.std.proofs.Common.{◌∙◌, arith, leb-true, leb-false}
use Rattle.laws.specs.Pick.{pick}
use Rattle.laws.specs.All.{All}
use Rattle.format.specs.Group.{quorum, backing}
use Rattle.format.proofs.Group.{proposed_0, proposed_1, enough_0, enough_1}
use Rattle.format.specs.Statement.{Statement}
use Rattle.format.specs.Lists.{number_of}
use Rattle.station.specs.Machine.{has_value, first_value}
use Rattle.station.proofs.Laws.Pieces.{zeros_ones}
use Rattle.station.specs.First.{Exactly}

abbrev zeros : List Statement → ℕ
zeros h = number_of (has_value 0) h

abbrev ones : List Statement → ℕ
ones h = number_of (has_value 1) h

-- at least half are 1
abbrev half : List Statement → Bool
half h = leb (length h) (2 * ones h)

-- it is 0 or 1
pub first_bit : (h : List Statement) → first_value h < 2
unfolding first_value pick
first_bit h = go (half h)
  where
    go : (b : Bool) → pick b 1 0 < 2
    go true = omega arith
    go false = omega arith

-- what the test of half says
at_least : (h : List Statement) → half h ≡ true → length h ≤ 2 * ones h
at_least h e = omega (arith, leb-true (length h) (2 * ones h) e)

fewer : (h : List Statement) → half h ≡ false → 2 * ones h < length h
fewer h e = omega (arith, leb-false (length h) (2 * ones h) e)

pub first_exact : (n : ℕ) (h : List Statement) (v : ℕ) → length h ≡ quorum n → All (λ s. s.value < 2) h → v < 2 → Exactly n h v
unfolding first_value pick
first_exact n h v size bits bit = go v bit (half h) refl
  where
    all : zeros h + ones h ≡ quorum n
    all = zeros_ones h bits ∙ size

    go : (v : ℕ) → v < 2 → (b : Bool) → half h ≡ b
        → (pick b 1 0 ≡ v → backing n v ≤ number_of (has_value v) h) × (backing n v ≤ number_of (has_value v) h → pick b 1 0 ≡ v)
    go zero l true e = ((λ x. absurd (omega (arith, x))), (λ x. absurd (omega (arith, size, at_least h e, enough_0 n (zeros h) (ones h) all x))))
    go zero l false e = ((λ x. proposed_0 n (zeros h) (ones h) all (omega (arith, size, fewer h e))), (λ x. refl))
    go (suc zero) l true e = ((λ x. proposed_1 n (ones h) (omega (arith, size, at_least h e))), (λ x. refl))
    go (suc zero) l false e = ((λ x. absurd (omega (arith, x))), (λ x. absurd (omega (arith, size, fewer h e, enough_1 n (ones h) x))))
    go (suc (suc v)) l b e = absurd (omega (arith, l))
