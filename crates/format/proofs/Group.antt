-- What follows from the definitions of specs/Group.antt.
use Rattle.std.specs.Prelude.{◌≡◌, Bool, not, ℕ, ◌+◌, ◌-◌, ◌*◌, ◌/◌, ◌≤◌, ◌<◌}
use Rattle.std.proofs.Common.{arith}
use Rattle.laws.specs.Pick.{pick}
use Rattle.laws.specs.Count.{count, Shared, meet, count_not}
use Rattle.format.specs.Group.{most_faulty, quorum, backing}

-- two quorums share a station
pub quorums_meet : (n : ℕ) (f g : ℕ → Bool) → quorum n ≤ count f n → quorum n ≤ count g n → Shared f g n
quorums_meet n f g p q = meet f g n (omega arith)

-- a quorum holds a station outside any set of at most (n − 1)/2
pub quorum_sound : (n : ℕ) (f faulty : ℕ → Bool) → 1 ≤ n → quorum n ≤ count f n → count faulty n ≤ most_faulty n → Shared f (λ i. not (faulty i)) n
quorum_sound n f faulty one p q = meet f (λ i. not (faulty i)) n (omega (arith, count_not faulty n))

-- a quorum can be had without the faulty
pub quorum_there : (n : ℕ) → 1 ≤ n → quorum n ≤ n - most_faulty n
quorum_there n h = omega arith

-- and without one more than the faulty it cannot: the bound is the largest under which a quorum is sure
pub quorum_gone : (n : ℕ) → 1 ≤ n → n - (most_faulty n + 1) < quorum n
quorum_gone n h = omega arith

-- the backing of 1 is the least number that is at least half of the quorum; that of 0 the least that is over half of it
pub backing_0 : (n : ℕ) → backing n 0 ≡ quorum n / 2 + 1
unfolding backing pick
backing_0 n = omega arith

pub backing_1 : (n : ℕ) → backing n 1 ≡ (quorum n + 1) / 2
unfolding backing pick
backing_1 n = omega arith

-- "If at least half of the q INITs are 1 the proposal is 1, else 0.": among any q INITs the proposed value has its backing
pub proposed_0 : (n noes ones : ℕ) → noes + ones ≡ quorum n → 2 * ones < quorum n → backing n 0 ≤ noes
proposed_0 n noes ones all fewer = omega (arith, backing_0 n)

pub proposed_1 : (n ones : ℕ) → quorum n ≤ 2 * ones → backing n 1 ≤ ones
proposed_1 n ones half = omega (arith, backing_1 n)

-- and the value that has its backing among them is proposed: the backing is the least number of INITs with which a value is
pub enough_0 : (n noes ones : ℕ) → noes + ones ≡ quorum n → backing n 0 ≤ noes → 2 * ones < quorum n
enough_0 n noes ones all enough = omega (arith, backing_0 n)

pub enough_1 : (n ones : ℕ) → backing n 1 ≤ ones → quorum n ≤ 2 * ones
enough_1 n ones enough = omega (arith, backing_1 n)
