-- The padding's zeros are as FIPS 180-4, 5.1.1, asks: the smallest solution of l + 1 + k ≡ 448 mod 512, in bytes.
use Rattle.std.specs.Prelude.{ℕ, ◌+◌, ◌%◌, ◌<◌, ◌≡◌}
use Rattle.std.proofs.Common.{arith}
use Rattle.sha256.specs.Sha256.{zeros}

pub zeros_fill : (n : ℕ) → (n + 1 + zeros n) % 64 ≡ 56
zeros_fill n = omega arith

pub zeros_few : (n : ℕ) → zeros n < 64
zeros_few n = omega arith
