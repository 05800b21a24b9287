-- What the public hashes answer where the input is short enough.
use Rattle.std.specs.Prelude.{◌≡◌, List, ◌++◌, ℕ, ◌+◌, ◌*◌, ◌<◌, length, Ok}
use Rattle.std.proofs.Common.{lt-ltb}
use Rattle.laws.specs.Pick.{pick}
use Rattle.sha256.specs.Sha256.{padding, hashed, sha256, limit, digest, hash_after}

pub digest_short : (m : List ℕ) → length m < limit → digest m ≡ Ok (sha256 m)
unfolding digest pick
digest_short m h = rw (lt-ltb (length m) limit h)

pub after_short : (s : List ℕ) (n : ℕ) (m : List ℕ) → n * 64 + length m < limit → hash_after s n m ≡ Ok (hashed s (m ++ padding (n * 64 + length m)))
unfolding hash_after pick
after_short s n m h = rw (lt-ltb (n * 64 + length m) limit h)
