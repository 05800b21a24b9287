-- A none vote that has a second group is of a later round than 1.
use Rattle.std.specs.Prelude.{ℕ, ◌<◌, Bool, ◌&&◌, ◌||◌, ◌⊎◌, ◌≡◌, ltb}
use Rattle.std.proofs.Math.Bool.{true}
use Rattle.std.proofs.Common.{inl, inr, arith}
use Rattle.std.proofs.Math.Dec.{eqb}
use borrow.Author.Tests.{ltb-true}
use Rattle.laws.specs.Bools.{both, either}
use Rattle.format.specs.Numbers.{kind_v, none}
use Rattle.rules.specs.Test.{has_second}

pub two_later : (k v r : ℕ) (d : Bool) → v ≡ none → has_second k v r d ≡ true → 1 < r
unfolding has_second
two_later k v r d a h = go (either (eqb r 1 && ltb v none) _ (both (eqb k kind_v) _ h).1)
  where
    go : ((eqb r 1 && ltb v none) ≡ true) ⊎ ((ltb 1 r && (eqb v none || d)) ≡ true) → 1 < r
    go (inl x) = absurd (omega (arith, ltb-true v none (both (eqb r 1) _ x).1))
    go (inr x) = ltb-true 1 r (both (ltb 1 r) _ x).0
