-- The votes among what a station took.
use Rattle.std.specs.Prelude.{ℕ, Bool, ◌&&◌, List, eqb}
use Rattle.format.specs.Numbers.{kind_v}
use Rattle.format.specs.Statement.{Statement}
use Rattle.format.specs.Lists.{some}

-- "kept q V for v of one round, its own counted": among what a station took, the stations 1 to n with such a vote
abbrev pub is_vote : ℕ → ℕ → ℕ → ℕ → Statement → Bool
is_vote question round v i s =
    eqb s.kind kind_v && eqb s.question question && eqb s.round round && eqb s.value v && eqb s.station i

abbrev pub votes : List Statement → ℕ → ℕ → ℕ → ℕ → Bool
votes took question round v i = some (is_vote question round v i) took
