-- The scan over the held statements: the set of those stations of a set whose statement a test takes. Station s has bit s − 1 and the slot of that number.
use Rattle.std.specs.Prelude.{ℕ, zero, suc, ◌+◌, ◌-◌, ◌*◌, ◌%◌, ◌^◌, Bool, not, ◌&&◌, List, ltb, leb}
use Rattle.std.specs.Int.Count.{ones}
use Rattle.laws.specs.Pick.{pick}
use Rattle.laws.specs.Count.{one_if}
use Rattle.laws.specs.Sets.{bit}
use Rattle.format.specs.Statement.{Statement}
use Rattle.format.specs.Present.{most_stations, statement_words, statement}
use Rattle.rules.specs.declared.Which.{Which}
use Rattle.rules.specs.Rules.{which}
use Rattle.station.specs.Present.{sites}

-- a set with station s's bit; a number that is no station's, or is in the set, changes nothing
unfoldable pub with_station : ℕ → ℕ → ℕ
with_station set s = pick (not (leb 1 s && leb s most_stations)) set (pick (bit set (s - 1)) set (set + 2 ^ (s - 1)))

-- of m numbers from i on, those that a test takes, as the bits of a word: the lowest is that of i
unfoldable pub gathered : (ℕ → Bool) → ℕ → ℕ → ℕ
gathered f i zero = 0
gathered f i (suc m) = 2 * gathered f (suc i) m + one_if (f i)

-- the stations of the set whose held statement the test takes
unfoldable pub scan : (Statement → Bool) → ℕ → List ℕ → ℕ
scan p set slots = gathered (λ i. bit set i && p (statement slots (i * statement_words))) 0 sites

-- a statement with such a value and such a flag
abbrev pub such : Which → Which → Statement → Bool
such value flag s = which value s.value && which flag s.flag

-- the k lowest-numbered of the set: those below which fewer than k are
unfoldable pub lowest : ℕ → ℕ → ℕ
lowest set k = gathered (λ i. bit set i && ltb (ones (set % 2 ^ i)) k) 0 sites
