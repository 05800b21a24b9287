-- The seven rules as a test: `rule` takes exactly what `Backed` takes (`Theorems/Backed.antt`).
use Rattle.std.specs.Prelude.{ℕ, ◌-◌, Bool, true, not, ◌&&◌, ◌||◌, List, [], ◌∷◌, eqb, ltb, length, take, drop}
use Rattle.laws.specs.Pick.{pick}
use Rattle.format.specs.Numbers.{kind_init, kind_p, kind_v, none, d_get, r_get}
use Rattle.format.specs.Statement.{Statement}
use Rattle.rules.specs.declared.Which.TheVariants.{Any, Only}
use Rattle.rules.specs.declared.Group.{Group}
use Rattle.rules.specs.Rules.{matches, inits, proposals, none_votes, some_d_get, some_value}

-- ---- the rules as a test

-- each statement as the group asks, stations rising from above a number
unfoldable pub in_order : Group → ℕ → List Statement → Bool
in_order g above [] = true
in_order g above (s ∷ c) = (matches g s && ltb above s.station) && in_order g s.station c

unfoldable pub holds : Group → List Statement → Bool
holds g c = eqb (length c) g.size && in_order g 0 c

-- what a D-GET P of a round with v rests on, by rules 2 and 3; a V with v may need it too, by rule 5
unfoldable pub d_get_group : ℕ → ℕ → ℕ → Group
d_get_group n value round = pick (eqb round 1) (inits n value) (proposals n (round - 1) (Only value) Any)

-- the first group, by the main statement's kind, value, flag and round; INIT has none
unfoldable pub first_group : ℕ → ℕ → ℕ → ℕ → ℕ → Group
first_group n kind value flag round =
    pick (eqb kind kind_p)
    (pick (eqb flag d_get) (d_get_group n value round)
    (none_votes n (round - 1)))
    (pick (ltb value none) (proposals n round (Only value) Any)
    (pick (eqb round 1) (proposals n 1 Any (Only d_get))
    (proposals n round Any Any)))

-- the second group of rules 5 and 7
unfoldable pub second_group : ℕ → ℕ → ℕ → Group
second_group n value round = pick (ltb value none) (d_get_group n value round) (none_votes n (round - 1))

-- a vote of round 1 has a second group where it is for 0 or 1; one of a later round where it is none, or where one of the first group is D-GET
unfoldable pub has_second : ℕ → ℕ → ℕ → Bool → Bool
has_second kind value round with_d_get = eqb kind kind_v && ((eqb round 1 && ltb value none) || (ltb 1 round && (eqb value none || with_d_get)))

-- "In round 1 an R-GET is invalid."
unfoldable pub early_toss : ℕ → ℕ → ℕ → Bool
early_toss kind flag round = eqb kind kind_p && eqb round 1 && eqb flag r_get

unfoldable pub rest_holds : ℕ → Statement → List Statement → List Statement → Bool
rest_holds n m c d =
    pick (has_second m.kind m.value m.round (some_d_get c)) (holds (second_group n m.value m.round) d) (eqb (length d) 0)

unfoldable pub spread : Statement → List Statement → Bool
spread m c = not (eqb m.kind kind_v && eqb m.value none) || (some_value 0 c && some_value 1 c)

-- the certificate c, taken apart behind the first group's size
unfoldable pub groups_hold : ℕ → Statement → Group → List Statement → Bool
groups_hold n m g c =
    holds g (take g.size c) && spread m (take g.size c) && rest_holds n m (take g.size c) (drop g.size c)

unfoldable pub rule : ℕ → Statement → List Statement → Bool
rule n m c =
    pick (eqb m.kind kind_init) (eqb (length c) 0)
    (not (early_toss m.kind m.flag m.round) && groups_hold n m (first_group n m.kind m.value m.flag m.round) c)
