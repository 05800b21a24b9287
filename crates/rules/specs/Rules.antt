-- Certificate groups, and the seven rules: `Backed` as documents 01 and 02 (Job 2, of rule 5) list them, `rule` as a test (Backed.antt: the two agree).
use Rattle.std.specs.Prelude.{ℕ, ◌-◌, ◌<◌, Bool, true, ◌&&◌, List, [], ◌∷◌, ◌++◌, ◌≡◌, eqb, length}
use Rattle.laws.specs.All.{All}
use Rattle.format.specs.Numbers.{kind_init, kind_p, kind_v, none, d_get, r_get}
use Rattle.format.specs.Group.{quorum, backing}
use Rattle.format.specs.Statement.{Statement}
use Rattle.format.specs.Lists.{some}
use Rattle.rules.specs.declared.Which.{Which}
use Rattle.rules.specs.declared.Which.TheVariants.{Any, Only}
use Rattle.rules.specs.declared.Group.{Group}

-- what a group asks of a value or a flag
abbrev pub which : Which → ℕ → Bool
which Any x = true
which (Only v) x = eqb x v

-- what a group asks of each of its statements
unfoldable pub wanted : Group → ℕ → ℕ → ℕ → ℕ → Bool
wanted g kind value flag round = eqb kind g.kind && eqb round g.round.0 && which g.value value && which g.flag flag

abbrev pub matches : Group → Statement → Bool
matches g s = wanted g s.kind s.value s.flag s.round

abbrev pub group : ℕ → ℕ → ℕ → Which → Which → Group
group size kind round value flag = record { size = size; kind = kind; round = record { 0 = round }; value = value; flag = flag }

-- the groups that the rules name
abbrev pub inits : ℕ → ℕ → Group
inits n v = group (backing n v) kind_init 0 (Only v) Any

abbrev pub proposals : ℕ → ℕ → Which → Which → Group
proposals n r value flag = group (quorum n) kind_p r value flag

abbrev pub none_votes : ℕ → ℕ → Group
none_votes n r = group (quorum n) kind_v r (Only none) Any

-- "Certificate groups have exactly the size named, stations rising, none twice"
abbrev pub Rising : ℕ → List Statement → Type 0
Rising above [] = Unit
Rising above (s ∷ c) = (above < s.station) × Rising s.station c

pub record Holds (g : Group) (c : List Statement) : Type 0 where
  pub size : length c ≡ g.size
  pub rising : Rising 0 c
  pub each : All (λ s. matches g s ≡ true) c

-- one of them is D-GET; one of them has the value v
abbrev pub some_d_get : List Statement → Bool
some_d_get c = some (λ s. which Any s.value && which (Only d_get) s.flag) c

abbrev pub some_value : ℕ → List Statement → Bool
some_value v c = some (λ s. which (Only v) s.value && which Any s.flag) c

abbrev pub BothValues : List Statement → Type 0
BothValues c = (some_value 0 c ≡ true) × (some_value 1 c ≡ true)  -- "both values present"

abbrev pub NeedsSecond : Statement → List Statement → Type 0
NeedsSecond m c = (1 < m.round) × (some_d_get c ≡ true)  -- rule 5, later: "If one of them is D-GET and the round is over 1"

-- a statement and a certificate that backs it
pub data Backed (n : ℕ) (m : Statement) : List Statement → Type 0 where
  -- "1. INIT: empty."
  rule_1 : m.kind ≡ kind_init → Backed n m []
  -- "2. P, round 1, D-GET, value v: the backing of v in INITs with v."
  rule_2 : {c : List Statement} → m.kind ≡ kind_p → m.round ≡ 1 → m.flag ≡ d_get → Holds (inits n m.value) c → Backed n m c
  -- "3. P, round r over 1, D-GET, v: q P of round r − 1 with v."
  rule_3 : {c : List Statement} → m.kind ≡ kind_p → 1 < m.round → m.flag ≡ d_get → Holds (proposals n (m.round - 1) (Only m.value) Any) c
      → Backed n m c
  -- "4. P, round over 1, R-GET: q V of the round before, each none. In round 1 an R-GET is invalid."
  rule_4 : {c : List Statement} → m.kind ≡ kind_p → 1 < m.round → m.flag ≡ r_get → Holds (none_votes n (m.round - 1)) c → Backed n m c
  -- "5. V with v: q P of that round with v." "In round 1 rule 5 now always has a second group: where the vote is for v, the backing of v in INITs
  -- with v follows the P group" (Job 2 of document 02). "If one of them is D-GET and the round is over 1, then also q P of the round before with v,
  -- as a second group." Else there is none.
  rule_5 : {c d : List Statement} → m.kind ≡ kind_v → m.value < none → Holds (proposals n m.round (Only m.value) Any) c
      → (m.round ≡ 1 → Holds (inits n m.value) d)
      → (NeedsSecond m c → Holds (proposals n (m.round - 1) (Only m.value) Any) d)
      → ((m.round ≡ 1 → ⊥) → (NeedsSecond m c → ⊥) → d ≡ []) → Backed n m (c ++ d)
  -- "6. V none, round 1: q P of round 1, all D-GET, both values present."
  rule_6 : {c : List Statement} → m.kind ≡ kind_v → m.value ≡ none → m.round ≡ 1 → Holds (proposals n 1 Any (Only d_get)) c → BothValues c
      → Backed n m c
  -- "7. V none, later: q P of that round, both values present, then q V none of the round before."
  rule_7 : {c d : List Statement} → m.kind ≡ kind_v → m.value ≡ none → 1 < m.round → Holds (proposals n m.round Any Any) c → BothValues c
      → Holds (none_votes n (m.round - 1)) d → Backed n m (c ++ d)
