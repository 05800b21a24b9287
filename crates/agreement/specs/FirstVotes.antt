-- Job 2 of document 02: "A site that missed the opening can't see whether a vote of round 1 rests on backed proposals." Its INITs go with it now, and so
-- the site can: where the codes came from the sites' modules, a valid vote of round 1 for v names at least the backing of v in sites that proposed v,
-- whoever voted and however many sites are faulty.
use Rattle.std.specs.Prelude.{◌≡◌, Bool, ◌&&◌, List, ℕ, ◌≤◌, ◌<◌, eqb}
use Rattle.laws.specs.Count.{count}
use Rattle.format.specs.Numbers.{kind_init, kind_v, none}
use Rattle.format.specs.Group.{backing}
use Rattle.format.specs.Statement.{Statement}
use Rattle.format.specs.Lists.{some}
use Rattle.format.specs.Present.{main_of, certificate_of}
use Rattle.rules.specs.declared.Which.TheVariants.{Any}
use Rattle.certificate.specs.Present.{check_by}
use Rattle.agreement.specs.Demand.{Call}
use Rattle.agreement.specs.Present.{proposed, log, CodesCame}

-- an INIT of site i with v
abbrev pub is_init : ℕ → ℕ → Statement → Bool
is_init v i s = eqb s.kind kind_init && eqb s.value v && eqb s.station i

-- a bundle names site i as one that proposed v: such an INIT stands in its certificate
abbrev pub names_proposer : List ℕ → ℕ → ℕ → Bool
names_proposer ws v i = some (is_init v i) (certificate_of ws)

-- by a code function, the bundle ws, valid under a key and for n (under HMAC, `checked` answers 0), with a vote of round 1 for v
pub record FirstVote (mac : List ℕ → List ℕ → List ℕ) (key : List ℕ) (n : ℕ) (ws : List ℕ) (question v : ℕ) : Type 0 where
  pub valid : check_by (mac key) n Any ws ≡ 0
  pub kind : (main_of ws).kind ≡ kind_v
  pub round : (main_of ws).round ≡ 1
  pub value : (main_of ws).value ≡ v
  pub bit : v < none
  pub asked : (main_of ws).question ≡ question

-- behind every list of calls, for every such bundle of which "every code that verifies … came from that site's module": of the sites 1 to n at least
-- the backing of v are named by it and have proposed v
abbrev pub FirstVotes : (List ℕ → List ℕ → List ℕ) → Type 0
FirstVotes mac =
    (key : List ℕ) (n : ℕ) (cs : List Call) (ws : List ℕ) (question v : ℕ) → CodesCame mac key n (log mac key n cs) ws → FirstVote mac key n ws question v
    → backing n v ≤ count (λ i. names_proposer ws v i && proposed (log mac key n cs) question v i) n
