-- A list of calls at the edges of demand 3's premises: n is 5, and sites 4 and 5 are faulty, as many as there may be. The question is 0, and site 1 decides 0 on
-- it by its own vote and those of the faulty ones. The backing of 0 is 2, and two sites proposed it. Jump is on wherever the backing allows it: on another
-- question, in an opening that is refused, at a faulty site. Calls that are refused bring what the premises allow. All is computed from the definitions.
use Rattle.std.specs.Prelude.{ℕ, ◌≤◌, Bool, true, false, not, List, [], ◌∷◌, ◌++◌, ◌≡◌, refl, eqb, get_or, take}
use Rattle.std.proofs.Common.{ap, subst, arith, eqb-true}
use Rattle.laws.specs.Count.{count}
use Rattle.format.specs.Form.{present_form}
use Rattle.format.specs.Numbers.{kind_init, kind_p, kind_v, none, d_get, least_stations}
use Rattle.format.specs.Statement.{Statement}
use Rattle.format.specs.Present.{most_stations, statement, main_of, bundle_of}
use Rattle.station.specs.Machine.{undecided}
use Rattle.station.specs.declared.Stage.TheVariants.{Gathering}
use Rattle.station.specs.declared.Station.{Station}
use Rattle.station.specs.Present.{empty_station}
use Rattle.agreement.proofs.Theorems.EdgesSites.{but_5}
use Rattle.agreement.specs.Demand.{opens, gives, codes, tosses, Call, call, found, member}
use Rattle.agreement.proofs.Theorems.Prefix.{sound_before}
use Rattle.agreement.proofs.Theorems.Theorem.{demand_3_by}
use Rattle.agreement.proofs.Theorems.Computed.{computes, numbers, there, there_out, line, present, given, given_out, few, others_out, few_out, off, off_out, decides, decides_out, decides_there}
use Rattle.agreement.proofs.Theorems.Toy as Toy
use Rattle.agreement.proofs.Theorems.Toy.{toy, toy_eight, out, to_code}
use Rattle.agreement.specs.Present.{proposed, log, lineage, Sound, JumpOff, AllOff, FewFaulty, Given, Decides, Claim}

-- ---- what the calls bring
abbrev give : ℕ → List ℕ → List Call → List Call
give i ws cs = Toy.give 5 i ws 0 cs

abbrev bundle : List Call → List ℕ
bundle = Toy.bundle 5

-- the list with one call more: a site has its module code a statement on question 0
abbrev code_by : (site kind value round : ℕ) → List Call → List Call
code_by i kind value round cs = call i (codes (to_code i 0 kind value d_get round)) ∷ cs

-- the statement that the last call of a list coded
abbrev coded : List Call → Statement
coded cs = statement (Toy.lent 5 cs) 0

-- a closed station of site 1 that no call returned
abbrev closed_station : Station
closed_station = empty_station (record { n = 5; station = 1; question = 0 }) Gathering true (undecided false)

-- ---- the list, call by call, each with the number that it answers
-- 20: site 1 opens with 0; 0: site 4 has its module code an INIT with 0; 20: site 5 opens with 1 and jump on
abbrev pub edge_1 : List Call
edge_1 = call 1 (opens 0 0 0 out) ∷ []

abbrev pub edge_2 : List Call
edge_2 = code_by 4 kind_init 0 0 edge_1

abbrev pub edge_3 : List Call
edge_3 = call 5 (opens 0 1 1 out) ∷ edge_2

-- 0, 20: site 1 is given both INITs, and sends P 0 with its own and site 4's
abbrev pub edge_5 : List Call
edge_5 = give 1 (bundle edge_3) (give 1 (bundle_of (coded edge_2) []) edge_3)

abbrev two_inits : List Statement
two_inits = main_of (bundle edge_1) ∷ coded edge_2 ∷ []

-- 0, 0: sites 4 and 5 have their modules code a P of round 1 with 0
abbrev pub edge_6 : List Call
edge_6 = code_by 4 kind_p 0 1 edge_5

abbrev pub edge_7 : List Call
edge_7 = code_by 5 kind_p 0 1 edge_6

-- 0, 20: site 1 is given them, with the INITs of its own, and sends V 0
abbrev pub edge_9 : List Call
edge_9 = give 1 (bundle_of (coded edge_7) two_inits) (give 1 (bundle_of (coded edge_6) two_inits) edge_7)

abbrev three_proposals : List Statement
three_proposals = main_of (bundle edge_5) ∷ coded edge_6 ∷ coded edge_7 ∷ []

-- 0, 0: sites 4 and 5 have their modules code a V of round 1 with 0
abbrev pub edge_10 : List Call
edge_10 = code_by 4 kind_v 0 1 edge_9

abbrev pub edge_11 : List Call
edge_11 = code_by 5 kind_v 0 1 edge_10

-- 0, 21: site 1 is given them, with the certificate of its own, and decides 0
abbrev pub edge_13 : List Call
edge_13 = give 1 (bundle_of (coded edge_11) (three_proposals ++ two_inits)) (give 1 (bundle_of (coded edge_10) (three_proposals ++ two_inits)) edge_11)

-- 20: site 2 opens on question 1 with jump on; 12: site 1 opens on question 0 again, with jump on
abbrev pub edge_15 : List Call
edge_15 = call 1 (opens 0 0 1 out) ∷ call 2 (opens 1 1 1 out) ∷ edge_13

-- 11: site 1 brings a closed station, for an opening that was never made; 3: it is given no words at all; 2: a coin of 2
abbrev pub edge_18 : List Call
edge_18 = Toy.give 5 1 (bundle edge_3) 2 (give 1 [] (call 1 (gives 7 closed_station (bundle edge_3) 0 out) ∷ edge_15))

-- 1, 2, 3, 2: site 3 opens with 2 for both settings and no lent output, with jump 2 alone, has its module code no words, and toss 2
abbrev pub edges : List Call
edges = call 3 (tosses [] 2) ∷ call 3 (codes []) ∷ call 3 (opens 0 0 2 out) ∷ call 3 (opens 0 2 2 []) ∷ edge_18

abbrev pub answers : List ℕ
answers = 2 ∷ 3 ∷ 2 ∷ 1 ∷ 2 ∷ 3 ∷ 11 ∷ 12 ∷ 20 ∷ 21 ∷ 0 ∷ 0 ∷ 0 ∷ 20 ∷ 0 ∷ 0 ∷ 0 ∷ 20 ∷ 0 ∷ 20 ∷ 0 ∷ 20 ∷ []

-- ---- what is computed of the list, all at once
pub record Facts : Type 0 where
  pub numbers : List ℕ
  pub given : Bool
  pub few : Bool
  pub off : Bool
  pub decided : Bool
  pub proposed_0 : ℕ
  pub proposed_1 : ℕ
  pub asked : ℕ
  pub there : Bool
  pub undecided : ℕ

abbrev facts : List Call → Facts
facts cs =
    record {
      numbers = numbers toy [] 5 cs;
      given = given toy [] 5 cs;
      few = few toy [] 5 (4 ∷ 5 ∷ []) cs;
      off = off toy [] 5 but_5 0 cs;
      decided = decides toy [] 5 cs 1 0 0 0 1;
      proposed_0 = count (proposed (log toy [] 5 cs) 0 0) 5;
      proposed_1 = count (proposed (log toy [] 5 cs) 0 1) 5;
      asked = (present toy [] 5 cs 1 0).identity.question;
      there = there (lineage toy [] 5 cs 2 0);
      undecided = (present toy [] 5 cs 2 0).lasting.decision;
    }

pub computed : facts edges ≡ record {
  numbers = answers;
  given = true;
  few = true;
  off = true;
  decided = true;
  proposed_0 = 2;
  proposed_1 = 1;
  asked = 0;
  there = true;
  undecided = none;
}
unfolding computes
computed = refl

-- ---- the premises
pub within : Given toy [] 5 edges
within = given_out toy [] 5 edges (ap (λ (f : Facts). f.given) computed)

pub few_faulty : FewFaulty toy [] 5 edges
few_faulty = few_out toy [] 5 (4 ∷ 5 ∷ []) edges (ap (λ (f : Facts). f.few) computed)

pub others : (i : ℕ) → 1 ≤ i → i ≤ 5 → member i (4 ∷ 5 ∷ []) ≡ false → Sound toy [] 5 i edges
others = others_out toy [] 5 (4 ∷ 5 ∷ []) edges (ap (λ (f : Facts). f.few) computed)

-- their votes were coded apart from a station
pub faulty_4 : Sound toy [] 5 4 edges → ⊥
unfolding Rattle.agreement.specs.Demand.Sound
faulty_4 s = (sound_before toy [] 5 4 (take 12 edges) edge_10 s).0 refl (ap (λ (f : Facts). get_or f.numbers 12 0) computed)

pub faulty_5 : Sound toy [] 5 5 edges → ⊥
unfolding Rattle.agreement.specs.Demand.Sound
faulty_5 s = (sound_before toy [] 5 5 (take 11 edges) edge_11 s).0 refl (ap (λ (f : Facts). get_or f.numbers 11 0) computed)

-- every opening on question 0 that was not refused brought 0, but for site 5's
pub all_off : AllOff toy [] 5 edges 0
all_off i low high sound = go (eqb i 5) refl
  where
    go : (b : Bool) → eqb i 5 ≡ b → JumpOff toy [] 5 i 0 edges
    go true e = absurd (faulty_5 (subst (λ (j : ℕ). Sound toy [] 5 j edges) (eqb-true i 5 e) sound))
    go false e = off_out toy [] 5 but_5 0 edges (ap (λ (f : Facts). f.off) computed) i (ap not e)

pub decision : Decides toy [] 5 edges 1 0 0 0
decision = decides_out toy [] 5 edges 1 0 0 0 1 (omega arith) (ap (λ (f : Facts). f.decided) computed)

pub claimed : Claim toy [] 5 edges
claimed = demand_3_by present_form toy toy_eight [] 5 (omega arith) (omega arith) edges within few_faulty

pub sound_1 : Sound toy [] 5 1 edges
sound_1 = others 1 (omega arith) (omega arith) refl

pub sound_2 : Sound toy [] 5 2 edges
sound_2 = others 2 (omega arith) (omega arith) refl

pub there_1 : lineage toy [] 5 edges 1 0 ≡ found (line toy [] 5 edges 1 0)
there_1 = decides_there toy [] 5 edges 1 0 0 0 decision

pub there_2 : lineage toy [] 5 edges 2 0 ≡ found (line toy [] 5 edges 2 0)
there_2 = there_out (lineage toy [] 5 edges 2 0) (ap (λ (f : Facts). f.there) computed)

-- ---- n at its edges: the smallest group and the largest, before any call
none_faulty : (n : ℕ) → FewFaulty toy [] n []
unfolding Rattle.agreement.specs.Demand.Sound
none_faulty n = record { faulty = []; few = omega arith; others = λ i low high out. tt }

pub smallest_claim : Claim toy [] least_stations []
unfolding Rattle.agreement.specs.Demand.Given
smallest_claim = demand_3_by present_form toy toy_eight [] least_stations (omega arith) (omega arith) [] tt (none_faulty least_stations)

pub largest_claim : Claim toy [] most_stations []
unfolding Rattle.agreement.specs.Demand.Given
largest_claim = demand_3_by present_form toy toy_eight [] most_stations (omega arith) (omega arith) [] tt (none_faulty most_stations)
