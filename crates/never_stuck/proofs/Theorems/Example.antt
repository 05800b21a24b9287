-- The theorems applied to three lists of calls, computed from the definitions. In the first, two of three sites have opened a question, and nothing more. In the
-- second, n is 4 and site 4 is faulty: it makes a proposal of 1 that no INIT backs and a none vote that rests on it, and site 1 holds that vote beside its own.
-- In the third two of three sites have jump on, and site 1 is a round late. In each the sound sites can all decide, in the third by last bundles alone too. The
-- rounds are the first and the last that the theorems take.
use Rattle.std.specs.Prelude.{ℕ, zero, suc, ◌+◌, ◌-◌, ◌≤◌, Bool, true, false, not, ◌&&◌, List, [], ◌∷◌, ◌≡◌, refl, eqb, leb, replicate}
use Rattle.std.proofs.Common.{ap, subst, arith, eqb-true, leb-true}
use Rattle.std.proofs.lemmas.Bool.{not-true}
use Rattle.laws.specs.Bools.{both}
use Rattle.laws.specs.Count.{count}
use Rattle.format.specs.Form.{present_form}
use Rattle.format.specs.Numbers.{kind_p, kind_v, none, d_get, least_stations}
use Rattle.format.specs.Group.{quorum}
use Rattle.format.specs.Lists.{some}
use Rattle.format.specs.Present.{last_round, most_stations, statement, main_of, bundle_of}
use Rattle.modules.specs.Counter.{last_for}
use Rattle.station.specs.declared.Station.{Station}
use Rattle.station.specs.Machine.{round_in, stage_step, has_value}
use Rattle.station.specs.Present.{state_of}
use Rattle.agreement.specs.Maths.Votes.{votes}
use Rattle.agreement.specs.Demand.{opens, codes, Call, call}
use Rattle.agreement.proofs.Theorems.Computed.{computes, numbers, there, there_out, present, line, given, given_out, sound, sound_out, few, few_out, below, below_out}
use Rattle.agreement.proofs.Theorems.Toy as Toy
use Rattle.agreement.proofs.Theorems.Toy.{toy, toy_eight, out, to_code}
use Rattle.agreement.proofs.Theorems.Theorem.{demand_3_by}
use Rattle.agreement.proofs.Theorems.Unbacked.{both_7}
use Rattle.agreement.specs.Present.{modules, lineage, Sound, FewFaulty, Given, Claim}
use Rattle.never_stuck.specs.Claim.{Quorate, Waits, Ready, CanDecide, HasDecided, CanDecideByLast}
use Rattle.never_stuck.proofs.Theorems.Theorem.{never_stuck_by}
use Rattle.never_stuck.proofs.Theorems.LastOnly.{never_stuck_last_by}

-- the team of the sites up to a number
abbrev pub up_to : ℕ → ℕ → Bool
up_to k y = leb y k

-- two settings compared
abbrev same_setting : Bool → Bool → Bool
same_setting true b = b
same_setting false b = not b

setting_out : (a b : Bool) → same_setting a b ≡ true → b ≡ a
setting_out true b e = e
setting_out false b e = not-true b e

-- ---- what the theorem asks of a site, as a test: its first station is open on question 1, has the setting, and is not past round r
module _ (n r : ℕ) (jump : Bool) where
  abbrev ready : List Call → ℕ → Bool
  ready cs y =
      there (lineage toy [] n cs y 0) && sound toy [] n cs y
      && (not (present toy [] n cs y 0).closed && eqb (present toy [] n cs y 0).identity.question 1
      && (eqb (last_for (modules toy [] n cs y) 1).question 1 && leb (round_in (present toy [] n cs y 0).stage) r && same_setting jump (present toy [] n cs y 0).lasting.jump))

  ready_out : (cs : List Call) (y : ℕ) → ready cs y ≡ true → Ready toy [] n cs 1 r jump y
  ready_out cs y e =
      let a = both (there (lineage toy [] n cs y 0) && sound toy [] n cs y) _ e in
      let b = both (there (lineage toy [] n cs y 0)) _ a.0 in
      let c = both (not (present toy [] n cs y 0).closed && eqb (present toy [] n cs y 0).identity.question 1) _ a.1 in
      let d = both (not (present toy [] n cs y 0).closed) _ c.0 in
      let h = both (eqb (last_for (modules toy [] n cs y) 1).question 1 && leb (round_in (present toy [] n cs y 0).stage) r) _ c.1 in
      let f = both (eqb (last_for (modules toy [] n cs y) 1).question 1) _ h.0 in
      record {
        opening = 0;
        station = present toy [] n cs y 0;
        waits = record {
          sound = sound_out toy [] n cs y b.1;
          presents = record { line = line toy [] n cs y 0; is = there_out (lineage toy [] n cs y 0) b.0; now = refl };
          still_open = not-true (present toy [] n cs y 0).closed d.0;
          asked = eqb-true (present toy [] n cs y 0).identity.question 1 d.1;
          not_gone_on = eqb-true (last_for (modules toy [] n cs y) 1).question 1 f.0;
        };
        not_past = leb-true (round_in (present toy [] n cs y 0).stage) r f.1;
        setting = setting_out jump (present toy [] n cs y 0).lasting.jump h.1;
      }

  abbrev all_ready : List Call → ℕ → Bool
  all_ready cs k = below (λ y. ready cs (suc y)) k

  all_out : (cs : List Call) (k : ℕ) → all_ready cs k ≡ true → (y : ℕ) → 1 ≤ y → y ≤ n → up_to k y ≡ true → Ready toy [] n cs 1 r jump y
  all_out cs k e zero a b c = absurd (omega arith)
  all_out cs k e (suc y) a b c = ready_out cs (suc y) (below_out (λ y. ready cs (suc y)) k y e (omega (arith, leb-true (suc y) k c)))

-- a site that is not past a round is not past a later one
ready_later : {cs : List Call} {n question r later : ℕ} {jump : Bool} {y : ℕ} → r ≤ later → Ready toy [] n cs question r jump y → Ready toy [] n cs question later jump y
ready_later h R = record { opening = R.opening; station = R.station; waits = R.waits; not_past = omega (arith, h, R.not_past); setting = R.setting }

record Facts : Type 0 where
  answers : List ℕ
  within : Bool
  faulty : Bool
  waiting : Bool

-- of a list with n sites, of which those named may be faulty, and the first k wait in round r or before with one setting
abbrev facts : ℕ → List ℕ → ℕ → Bool → ℕ → List Call → Facts
facts n faulty r jump k cs = record { answers = numbers toy [] n cs; within = given toy [] n cs; faulty = few toy [] n faulty cs; waiting = all_ready n r jump cs k }

abbrev as_asked : List ℕ → Facts
as_asked answers = record { answers = answers; within = true; faulty = true; waiting = true }

-- what the theorems say of such a list, if k is a quorum
module _ (n k : ℕ) (low : least_stations ≤ n) (top : n ≤ most_stations) (enough : Quorate n (up_to k)) (faulty : List ℕ) (cs : List Call) (answers : List ℕ) (r : ℕ) (jump : Bool)
    (computed : facts n faulty r jump k cs ≡ as_asked answers) where
  within : Given toy [] n cs
  within = given_out toy [] n cs (ap (λ (f : Facts). f.within) computed)

  few_faulty : FewFaulty toy [] n cs
  few_faulty = few_out toy [] n faulty cs (ap (λ (f : Facts). f.faulty) computed)

  all_ready_by : (later : ℕ) → r ≤ later → (y : ℕ) → 1 ≤ y → y ≤ n → up_to k y ≡ true → Ready toy [] n cs 1 later jump y
  all_ready_by later h y from upto of_team = ready_later h (all_out n r jump cs k (ap (λ (f : Facts). f.waiting) computed) y from upto of_team)

  by_any : (later : ℕ) → r ≤ later → 1 ≤ later → later + 1 ≤ last_round → CanDecide toy [] n cs 1 (later + 1) (up_to k) jump
  by_any later h from last = never_stuck_by toy toy_eight [] n low top cs within few_faulty 1 later (up_to k) jump enough from last (all_ready_by later h)

  by_last : jump ≡ true → (later : ℕ) → r ≤ later → 1 ≤ later → later + n + 1 ≤ last_round → CanDecideByLast toy [] n cs 1 (up_to k)
  by_last on later h from last =
      never_stuck_last_by toy toy_eight [] n low top cs within few_faulty 1 later (up_to k) enough from last
      (λ y first upto of_team. subst (λ (b : Bool). Ready toy [] n cs 1 later b y) on (all_ready_by later h y first upto of_team))

two_of_three : Quorate 3 (up_to 2)
unfolding count
two_of_three = omega arith

-- ---- two sites of three have opened question 1, site 1 with 0, site 2 with 1
abbrev pub two_open : List Call
two_open = call 2 (opens 1 1 0 out) ∷ call 1 (opens 1 0 0 out) ∷ []

two_computed : facts 3 (3 ∷ []) 1 false 2 two_open ≡ as_asked (20 ∷ 20 ∷ [])
unfolding computes
two_computed = refl

-- by the votes of round 2, or of the last round that there is
pub not_stuck : CanDecide toy [] 3 two_open 1 2 (up_to 2) false
not_stuck = by_any 3 2 (omega arith) (omega arith) two_of_three (3 ∷ []) two_open _ 1 false two_computed 1 (omega arith) (omega arith) (omega arith)

-- q votes of round 2 each
pub voted_in_2 : (y : ℕ) (low : 1 ≤ y) (high : y ≤ 3) (of_team : up_to 2 y ≡ true)
    → quorum 3 ≤ count (votes (not_stuck.each y low high of_team).decides.line.took 1 2 not_stuck.value) 3
voted_in_2 y low high of_team =
    let d = not_stuck.each y low high of_team in
    subst (λ (r : ℕ). quorum 3 ≤ count (votes d.decides.line.took 1 r not_stuck.value) 3) d.in_round d.decides.enough

pub not_stuck_at_last : CanDecide toy [] 3 two_open 1 last_round (up_to 2) false
not_stuck_at_last = by_any 3 2 (omega arith) (omega arith) two_of_three (3 ∷ []) two_open _ 1 false two_computed (last_round - 1) (omega arith) (omega arith) (omega arith)

-- ---- a none vote that rests on an unbacked proposal is held, at n 4
abbrev pub give : ℕ → List ℕ → List Call → List Call
give i ws cs = Toy.give 4 i ws 0 cs

abbrev pub bundle : List Call → List ℕ
bundle = Toy.bundle 4

-- 20: sites 1, 2 and 3 open question 1 with 0
abbrev pub open_1 : List Call
open_1 = call 1 (opens 1 0 0 out) ∷ []

abbrev pub open_2 : List Call
open_2 = call 2 (opens 1 0 0 out) ∷ open_1

abbrev pub open_3 : List Call
open_3 = call 3 (opens 1 0 0 out) ∷ open_2

-- 0, 20: each is given the INITs of the two others, and sends P 0 of round 1
abbrev pub proposed_1 : List Call
proposed_1 = give 1 (bundle open_3) (give 1 (bundle open_2) open_3)

abbrev pub proposed_2 : List Call
proposed_2 = give 2 (bundle open_3) (give 2 (bundle open_1) proposed_1)

abbrev pub proposed_3 : List Call
proposed_3 = give 3 (bundle open_2) (give 3 (bundle open_1) proposed_2)

-- 0, 20: site 1 is given the two other proposals, and sends V 0 of round 1
abbrev pub voted_1 : List Call
voted_1 = give 1 (bundle proposed_3) (give 1 (bundle proposed_2) proposed_3)

-- a statement of station 4 on question 1 and of round 1, to be coded
abbrev pub of_4 : (kind value : ℕ) → List ℕ
of_4 kind value = to_code 4 1 kind value d_get 1

-- 0: site 4 has its module code a P of round 1 with 1, which no INIT backs, and a none vote of round 1
abbrev pub unbacked : List Call
unbacked = call 4 (codes (of_4 kind_p 1)) ∷ voted_1

abbrev pub none_voted : List Call
none_voted = call 4 (codes (of_4 kind_v none)) ∷ unbacked

-- the none vote, with a certificate that mixes the P 0 of sites 1 and 2 with site 4's P 1
abbrev pub unbacked_none : List ℕ
unbacked_none =
    bundle_of (statement (Toy.lent 4 none_voted) 0) (main_of (bundle proposed_1) ∷ main_of (bundle proposed_2) ∷ statement (Toy.lent 4 unbacked) 0 ∷ [])

-- 0: site 1 is given it, and holds it
abbrev pub unbacked_held : List Call
unbacked_held = give 1 unbacked_none none_voted

-- site 1's station holds a none vote of station 4
abbrev pub holds_unbacked : List Call → Bool
holds_unbacked cs = some (λ s. eqb s.station 4 && (eqb s.kind kind_v && has_value none s)) (state_of (present toy [] 4 cs 1 0)).held

-- what is computed of the list, all at once, since to compute the list again takes as long again
record Computed : Type 0 where
  all : Facts
  holds : Bool

abbrev computed_of : List Call → Computed
computed_of cs = record { all = facts 4 (4 ∷ []) 1 false 3 cs; holds = holds_unbacked cs }

unbacked_computed : computed_of unbacked_held ≡ record { all = as_asked (0 ∷ 0 ∷ 0 ∷ 20 ∷ 0 ∷ 20 ∷ 0 ∷ 20 ∷ 0 ∷ 20 ∷ 0 ∷ 20 ∷ 20 ∷ 20 ∷ []); holds = true }
unfolding computes
unbacked_computed = refl

three_of_four : Quorate 4 (up_to 3)
unfolding count
three_of_four = omega arith

pub record Witness (cs : List Call) : Type 0 where
  pub held : holds_unbacked cs ≡ true
  pub not_stuck : CanDecide toy [] 4 cs 1 2 (up_to 3) false

pub witness : Witness unbacked_held
witness =
    record {
      held = ap (λ (c : Computed). c.holds) unbacked_computed;
      not_stuck = by_any 4 3 (omega arith) (omega arith) three_of_four (4 ∷ []) unbacked_held _ 1 false (ap (λ (c : Computed). c.all) unbacked_computed) 1 (omega arith) (omega arith) (omega arith);
    }

-- ---- jump on, and a site that is far behind: site 2 has gone to P of round 2 by faulty site 3's bundles, site 1 is at P of round 1. This is agreement's list of two
-- jumpers, up to its seventh call
jumping_computed : facts 3 (3 ∷ []) 2 true 2 both_7 ≡ as_asked (20 ∷ 23 ∷ 0 ∷ 0 ∷ 20 ∷ 20 ∷ 20 ∷ [])
unfolding computes
jumping_computed = refl

pub jumps_not_stuck : CanDecide toy [] 3 both_7 1 3 (up_to 2) true
jumps_not_stuck = by_any 3 2 (omega arith) (omega arith) two_of_three (3 ∷ []) both_7 _ 2 true jumping_computed 2 (omega arith) (omega arith) (omega arith)

-- by last bundles alone, from the leader's round on, or from the last round that the theorem takes
pub lasts_not_stuck : CanDecideByLast toy [] 3 both_7 1 (up_to 2)
lasts_not_stuck = by_last 3 2 (omega arith) (omega arith) two_of_three (3 ∷ []) both_7 _ 2 true jumping_computed refl 2 (omega arith) (omega arith) (omega arith)

pub lasts_not_stuck_at_last : CanDecideByLast toy [] 3 both_7 1 (up_to 2)
lasts_not_stuck_at_last = by_last 3 2 (omega arith) (omega arith) two_of_three (3 ∷ []) both_7 _ 2 true jumping_computed refl (last_round - (3 + 1)) (omega arith) (omega arith) (omega arith)

-- ---- what is claimed beside the decisions, of that list: no bundle of a step below the leader's is given, what demand 3 says holds of the longer list too, and no
-- site has become unsound
pub none_below_the_leader : (y k : ℕ) (t : Station) → 1 ≤ y → y ≤ 3 → up_to 2 y ≡ true → Waits toy [] 3 both_7 1 y k t → stage_step t.stage ≤ jumps_not_stuck.floor
none_below_the_leader = jumps_not_stuck.last_enough refl

pub longer_claim : Claim toy [] 3 jumps_not_stuck.list
longer_claim = demand_3_by present_form toy toy_eight [] 3 (omega arith) (omega arith) jumps_not_stuck.list jumps_not_stuck.given jumps_not_stuck.few

pub still_sound : (i : ℕ) → Sound toy [] 3 i both_7 → Sound toy [] 3 i jumps_not_stuck.list
still_sound = jumps_not_stuck.still_sound

pub longer_claim_by_last : Claim toy [] 3 lasts_not_stuck.list
longer_claim_by_last = demand_3_by present_form toy toy_eight [] 3 (omega arith) (omega arith) lasts_not_stuck.list lasts_not_stuck.given lasts_not_stuck.few

pub still_sound_by_last : (i : ℕ) → Sound toy [] 3 i both_7 → Sound toy [] 3 i lasts_not_stuck.list
still_sound_by_last = lasts_not_stuck.still_sound

-- each site of the team has decided, and its station names it
pub decided_by_last : (y : ℕ) → 1 ≤ y → y ≤ 3 → up_to 2 y ≡ true → HasDecided toy [] 3 lasts_not_stuck.list 1 lasts_not_stuck.value y
decided_by_last = lasts_not_stuck.each

-- ---- the smallest group and the largest: a quorum has opened question 1 with jump on, and the others are silent
abbrev openings_to : ℕ → List Call
openings_to zero = []
openings_to (suc k) = call (suc k) (opens 1 0 1 out) ∷ openings_to k

abbrev pub smallest : List Call
smallest = openings_to (quorum least_stations)

abbrev pub largest : List Call
largest = openings_to (quorum most_stations)

smallest_computed : facts least_stations [] 1 true (quorum least_stations) smallest ≡ as_asked (replicate (quorum least_stations) 20)
unfolding computes
smallest_computed = refl

largest_computed : facts most_stations [] 1 true (quorum most_stations) largest ≡ as_asked (replicate (quorum most_stations) 20)
unfolding computes
largest_computed = refl

all_of_smallest : Quorate least_stations (up_to (quorum least_stations))
unfolding count
all_of_smallest = omega arith

half_of_largest : Quorate most_stations (up_to (quorum most_stations))
unfolding count
half_of_largest = omega arith

pub smallest_not_stuck : CanDecide toy [] least_stations smallest 1 2 (up_to (quorum least_stations)) true
smallest_not_stuck =
    by_any least_stations (quorum least_stations) (omega arith) (omega arith) all_of_smallest [] smallest _ 1 true smallest_computed 1 (omega arith) (omega arith) (omega arith)

pub smallest_by_last : CanDecideByLast toy [] least_stations smallest 1 (up_to (quorum least_stations))
smallest_by_last =
    by_last least_stations (quorum least_stations) (omega arith) (omega arith) all_of_smallest [] smallest _ 1 true smallest_computed refl 1 (omega arith) (omega arith) (omega arith)

pub largest_not_stuck : CanDecide toy [] most_stations largest 1 2 (up_to (quorum most_stations)) true
largest_not_stuck =
    by_any most_stations (quorum most_stations) (omega arith) (omega arith) half_of_largest [] largest _ 1 true largest_computed 1 (omega arith) (omega arith) (omega arith)

pub largest_by_last : CanDecideByLast toy [] most_stations largest 1 (up_to (quorum most_stations))
largest_by_last =
    by_last most_stations (quorum most_stations) (omega arith) (omega arith) half_of_largest [] largest _ 1 true largest_computed refl 1 (omega arith) (omega arith) (omega arith)
