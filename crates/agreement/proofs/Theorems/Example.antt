-- A list of calls that an attacker would write, within the premises of demand 3: n is 3, and site 3 is faulty. It never codes an INIT, and yet makes a
-- proposal of 1 and a none vote that rests on it. Site 1 takes that vote, and decides a round later than site 2. All is computed from the definitions.
use Rattle.std.specs.Prelude.{ℕ, ◌+◌, ◌-◌, ◌*◌, ◌^◌, ◌≤◌, Bool, true, false, ◌&&◌, List, [], ◌∷◌, ◌++◌, ◌≡◌, refl, get_or, take, replicate}
use Rattle.std.proofs.Common.{ap, arith}
use Rattle.laws.specs.Count.{count}
use Rattle.format.specs.Form.{present_form}
use Rattle.format.specs.Numbers.{kind_p, kind_v, none, d_get, r_get, head_mark, mark_bit}
use Rattle.format.specs.Group.{backing}
use Rattle.format.specs.Words.{value_bit, station_bit}
use Rattle.format.specs.Present.{statement_words, words_at, main_of}
use Rattle.rules.specs.declared.Which.TheVariants.{Any}
use Rattle.certificate.specs.Present.{check_by}
use Rattle.station.specs.Machine.{undecided}
use Rattle.station.specs.declared.Stage.TheVariants.{Gathering}
use Rattle.station.specs.declared.Station.{Station}
use Rattle.station.specs.Present.{kept_words, slots_words}
use Rattle.agreement.specs.Maths.Votes.{votes}
use Rattle.agreement.specs.Demand.{opens, gives, codes, tosses, Call, call, member}
use Rattle.agreement.proofs.Theorems.Toy as Toy
use Rattle.agreement.proofs.Theorems.Toy.{toy, toy_eight, out, to_code}
use Rattle.agreement.proofs.Theorems.Prefix.{given_before, sound_before}
use Rattle.agreement.proofs.Theorems.Theorem.{demand_3_by}
use Rattle.agreement.specs.FirstVotes.{names_proposer, FirstVote}
use Rattle.agreement.proofs.Theorems.FirstVotes.{first_votes_by}
use Rattle.agreement.proofs.Theorems.Computed.{computes, last, numbers, line, present, given, given_out, few, others_out, few_out, off_out, decides, decides_out}
use Rattle.agreement.specs.Present.{proposed, log, Sound, AllOff, FewFaulty, CodesCame, Given, Decides, Claim}

-- ---- what the calls bring
abbrev pub give : ℕ → List ℕ → ℕ → List Call → List Call
give = Toy.give 3

abbrev pub bundle : List Call → List ℕ
bundle = Toy.bundle 3

abbrev pub lent : List Call → List ℕ
lent = Toy.lent 3

-- a statement of station 3 on question 1, to be coded
abbrev pub of_3 : (kind value flag round : ℕ) → List ℕ
of_3 = to_code 3 1

-- a station of site 3 on question 2 that no call returned: it holds an INIT of station 3 with value 1, which no module coded
abbrev pub forged : Station
forged =
    record {
      identity = record { n = 3; station = 3; question = 2 };
      stage = Gathering;
      closed = false;
      lasting = undecided false;
      held = record { heard = 4; slots = replicate (2 * statement_words) 0 ++ ((2 ^ value_bit + 3 * 2 ^ station_bit) ∷ 2 ∷ replicate (slots_words - (2 * statement_words + 2)) 0) };
      groups = record { value = replicate kept_words 0; none = replicate kept_words 0 };
    }

-- ---- the list, call by call, each with the number that it answers
-- 20: site 1 opens on question 1 with 0
abbrev pub calls_1 : List Call
calls_1 = call 1 (opens 1 0 0 out) ∷ []

-- 20: and so does site 2
abbrev pub calls_2 : List Call
calls_2 = call 2 (opens 1 0 0 out) ∷ calls_1

-- 5: site 1 is given site 2's INIT with its last code word damaged
abbrev pub damaged : List ℕ
damaged = take statement_words (bundle calls_2) ++ (1 ∷ [])

abbrev pub calls_3 : List Call
calls_3 = give 1 damaged 0 calls_2

-- 0: site 3 has its module code a P of round 1 with 1, which no INIT backs
abbrev pub calls_4 : List Call
calls_4 = call 3 (codes (of_3 kind_p 1 d_get 1)) ∷ calls_3

-- 20: site 1 is given site 2's INIT, and sends P 0
abbrev pub calls_5 : List Call
calls_5 = give 1 (bundle calls_2) 0 calls_4

-- 20: site 2 is given site 1's INIT, and sends P 0
abbrev pub calls_6 : List Call
calls_6 = give 2 (bundle calls_1) 0 calls_5

-- 20: site 1 is given site 2's P, and sends V 0, with both P and behind them the two INITs of its own P
abbrev pub calls_7 : List Call
calls_7 = give 1 (bundle calls_6) 0 calls_6

-- 20: site 2 is given site 1's P, and sends V 0, with the same INITs: site 1's P is the lowest-numbered
abbrev pub calls_8 : List Call
calls_8 = give 2 (bundle calls_5) 0 calls_7

-- 0: site 3 has its module code a V none of round 1
abbrev pub calls_9 : List Call
calls_9 = call 3 (codes (of_3 kind_v none d_get 1)) ∷ calls_8

-- 20: site 1 is given that vote; its certificate mixes site 1's own P 0 with site 3's P 1. Site 1 takes it, decides nothing, and sends P 0 of round 2
abbrev pub unbacked_none : List ℕ
unbacked_none = (head_mark * 2 ^ mark_bit + 2) ∷ (lent calls_9 ++ (words_at (bundle calls_5) 1 ++ lent calls_4))

abbrev pub calls_10 : List Call
calls_10 = give 1 unbacked_none 1 calls_9

-- 21: site 2 is given site 1's V, decides 0 in round 1, and sends P 0 of round 2
abbrev pub calls_11 : List Call
calls_11 = give 2 (bundle calls_7) 1 calls_10

-- 0: site 3 tosses 1 for an R-GET P of round 2
abbrev pub calls_12 : List Call
calls_12 = call 3 (tosses (of_3 kind_p 0 r_get 2) 1) ∷ calls_11

-- 20: site 1 is given site 2's P of round 2, and sends V 0
abbrev pub calls_13 : List Call
calls_13 = give 1 (bundle calls_11) 1 calls_12

-- 20: site 2 is given site 1's P of round 2, and sends V 0
abbrev pub calls_14 : List Call
calls_14 = give 2 (bundle calls_10) 1 calls_13

-- 21: site 1 is given site 2's V of round 2, and decides 0 in round 2
abbrev pub calls_15 : List Call
calls_15 = give 1 (bundle calls_14) 1 calls_14

-- 20: site 2 is given site 1's V of round 2, and so has q votes for 0 of that round too
abbrev pub calls_16 : List Call
calls_16 = give 2 (bundle calls_13) 1 calls_15

-- 12: site 2 brings its station of before its decision, and is given the same V again
abbrev pub calls_17 : List Call
calls_17 = call 2 (gives 0 (present toy [] 3 calls_10 2 0) (bundle calls_7) 1 out) ∷ calls_16

-- 20: site 1 opens on question 2 with 1
abbrev pub calls_18 : List Call
calls_18 = call 1 (opens 2 1 0 out) ∷ calls_17

-- 20: site 3 brings the forged station, and is given that INIT
abbrev pub example : List Call
example = call 3 (gives 0 forged (bundle calls_18) 1 out) ∷ calls_18

-- the numbers, the newest first as the calls are
abbrev pub answers : List ℕ
answers = 20 ∷ 20 ∷ 12 ∷ 20 ∷ 21 ∷ 20 ∷ 20 ∷ 0 ∷ 21 ∷ 20 ∷ 0 ∷ 20 ∷ 20 ∷ 20 ∷ 20 ∷ 0 ∷ 5 ∷ 20 ∷ 20 ∷ []

-- ---- what is computed of the list, all at once, since to compute the list again takes as long again
record Facts : Type 0 where
  numbers : List ℕ
  given : Bool
  few : Bool
  first : Bool
  second : Bool
  again : Bool
  in_round_1 : ℕ
  held_unbacked : Bool
  proposed : ℕ
  vote : List ℕ

abbrev facts : List Call → Facts
facts cs =
    record {
      numbers = numbers toy [] 3 cs;
      given = given toy [] 3 cs;
      few = few toy [] 3 (3 ∷ []) cs;
      first = decides toy [] 3 cs 2 0 1 0 1;
      second = decides toy [] 3 cs 1 0 1 0 2;
      again = decides toy [] 3 cs 2 0 1 0 2;
      in_round_1 = count (votes (line toy [] 3 cs 1 0).took 1 1 0) 3;
      held_unbacked = votes (line toy [] 3 cs 1 0).took 1 1 none 3;
      proposed = count (proposed (log toy [] 3 cs) 1 1) 3;
      vote = check_by (toy []) 3 Any (bundle calls_7) ∷ (main_of (bundle calls_7)).kind ∷ (main_of (bundle calls_7)).round ∷ (main_of (bundle calls_7)).value ∷ (main_of (bundle calls_7)).question ∷ [];
    }

computed : facts example ≡ record { numbers = answers; given = true; few = true; first = true; second = true; again = true; in_round_1 = 1; held_unbacked = true; proposed = 0; vote = 0 ∷ kind_v ∷ 1 ∷ 0 ∷ 1 ∷ [] }
unfolding computes
computed = refl

-- ---- the numbers example-answers
pub record Answered : Type 0 where
  pub all : numbers toy [] 3 example ≡ answers
  pub damaged_code : (last toy [] 3 calls_3).number ≡ 5
  pub none_vote : (last toy [] 3 calls_10).number ≡ 20
  pub first_decision : (last toy [] 3 calls_11).number ≡ 21
  pub toss : (last toy [] 3 calls_12).number ≡ 0
  pub second_decision : (last toy [] 3 calls_15).number ≡ 21
  pub old_station : (last toy [] 3 calls_17).number ≡ 12
  pub other_question : (last toy [] 3 calls_18).number ≡ 20
  pub forged_station : (last toy [] 3 example).number ≡ 20

pub example_answers : Answered
example_answers =
    record {
      all = ap (λ (f : Facts). f.numbers) computed;
      damaged_code = at 16;
      none_vote = at 9;
      first_decision = at 8;
      toss = at 7;
      second_decision = at 4;
      old_station = at 2;
      other_question = at 1;
      forged_station = at 0;
    }
  where
    at : (k : ℕ) → get_or (facts example).numbers k 0 ≡ get_or answers k 0
    at k = ap (λ (f : Facts). get_or f.numbers k 0) computed

-- ---- the premises
within : Given toy [] 3 example
within = given_out toy [] 3 example (ap (λ (f : Facts). f.given) computed)

few_faulty : FewFaulty toy [] 3 example
few_faulty = few_out toy [] 3 (3 ∷ []) example (ap (λ (f : Facts). f.few) computed)

others : (i : ℕ) → 1 ≤ i → i ≤ 3 → member i (3 ∷ []) ≡ false → Sound toy [] 3 i example
others = others_out toy [] 3 (3 ∷ []) example (ap (λ (f : Facts). f.few) computed)

-- no opening has jump on
all_off : AllOff toy [] 3 example 1
unfolding computes
all_off i low high sound = off_out toy [] 3 (λ j. true) 1 example refl i refl

-- the toss was coded
faulty_3 : Sound toy [] 3 3 example → ⊥
unfolding Rattle.agreement.specs.Demand.Sound
faulty_3 s = (sound_before toy [] 3 3 (take 7 example) calls_12 s).0 refl example_answers.toss

-- ---- the vote of round 1 that site 1 sent in calls-7 and site 2 is given in calls-11
first_vote : FirstVote toy [] 3 (bundle calls_7) 1 0
first_vote = record { valid = at 0; kind = at 1; round = at 2; value = at 3; bit = omega arith; asked = at 4 }
  where
    at : (k : ℕ) → get_or (facts example).vote k 0 ≡ get_or (0 ∷ kind_v ∷ 1 ∷ 0 ∷ 1 ∷ []) k 0
    at k = ap (λ (f : Facts). get_or f.vote k 0) computed

vote_came : CodesCame toy [] 3 (log toy [] 3 calls_10) (bundle calls_7)
unfolding Rattle.agreement.specs.Demand.Given
vote_came = (given_before toy [] 3 (take 8 example) calls_11 within).1.0.1

-- ---- all of it: a list within the premises, for which the claim therefore holds
pub record Witness (cs : List Call) : Type 1 where
  pub within : Given toy [] 3 cs
  pub few : FewFaulty toy [] 3 cs
  pub sound_1 : Sound toy [] 3 1 cs
  pub sound_2 : Sound toy [] 3 2 cs
  pub faulty_3 : Sound toy [] 3 3 cs → ⊥
  -- site 2 decides 0 in round 1; site 1 in round 2, and took one vote for 0 of round 1, which is too few
  pub first : Decides toy [] 3 cs 2 0 1 0
  pub first_round : first.round ≡ 1
  pub second : Decides toy [] 3 cs 1 0 1 0
  pub second_round : second.round ≡ 2
  pub not_before : count (votes second.line.took 1 1 0) 3 ≡ 1
  -- site 2 has q votes for 0 of round 2 as well: one station's decisions agree too
  pub again : Decides toy [] 3 cs 2 0 1 0
  pub again_round : again.round ≡ 2
  pub one_station : (v w : ℕ) → Decides toy [] 3 cs 2 0 1 v → Decides toy [] 3 cs 2 0 1 w → v ≡ w
  -- no sound site has jump on, so that 0 has its backing, which is 2; no site proposed 1 on question 1, and site 1's station took station 3's none vote of round 1
  pub off : AllOff toy [] 3 cs 1
  pub backed : backing 3 0 ≤ count (proposed (log toy [] 3 cs) 1 0) 3
  pub unbacked : count (proposed (log toy [] 3 cs) 1 1) 3 ≡ 0
  pub held_unbacked : votes second.line.took 1 1 none 3 ≡ true
  -- site 1's vote of round 1 for 0, by which site 2 decides: by the theorem on such votes it names at least the backing of 0, which is 2, in sites that proposed 0
  pub first_vote : FirstVote toy [] 3 (bundle calls_7) 1 0
  pub named : backing 3 0 ≤ count (λ i. names_proposer (bundle calls_7) 0 i && proposed (log toy [] 3 calls_10) 1 0 i) 3
  pub claimed : Claim toy [] 3 cs

pub witness : Witness example
unfolding decides_out
witness =
    record {
      within = within;
      few = few_faulty;
      sound_1 = others 1 (omega arith) (omega arith) refl;
      sound_2 = others 2 (omega arith) (omega arith) refl;
      faulty_3 = faulty_3;
      first = decides_out toy [] 3 example 2 0 1 0 1 (omega arith) (ap (λ (f : Facts). f.first) computed);
      first_round = refl;
      second = decides_out toy [] 3 example 1 0 1 0 2 (omega arith) (ap (λ (f : Facts). f.second) computed);
      second_round = refl;
      again = decides_out toy [] 3 example 2 0 1 0 2 (omega arith) (ap (λ (f : Facts). f.again) computed);
      again_round = refl;
      one_station = λ v w. claimed.agreement 2 2 0 0 1 v w (others 2 (omega arith) (omega arith) refl) (others 2 (omega arith) (omega arith) refl);
      not_before = ap (λ (f : Facts). f.in_round_1) computed;
      off = all_off;
      backed = claimed.backed 2 0 1 0 (others 2 (omega arith) (omega arith) refl) all_off (decides_out toy [] 3 example 2 0 1 0 1 (omega arith) (ap (λ (f : Facts). f.first) computed));
      unbacked = ap (λ (f : Facts). f.proposed) computed;
      held_unbacked = ap (λ (f : Facts). f.held_unbacked) computed;
      first_vote = first_vote;
      named = first_votes_by toy [] 3 calls_10 (bundle calls_7) 1 0 vote_came first_vote;
      claimed = claimed;
    }
  where
    claimed : Claim toy [] 3 example
    claimed = demand_3_by present_form toy toy_eight [] 3 (omega arith) (omega arith) example within few_faulty
