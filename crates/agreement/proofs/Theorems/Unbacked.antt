-- "a jumper can copy a faulty first-round none vote and a coin then bring an unproposed value, as a tested run at n 3 shows" (Job 3 of document 02): a list of
-- calls within the premises of demand 3, computed from the definitions. Sites 1 and 2 are sound, have jump on and propose 1, site 3 is faulty and codes no INIT,
-- and both decide 0, which no site proposed. So the backing is not to be had without its premise, and all else of the claim is had. The crate lone_jumper has a
-- second list, in which one jumper is enough.
use Rattle.std.specs.Prelude.{ℕ, ◌+◌, ◌*◌, ◌^◌, ◌≤◌, Bool, true, false, List, [], ◌∷◌, ◌++◌, ◌≡◌, refl}
use Rattle.std.proofs.Common.{sym, ap, ◌∙◌, arith}
use Rattle.laws.specs.Count.{count}
use Rattle.format.specs.Form.{present_form}
use Rattle.format.specs.Numbers.{kind_p, kind_v, none, d_get, conflicting, head_mark, mark_bit}
use Rattle.format.specs.Group.{backing}
use Rattle.format.specs.Present.{words_at}
use Rattle.agreement.specs.Demand.{opens, gives, codes, Call, call, found, member}
use Rattle.agreement.proofs.Theorems.Theorem.{demand_3_by}
use Rattle.agreement.proofs.Theorems.Computed.{computes, numbers, line, present, given, given_out, few, others_out, few_out, decides, decides_out, decides_there}
use Rattle.agreement.proofs.Theorems.Toy.{toy, toy_eight, out}
use Rattle.agreement.proofs.Theorems.Example.{give, bundle, lent, of_3}
use Rattle.agreement.specs.Present.{proposed, answer, log, lineage, Sound, AllOff, FewFaulty, CodesCame, Given, Decides, Claim}

-- a none vote of round 1 of station 3, over a proposal of station 1 with 1 and one of its own with 0
abbrev pub unbacked_none : List ℕ → List ℕ → List ℕ → List ℕ
unbacked_none vote of_1 of_itself = (head_mark * 2 ^ mark_bit + 2) ∷ (vote ++ (words_at of_1 1 ++ of_itself))

-- ---- the list
-- 20, 20: sites 1 and 2 open on question 1 with 1 and jump on
abbrev pub both_2 : List Call
both_2 = call 2 (opens 1 1 1 out) ∷ call 1 (opens 1 1 1 out) ∷ []

-- 20: site 1 is given site 2's INIT, and sends P 1
abbrev pub both_3 : List Call
both_3 = give 1 (bundle both_2) 0 both_2

-- 0, 0: site 3 has its module code a P of round 1 with 0, which no INIT backs, and a V none of round 1
abbrev pub both_4 : List Call
both_4 = call 3 (codes (of_3 kind_p 0 d_get 1)) ∷ both_3

abbrev pub both_5 : List Call
both_5 = call 3 (codes (of_3 kind_v none d_get 1)) ∷ both_4

abbrev pub both_none : List ℕ
both_none = unbacked_none (lent both_5) (bundle both_3) (lent both_4)

-- 23: site 2 jumps from its INIT onto that vote
abbrev pub both_6 : List Call
both_6 = give 2 both_none 0 both_5

-- 20: it is given it again; both votes are none, and the coin is 0: P 0 of round 2, R-GET
abbrev pub both_7 : List Call
both_7 = give 2 both_none 0 both_6

-- 23: site 1 jumps onto that proposal, with the coin 0; 20: it is given it again, and sends V 0
abbrev pub both_9 : List Call
both_9 = give 1 (bundle both_7) 0 (give 1 (bundle both_7) 0 both_7)

-- 23: site 2 jumps onto that vote; 21: it is given it again, and decides 0
abbrev pub both_10 : List Call
both_10 = give 2 (bundle both_9) 0 both_9

abbrev pub both_11 : List Call
both_11 = give 2 (bundle both_9) 0 both_10

-- 21: site 1 is given the vote that site 2 jumped to, and decides 0
abbrev pub both_jump : List Call
both_jump = give 1 (bundle both_10) 0 both_11

-- ---- what is computed of a list, all at once: sites 1 and 2 decide 0 on question 1 in round r, and their stations are on that question
pub record Facts : Type 0 where
  pub numbers : List ℕ
  pub given : Bool
  pub few : Bool
  pub decided_1 : Bool
  pub decided_2 : Bool
  pub asked_1 : ℕ
  pub asked_2 : ℕ
  pub proposed : ℕ

abbrev pub facts : List Call → ℕ → Facts
facts cs r =
    record {
      numbers = numbers toy [] 3 cs;
      given = given toy [] 3 cs;
      few = few toy [] 3 (3 ∷ []) cs;
      decided_1 = decides toy [] 3 cs 1 0 1 0 r;
      decided_2 = decides toy [] 3 cs 2 0 1 0 r;
      asked_1 = (present toy [] 3 cs 1 0).identity.question;
      asked_2 = (present toy [] 3 cs 2 0).identity.question;
      proposed = count (proposed (log toy [] 3 cs) 1 0) 3;
    }

-- what it comes to, in both lists
abbrev pub comes_to : List ℕ → Facts
comes_to answers = record { numbers = answers; given = true; few = true; decided_1 = true; decided_2 = true; asked_1 = 1; asked_2 = 1; proposed = 0 }

abbrev pub both_answers : List ℕ
both_answers = 21 ∷ 21 ∷ 23 ∷ 20 ∷ 23 ∷ 20 ∷ 23 ∷ 0 ∷ 0 ∷ 20 ∷ 20 ∷ 20 ∷ []

both_computed : facts both_jump 2 ≡ comes_to both_answers
unfolding computes
both_computed = refl

-- nobody is fewer than the backing of 0
pub too_few : (x : ℕ) → x ≡ 0 → backing 3 0 ≤ x → ⊥
unfolding backing Rattle.laws.specs.Pick.pick
too_few x z e = omega arith

-- ---- all of it: a list within the premises, for which the claim therefore holds, and in which two sound sites decide what no site proposed
pub record Unbacked (cs : List Call) (answers : List ℕ) : Type 1 where
  pub numbers_are : numbers toy [] 3 cs ≡ answers
  pub within : Given toy [] 3 cs
  pub few : FewFaulty toy [] 3 cs
  pub sound_1 : Sound toy [] 3 1 cs
  pub sound_2 : Sound toy [] 3 2 cs
  pub decided_1 : Decides toy [] 3 cs 1 0 1 0
  pub decided_2 : Decides toy [] 3 cs 2 0 1 0
  pub unproposed : count (proposed (log toy [] 3 cs) 1 0) 3 ≡ 0
  pub claimed : Claim toy [] 3 cs
  -- a sound site has jump on, for else 0 would have its backing
  pub not_off : AllOff toy [] 3 cs 1 → ⊥
  -- what the claim says of these two sites all the same
  pub agreed : (v w : ℕ) → Decides toy [] 3 cs 1 0 1 v → Decides toy [] 3 cs 2 0 1 w → v ≡ w
  pub named_1 : (present toy [] 3 cs 1 0).lasting.decision ≡ 0
  pub named_2 : (present toy [] 3 cs 2 0).lasting.decision ≡ 0
  pub named_alike : (present toy [] 3 cs 1 0).lasting.decision ≡ (present toy [] 3 cs 2 0).lasting.decision
  pub no_conflict : (ws : List ℕ) (coin : ℕ) (lent : List ℕ) → CodesCame toy [] 3 (log toy [] 3 cs) ws
      → (answer toy [] 3 cs (call 2 (gives 0 (present toy [] 3 cs 2 0) ws coin lent))).number ≡ conflicting → ⊥

module _ (cs : List Call) (answers : List ℕ) (r : ℕ) (computed : facts cs r ≡ comes_to answers) where
  within : Given toy [] 3 cs
  within = given_out toy [] 3 cs (ap (λ (f : Facts). f.given) computed)

  few_faulty : FewFaulty toy [] 3 cs
  few_faulty = few_out toy [] 3 (3 ∷ []) cs (ap (λ (f : Facts). f.few) computed)

  others : (x : ℕ) → 1 ≤ x → x ≤ 3 → member x (3 ∷ []) ≡ false → Sound toy [] 3 x cs
  others = others_out toy [] 3 (3 ∷ []) cs (ap (λ (f : Facts). f.few) computed)

  sound_1 : Sound toy [] 3 1 cs
  sound_1 = others 1 (omega arith) (omega arith) refl

  sound_2 : Sound toy [] 3 2 cs
  sound_2 = others 2 (omega arith) (omega arith) refl

  decided_1 : Decides toy [] 3 cs 1 0 1 0
  decided_1 = decides_out toy [] 3 cs 1 0 1 0 r (omega arith) (ap (λ (f : Facts). f.decided_1) computed)

  decided_2 : Decides toy [] 3 cs 2 0 1 0
  decided_2 = decides_out toy [] 3 cs 2 0 1 0 r (omega arith) (ap (λ (f : Facts). f.decided_2) computed)

  claimed : Claim toy [] 3 cs
  claimed = demand_3_by present_form toy toy_eight [] 3 (omega arith) (omega arith) cs within few_faulty

  -- the stations, as the last calls on them returned them, name what they decided
  there_1 : lineage toy [] 3 cs 1 0 ≡ found (line toy [] 3 cs 1 0)
  there_1 = decides_there toy [] 3 cs 1 0 1 0 decided_1

  there_2 : lineage toy [] 3 cs 2 0 ≡ found (line toy [] 3 cs 2 0)
  there_2 = decides_there toy [] 3 cs 2 0 1 0 decided_2

  named_1 : (present toy [] 3 cs 1 0).lasting.decision ≡ 0
  named_1 = claimed.named 1 0 1 0 (line toy [] 3 cs 1 0) sound_1 there_1 decided_1

  named_2 : (present toy [] 3 cs 2 0).lasting.decision ≡ 0
  named_2 = claimed.named 2 0 1 0 (line toy [] 3 cs 2 0) sound_2 there_2 decided_2

  pub unbacked : Unbacked cs answers
  unbacked =
      record {
        numbers_are = ap (λ (f : Facts). f.numbers) computed;
        within = within;
        few = few_faulty;
        sound_1 = sound_1;
        sound_2 = sound_2;
        decided_1 = decided_1;
        decided_2 = decided_2;
        unproposed = ap (λ (f : Facts). f.proposed) computed;
        claimed = claimed;
        not_off = λ off. too_few _ (ap (λ (f : Facts). f.proposed) computed) (claimed.backed 2 0 1 0 sound_2 off decided_2);
        agreed = λ v w. claimed.agreement 1 2 0 0 1 v w sound_1 sound_2;
        named_1 = named_1;
        named_2 = named_2;
        named_alike = claimed.named_agreement 1 2 0 0 (line toy [] 3 cs 1 0) (line toy [] 3 cs 2 0) sound_1 sound_2 there_1 there_2
            (ap (λ (f : Facts). f.asked_1) computed ∙ sym (ap (λ (f : Facts). f.asked_2) computed)) (omega (arith, named_1)) (omega (arith, named_2));
        no_conflict = λ ws coin lent. claimed.no_conflict 2 0 (present toy [] 3 cs 2 0) ws coin lent sound_2
            (record { line = line toy [] 3 cs 2 0; is = there_2; now = refl });
      }

pub both_unbacked : Unbacked both_jump both_answers
both_unbacked = unbacked both_jump both_answers 2 both_computed

-- ---- so no theorem says that a decided value has its backing, where sound sites may jump
pub backing_needs_its_premise :
    ((i k v : ℕ) → Sound toy [] 3 i both_jump → Decides toy [] 3 both_jump i k 1 v → backing 3 v ≤ count (proposed (log toy [] 3 both_jump) 1 v) 3) → ⊥
backing_needs_its_premise f = let w = both_unbacked in too_few _ w.unproposed (f 2 0 0 w.sound_2 w.decided_2)
