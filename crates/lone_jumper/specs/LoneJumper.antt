-- One jumper is enough: a list of calls within the premises of demand 3, computed from the definitions, as `both_jump` in agreement. Sites 1 and 2 are sound and
-- propose 1, site 3 is faulty and codes no INIT. Site 2 has jump on. Both decide 0, which no site proposed, site 1 with jump off. So the premise of the backing is
-- not to be asked of the deciding site alone.
use Rattle.std.specs.Prelude.{ℕ, ◌≤◌, List, [], ◌∷◌, ◌≡◌, refl, eqb}
use Rattle.laws.specs.Count.{count}
use Rattle.format.specs.Numbers.{kind_p, kind_v, none, d_get}
use Rattle.format.specs.Group.{backing}
use Rattle.agreement.specs.Demand.{opens, codes, Call, call}
use Rattle.agreement.proofs.Theorems.Computed.{computes, off_out}
use Rattle.agreement.proofs.Theorems.Toy.{toy, out}
use Rattle.agreement.proofs.Theorems.Example.{give, bundle, lent, of_3}
use Rattle.agreement.proofs.Theorems.Unbacked.{unbacked_none, facts, comes_to, Unbacked, unbacked, too_few}
use Rattle.agreement.specs.Present.{proposed, log, Sound, JumpOff, Decides}

-- ---- the list
-- 20, 20: sites 1 and 2 open on question 1 with 1, site 2 with jump on
abbrev pub lone_1 : List Call
lone_1 = call 1 (opens 1 1 0 out) ∷ []

abbrev pub lone_2 : List Call
lone_2 = call 2 (opens 1 1 1 out) ∷ lone_1

-- 20, 20: each is given the other's INIT, and sends P 1
abbrev pub lone_3 : List Call
lone_3 = give 1 (bundle lone_2) 0 lone_2

abbrev pub lone_4 : List Call
lone_4 = give 2 (bundle lone_1) 0 lone_3

-- 0, 0: site 3 has its module code a P of round 1 with 0, which no INIT backs, and a V none of round 1
abbrev pub lone_5 : List Call
lone_5 = call 3 (codes (of_3 kind_p 0 d_get 1)) ∷ lone_4

abbrev pub lone_6 : List Call
lone_6 = call 3 (codes (of_3 kind_v none d_get 1)) ∷ lone_5

abbrev pub lone_none : List ℕ
lone_none = unbacked_none (lent lone_6) (bundle lone_3) (lent lone_5)

-- 23: site 2 jumps onto that vote; 20: it is given it again, with coin 0: P 0 of round 2, R-GET
abbrev pub lone_8 : List Call
lone_8 = give 2 lone_none 0 (give 2 lone_none 0 lone_6)

-- 20: site 1 is given site 2's P of round 1, and votes 1; 20: it is given site 3's vote, and proposes 1 in round 2
abbrev pub lone_9 : List Call
lone_9 = give 1 (bundle lone_4) 0 lone_8

abbrev pub lone_10 : List Call
lone_10 = give 1 lone_none 0 lone_9

-- 20, 20: each is given the other's P of round 2, and votes none
abbrev pub lone_11 : List Call
lone_11 = give 1 (bundle lone_8) 0 lone_10

abbrev pub lone_12 : List Call
lone_12 = give 2 (bundle lone_10) 0 lone_11

-- 20, 20: each is given the other's vote, with coin 0: P 0 of round 3, R-GET
abbrev pub lone_13 : List Call
lone_13 = give 1 (bundle lone_12) 0 lone_12

abbrev pub lone_14 : List Call
lone_14 = give 2 (bundle lone_11) 0 lone_13

-- 20, 20: each is given the other's P of round 3, and votes 0
abbrev pub lone_15 : List Call
lone_15 = give 1 (bundle lone_14) 0 lone_14

abbrev pub lone_16 : List Call
lone_16 = give 2 (bundle lone_13) 0 lone_15

-- 21, 21: each is given the other's vote, and decides 0
abbrev pub lone_jump : List Call
lone_jump = give 2 (bundle lone_15) 0 (give 1 (bundle lone_16) 0 lone_16)

-- ---- all of it
abbrev pub lone_answers : List ℕ
lone_answers = 21 ∷ 21 ∷ 20 ∷ 20 ∷ 20 ∷ 20 ∷ 20 ∷ 20 ∷ 20 ∷ 20 ∷ 20 ∷ 23 ∷ 0 ∷ 0 ∷ 20 ∷ 20 ∷ 20 ∷ 20 ∷ []

lone_computed : facts lone_jump 3 ≡ comes_to lone_answers
unfolding computes
lone_computed = refl

pub lone_unbacked : Unbacked lone_jump lone_answers
lone_unbacked = unbacked lone_jump lone_answers 3 lone_computed

-- ---- the deciding site has jump off
off_at_1 : JumpOff toy [] 3 1 1 lone_jump
unfolding computes
off_at_1 = off_out toy [] 3 (λ i. eqb i 1) 1 lone_jump refl 1 refl

pub backing_needs_every_site :
    ((i k v : ℕ) → Sound toy [] 3 i lone_jump → JumpOff toy [] 3 i 1 lone_jump → Decides toy [] 3 lone_jump i k 1 v → backing 3 v ≤ count (proposed (log toy [] 3 lone_jump) 1 v) 3) → ⊥
backing_needs_every_site f = let w = lone_unbacked in too_few _ w.unproposed (f 1 0 0 w.sound_1 off_at_1 w.decided_1)
