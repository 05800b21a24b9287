-- From one step to all decided by last bundles alone: one mover carries the team up to the votes of a round, and proposes the value that these allow; then in each
-- round another site is the mover, and decides by its votes, which are all alike.
use Rattle.std.specs.Prelude.{◌≡◌, refl, Bool, true, false, ◌&&◌, List, ℕ, zero, suc, ◌+◌, ◌*◌, ◌≤◌, ◌<◌, eqb}
use Rattle.std.proofs.Common.{sym, ◌∙◌, ap, subst, arith, eqb-true, eq-eqb}
use Rattle.std.proofs.lemmas.Bool.{eqb-false}
use Rattle.laws.specs.Pick.{pick}
use Rattle.laws.specs.Bools.{never}
use Rattle.format.specs.Form.{present_form}
use Rattle.format.specs.Numbers.{kind_p, none, r_get}
use Rattle.format.specs.Statement.{Statement}
use Rattle.format.specs.Present.{last_round}
use Rattle.station.specs.declared.Stage.{Stage}
use Rattle.station.specs.declared.Station.{Station}
use Rattle.station.specs.Machine.{follows, decision_at, stage_step, has_value, copied_value}
use Rattle.agreement.proofs.Laws.Ground.{Ground}
use Rattle.agreement.proofs.Maths.Taking.{kept_decision}
use Rattle.agreement.specs.Demand.{Call}
use Rattle.never_stuck.specs.Claim.{Quorate, Waits, done}
use Rattle.never_stuck.proofs.Laws.Spoken.{Premises}
use Rattle.never_stuck.proofs.Laws.Steps.{any, calm, calm_of, next_is, votes_go, proposals_go, votes_decide}
use Rattle.never_stuck.proofs.Laws.Together.{after_step, after_is, after_range}
use Rattle.never_stuck.proofs.Laws.Sweep.{Team}
use Rattle.never_stuck.proofs.Laws.Mover.{Stood, Brought, then_brought, Move, move}

-- a copy of a statement for v, with the coin v, is for v
copied : (v : ℕ) (s s' : Statement) → s'.value ≡ copied_value s v → has_value v s ≡ true → has_value v s' ≡ true
unfolding pick
copied v s s' e h = eq-eqb s'.value v (e ∙ by (eqb s.kind kind_p && eqb s.flag r_get))
  where
    by : (b : Bool) → pick b v s.value ≡ v
    by true = refl
    by false = eqb-true s.value v h

-- a decision stays
stays : (g : Stage) (d : ℕ) (h : List Statement) → d < none → decision_at g d h < none
stays g d h e = subst (λ (z : ℕ). z < none) (sym (kept_decision g d h e)) e

module _ (G : Ground present_form) (q : ℕ) (team : ℕ → Bool) (enough : Quorate G.n team) where
  open G use {mac, key, n}

  abbrev Each : (ℕ → Type 0) → Type 0
  Each A = Team G q team 0 A

  abbrev AllAt : ℕ → (Statement → Bool) → ℕ → List Call → ℕ → Type 0
  AllAt σ ok j cs y = Stood G q team enough cs y σ ok j

  -- a site that names a decision
  pub record Names (cs : List Call) (y : ℕ) : Type 0 where
    pub opening : ℕ
    pub station : Station
    pub waits : Waits mac key n cs q y opening station
    pub named : station.lasting.decision < none

  -- ---- the moves
  climbs : (x σ m : ℕ) → σ < m → 3 ≤ m → m ≤ 2 * last_round + 1 → Move G q team enough x σ (after_step σ) 0 any any 0 0
  climbs x σ m less three last =
      record {
        up = (after_range σ m less three).0;
        still_open = omega arith;
        ends = λ g u e ne oks full. (after_is (stage_step g) (stage_step (follows n g u 0).stage) (next_is n g u 0) ne ∙ ap after_step e, refl);
        copies = λ s s' v o. refl;
        names = λ g d h e oks le f. stays g d h (f le);
        others = λ y le ne. le;
      }

  module _ (v : ℕ) (bit : v < 2) where
    -- votes of round r for v or for none, and the coin v: v is proposed
    tosses : (x r : ℕ) → r + 1 ≤ last_round → Move G q team enough x (2 * r + 1) (2 * (r + 1)) v (calm v) (has_value v) 0 0
    tosses x r last =
        record {
          up = omega arith;
          still_open = omega arith;
          ends = λ g u e ne oks full. let z = votes_go n r v v g u refl e oks in (z.0, eq-eqb (follows n g u v).value v z.1);
          copies = copied v;
          names = λ g d h e oks le f. stays g d h (f le);
          others = λ y le ne. le;
        }

    -- equal proposals: v is voted
    votes : (x r j : ℕ) → 1 ≤ r → r + 1 ≤ last_round → Move G q team enough x (2 * r) (2 * r + 1) v (has_value v) (has_value v) j j
    votes x r j from last =
        record {
          up = omega arith;
          still_open = omega arith;
          ends = λ g u e ne oks full. let z = proposals_go n r v v g u bit from e (omega (arith, full)) oks in (z.0, eq-eqb (follows n g u v).value v z.1);
          copies = copied v;
          names = λ g d h e oks le f. stays g d h (f le);
          others = λ y le ne. le;
        }

    -- equal votes: site j + 1 decides
    decides : (r j : ℕ) → r + 1 ≤ last_round → Move G q team enough (suc j) (2 * r + 1) (2 * (r + 1)) v (has_value v) (has_value v) j (suc j)
    decides r j last =
        record {
          up = omega arith;
          still_open = omega arith;
          ends = λ g u e ne oks full. let z = votes_go n r v v g u refl e (calm_of v u.held oks) in (z.0, eq-eqb (follows n g u v).value v z.1);
          copies = copied v;
          names = λ g d h e oks le f. votes_decide r v g d h bit e oks;
          others = λ y le ne. omega arith;
        }

    -- ---- a round for each site of the team that has not been the mover
    rounds : (i j r : ℕ) → n ≡ i + j → 1 ≤ r → r + i ≤ last_round → (cs : List Call) → Premises G cs → Each (AllAt (2 * r) (has_value v) j cs) → Brought G q team enough cs Names
    rounds zero j r all from last cs P each =
        record {
          list = cs;
          premises = P;
          onward = done;
          each = λ y a b c. let s = each y a b c in record { opening = s.at.opening; station = s.at.station; waits = s.at.waits; named = s.named (omega arith) };
        }
    rounds (suc i) j r all from last cs P each =
        by (team (suc j)) refl (rounds i (suc j) (r + 1) (omega arith) (omega arith) (omega arith)) (rounds i (suc j) r (omega arith) from (omega arith))
      where
        by : (b : Bool) → team (suc j) ≡ b
            → ((cs : List Call) → Premises G cs → Each (AllAt (2 * (r + 1)) (has_value v) (suc j) cs) → Brought G q team enough cs Names)
            → ((cs : List Call) → Premises G cs → Each (AllAt (2 * r) (has_value v) (suc j) cs) → Brought G q team enough cs Names)
            → Brought G q team enough cs Names
        by true t next skip =
            let A = move G q team enough (suc j) (2 * r) (2 * r + 1) v (has_value v) (has_value v) j j (omega arith) (omega arith) t bit (votes (suc j) r j from (omega arith)) cs P each in
            let B = move G q team enough (suc j) (2 * r + 1) (2 * (r + 1)) v (has_value v) (has_value v) j (suc j) (omega arith) (omega arith) t bit (decides r j (omega arith))
            A.list A.premises A.each in
            then_brought G q team enough cs (AllAt (2 * r + 1) (has_value v) j) Names A
            (then_brought G q team enough A.list (AllAt (2 * (r + 1)) (has_value v) (suc j)) Names B (next B.list B.premises B.each))
        by false t next skip = skip cs P (λ y a b c. passed y c (each y a b c) (eqb y (suc j)) refl)
          where
            passed : (y : ℕ) → team y ≡ true → AllAt (2 * r) (has_value v) j cs y → (b : Bool) → eqb y (suc j) ≡ b → AllAt (2 * r) (has_value v) (suc j) cs y
            passed y c s true e = never (team (suc j)) t (ap team (sym (eqb-true y (suc j) e)) ∙ c)
            passed y c s false e = record { at = s.at; setting = s.setting; named = λ le. s.named (omega (arith, le, eqb-false y (suc j) e)) }

    -- from the votes of round r on, with the coin v; x is any site of the team
    pub relay : (x r : ℕ) → 1 ≤ x → x ≤ n → team x ≡ true → r + n + 1 ≤ last_round → (cs : List Call) → Premises G cs → Each (AllAt (2 * r + 1) (calm v) 0 cs)
        → Brought G q team enough cs Names
    relay x r lo hi tx last cs P each =
        let A = move G q team enough x (2 * r + 1) (2 * (r + 1)) v (calm v) (has_value v) 0 0 lo hi tx bit (tosses x r (omega arith)) cs P each in
        then_brought G q team enough cs (AllAt (2 * (r + 1)) (has_value v) 0) Names A
        (rounds n 0 (r + 1) (omega arith) (omega arith) (omega arith) A.list A.premises A.each)

  -- ---- up to step m, by the mover x
  module _ (x m : ℕ) (lo : 1 ≤ x) (hi : x ≤ n) (tx : team x ≡ true) (three : 3 ≤ m) (last : m ≤ 2 * last_round + 1) where
    stay : (σ : ℕ) → σ ≡ m → (cs : List Call) → Premises G cs → Each (AllAt σ any 0 cs) → Brought G q team enough cs (AllAt m any 0)
    stay σ e cs P each = record { list = cs; premises = P; onward = done; each = λ y a b c. subst (λ (z : ℕ). AllAt z any 0 cs y) e (each y a b c) }

    pub climb : (d σ : ℕ) → m ≤ d + σ → σ ≤ m → (cs : List Call) → Premises G cs → Each (AllAt σ any 0 cs) → Brought G q team enough cs (AllAt m any 0)
    climb zero σ fuel upto cs P each = stay σ (omega arith) cs P each
    climb (suc d) σ fuel upto cs P each = go (eqb σ m) refl (λ less. let a = after_range σ m less three in climb d (after_step σ) (omega (arith, a.0)) a.1)
      where
        go : (b : Bool) → eqb σ m ≡ b
            → (σ < m → (l : List Call) → Premises G l → Each (AllAt (after_step σ) any 0 l) → Brought G q team enough l (AllAt m any 0))
            → Brought G q team enough cs (AllAt m any 0)
        go true e next = stay σ (eqb-true σ m e) cs P each
        go false e next =
            let less : σ < m = omega (arith, eqb-false σ m e) in
            let A = move G q team enough x σ (after_step σ) 0 any any 0 0 lo hi tx (omega arith) (climbs x σ m less three last) cs P each in
            then_brought G q team enough cs (AllAt (after_step σ) any 0) (AllAt m any 0) A (next less A.list A.premises A.each)
