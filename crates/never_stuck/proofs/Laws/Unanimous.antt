-- A unanimous round: the whole team tosses alike, proposes alike, votes alike and decides.
use Rattle.std.specs.Prelude.{◌≡◌, refl, Bool, List, ℕ, suc, ◌+◌, ◌*◌, ◌≤◌, ◌<◌}
use Rattle.std.proofs.Common.{sym, ◌∙◌, ap, arith, eq-eqb}
use Rattle.laws.specs.Count.{count}
use Rattle.format.specs.Form.{present_form}
use Rattle.format.specs.Group.{quorum}
use Rattle.format.specs.Present.{last_round}
use Rattle.station.specs.declared.Station.{Station}
use Rattle.station.specs.Machine.{State, stage_step, has_value, follows}
use Rattle.agreement.proofs.Laws.Ground.{Ground}
use Rattle.agreement.specs.Maths.Votes.{votes}
use Rattle.agreement.specs.Demand.{Call}
use Rattle.agreement.specs.Present.{Presents, Sound}
use Rattle.never_stuck.specs.Claim.{Quorate, Counted, goes_on, closes}
use Rattle.never_stuck.proofs.Laws.Spoken.{Premises}
use Rattle.never_stuck.proofs.Laws.Steps.{calm, calm_of, round_of_proposals, before_last, closes_last, votes_go, proposals_go}
use Rattle.never_stuck.proofs.Laws.Moves.{Ended, went, shut}
use Rattle.never_stuck.proofs.Laws.Advance.{then_onward, onward_sound, presents_on, Advanced, state_stage}
use Rattle.never_stuck.proofs.Laws.Sweep.{Team, Stable, Arrived}
use Rattle.never_stuck.proofs.Laws.Phase.{At, at_on, gone_on, phase}

module _ (G : Ground present_form) (q : ℕ) (team : ℕ → Bool) (floor : ℕ) (enough : Quorate G.n team) where
  open G use {mac, key, n}

  -- a site whose station has counted the votes of round r, and took q of them for v
  pub record Done (cs : List Call) (r v y : ℕ) : Type 0 where
    pub opening : ℕ
    pub station : Station
    pub sound : Sound mac key n y cs
    pub presents : Presents mac key n cs y opening station
    pub voted : quorum n ≤ count (votes presents.line.took q r v) n
    pub counted : Counted mac key n r station

  done_on : (r v : ℕ) → Stable G q team floor (λ cs y. Done cs r v y)
  done_on r v cs x s y ne d =
      record {
        opening = d.opening;
        station = d.station;
        sound = onward_sound G q team floor y cs s.list s.onward d.sound;
        presents = presents_on G q team floor cs x s y d.opening d.station ne d.presents;
        voted = d.voted;
        counted = d.counted;
      }

  module _ (r v : ℕ) (fl : floor ≤ 2 * r + 1) (from : 1 ≤ r) (last : r + 1 ≤ last_round) (bit : v < 2) where
    -- votes of round r for v or for none, and the coin v: all propose v
    tossed : (cs : List Call) (x k : ℕ) (t : Station) (A : Advanced G q team floor cs x k t.stage t.lasting.decision t.lasting.jump v (calm v)) → t.identity.question ≡ q
        → stage_step t.stage ≡ 2 * r + 1 → At G q team floor enough A.step.list x (2 * (r + 1)) (has_value v)
    tossed cs x k t A asked e =
        let g = votes_go n r v v t.stage A.state refl e A.all_ok in
        gone_on G q team floor enough A.step.list x k t.stage t.lasting.decision A.state v A.station (2 * (r + 1)) (has_value v) A.ended
        (before_last t.stage (omega arith)) g.0 (eq-eqb (follows n t.stage A.state v).value v g.1)

    -- equal proposals: all vote v
    voted : (cs : List Call) (x k : ℕ) (t : Station) (A : Advanced G q team floor cs x k t.stage t.lasting.decision t.lasting.jump v (has_value v)) → t.identity.question ≡ q
        → stage_step t.stage ≡ 2 * (r + 1) → At G q team floor enough A.step.list x (2 * (r + 1) + 1) (has_value v)
    voted cs x k t A asked e =
        let g = proposals_go n (r + 1) v v t.stage A.state bit (omega arith) e (omega (arith, A.full)) A.all_ok in
        gone_on G q team floor enough A.step.list x k t.stage t.lasting.decision A.state v A.station (2 * (r + 1) + 1) (has_value v) A.ended
        (before_last t.stage (omega arith)) g.0 (eq-eqb (follows n t.stage A.state v).value v g.1)

    -- equal votes: all have decided, and go on or are closed
    decided : (cs : List Call) (x k : ℕ) (t : Station) (A : Advanced G q team floor cs x k t.stage t.lasting.decision t.lasting.jump v (has_value v)) → t.identity.question ≡ q
        → stage_step t.stage ≡ 2 * (r + 1) + 1 → Done A.step.list (r + 1) v x
    decided cs x k t A asked e = go A.ended
      where
        voted_v : quorum n ≤ count (votes A.presents.line.took q (r + 1) v) n
        voted_v = A.voted (r + 1) v e A.all_ok

        go : Ended G q A.step.list x k t.stage t.lasting.decision A.state v A.station → Done A.step.list (r + 1) v x
        go (went more w se) =
            let g = votes_go n (r + 1) v v t.stage A.state refl e (calm_of v A.state.held A.all_ok) in
            record {
              opening = k;
              station = A.station;
              sound = A.sound;
              presents = A.presents;
              voted = voted_v;
              counted = goes_on w.still_open
                  (round_of_proposals A.station.stage (suc (r + 1)) (omega arith) (sym (ap stage_step (state_stage A.station)) ∙ ap (λ (z : State). stage_step z.stage) se ∙ g.0 ∙ omega arith));
            }
        go (shut c closed on de) =
            record {
              opening = k;
              station = A.station;
              sound = A.sound;
              presents = A.presents;
              voted = voted_v;
              counted = closes closed (closes_last t.stage (r + 1) e c);
            }

    -- from the votes of round r on, with the coin v
    pub unanimous : (cs : List Call) → Premises G cs → Team G q team floor (λ y. At G q team floor enough cs y (2 * r + 1) (calm v))
        → Arrived G q team floor cs (λ l y. Done l (r + 1) v y)
    unanimous cs P each =
        let A = phase G q team floor enough (2 * r + 1) v fl bit (calm v) (λ l y. At G q team floor enough l y (2 * (r + 1)) (has_value v))
        (at_on G q team floor enough (2 * (r + 1)) (has_value v)) tossed cs P each in
        let B = phase G q team floor enough (2 * (r + 1)) v (omega arith) bit (has_value v) (λ l y. At G q team floor enough l y (2 * (r + 1) + 1) (has_value v))
        (at_on G q team floor enough (2 * (r + 1) + 1) (has_value v)) voted A.list A.premises A.each in
        let C = phase G q team floor enough (2 * (r + 1) + 1) v (omega arith) bit (has_value v) (λ l y. Done l (r + 1) v y) (done_on (r + 1) v) decided B.list B.premises B.each in
        record {
          list = C.list;
          premises = C.premises;
          onward = then_onward G q team floor cs B.list C.list (then_onward G q team floor cs A.list B.list A.onward B.onward) C.onward;
          each = C.each;
        }
