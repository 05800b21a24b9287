-- Never stuck by last bundles alone, proved: with jump on, the team jumps onto the leader's bundle; then one site of the team ends each step and the others jump
-- after it, up to the votes of round r, and from there, all for one value, once for each site that has to decide.
use Rattle.std.specs.Prelude.{◌≡◌, refl, Bool, true, false, ◌⊎◌, List, ℕ, ◌+◌, ◌*◌, ◌≤◌, eqb, length}
use Rattle.std.proofs.Common.{sym, ◌∙◌, ap, subst, inl, inr, arith, eqb-true}
use Rattle.std.proofs.lemmas.Bool.{eqb-false}
use Rattle.format.specs.Form.{present_form}
use Rattle.format.specs.Numbers.{code_words}
use Rattle.format.specs.Present.{last_round}
use Rattle.hmac.specs.Code.{hmac_code}
use Rattle.hmac.specs.Code.{hmac_eight}
use Rattle.station.specs.declared.Station.{Station}
use Rattle.station.specs.Machine.{stage_step}
use Rattle.station.specs.Present.{state_of}
use Rattle.agreement.proofs.Theorems.Theorem.{claim}
use Rattle.agreement.specs.Demand.{Call}
use Rattle.agreement.proofs.Laws.Ground.{Ground}
use Rattle.agreement.proofs.Laws.Line.{reads}
use Rattle.agreement.specs.Present.{log, Decides}
use Rattle.never_stuck.specs.Claim.{Quorate, Waits, Ready, HasDecided, CanDecideByLast, NeverStuckByLast}
use Rattle.never_stuck.proofs.Theorems.Theorem.{decides}
use Rattle.never_stuck.proofs.Laws.Spoken.{Premises}
use Rattle.never_stuck.proofs.Laws.Steps.{any, every_any, calm, within_round}
use Rattle.never_stuck.proofs.Laws.Heard.{same_waiting}
use Rattle.never_stuck.proofs.Laws.Advance.{last_sound}
use Rattle.never_stuck.proofs.Laws.Leader.{Under, Leads}
use Rattle.never_stuck.proofs.Laws.LeaderFound.{Leader, leader}
use Rattle.never_stuck.proofs.Laws.Calm.{coin, coin_low, calm_held}
use Rattle.never_stuck.proofs.Laws.Mover.{Stood, Trails, Brought, then_brought, follow}
use Rattle.never_stuck.proofs.Laws.Relay.{Names, relay, climb}

module _ (G : Ground present_form) (q : ℕ) (team : ℕ → Bool) (enough : Quorate G.n team) where
  open G use {mac, key, n}

  -- all that name a decision have decided the same
  has_decided : (cs : List Call) → Premises G cs → (y z : ℕ) → Names G q team enough cs y → (d : Names G q team enough cs z)
      → HasDecided mac key n cs q d.station.lasting.decision y
  has_decided cs P y z c d =
      let same : c.station.lasting.decision ≡ d.station.lasting.decision
      = (claim present_form G cs P.given P.few).agreement y z c.opening d.opening q c.station.lasting.decision d.station.lasting.decision c.waits.sound d.waits.sound
      (decision y c) (decision z d) in
      record {
        opening = c.opening;
        station = c.station;
        presents = c.waits.presents;
        decides = subst (λ (v : ℕ). Decides mac key n cs y c.opening q v) same (decision y c);
        named = same;
      }
    where
      decision : (y : ℕ) (d : Names G q team enough cs y) → Decides mac key n cs y d.opening q d.station.lasting.decision
      decision y d = decides G cs P q y d.opening d.station d.waits.sound d.waits.presents d.waits.asked d.named

  -- in the votes of round r, all is for the coin's value or for none
  calmed : (r : ℕ) (cs : List Call) (P : Premises G cs) (y : ℕ) → Stood G q team enough cs y (2 * r + 1) any 0
      → Stood G q team enough cs y (2 * r + 1) (calm (coin G q team 0 enough r cs P)) 0
  calmed r cs P y s =
      let a = s.at in
      record {
        at = record {
          opening = a.opening;
          station = a.station;
          waits = a.waits;
          in_step = a.in_step;
          held_ok = calm_held G q team 0 enough r cs P true y
              (record { opening = a.opening; station = a.station; waits = a.waits; from = omega (arith, a.in_step); upto = omega (arith, a.in_step); setting = s.setting });
        };
        setting = s.setting;
        named = s.named;
      }

  module _ (cs : List Call) (P : Premises G cs) (r : ℕ) (from : 1 ≤ r) (last : r + n + 1 ≤ last_round) where
    -- where the team is, before it jumps onto the leader's bundle
    sort : (f : ℕ) (L : Leads G q team cs r true n f) (y : ℕ) → 1 ≤ y → Under G q team cs r true y f
        → Trails G q team enough cs L.at y f 0 ⊎ Stood G q team enough cs y f any 0
    sort f L y a u = by (eqb (stage_step u.ready.station.stage) f) refl
      where
        is_leader : y ≡ L.at → stage_step u.ready.station.stage ≡ f
        is_leader e =
            ap (λ (t : Station). stage_step t.stage)
            (same_waiting G cs P q y u.ready.opening L.ready.opening u.ready.station L.ready.station u.ready.waits
            (subst (λ (z : ℕ). Waits mac key n cs q z L.ready.opening L.ready.station) (sym e) L.ready.waits))
            ∙ L.stands

        by : (b : Bool) → eqb (stage_step u.ready.station.stage) f ≡ b
            → Trails G q team enough cs L.at y f 0 ⊎ Stood G q team enough cs y f any 0
        by true e =
            inr (record {
              at = record {
                opening = u.ready.opening;
                station = u.ready.station;
                waits = u.ready.waits;
                in_step = eqb-true (stage_step u.ready.station.stage) f e;
                held_ok = every_any (state_of u.ready.station).held;
              };
              setting = u.ready.setting;
              named = λ le. absurd (omega arith);
            })
        by false e =
            let ne = eqb-false (stage_step u.ready.station.stage) f e in
            inl (record {
              opening = u.ready.opening;
              station = u.ready.station;
              waits = u.ready.waits;
              behind = omega (arith, u.upto, ne);
              setting = u.ready.setting;
              named = λ le. absurd (omega arith);
              other = λ z. ne (is_leader z);
            })

    -- all name a decision: x is the leader, at step f
    all_name : (f : ℕ) (L : Leads G q team cs r true n f) → Brought G q team enough cs (Names G q team enough)
    all_name f L =
        let upto : f ≤ 2 * r + 1 = omega (arith, within_round L.ready.station.stage r L.ready.not_past, L.stands) in
        let A = follow G q team enough L.at f 0 any 0 L.low L.high L.of_team (omega arith) (λ s s' e o. refl) cs P (λ y a b c. sort f L y a (L.under y a b c)) in
        let B = climb G q team enough L.at (2 * r + 1) L.low L.high L.of_team (omega arith) (omega arith) (2 * r + 1) f (omega arith) upto A.list A.premises A.each in
        let v = coin G q team 0 enough r B.list B.premises in
        let C = relay G q team enough v (coin_low n (reads present_form (log mac key n B.list)) q r) L.at r L.low L.high L.of_team last B.list B.premises
        (λ y a b c. calmed r B.list B.premises y (B.each y a b c)) in
        then_brought G q team enough cs (λ c y. Stood G q team enough c y f any 0) (Names G q team enough) A
        (then_brought G q team enough A.list (λ c y. Stood G q team enough c y (2 * r + 1) any 0) (Names G q team enough) B C)

    pub can_decide_by_last : ((y : ℕ) → 1 ≤ y → y ≤ n → team y ≡ true → Ready mac key n cs q r true y) → CanDecideByLast mac key n cs q team
    can_decide_by_last ready = go (leader G q team cs r true enough ready)
      where
        go : Leader G q team cs r true → CanDecideByLast mac key n cs q team
        go D =
            let L = D.leads in
            let A = all_name D.step L in
            let d = A.each L.at L.low L.high L.of_team in
            record {
              list = A.list;
              onward = A.onward;
              given = A.premises.given;
              few = A.premises.few;
              still_sound = λ i h. last_sound G q team 0 i cs A.list A.onward h;
              value = d.station.lasting.decision;
              bit = d.named;
              each = λ y a b c. has_decided A.list A.premises y L.at (A.each y a b c) d;
            }

-- for every code of eight words
pub never_stuck_last_by : (mac : List ℕ → List ℕ → List ℕ) → ((key ws : List ℕ) → length (mac key ws) ≡ code_words) → NeverStuckByLast mac
never_stuck_last_by mac eight key n low top cs g F q r team enough from last ready = can_decide_by_last (record { mac = mac; eight = eight; key = key; n = n; low = low; top = top }) q team enough cs (record { given = g; few = F }) r from last ready

-- ---- the theorem, for HMAC-SHA-256
pub never_stuck_last : NeverStuckByLast hmac_code
never_stuck_last = never_stuck_last_by hmac_code hmac_eight
