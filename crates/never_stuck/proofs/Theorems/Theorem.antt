-- Never stuck, proved: the team catches up to the votes of round r, step by step with jump off, by jumping onto the leader's last bundle with jump on; then one
-- coin for all makes the next round unanimous.
use Rattle.std.specs.Prelude.{◌≡◌, refl, Bool, true, false, List, ℕ, ◌+◌, ◌*◌, ◌≤◌, ◌<◌, length}
use Rattle.std.proofs.Common.{sym, ◌∙◌, ap, subst, arith}
use Rattle.laws.specs.Bools.{never}
use Rattle.format.specs.Form.{present_form}
use Rattle.format.specs.Numbers.{none, code_words}
use Rattle.format.specs.Present.{last_round}
use Rattle.hmac.specs.Code.{hmac_code}
use Rattle.hmac.specs.Code.{hmac_eight}
use Rattle.station.specs.declared.Station.{Station}
use Rattle.station.specs.Machine.{stage_step}
use Rattle.agreement.proofs.Theorems.Theorem.{claim}
use Rattle.agreement.specs.Demand.{Call}
use Rattle.agreement.proofs.Laws.Ground.{Ground}
use Rattle.agreement.proofs.Laws.Line.{reads}
use Rattle.agreement.specs.Present.{log, Presents, Sound, FewFaulty, Given, Decides}
use Rattle.never_stuck.specs.Claim.{Quorate, Waits, Ready, Decided, CanDecide, NeverStuck}
use Rattle.never_stuck.proofs.Laws.Spoken.{Premises, Spoke}
use Rattle.never_stuck.proofs.Laws.Heard.{up_of, same_waiting}
use Rattle.never_stuck.proofs.Laws.Steps.{within_round}
use Rattle.never_stuck.proofs.Laws.Advance.{then_onward, onward_sound}
use Rattle.never_stuck.proofs.Laws.Sweep.{Arrived}
use Rattle.never_stuck.proofs.Laws.Level.{Waiting, level}
use Rattle.never_stuck.proofs.Laws.Leader.{Under}
use Rattle.never_stuck.proofs.Laws.LeaderFound.{Leader, leader}
use Rattle.never_stuck.proofs.Laws.Together.{jump_on, together}
use Rattle.never_stuck.proofs.Laws.Unanimous.{Done, unanimous}
use Rattle.never_stuck.proofs.Laws.Calm.{coin, coin_low, calmed}

module _ (G : Ground present_form) where
  open G use {mac, key, n}

  -- a site of the team in the votes of round r
  record Voting (q : ℕ) (team : ℕ → Bool) (floor : ℕ) (enough : Quorate n team) (cs : List Call) (y r : ℕ) : Type 0 where
    jump : Bool
    waiting : Waiting G q team floor enough jump cs y (2 * r + 1) (2 * r + 1)

  -- a sound site has decided what its station names
  pub decides : (cs : List Call) → Premises G cs → (q y k : ℕ) (t : Station) → Sound mac key n y cs → Presents mac key n cs y k t → t.identity.question ≡ q → t.lasting.decision < none
      → Decides mac key n cs y k q t.lasting.decision
  decides cs P q y k t s p asked named =
      subst (λ (z : ℕ). Decides mac key n cs y k z t.lasting.decision) (ap (λ (u : Station). u.identity.question) p.now ∙ asked)
      ((claim present_form G cs P.given P.few).names y k t.lasting.decision p.line s p.is named (ap (λ (u : Station). u.lasting.decision) p.now))

  -- a site that took q votes of round r for v has decided v by them, and names it
  all_decided : (cs : List Call) → Premises G cs → (q : ℕ) (team : ℕ → Bool) (floor : ℕ) (enough : Quorate n team) (r v y : ℕ) → v < none
      → Done G q team floor enough cs r v y → Decided mac key n cs q r v y
  all_decided cs P q team floor enough r v y bit d =
      let by_votes : Decides mac key n cs y d.opening q v = record { line = d.presents.line; is = d.presents.is; bit = bit; round = r; enough = d.voted } in
      record {
        opening = d.opening;
        station = d.station;
        presents = d.presents;
        decides = by_votes;
        in_round = refl;
        named = ap (λ (u : Station). u.lasting.decision) (sym d.presents.now)
            ∙ (claim present_form G cs P.given P.few).named y d.opening q v d.presents.line d.sound d.presents.is by_votes;
        counted = d.counted;
      }

  module _ (cs : List Call) (g : Given mac key n cs) (F : FewFaulty mac key n cs) (q r : ℕ) (team : ℕ → Bool) (enough : Quorate n team) (from : 1 ≤ r) (last : r + 1 ≤ last_round) where
    P : Premises G cs
    P = record { given = g; few = F }

    -- behind a list in which all stand in the votes of round r
    ended : (jump : Bool) (floor : ℕ) → floor ≤ 2 * r + 1
        → (jump ≡ true → (y k : ℕ) (t : Station) → 1 ≤ y → y ≤ n → team y ≡ true → Waits mac key n cs q y k t → stage_step t.stage ≤ floor)
        → Arrived G q team floor cs (λ c y. Voting q team floor enough c y r) → CanDecide mac key n cs q (r + 1) team jump
    ended jump floor fl last_enough A =
        let v = coin G q team floor enough r A.list A.premises in
        let bit : v < none = coin_low n (reads present_form (log mac key n A.list)) q r in
        let B = unanimous G q team floor enough r v fl from last bit A.list A.premises
        (λ y a b c. let o = A.each y a b c in calmed G q team floor enough r A.list A.premises o.jump y o.waiting) in
        let on = then_onward G q team floor cs A.list B.list A.onward B.onward in
        record {
          list = B.list;
          floor = floor;
          onward = on;
          last_enough = last_enough;
          given = B.premises.given;
          few = B.premises.few;
          still_sound = λ i h. onward_sound G q team floor i cs B.list on h;
          value = v;
          bit = bit;
          each = λ y a b c. all_decided B.list B.premises q team floor enough (r + 1) v y bit (B.each y a b c);
        }

    -- jump off: all catch up step by step, and every step's bundle may be needed
    with_off : ((y : ℕ) → 1 ≤ y → y ≤ n → team y ≡ true → Ready mac key n cs q r false y) → CanDecide mac key n cs q (r + 1) team false
    with_off ready =
        let A = level G q team 0 enough (2 * r + 1) 0 (2 * r + 1) (omega arith) (omega arith) (omega arith) (omega arith) cs P (λ y a b c. within y (ready y a b c)) in
        ended false 0 (omega arith) (λ on. never false refl on)
        (record { list = A.list; premises = A.premises; onward = A.onward; each = λ y a b c. record { jump = false; waiting = A.each y a b c } })
      where
        within : (y : ℕ) → Ready mac key n cs q r false y → Waiting G q team 0 enough false cs y 0 (2 * r + 1)
        within y R = record { opening = R.opening; station = R.station; waits = R.waits; from = omega arith; upto = within_round R.station.stage r R.not_past; setting = R.setting }

    -- jump on: all jump onto the leader's last bundle, and go on from there
    with_on : ((y : ℕ) → 1 ≤ y → y ≤ n → team y ≡ true → Ready mac key n cs q r true y) → CanDecide mac key n cs q (r + 1) team true
    with_on ready = from_leader (leader G q team cs r true enough ready)
      where
        from_leader : Leader G q team cs r true → CanDecide mac key n cs q (r + 1) team true
        from_leader D =
            let L = D.leads in
            let w = L.ready.waits in
            let f = D.step in
            let top_f : f ≤ 2 * r + 1 = omega (arith, within_round L.ready.station.stage r L.ready.not_past, L.stands) in
            let latest = (up_of G cs P L.at L.ready.opening L.ready.station w.sound w.presents).latest w.still_open in
            let spoke : Spoke G cs L.at q f latest.words
            = subst (λ (z : ℕ). Spoke G cs L.at q z latest.words) L.stands
            (subst (λ (z : ℕ). Spoke G cs L.at z (stage_step L.ready.station.stage) latest.words) w.asked latest.spoke) in
            let A = jump_on G q team f enough L.at f latest.words L.of_team (omega arith) cs P spoke (λ y a b c. behind f y (L.under y a b c)) in
            let B = together G q team f enough (2 * r + 1) (omega arith) (omega arith) (2 * r + 1) f (omega arith) top_f (omega arith) A.list A.premises A.each in
            ended true f top_f (λ on y k t a b c W. not_past f y k t (L.under y a b c) W)
            (record {
              list = B.list;
              premises = B.premises;
              onward = then_onward G q team f cs A.list B.list A.onward B.onward;
              each = λ y a b c. let o = B.each y a b c in
                  record {
                    jump = o.station.lasting.jump;
                    waiting = record { opening = o.opening; station = o.station; waits = o.waits; from = omega (arith, o.in_step); upto = omega (arith, o.in_step); setting = refl };
                  };
            })
          where
            behind : (f y : ℕ) → Under G q team cs r true y f → Waiting G q team f enough true cs y 0 f
            behind f y u = record { opening = u.ready.opening; station = u.ready.station; waits = u.ready.waits; from = omega arith; upto = u.upto; setting = u.ready.setting }

            not_past : (f y k : ℕ) (t : Station) → Under G q team cs r true y f → Waits mac key n cs q y k t → stage_step t.stage ≤ f
            not_past f y k t u W =
                subst (λ (z : Station). stage_step z.stage ≤ f) (same_waiting G cs P q y u.ready.opening k u.ready.station t u.ready.waits W) u.upto

    pub can_decide : (jump : Bool) → ((y : ℕ) → 1 ≤ y → y ≤ n → team y ≡ true → Ready mac key n cs q r jump y) → CanDecide mac key n cs q (r + 1) team jump
    can_decide false = with_off
    can_decide true = with_on

-- for every code of eight words
pub never_stuck_by : (mac : List ℕ → List ℕ → List ℕ) → ((key ws : List ℕ) → length (mac key ws) ≡ code_words) → NeverStuck mac
never_stuck_by mac eight key n low top cs g F q r team jump enough from last ready = can_decide (record { mac = mac; eight = eight; key = key; n = n; low = low; top = top }) cs g F q r team enough from last jump ready

-- ---- the theorem, for HMAC-SHA-256
pub never_stuck : NeverStuck hmac_code
never_stuck = never_stuck_by hmac_code hmac_eight
