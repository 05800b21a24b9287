-- With jump off, the sites of a team that are behind catch up step by step, by the bundle of each step that every site has written: all reach one step.
use Rattle.std.specs.Prelude.{◌≡◌, refl, Bool, true, false, ◌⊎◌, List, ℕ, zero, suc, ◌+◌, ◌*◌, ◌≤◌, ◌<◌, eqb}
use Rattle.std.proofs.Common.{sym, ◌∙◌, ap, subst, inl, inr, arith, eqb-true}
use Rattle.std.proofs.lemmas.Bool.{eqb-false}
use Rattle.laws.specs.Bools.{never}
use Rattle.format.specs.Form.{present_form}
use Rattle.format.specs.Group.{quorum}
use Rattle.format.specs.Present.{last_round}
use Rattle.station.specs.declared.Stage.{Stage}
use Rattle.station.specs.declared.Station.{Station}
use Rattle.station.specs.Machine.{State, follows, closes, stage_step}
use Rattle.station.proofs.Laws.Sane.{InRounds}
use Rattle.station.specs.Present.{state_of}
use Rattle.agreement.proofs.Laws.Ground.{Ground}
use Rattle.agreement.specs.Demand.{Call}
use Rattle.never_stuck.specs.Claim.{Quorate, Waits, done}
use Rattle.never_stuck.proofs.Laws.Spoken.{Premises, Said}
use Rattle.never_stuck.proofs.Laws.Steps.{any, every_any, Follows, next_is, not_one, before_last}
use Rattle.never_stuck.proofs.Laws.Heard.{up_of, sane_of}
use Rattle.never_stuck.proofs.Laws.Moves.{Ended, went, shut}
use Rattle.never_stuck.proofs.Laws.Advance.{then_onward, waits_on, advance, state_stage, state_jump}
use Rattle.never_stuck.proofs.Laws.Sweep.{Team, Stable, Arrived, Pushed, sweep}

module _ (G : Ground present_form) (q : ℕ) (team : ℕ → Bool) (floor : ℕ) (enough : Quorate G.n team) where
  open G use {mac, key, n}

  -- a site of the team that waits at a step from σ to m, with jump off, or on
  pub record Waiting (jump : Bool) (cs : List Call) (y σ m : ℕ) : Type 0 where
    pub opening : ℕ
    pub station : Station
    pub waits : Waits mac key n cs q y opening station
    pub from : σ ≤ stage_step station.stage
    pub upto : stage_step station.stage ≤ m
    pub setting : station.lasting.jump ≡ jump

  abbrev pub waiting_on : (jump : Bool) (σ m : ℕ) → Stable G q team floor (λ cs y. Waiting jump cs y σ m)
  waiting_on jump σ m cs x s y ne o =
      record {
        opening = o.opening;
        station = o.station;
        waits = waits_on G q team floor cs x s y o.opening o.station ne o.waits;
        from = o.from;
        upto = o.upto;
        setting = o.setting;
      }

  abbrev Within : List Call → ℕ → ℕ → ℕ → Type 0
  Within = Waiting false

  -- and is at σ itself
  pub record Behind (cs : List Call) (y σ m : ℕ) : Type 0 where
    pub within : Within cs y σ m
    pub there : stage_step within.station.stage ≡ σ

  abbrev within_on : (σ m : ℕ) → Stable G q team floor (λ cs y. Within cs y σ m)
  within_on σ m = waiting_on false σ m

  behind_on : (σ m : ℕ) → Stable G q team floor (λ cs y. Behind cs y σ m)
  behind_on σ m cs x s y ne o = record { within = within_on σ m cs x s y ne o.within; there = o.there }

  -- it has written a bundle of step σ
  said_within : (cs : List Call) → Premises G cs → (y σ s m : ℕ) → Within cs y s m → σ ≤ s → (σ ≡ 1 → ⊥) → Said G cs y q σ any
  said_within cs P y σ s m o le ne =
      let w = o.waits in
      subst (λ (z : ℕ). Said G cs y z σ any) w.asked
      ((up_of G cs P y o.opening o.station w.sound w.presents).told w.still_open o.setting σ (omega (arith, o.from)) ne)

  -- all leave step σ
  module _ (σ m : ℕ) (fl : floor ≤ σ) (less : σ < m) (last : m ≤ 2 * last_round + 1) (three : 3 ≤ m) where
    onto : (cs : List Call) (x k : ℕ) (g : Stage) (d : ℕ) (u : State) (t : Station) → stage_step g ≡ σ → u.lasting.jump ≡ false → Ended G q cs x k g d u 0 t → Within cs x (suc σ) m
    onto cs x k g d u t e off (shut c closed asked de) = never (closes last_round g) (before_last g (omega arith)) c
    onto cs x k g d u t e off (went c w se) =
        let s : stage_step t.stage ≡ stage_step (follows n g u 0).stage = sym (ap stage_step (state_stage t)) ∙ ap (λ (z : State). stage_step z.stage) se in
        record { opening = k; station = t; waits = w; from = above (next_is n g u 0) s; upto = below (next_is n g u 0) s; setting = sym (state_jump t) ∙ ap (λ (z : State). z.lasting.jump) se ∙ off }
      where
        above : {σ' s : ℕ} → Follows (stage_step g) σ' → s ≡ σ' → suc σ ≤ s
        above (inl f) i = omega (arith, f.0, f.1)
        above (inr f) i = omega arith

        below : {σ' s : ℕ} → Follows (stage_step g) σ' → s ≡ σ' → s ≤ m
        below (inl f) i = omega (arith, f.0, f.1)
        below (inr f) i = omega arith

    push : (cs : List Call) (x : ℕ) → Premises G cs → 1 ≤ x → x ≤ n → team x ≡ true → Team G q team floor (λ y. Behind cs y σ m ⊎ Within cs y (suc σ) m) → Behind cs x σ m
        → Pushed G q team floor (λ c y. Behind c y σ m) (λ c y. Within c y (suc σ) m) (behind_on σ m) (within_on (suc σ) m) cs x
    push cs x P a b t each at =
        let o = at.within in
        let S = sane_of G cs P q x o.opening o.station o.waits in
        let rounds : InRounds present_form o.station.stage = subst (InRounds present_form) (state_stage o.station) S.rounds in
        let ne : σ ≡ 1 → ⊥ = λ e. not_one o.station.stage rounds (at.there ∙ e) in
        let A = advance G q team floor enough x o.opening 0 any t (omega arith) (quorum n) cs o.station P o.waits (omega (arith, at.there))
        (λ y c d e. subst (λ (z : ℕ). Said G cs y q z any) (sym at.there) (said_of ne y (each y c d e))) (every_any (state_of o.station).held) S.few (omega arith) in
        record { step = A.step; now = onto A.step.list x o.opening o.station.stage o.station.lasting.decision A.state A.station at.there (A.setting ∙ o.setting) A.ended }
      where
        said_of : (σ ≡ 1 → ⊥) → (y : ℕ) → Behind cs y σ m ⊎ Within cs y (suc σ) m → Said G cs y q σ any
        said_of ne y (inl o) = said_within cs P y σ σ m o.within (omega arith) ne
        said_of ne y (inr o) = said_within cs P y σ (suc σ) m o (omega arith) ne

    level_one : (cs : List Call) → Premises G cs → Team G q team floor (λ y. Within cs y σ m) → Arrived G q team floor cs (λ c y. Within c y (suc σ) m)
    level_one cs P each =
        sweep G q team floor (λ c y. Behind c y σ m) (λ c y. Within c y (suc σ) m) (behind_on σ m) (within_on (suc σ) m) push cs P (λ y a b c. sort y (each y a b c))
      where
        sort : (y : ℕ) → Within cs y σ m → Behind cs y σ m ⊎ Within cs y (suc σ) m
        sort y o = by (eqb (stage_step o.station.stage) σ) refl
          where
            by : (b : Bool) → eqb (stage_step o.station.stage) σ ≡ b → Behind cs y σ m ⊎ Within cs y (suc σ) m
            by true e = inl (record { within = o; there = eqb-true (stage_step o.station.stage) σ e })
            by false e = inr (record { opening = o.opening; station = o.station; waits = o.waits; from = omega (arith, o.from, eqb-false (stage_step o.station.stage) σ e); upto = o.upto; setting = o.setting })

  -- all reach step m
  pub level : (d σ m : ℕ) → floor ≤ σ → m ≡ d + σ → m ≤ 2 * last_round + 1 → 3 ≤ m → (cs : List Call) → Premises G cs → Team G q team floor (λ y. Within cs y σ m)
      → Arrived G q team floor cs (λ c y. Within c y m m)
  level zero σ m fl e last three cs P each =
      let z : σ ≡ m = omega arith in
      record { list = cs; premises = P; onward = done; each = λ y a b c. subst (λ (v : ℕ). Within cs y v m) z (each y a b c) }
  level (suc d) σ m fl e last three cs P each =
      let A = level_one σ m fl (omega arith) last three cs P each in
      let B = level d (suc σ) m (omega arith) (omega arith) last three A.list A.premises A.each in
      record { list = B.list; premises = B.premises; onward = then_onward G q team floor cs A.list B.list A.onward B.onward; each = B.each }
