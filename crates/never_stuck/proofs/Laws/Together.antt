-- With jump on: each site of the team that is behind is given the leader's last bundle, and jumps; then all go on together, step by step.
use Rattle.std.specs.Prelude.{◌≡◌, refl, Bool, true, false, ◌⊎◌, List, ◌∷◌, ℕ, zero, suc, ◌+◌, ◌*◌, ◌≤◌, ◌<◌, eqb}
use Rattle.std.proofs.Common.{sym, ◌∙◌, ap, subst, inl, inr, arith, eqb-true}
use Rattle.std.proofs.lemmas.Bool.{eqb-false}
use Rattle.laws.specs.Pick.{pick}
use Rattle.laws.specs.Bools.{never}
use Rattle.format.specs.Form.{present_form}
use Rattle.format.specs.Present.{last_round}
use Rattle.station.specs.declared.Station.{Station}
use Rattle.station.specs.Machine.{State, follows, closes, stage_step}
use Rattle.station.specs.Returns.{unrefused}
use Rattle.station.proofs.Laws.Sane.{InRounds}
use Rattle.agreement.proofs.Laws.Ground.{Ground}
use Rattle.agreement.proofs.Laws.Lists.{module_other, lineage_other}
use Rattle.agreement.specs.Demand.{Call, call, gives}
use Rattle.agreement.specs.Present.{answer}
use Rattle.never_stuck.specs.Claim.{Quorate, room, Waits, done, give}
use Rattle.never_stuck.proofs.Laws.Spoken.{Premises, Spoke, spoke_later}
use Rattle.never_stuck.proofs.Laws.Steps.{any, every_any, Follows, next_is, not_one, before_last}
use Rattle.never_stuck.proofs.Laws.Heard.{sane_of, jump_heard}
use Rattle.never_stuck.proofs.Laws.Moves.{Ended, went, shut, premises_then, jumped_there}
use Rattle.never_stuck.proofs.Laws.Advance.{then_onward, Step, Advanced, state_stage}
use Rattle.never_stuck.proofs.Laws.Sweep.{Team, Stable, Arrived, Pushed, sweep}
use Rattle.never_stuck.proofs.Laws.Phase.{At, at_on, gone_on, phase}
use Rattle.never_stuck.proofs.Laws.Level.{Waiting, waiting_on}

-- the step that follows: no station is ever at step 1
abbrev pub after_step : ℕ → ℕ
after_step σ = pick (eqb σ 0) 2 (suc σ)

pub after_is : (σ σ' : ℕ) → Follows σ σ' → (σ' ≡ 1 → ⊥) → σ' ≡ after_step σ
unfolding pick
after_is σ σ' f ne = go (eqb σ 0) refl f
  where
    go : (b : Bool) → eqb σ 0 ≡ b → Follows σ σ' → σ' ≡ pick b 2 (suc σ)
    go true e (inl f) = f.1
    go true e (inr f) = absurd (ne (f ∙ ap suc (eqb-true σ 0 e)))
    go false e (inl f) = absurd (eqb-false σ 0 e f.0)
    go false e (inr f) = f

pub after_range : (σ m : ℕ) → σ < m → 3 ≤ m → (σ < after_step σ) × (after_step σ ≤ m)
unfolding pick
after_range σ m less three = go (eqb σ 0) refl
  where
    go : (b : Bool) → eqb σ 0 ≡ b → (σ < pick b 2 (suc σ)) × (pick b 2 (suc σ) ≤ m)
    go true e = (omega (arith, eqb-true σ 0 e), omega arith)
    go false e = (omega arith, omega arith)

module _ (G : Ground present_form) (q : ℕ) (team : ℕ → Bool) (floor : ℕ) (enough : Quorate G.n team) where
  open G use {mac, key, n}

  -- ---- one sweep of jumps onto words that site l wrote for step f
  module _ (l f : ℕ) (ws : List ℕ) (of_team : team l ≡ true) (fl : floor ≤ f) where
    -- a site that is behind, and has jump on
    record Trails (cs : List Call) (y : ℕ) : Type 0 where
      waiting : Waiting G q team floor enough true cs y 0 f
      behind : stage_step waiting.station.stage < f
      lead : Spoke G cs l q f ws

    trails_on : Stable G q team floor Trails
    trails_on cs x s y ne o =
        record { waiting = waiting_on G q team floor enough true 0 f cs x s y ne o.waiting; behind = o.behind; lead = s.spoken l f ws o.lead }

    push : (cs : List Call) (x : ℕ) → Premises G cs → 1 ≤ x → x ≤ n → team x ≡ true
        → Team G q team floor (λ y. Trails cs y ⊎ At G q team floor enough cs y f any) → Trails cs x
        → Pushed G q team floor Trails (λ c y. At G q team floor enough c y f any) trails_on (at_on G q team floor enough f any) cs x
    push cs x P a b tx each o = pushed
      where
        k : ℕ
        k = o.waiting.opening

        t : Station
        t = o.waiting.station

        W : Waits mac key n cs q x o.waiting.opening o.waiting.station
        W = o.waiting.waits

        un : unrefused (answer mac key n cs (call x (gives o.waiting.opening o.waiting.station ws 0 room))).number ≡ true
        un = jump_heard G cs P q x o.waiting.opening o.waiting.station W l f ws o.lead 0 (omega arith) o.waiting.setting o.behind

        one : Step G q team floor cs x
        one =
            record {
              list = call x (gives o.waiting.opening o.waiting.station ws 0 room) ∷ cs;
              premises = premises_then G q cs P x o.waiting.opening o.waiting.station W l f ws o.lead 0 (omega arith) un;
              onward = give done x o.waiting.opening o.waiting.station l ws 0 tx of_team W.presents W.asked o.lead.by_call (omega (arith, o.lead.in_step)) (omega arith) un;
              module_on = module_other present_form mac key n (call x (gives o.waiting.opening o.waiting.station ws 0 room)) cs;
              line_on = lineage_other present_form mac key n (call x (gives o.waiting.opening o.waiting.station ws 0 room)) cs;
              spoken = λ y σ ws' h. spoke_later G (call x (gives o.waiting.opening o.waiting.station ws 0 room)) cs y q σ ws' h;
            }

        pushed : Pushed G q team floor Trails (λ c y. At G q team floor enough c y f any) trails_on (at_on G q team floor enough f any) cs x
        pushed =
            let L = jumped_there G q cs P x o.waiting.opening o.waiting.station W l f ws o.lead 0 (omega arith) un o.behind in
            record { step = one; now = record { opening = o.waiting.opening; station = _; waits = L.waits_on; in_step = L.in_step; held_ok = every_any _ } }

    pub jump_on : (cs : List Call) → Premises G cs → Spoke G cs l q f ws → Team G q team floor (λ y. Waiting G q team floor enough true cs y 0 f)
        → Arrived G q team floor cs (λ c y. At G q team floor enough c y f any)
    jump_on cs P sp each =
        sweep G q team floor Trails (λ c y. At G q team floor enough c y f any) trails_on (at_on G q team floor enough f any) push cs P
        (λ y a b c. sort y (each y a b c))
      where
        sort : (y : ℕ) → Waiting G q team floor enough true cs y 0 f → Trails cs y ⊎ At G q team floor enough cs y f any
        sort y o = by (eqb (stage_step o.station.stage) f) refl
          where
            by : (b : Bool) → eqb (stage_step o.station.stage) f ≡ b → Trails cs y ⊎ At G q team floor enough cs y f any
            by true e = inr (record { opening = o.opening; station = o.station; waits = o.waits; in_step = eqb-true (stage_step o.station.stage) f e; held_ok = every_any _ })
            by false e = inl (record { waiting = o; behind = omega (arith, o.upto, eqb-false (stage_step o.station.stage) f e); lead = sp })

  -- ---- all go on together, from step σ to step m
  module _ (m : ℕ) (last : m ≤ 2 * last_round + 1) (three : 3 ≤ m) where
    arrives : (σ : ℕ) → σ < m → (cs : List Call) (x k : ℕ) (t : Station) (A : Advanced G q team floor cs x k t.stage t.lasting.decision t.lasting.jump 0 any) → t.identity.question ≡ q
        → stage_step t.stage ≡ σ → At G q team floor enough A.step.list x (after_step σ) any
    arrives σ less cs x k t A asked e =
        gone_on G q team floor enough A.step.list x k t.stage t.lasting.decision A.state 0 A.station (after_step σ) any A.ended open_still (there A.ended) refl
      where
        open_still : closes last_round t.stage ≡ false
        open_still = before_last t.stage (omega arith)

        there : Ended G q A.step.list x k t.stage t.lasting.decision A.state 0 A.station → stage_step (follows n t.stage A.state 0).stage ≡ after_step σ
        there (shut c closed on de) = never (closes last_round t.stage) open_still c
        there (went c w se) =
            let S = sane_of G A.step.list A.step.premises q x k A.station w in
            let is : stage_step A.station.stage ≡ stage_step (follows n t.stage A.state 0).stage = sym (ap stage_step (state_stage A.station)) ∙ ap (λ (z : State). stage_step z.stage) se in
            let ne : stage_step (follows n t.stage A.state 0).stage ≡ 1 → ⊥ = λ z. not_one A.station.stage (subst (InRounds present_form) (state_stage A.station) S.rounds) (is ∙ z) in
            after_is (stage_step t.stage) _ (next_is n t.stage A.state 0) ne ∙ ap after_step e

    stay : (σ : ℕ) → σ ≡ m → (cs : List Call) → Premises G cs → Team G q team floor (λ y. At G q team floor enough cs y σ any)
        → Arrived G q team floor cs (λ c y. At G q team floor enough c y m any)
    stay σ e cs P each =
        record { list = cs; premises = P; onward = done; each = λ y a b c. subst (λ (v : ℕ). At G q team floor enough cs y v any) e (each y a b c) }

    pub together : (d σ : ℕ) → m ≤ d + σ → σ ≤ m → floor ≤ σ → (cs : List Call) → Premises G cs
        → Team G q team floor (λ y. At G q team floor enough cs y σ any)
        → Arrived G q team floor cs (λ c y. At G q team floor enough c y m any)
    together zero σ fuel upto fl cs P each = stay σ (omega arith) cs P each
    together (suc d) σ fuel upto fl cs P each =
        go (eqb σ m) refl (λ less l Q e. let a = after_range σ m less three in together d (after_step σ) (omega (arith, a.0)) a.1 (omega (arith, a.0)) l Q e)
      where
        go : (b : Bool) → eqb σ m ≡ b
            → (σ < m → (l : List Call) → Premises G l → Team G q team floor (λ y. At G q team floor enough l y (after_step σ) any)
            → Arrived G q team floor l (λ c y. At G q team floor enough c y m any))
            → Arrived G q team floor cs (λ c y. At G q team floor enough c y m any)
        go true e next = stay σ (eqb-true σ m e) cs P each
        go false e next =
            let less : σ < m = omega (arith, eqb-false σ m e) in
            let A = phase G q team floor enough σ 0 fl (omega arith) any (λ c y. At G q team floor enough c y (after_step σ) any)
            (at_on G q team floor enough (after_step σ) any) (arrives σ less) cs P each in
            let B = next less A.list A.premises A.each in
            record { list = B.list; premises = B.premises; onward = then_onward G q team floor cs A.list B.list A.onward B.onward; each = B.each }
