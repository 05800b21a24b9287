-- A phase: each site of the team ends its step, in which all that is held and said passes one test.
use Rattle.std.specs.Prelude.{◌≡◌, refl, Bool, true, false, ◌⊎◌, List, [], ◌∷◌, ℕ, ◌≤◌, ◌<◌}
use Rattle.std.proofs.Common.{sym, ◌∙◌, ap, subst, inl, inr, arith}
use Rattle.laws.specs.Bools.{never, join}
use Rattle.format.specs.Form.{present_form}
use Rattle.format.specs.Group.{quorum}
use Rattle.format.specs.Statement.{Statement}
use Rattle.format.specs.Lists.{every}
use Rattle.format.specs.Present.{last_round}
use Rattle.station.specs.declared.Stage.{Stage}
use Rattle.station.specs.declared.Station.{Station}
use Rattle.station.specs.Machine.{State, follows, closes, stage_step}
use Rattle.station.specs.Present.{state_of}
use Rattle.agreement.proofs.Laws.Ground.{Ground}
use Rattle.agreement.specs.Demand.{Call}
use Rattle.never_stuck.specs.Claim.{Quorate, Waits}
use Rattle.never_stuck.proofs.Laws.Spoken.{Premises, Spoke, Said}
use Rattle.never_stuck.proofs.Laws.Heard.{up_of, sane_of}
use Rattle.never_stuck.proofs.Laws.Moves.{saying, Ended, went, shut}
use Rattle.never_stuck.proofs.Laws.Advance.{waits_on, said_on, Advanced, advance, state_stage}
use Rattle.never_stuck.proofs.Laws.Sweep.{Team, Stable, Arrived, Pushed, sweep}

pub every_single : (ok : Statement → Bool) (s : Statement) → ok s ≡ true → every ok (s ∷ []) ≡ true
unfolding every
every_single ok s e = join (ok s) true e refl

module _ (G : Ground present_form) (q : ℕ) (team : ℕ → Bool) (floor : ℕ) (enough : Quorate G.n team) where
  open G use {mac, key, n}

  -- a site of the team at a step: what it holds passes a test
  pub record At (cs : List Call) (y σ : ℕ) (ok : Statement → Bool) : Type 0 where
    pub opening : ℕ
    pub station : Station
    pub waits : Waits mac key n cs q y opening station
    pub in_step : stage_step station.stage ≡ σ
    pub held_ok : every ok (state_of station).held ≡ true

  abbrev pub at_on : (σ : ℕ) (ok : Statement → Bool) → Stable G q team floor (λ cs y. At cs y σ ok)
  at_on σ ok cs x s y ne a =
      record {
        opening = a.opening;
        station = a.station;
        waits = waits_on G q team floor cs x s y a.opening a.station ne a.waits;
        in_step = a.in_step;
        held_ok = a.held_ok;
      }

  -- and so does what it wrote for that step
  pub said_at : (cs : List Call) → Premises G cs → (y σ : ℕ) (ok : Statement → Bool) → At cs y σ ok → Said G cs y q σ ok
  said_at cs P y σ ok a =
      let w = a.waits in
      let l = (up_of G cs P y a.opening a.station w.sound w.presents).latest w.still_open in
      record {
        words = l.words;
        spoke = subst (λ (z : ℕ). Spoke G cs y q z l.words) a.in_step (subst (λ (z : ℕ). Spoke G cs y z (stage_step a.station.stage) l.words) w.asked l.spoke);
        passes = l.held ok a.held_ok;
      }

  -- a site that has gone on to the next step
  pub gone_on : (cs : List Call) (x k : ℕ) (g : Stage) (d : ℕ) (u : State) (coin : ℕ) (t : Station) (σ : ℕ) (ok : Statement → Bool) → Ended G q cs x k g d u coin t
      → closes last_round g ≡ false → stage_step (follows n g u coin).stage ≡ σ → ok (saying G q x g u coin) ≡ true → At cs x σ ok
  gone_on cs x k g d u coin t σ ok (went more w e) c s o =
      record {
        opening = k;
        station = t;
        waits = w;
        in_step = sym (ap stage_step (state_stage t)) ∙ ap (λ (z : State). stage_step z.stage) e ∙ s;
        held_ok = ap (λ (z : State). every ok z.held) e ∙ every_single ok (saying G q x g u coin) o;
      }
  gone_on cs x k g d u coin t σ ok (shut last closed asked de) c s o = never (closes last_round g) c last

  -- all end the step, each arriving at what its end shows
  module _ (σ coin : ℕ) (fl : floor ≤ σ) (bit : coin < 2) (ok : Statement → Bool) (Then : List Call → ℕ → Type 0) (then_on : Stable G q team floor Then)
      (arrives : (cs : List Call) (x k : ℕ) (t : Station) (A : Advanced G q team floor cs x k t.stage t.lasting.decision t.lasting.jump coin ok) → t.identity.question ≡ q
      → stage_step t.stage ≡ σ → Then A.step.list x) where
    abbrev High : List Call → ℕ → Type 0
    High cs y = Then cs y × Said G cs y q σ ok

    high_on : Stable G q team floor High
    high_on cs x s y ne h = (then_on cs x s y ne h.0, said_on G q team floor cs x s y σ ok h.1)

    said_of : (cs : List Call) → Premises G cs → (y : ℕ) → At cs y σ ok ⊎ High cs y → Said G cs y q σ ok
    said_of cs P y (inl a) = said_at cs P y σ ok a
    said_of cs P y (inr h) = h.1

    push : (cs : List Call) (x : ℕ) → Premises G cs → 1 ≤ x → x ≤ n → team x ≡ true → Team G q team floor (λ y. At cs y σ ok ⊎ High cs y) → At cs x σ ok
        → Pushed G q team floor (λ c y. At c y σ ok) High (at_on σ ok) high_on cs x
    push cs x P a b t each at =
        let S = sane_of G cs P q x at.opening at.station at.waits in
        let A = advance G q team floor enough x at.opening coin ok t bit (quorum n) cs at.station P at.waits (omega (arith, at.in_step))
        (λ y c d e. subst (λ (z : ℕ). Said G cs y q z ok) (sym at.in_step) (said_of cs P y (each y c d e))) at.held_ok S.few (omega arith) in
        record {
          step = A.step;
          now = (arrives cs x at.opening at.station A at.waits.asked at.in_step, said_on G q team floor cs x A.step x σ ok (said_at cs P x σ ok at));
        }

    pub phase : (cs : List Call) → Premises G cs → Team G q team floor (λ y. At cs y σ ok) → Arrived G q team floor cs Then
    phase cs P each =
        let w = sweep G q team floor (λ c y. At c y σ ok) High (at_on σ ok) high_on push cs P (λ y a b c. inl (each y a b c)) in
        record { list = w.list; premises = w.premises; onward = w.onward; each = λ y a b c. (w.each y a b c).0 }
