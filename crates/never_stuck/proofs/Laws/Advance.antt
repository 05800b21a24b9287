-- A waiting station ends its step by bundles of the team alone: the held are fewer than the team, so that a sender is left.
use Rattle.std.specs.Prelude.{◌≡◌, refl, Bool, true, false, not, List, ◌∷◌, ℕ, zero, suc, ◌+◌, ◌≤◌, ◌<◌, length, eqb}
use Rattle.std.proofs.Common.{sym, ◌∙◌, ap, subst, arith, eqb-true}
use Rattle.std.proofs.lemmas.Bool.{eqb-false, not-true}
use Rattle.laws.specs.Bools.{join}
use Rattle.laws.specs.Count.{count, count_not, meet, Shared}
use Rattle.format.specs.Form.{present_form}
use Rattle.format.specs.Group.{quorum}
use Rattle.format.specs.Statement.{Statement}
use Rattle.format.specs.Lists.{every}
use Rattle.format.specs.Present.{main_of}
use Rattle.modules.specs.declared.Module.{Module}
use Rattle.modules.specs.Counter.{last_for}
use Rattle.station.specs.declared.Stage.{Stage}
use Rattle.station.specs.declared.Station.{Station}
use Rattle.station.specs.Machine.{State, insert, stage_step, held_of}
use Rattle.station.specs.Returns.{unrefused}
use Rattle.station.proofs.Laws.Insert.{insert_length, every_insert}
use Rattle.station.specs.Present.{state_of}
use Rattle.agreement.proofs.Maths.Took.{count_held, number_few}
use Rattle.agreement.proofs.Laws.Ground.{Ground}
use Rattle.agreement.proofs.Laws.Lists.{module_other, lineage_other}
use Rattle.agreement.specs.Demand.{Call, call, gives}
use Rattle.agreement.specs.Present.{modules, answer, lineage, Presents, Sound}
use Rattle.never_stuck.specs.Claim.{Quorate, room, Waits, Onward, Last, ByLast, done, give}
use Rattle.never_stuck.proofs.Laws.Spoken.{Premises, Spoke, spoke_later, Said, presents_other, sound_next}
use Rattle.never_stuck.proofs.Laws.Heard.{heard}
use Rattle.never_stuck.proofs.Laws.Moves.{with_bundle, Ended, Voted, Moved, stays, ends, moved, premises_then, sound_then, presents_then}

pub state_stage : (t : Station) → (state_of t).stage ≡ t.stage
unfolding Rattle.station.specs.Words.state_of
state_stage t = refl

pub state_decision : (t : Station) → (state_of t).lasting.decision ≡ t.lasting.decision
unfolding Rattle.station.specs.Words.state_of
state_decision t = refl

pub state_jump : (t : Station) → (state_of t).lasting.jump ≡ t.lasting.jump
unfolding Rattle.station.specs.Words.state_of
state_jump t = refl

pub state_question : (t : Station) → (state_of t).question ≡ t.identity.question
unfolding Rattle.station.specs.Words.state_of
state_question t = refl

-- a site that a test takes and a list of statements does not hold
someone : (f : ℕ → Bool) (h : List Statement) (n : ℕ) → length h < count f n → Shared f (λ y. not (held_of y h)) n
someone f h n e =
    let few : count (λ y. held_of y h) n ≤ length h = omega (arith, count_held (λ s. true) h n, number_few (λ s. true) h) in
    meet f (λ y. not (held_of y h)) n (omega (arith, count_not (λ y. held_of y h) n))

module _ (G : Ground present_form) (q : ℕ) (team : ℕ → Bool) (floor : ℕ) where
  open G use {mac, key, n}

  pub then_onward : (a b c : List Call) → Onward mac key n q team floor a b → Onward mac key n q team floor b c → Onward mac key n q team floor a c
  then_onward a b _ o done = o
  then_onward a b _ o (give r x k t y ws coin tx ty p on w fl bit un) = give (then_onward a b _ o r) x k t y ws coin tx ty p on w fl bit un

  -- a sound site stays sound
  pub onward_sound : (i : ℕ) (a b : List Call) → Onward mac key n q team floor a b → Sound mac key n i a → Sound mac key n i b
  onward_sound i a _ done s = s
  onward_sound i a _ (give {cs'} r x k t y ws coin tx ty p on w fl bit un) s = sound_next G cs' x k t ws coin room p i (onward_sound i a cs' r s)

  -- a list that site x alone has gone on with: stations and modules of the other sites are as before, and what was written stays so
  pub record Step (cs : List Call) (x : ℕ) : Type 0 where
    pub list : List Call
    pub premises : Premises G list
    pub onward : Onward mac key n q team floor cs list
    pub module_on : (z : ℕ) → (z ≡ x → ⊥) → modules mac key n list z ≡ modules mac key n cs z
    pub line_on : (z o : ℕ) → (z ≡ x → ⊥) → lineage mac key n list z o ≡ lineage mac key n cs z o
    pub spoken : (y σ : ℕ) (ws : List ℕ) → Spoke G cs y q σ ws → Spoke G list y q σ ws

  abbrev then_step : (cs : List Call) (x : ℕ) (a : Step cs x) → Step a.list x → Step cs x
  then_step cs x a b =
      record {
        list = b.list;
        premises = b.premises;
        onward = then_onward cs a.list b.list a.onward b.onward;
        module_on = λ z ne. b.module_on z ne ∙ a.module_on z ne;
        line_on = λ z o ne. b.line_on z o ne ∙ a.line_on z o ne;
        spoken = λ y σ ws h. b.spoken y σ ws (a.spoken y σ ws h);
      }

  -- a station of another site is there as it was, with its history
  abbrev pub presents_on : (cs : List Call) (x : ℕ) (s : Step cs x) (z o : ℕ) (t : Station) → (z ≡ x → ⊥) → Presents mac key n cs z o t → Presents mac key n s.list z o t
  presents_on cs x s z o t ne p = record { line = p.line; is = s.line_on z o ne ∙ p.is; now = p.now }

  pub waits_on : (cs : List Call) (x : ℕ) (s : Step cs x) (z o : ℕ) (t : Station) → (z ≡ x → ⊥) → Waits mac key n cs q z o t → Waits mac key n s.list q z o t
  waits_on cs x s z o t ne w =
      record {
        sound = onward_sound z cs s.list s.onward w.sound;
        presents = presents_on cs x s z o t ne w.presents;
        still_open = w.still_open;
        asked = w.asked;
        not_gone_on = ap (λ (m : Module). (last_for m q).question) (s.module_on z ne) ∙ w.not_gone_on;
      }

  pub said_on : (cs : List Call) (x : ℕ) (s : Step cs x) (y σ : ℕ) (ok : Statement → Bool) → Said G cs y q σ ok → Said G s.list y q σ ok
  said_on cs x s y σ ok w = record { words = w.words; spoke = s.spoken y σ w.words w.spoke; passes = w.passes }

  -- a site whose station on the question stands at a step: words that it wrote for that step are its last
  pub record Stands (cs : List Call) (y σ : ℕ) : Type 0 where
    pub opening : ℕ
    pub station : Station
    pub presents : Presents mac key n cs y opening station
    pub asked : station.identity.question ≡ q
    pub there : stage_step station.stage ≡ σ

  pub last_words : (cs : List Call) (y σ : ℕ) (ws : List ℕ) → Stands cs y σ → Spoke G cs y q σ ws → Last mac key n cs q y ws
  last_words cs y σ ws s w = record { opening = s.opening; station = s.station; presents = s.presents; asked = s.asked; in_step = w.in_step ∙ sym s.there }

  pub then_last : (a b c : List Call) → ByLast mac key n q team a b → ByLast mac key n q team b c → ByLast mac key n q team a c
  then_last a b _ o done = o
  then_last a b _ o (give r x k t y ws coin tx ty p on w l bit un) = give (then_last a b _ o r) x k t y ws coin tx ty p on w l bit un

  pub last_sound : (i : ℕ) (a b : List Call) → ByLast mac key n q team a b → Sound mac key n i a → Sound mac key n i b
  last_sound i a _ done s = s
  last_sound i a _ (give {cs'} r x k t y ws coin tx ty p on w l bit un) s = sound_next G cs' x k t ws coin room p i (last_sound i a cs' r s)

  -- site x has ended the step of stage g, all that it holds passing a test; by last bundles alone, if the whole team stood at that step
  pub record Advanced (cs : List Call) (x k : ℕ) (g : Stage) (d : ℕ) (jump : Bool) (coin : ℕ) (ok : Statement → Bool) : Type 0 where
    pub step : Step cs x
    pub station : Station
    pub sound : Sound mac key n x step.list
    pub presents : Presents mac key n step.list x k station
    pub state : State
    pub setting : state.lasting.jump ≡ jump
    pub full : length state.held ≡ quorum n
    pub all_ok : every ok state.held ≡ true
    pub ended : Ended G q step.list x k g d state coin station
    pub voted : Voted G q g state presents.line.took
    pub by_last : ((y : ℕ) → 1 ≤ y → y ≤ n → team y ≡ true → Stands cs y (stage_step g)) → ByLast mac key n q team cs step.list

  module _ (enough : Quorate n team) (x k coin : ℕ) (ok : Statement → Bool) (tx : team x ≡ true) (bit : coin < 2) where
    -- as many givings as are missing, each of a site of the team that is not held
    pub advance : (d : ℕ) (cs : List Call) (t : Station) → Premises G cs → Waits mac key n cs q x k t → floor ≤ stage_step t.stage
        → ((y : ℕ) → 1 ≤ y → y ≤ n → team y ≡ true → Said G cs y q (stage_step t.stage) ok) → every ok (state_of t).held ≡ true
        → length (state_of t).held < quorum n → quorum n ≤ d + length (state_of t).held → Advanced cs x k t.stage t.lasting.decision t.lasting.jump coin ok
    advance zero cs t P W fl said oks few fuel = absurd (omega arith)
    advance (suc d) cs t P W fl said oks few fuel =
        let z = someone team (state_of t).held n (omega arith) in
        go z.at z.low z.high z.in_first (said z.at z.low z.high z.in_first) (not-true (held_of z.at (state_of t).held) z.in_second) (advance d)
      where
        go : (y : ℕ) → 1 ≤ y → y ≤ n → team y ≡ true → (w : Said G cs y q (stage_step t.stage) ok) → held_of y (state_of t).held ≡ false
            → ((cs : List Call) (t : Station) → Premises G cs → Waits mac key n cs q x k t → floor ≤ stage_step t.stage
            → ((y : ℕ) → 1 ≤ y → y ≤ n → team y ≡ true → Said G cs y q (stage_step t.stage) ok) → every ok (state_of t).held ≡ true
            → length (state_of t).held < quorum n → quorum n ≤ d + length (state_of t).held → Advanced cs x k t.stage t.lasting.decision t.lasting.jump coin ok)
            → Advanced cs x k t.stage t.lasting.decision t.lasting.jump coin ok
        go y lo hi ty w new ih = split (moved G q cs P x k t W y (stage_step t.stage) w.words w.spoke coin bit un refl)
          where
            un : unrefused (answer mac key n cs (call x (gives k t w.words coin room))).number ≡ true
            un = heard G cs P q x k t W y (stage_step t.stage) w.words w.spoke coin bit refl new

            g : Call
            g = call x (gives k t w.words coin room)

            t' : Station
            t' = (answer mac key n cs g).station

            one : Step cs x
            one =
                record {
                  list = call x (gives k t w.words coin room) ∷ cs;
                  premises = premises_then G q cs P x k t W y (stage_step t.stage) w.words w.spoke coin bit un;
                  onward = give done x k t y w.words coin tx ty W.presents W.asked w.spoke.by_call (omega (arith, w.spoke.in_step)) bit un;
                  module_on = module_other present_form mac key n (call x (gives k t w.words coin room)) cs;
                  line_on = lineage_other present_form mac key n (call x (gives k t w.words coin room)) cs;
                  spoken = λ y σ ws h. spoke_later G (call x (gives k t w.words coin room)) cs y q σ ws h;
                }

            oks1 : every ok (with_bundle G q t w.words).held ≡ true
            oks1 = every_insert ok (main_of w.words) (state_of t).held ∙ join (ok (main_of w.words)) _ w.passes oks

            last_one : ((y : ℕ) → 1 ≤ y → y ≤ n → team y ≡ true → Stands cs y (stage_step t.stage)) → ByLast mac key n q team cs (call x (gives k t w.words coin room) ∷ cs)
            last_one st =
                give done x k t y w.words coin tx ty W.presents W.asked w.spoke.by_call (last_words cs y (stage_step t.stage) w.words (st y lo hi ty) w.spoke) bit un

            -- the team still stands there, where site x does
            stands_on : Stands (call x (gives k t w.words coin room) ∷ cs) x (stage_step t.stage) → (z : ℕ) → Stands cs z (stage_step t.stage)
                → Stands (call x (gives k t w.words coin room) ∷ cs) z (stage_step t.stage)
            stands_on sx z s = by (eqb z x) refl
              where
                by : (b : Bool) → eqb z x ≡ b → Stands (call x (gives k t w.words coin room) ∷ cs) z (stage_step t.stage)
                by true e = subst (λ (v : ℕ). Stands (call x (gives k t w.words coin room) ∷ cs) v (stage_step t.stage)) (sym (eqb-true z x e)) sx
                by false e =
                    record {
                      opening = s.opening;
                      station = s.station;
                      presents = presents_other G cs x k t w.words coin room W.presents z s.opening s.station (eqb-false z x e) s.presents;
                      asked = s.asked;
                      there = s.there;
                    }

            widen : Stands (call x (gives k t w.words coin room) ∷ cs) x (stage_step t.stage) → Advanced (call x (gives k t w.words coin room) ∷ cs) x k t.stage t.lasting.decision t.lasting.jump coin ok
                → Advanced cs x k t.stage t.lasting.decision t.lasting.jump coin ok
            widen sx a =
                record {
                  step = then_step cs x one a.step;
                  station = a.station;
                  sound = a.sound;
                  presents = a.presents;
                  state = a.state;
                  setting = a.setting;
                  full = a.full;
                  all_ok = a.all_ok;
                  ended = a.ended;
                  voted = a.voted;
                  by_last = λ st. then_last cs (call x (gives k t w.words coin room) ∷ cs) a.step.list (last_one st) (a.by_last (λ z b c d. stands_on sx z (st z b c d)));
                }

            split : Moved G q cs P x k t W y (stage_step t.stage) w.words w.spoke coin bit un → Advanced cs x k t.stage t.lasting.decision t.lasting.jump coin ok
            split (ends full e vs) =
                record {
                  step = one;
                  station = (answer mac key n cs (call x (gives k t w.words coin room))).station;
                  sound = sound_then G q cs P x k t W y (stage_step t.stage) w.words w.spoke coin bit un;
                  presents = presents_then G q cs P x k t W y (stage_step t.stage) w.words w.spoke coin bit un;
                  state = with_bundle G q t w.words;
                  setting = state_jump t;
                  full = full;
                  all_ok = oks1;
                  ended = e;
                  voted = vs;
                  by_last = last_one;
                }
            split (stays W' few1 e) =
                let se : t'.stage ≡ t.stage = sym (state_stage t') ∙ ap (λ (u : State). u.stage) e ∙ state_stage t in
                let de : t'.lasting.decision ≡ t.lasting.decision = sym (state_decision t') ∙ ap (λ (u : State). u.lasting.decision) e ∙ state_decision t in
                let je : t'.lasting.jump ≡ t.lasting.jump = sym (state_jump t') ∙ ap (λ (u : State). u.lasting.jump) e ∙ state_jump t in
                let he : (state_of t').held ≡ insert (main_of w.words) (state_of t).held = ap (λ (u : State). u.held) e in
                let le : length (state_of t').held ≡ suc (length (state_of t).held) = ap length he ∙ insert_length (main_of w.words) (state_of t).held in
                widen (record { opening = k; station = t'; presents = W'.presents; asked = W'.asked; there = ap stage_step se })
                (subst (λ (z : ℕ). Advanced (call x (gives k t w.words coin room) ∷ cs) x k t.stage z t.lasting.jump coin ok) de
                (subst (λ (z : Stage). Advanced (call x (gives k t w.words coin room) ∷ cs) x k z t'.lasting.decision t.lasting.jump coin ok) se
                (subst (λ (z : Bool). Advanced (call x (gives k t w.words coin room) ∷ cs) x k t'.stage t'.lasting.decision z coin ok) je
                (ih (call x (gives k t w.words coin room) ∷ cs) t' one.premises W' (subst (λ (z : Stage). floor ≤ stage_step z) (sym se) fl)
                (λ y a b c. subst (λ (z : Stage). Said G (call x (gives k t w.words coin room) ∷ cs) y q (stage_step z) ok) (sym se) (said_on cs x one y (stage_step t.stage) ok (said y a b c)))
                (ap (every ok) he ∙ oks1) (subst (λ (z : List Statement). length z < quorum n) (sym he) few1) (omega (arith, le, fuel))))))
