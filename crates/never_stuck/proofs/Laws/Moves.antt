-- One giving that is heard: the station keeps the bundle, or ends its step with it and goes on, or is closed behind the last votes; or it jumps.
use Rattle.std.specs.Prelude.{◌≡◌, Bool, true, false, List, [], ◌∷◌, ◌++◌, ℕ, ◌+◌, ◌*◌, ◌≤◌, ◌<◌, length}
use Rattle.std.proofs.Math.Path.{refl, sym, ap}
use Rattle.std.proofs.Common.{◌∙◌, subst}
use mathlib.Core.List.Memᴰ
use native.Mathlib.Omega.{arith}
use Rattle.laws.specs.Pick.{pick}
use Rattle.laws.specs.Bools.{never}
use Rattle.laws.specs.All.{all_map, all_two}
use Rattle.laws.specs.Count.{count}
use Rattle.format.specs.Form.{present_form}
use Rattle.format.specs.Numbers.{kept, closed_now, jumped}
use Rattle.format.specs.Group.{quorum}
use Rattle.format.specs.Statement.{Statement, step}
use Rattle.format.specs.Lists.{every}
use Rattle.format.specs.Present.{last_round, statement_code, main_of, certificate_of}
use Rattle.modules.specs.declared.Module.{Module}
use Rattle.modules.specs.Counter.{last_for}
use Rattle.station.specs.declared.Stage.{Stage}
use Rattle.station.specs.declared.Station.{Station}
use Rattle.station.specs.Machine as Mach
use Rattle.station.specs.Machine.{State, Next, Outcome, keeps, sends, own, began, stage_of, follows, closes, decision_at, keeping, stage_step, has_value, copied_value, with_decision, lasting_at}
use Rattle.station.specs.Calls.{Returned}
use Rattle.station.specs.Returns.{unrefused, wrote, took_given}
use Rattle.station.proofs.Laws.Returns.{sent_took_given}
use Rattle.station.proofs.Theorems.Written.{reached_good}
use Rattle.station.proofs.Laws.Insert.{insert_all}
use Rattle.station.proofs.Laws.Sane.{state_back}
use Rattle.station.proofs.Laws.End.{Full, Known, known}
use Rattle.station.proofs.Laws.Fits.{sent_sane, kept_sane, jump_sane}
use Rattle.station.proofs.Laws.Views.{Accepted, Jumping, full_after, sent_statement, jump_statement, Gives, refuses, holds_on, shuts, goes_on, enters, gives_view}
use Rattle.station.specs.Present.{state_of, returned, giving, giving_outcome, Lengths}
use Rattle.station.specs.Demand.{OfGroup}
use Rattle.agreement.specs.Maths.Votes.{votes}
use Rattle.agreement.proofs.Maths.Log.{In}
use Rattle.agreement.proofs.Maths.Took.{enough_after, held_enough}
use Rattle.agreement.proofs.Laws.Ground.{Ground}
use Rattle.agreement.proofs.Laws.Line.{Line, line_open, reads}
use Rattle.agreement.proofs.Laws.Lists.{module_now}
use Rattle.agreement.proofs.Theorems.Theorem.{at, here, in_group}
use Rattle.agreement.specs.Demand.{Call, call, gives}
use Rattle.agreement.specs.Present.{modules, answer, log, Presents, Sound}
use Rattle.never_stuck.specs.Claim.{room, Waits}
use Rattle.never_stuck.proofs.Laws.Spoken.{Premises, Spoke, presents_now, sound_next, premises_next}
use Rattle.never_stuck.proofs.Laws.Steps.{in_votes}
use Rattle.never_stuck.proofs.Laws.Heard.{up_of}

-- votes enough with the given statement are enough with the written one too
enough_written : (a b : Bool) (s m : Statement) (l : List Statement) (q r v n k : ℕ) → b ≡ true → k ≤ count (votes (m ∷ l) q r v) n
    → k ≤ count (votes (pick a (s ∷ []) [] ++ (pick b (m ∷ []) [] ++ l)) q r v) n
unfolding pick
enough_written true true s m l q r v n k e h = enough_after q r v n k s (m ∷ l) h
enough_written false true s m l q r v n k e h = h
enough_written a false s m l q r v n k e h = never false refl e

module _ (G : Ground present_form) (q : ℕ) where
  open G use {mac, eight, key, n, top}

  -- the statement that follows a step of site x with what is held in u
  abbrev pub saying : ℕ → Stage → State → ℕ → Statement
  saying x g u coin = own (statement_code (mac key)) x q (follows n g u coin).kind (follows n g u coin).value (follows n g u coin).flag (follows n g u coin).round

  abbrev pub with_bundle : Station → List ℕ → State
  with_bundle t ws = keeping n (state_of t) (main_of ws) (certificate_of ws)

  -- the step of stage g has ended with what is held in u, and with the decision d before it: station t has gone on, or is closed
  pub data Ended (cs : List Call) (x k : ℕ) (g : Stage) (d : ℕ) (u : State) (coin : ℕ) (t : Station) : Type 0 where
    went : closes last_round g ≡ false → Waits mac key n cs q x k t
        → state_of t ≡ began n q (with_decision (decision_at g d u.held) u.lasting) (follows n g u coin).stage (saying x g u coin) ((follows n g u coin).first ++ (follows n g u coin).second)
        → Ended cs x k g d u coin t
    shut : closes last_round g ≡ true → t.closed ≡ true → t.identity.question ≡ q → t.lasting.decision ≡ decision_at g d u.held → Ended cs x k g d u coin t

  -- what is held in u at the end of a round's votes, where it is all for one value, is q votes of the round among those taken
  abbrev pub Voted : Stage → State → List Statement → Type 0
  Voted g u taken = (r v : ℕ) → stage_step g ≡ 2 * r + 1 → every (has_value v) u.held ≡ true → quorum n ≤ count (votes taken q r v) n

  module _ (cs : List Call) (P : Premises G cs) (x k : ℕ) (t : Station) (waits : Waits mac key n cs q x k t) (y σ : ℕ) (ws : List ℕ) (sp : Spoke G cs y q σ ws)
      (coin : ℕ) (bit : coin < 2) (un : unrefused (answer mac key n cs (call x (gives k t ws coin room))).number ≡ true) where
    abbrev g : Call
    g = call x (gives k t ws coin room)

    abbrev then : Station
    then = (answer mac key n cs g).station

    p : Presents mac key n cs x k t
    p = waits.presents

    range_x : (1 ≤ x) × (x ≤ n)
    range_x = in_group present_form G cs P.given x k p.line p.is

    len : Lengths t
    len = (reached_good present_form mac key n eight x t (up_of G cs P x k t waits.sound p).reached).lengths

    pub premises_then : Premises G (g ∷ cs)
    premises_then = premises_next G cs x k t ws coin room p range_x.0 range_x.1 len sp.came P

    pub sound_then : Sound mac key n x (g ∷ cs)
    sound_then = sound_next G cs x k t ws coin room p x waits.sound

    pub presents_then : Presents mac key n (g ∷ cs) x k then
    presents_then = presents_now G cs x k t ws coin room p un

    mine : OfGroup key n x (modules mac key n cs x)
    mine = (at present_form G cs P.given P.few x x waits.sound waits.sound).logs.mods x range_x.0 range_x.1

    abbrev mm : Module
    mm = record { key = key; n = n; station = x; last = (modules mac key n cs x).last }

    m_is : modules mac key n cs x ≡ mm
    m_is = λ i. record { key = mine.same_key i; n = mine.same_n i; station = mine.same_site i; last = (modules mac key n cs x).last }

    a_is : answer mac key n cs g ≡ returned mm t room (giving_outcome mac mm t ws coin room)
    unfolding Rattle.agreement.specs.Demand.act Rattle.station.specs.Calls.giving
    a_is = ap (λ (z : Module). giving mac z t ws coin room) m_is

    -- what is returned waits on, where it is open, on the question, and the module's last question is that
    abbrev Onto : Returned → Type 0
    Onto r = (r.station.closed ≡ false) × ((r.station.identity.question ≡ q) × ((last_for r.after q).question ≡ q))

    waits_then : Onto (answer mac key n cs g) → Waits mac key n (g ∷ cs) q x k then
    waits_then h =
        record {
          sound = sound_then;
          presents = presents_then;
          still_open = h.0;
          asked = h.1.0;
          not_gone_on = ap (λ (m : Module). (last_for m q).question) (module_now present_form mac key n g cs) ∙ h.1.1;
        }

    pub data Moved : Type 0 where
      stays : Waits mac key n (g ∷ cs) q x k then → length (with_bundle t ws).held < quorum n → state_of then ≡ with_bundle t ws → Moved
      ends : length (with_bundle t ws).held ≡ quorum n → Ended (g ∷ cs) x k t.stage t.lasting.decision (with_bundle t ws) coin then → Voted t.stage (with_bundle t ws) presents_then.line.took → Moved

    -- what is known of the station before the call, and of what it had taken
    abbrev l : List Statement
    l = reads present_form (log mac key n cs)

    line_t : Line present_form n l x t p.line.took
    line_t = subst (λ (z : Station). Line present_form n l x z p.line.took) p.now (here present_form G cs P.given P.few x k p.line waits.sound p.is)

    -- what is held with the bundle was taken, the bundle's main statement by this call
    voted : Accepted present_form mac mm t ws coin room → length (with_bundle t ws).held ≡ quorum n → took_given (answer mac key n cs g).number ≡ true
        → Voted t.stage (with_bundle t ws) presents_then.line.took
    unfolding presents_then Rattle.never_stuck.proofs.Laws.Spoken.presents_now Rattle.station.specs.Words.state_of
    voted A size taken r v e all =
        let F : Full present_form n (with_bundle t ws) = full_after present_form mac mm t ws coin room len A size in
        let i = in_votes t.stage r e in
        enough_written (wrote (answer mac key n cs g).number) (took_given (answer mac key n cs g).number) (main_of (answer mac key n cs g).lent) (main_of ws) p.line.took q r v n (quorum n) taken
        (omega (
          arith,
          size,
          held_enough q r v n (with_bundle t ws).held (main_of ws ∷ p.line.took) F.rising
              (all_map (λ s h. ((h.0.formed.low, h.0.formed.high), (h.1.0, (h.0.kind ∙ i.0, (h.1.1.0 ∙ waits.asked, h.0.round ∙ i.1))))) (with_bundle t ws).held
              (all_two (Known present_form n (with_bundle t ws).stage) (λ s. In s (main_of ws ∷ p.line.took) × ((s.question ≡ (with_bundle t ws).question) × (step s ≡ stage_step (with_bundle t ws).stage))) (with_bundle t ws).held
              (known present_form n (with_bundle t ws) F)
              (all_two (λ s. In s (main_of ws ∷ p.line.took)) (λ s. (s.question ≡ (with_bundle t ws).question) × (step s ≡ stage_step (with_bundle t ws).stage)) (with_bundle t ws).held
              (insert_all (λ s. In s (main_of ws ∷ p.line.took)) (main_of ws) (state_of t).held (Memᴰ.head refl)
              (all_map (λ s h. Memᴰ.tail h) (state_of t).held (line_open present_form n l x t p.line.took line_t waits.still_open).among)) F.alike))) all,
        ))

    kept_so : (A : Accepted present_form mac mm t ws coin room) → length (with_bundle t ws).held < quorum n → answer mac key n cs g ≡ returned mm t room (keeps kept (with_bundle t ws)) → Moved
    unfolding Rattle.station.specs.Calls.returned Rattle.station.specs.Words.as_station Rattle.station.specs.Words.state_of
    kept_so A few e =
        stays (waits_then (subst Onto (sym e) (waits.still_open, (waits.asked, waits.not_gone_on)))) few
        (ap (λ (r : Returned). state_of r.station) e ∙ state_back present_form n x (with_bundle t ws) top range_x.0 range_x.1 (kept_sane present_form mac eight mm t ws coin room len A few))

    shut_so : Accepted present_form mac mm t ws coin room → length (with_bundle t ws).held ≡ quorum n → closes last_round t.stage ≡ true
        → answer mac key n cs g ≡ returned mm t room (keeps closed_now (Mach.shut (with_bundle t ws) (lasting_at t.stage t.lasting (with_bundle t ws).held))) → Moved
    unfolding Rattle.station.specs.Calls.returned Rattle.station.specs.Words.as_station Rattle.station.specs.Words.state_of
    shut_so A size c e =
        ends size (shut c (ap (λ (r : Returned). r.station.closed) e) (ap (λ (r : Returned). r.station.identity.question) e ∙ waits.asked) (ap (λ (r : Returned). r.station.lasting.decision) e))
        (voted A size (ap (λ (r : Returned). took_given r.number) e))

    abbrev f : Next
    f = follows n t.stage (with_bundle t ws) coin

    abbrev u : State
    u = began n t.identity.question (lasting_at t.stage t.lasting (with_bundle t ws).held) f.stage (sent_statement present_form mac mm t ws coin room) (f.first ++ f.second)

    sent_so : (j : ℕ) → took_given j ≡ true → (A : Accepted present_form mac mm t ws coin room) (size : length (with_bundle t ws).held ≡ quorum n) (more : closes last_round t.stage ≡ false)
        → answer mac key n cs g ≡ returned mm t room (sends j (sent_statement present_form mac mm t ws coin room) (f.first ++ f.second) u) → Moved
    unfolding Rattle.station.specs.Calls.returned Rattle.station.specs.Words.as_station Rattle.station.specs.Words.state_of
    sent_so j taken A size more e =
        ends size
        (went more (waits_then (subst Onto (sym e) (refl, (waits.asked, waits.asked))))
        (subst (λ (z : ℕ). state_of then ≡ began n z (lasting_at t.stage t.lasting (with_bundle t ws).held) f.stage
        (own (statement_code (mac key)) x z f.kind f.value f.flag f.round) (f.first ++ f.second)) waits.asked
        (ap (λ (r : Returned). state_of r.station) e ∙ state_back present_form n x u top range_x.0 range_x.1 (sent_sane present_form mac eight mm t ws coin room len A size more))))
        (voted A size (ap (λ (r : Returned). took_given r.number) e ∙ taken))

    -- a bundle of the station's step
    pub moved : σ ≡ stage_step t.stage → Moved
    unfolding Rattle.station.specs.Calls.returned
    moved there = go (giving_outcome mac mm t ws coin room) refl (gives_view present_form mac mm t ws coin room len)
      where
        go : (o : Outcome) → giving_outcome mac mm t ws coin room ≡ o → Gives present_form mac mm t ws coin room o → Moved
        go _ e (refuses {k} w) = never (unrefused k) w (sym (ap (λ (r : Returned). unrefused r.number) (a_is ∙ ap (returned mm t room) e)) ∙ un)
        go _ e (holds_on A few) = kept_so A few (a_is ∙ ap (returned mm t room) e)
        go _ e (shuts A size c) = shut_so A size c (a_is ∙ ap (returned mm t room) e)
        go _ e (goes_on {k} A size c a w) = sent_so k (ap took_given w ∙ sent_took_given _) A size c (a_is ∙ ap (returned mm t room) e)
        go _ e (enters J a) = absurd (omega (arith, J.ahead, sp.in_step))

    -- a bundle of a later step
    pub record JumpedThere : Type 0 where
      pub waits_on : Waits mac key n (g ∷ cs) q x k then
      pub in_step : stage_step then.stage ≡ σ
      pub setting : then.lasting.jump ≡ t.lasting.jump
      pub decision : then.lasting.decision ≡ t.lasting.decision
      -- the statement that it wrote is all that is held
      pub says : Statement
      pub held : (state_of then).held ≡ says ∷ []
      pub value : says.value ≡ copied_value (main_of ws) coin

    pub jumped_there : stage_step t.stage < σ → JumpedThere
    unfolding Rattle.station.specs.Calls.returned Rattle.station.specs.Words.as_station Rattle.station.specs.Words.state_of
    jumped_there later = go (giving_outcome mac mm t ws coin room) refl (gives_view present_form mac mm t ws coin room len)
      where
        jumped_so : (J : Jumping present_form mac mm t ws coin room) → answer mac key n cs g ≡ returned mm t room (sends jumped (jump_statement present_form mac mm t ws coin room) (certificate_of ws)
            (began n t.identity.question t.lasting (stage_of (main_of ws)) (jump_statement present_form mac mm t ws coin room) (certificate_of ws))) → JumpedThere
        jumped_so J e =
            record {
              waits_on = waits_then (subst Onto (sym e) (refl, (waits.asked, waits.asked)));
              in_step = ap (λ (r : Returned). stage_step r.station.stage) e ∙ sym J.fitting.in_step ∙ sp.in_step;
              setting = ap (λ (r : Returned). r.station.lasting.jump) e;
              decision = ap (λ (r : Returned). r.station.lasting.decision) e;
              says = jump_statement present_form mac mm t ws coin room;
              held = ap (λ (r : Returned). (state_of r.station).held) e
                  ∙ ap (λ (z : State). z.held)
                  (state_back present_form n x
                  (began n t.identity.question t.lasting (stage_of (main_of ws)) (jump_statement present_form mac mm t ws coin room) (certificate_of ws)) top range_x.0 range_x.1
                  (jump_sane present_form mac eight mm t ws coin room J len));
              value = refl;
            }

        go : (o : Outcome) → giving_outcome mac mm t ws coin room ≡ o → Gives present_form mac mm t ws coin room o → JumpedThere
        go _ e (refuses {k} w) = never (unrefused k) w (sym (ap (λ (r : Returned). unrefused r.number) (a_is ∙ ap (returned mm t room) e)) ∙ un)
        go _ e (holds_on A few) = absurd (omega (arith, A.fitting.in_step, sp.in_step))
        go _ e (shuts A size c) = absurd (omega (arith, A.fitting.in_step, sp.in_step))
        go _ e (goes_on A size c a w) = absurd (omega (arith, A.fitting.in_step, sp.in_step))
        go _ e (enters J a) = jumped_so J (a_is ∙ ap (returned mm t room) e)
