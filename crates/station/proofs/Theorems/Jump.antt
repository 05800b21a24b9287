-- The setting jump (Job 3 of document 02), in laws of the one definition of opening and giving: "8 is given only with jump off"; with jump on a valid bundle
-- of a later step is 23 or 12; a bundle whose step is not above the station's has one outcome, whatever the setting; an open station keeps the setting that
-- its opening brought; "a jump setting outside 0 and 1 is 2".
use Prim.Native.Nat.{ℕ, ◌≤◌, ◌<◌}
use Rattle.std.specs.Prelude.{Bool, ◌&&◌, ◌||◌, ◌≡◌, length}
use Rattle.std.proofs.Math.Bool.{true, false}
use mathlib.Core.List.{List, ◌++◌}
use Rattle.std.proofs.Math.Path.{refl, sym, ap}
use Rattle.std.proofs.Common.{◌∙◌, arith}
use Rattle.std.proofs.Math.Dec.{eqb, ltb}
use borrow.Author.Tests.{le-leb, lt-leb, lt-ltb, le-ltb}
use Rattle.laws.specs.Pick.{pick}
use Rattle.laws.specs.Bools.{never, join}
use Rattle.laws.specs.Refusals.{Test, first_failed, passed_front}
use Rattle.laws.specs.All.{All}
use Rattle.format.specs.Form.{Form, last_round, output_words}
use Rattle.format.specs.Numbers.{none, kept, sent, sent_decided, closed_now, jumped, out_of_range, not_above, too_early}
use Rattle.format.specs.Group.{quorum}
use Rattle.format.specs.Statement.{Statement, step, statement_code}
use Rattle.format.specs.Bundle.{main_of, certificate_of}
use Rattle.rules.specs.declared.Which.TheVariants.{Only}
use Rattle.certificate.specs.Check.{bundle_tests}
use Rattle.modules.specs.declared.Last.{Last}
use Rattle.modules.specs.declared.Module.{Module}
use Rattle.modules.specs.Counter.{above, module_fits, last_for}
use Rattle.station.specs.declared.Stage.{Stage}
use Rattle.station.specs.declared.Stage.TheVariants.{Gathering, Proposing, Voting}
use Rattle.station.specs.declared.Station.{Station}
use Rattle.station.specs.Machine.{State, Outcome, refused, keeps, sends, Next, own, began, shut, stage_step, closes, lasting_at, with_setting, follows, keeping, insert, moved, ended, taken, stage_of, jumps, copied_value, entered, answered, step_tests}
use Rattle.station.specs.Words.{state_of, as_station, Lengths}
use Rattle.station.specs.Fit.{fits}
use Rattle.station.specs.Returns.{unrefused}
use Rattle.station.specs.Calls.{Returned, returned, no_station, opening, opening_outcome, station_tests, give_tests, giving, giving_outcome, by_module, on_bundle}
use Rattle.station.specs.Demand.{as_given}
use Rattle.station.proofs.Laws.Views.{Gives, refuses, holds_on, shuts, goes_on, enters, gives_view, Opens, no_opening, begins, opens_view}
use Rattle.station.specs.declared.Lasting.{Lasting}

-- ---- the setting alone
abbrev pub set_jump : Bool → Station → Station
set_jump b t =
    record { identity = t.identity; stage = t.stage; closed = t.closed; lasting = with_setting b t.lasting; held = t.held; groups = t.groups }

-- all that a call returns but for the station's setting
abbrev pub but_setting : Returned → Returned
but_setting r = record { number = r.number; count = r.count; station = set_jump false r.station; after = r.after; lent = r.lent }

abbrev with_jump : Bool → State → State
with_jump b t =
    record {
      question = t.question;
      stage = t.stage;
      closed = t.closed;
      lasting = with_setting b t.lasting;
      held = t.held;
      for_value = t.for_value;
      for_none = t.for_none;
    }

abbrev but_jump : Outcome → Outcome
but_jump (refused k) = refused k
but_jump (keeps k u) = keeps k (with_jump false u)
but_jump (sends k s c u) = sends k s c (with_jump false u)

-- what follows a step does not look at it
follows_same : (n : ℕ) (g : Stage) (t : State) (coin : ℕ) → follows n g (with_jump true t) coin ≡ follows n g (with_jump false t) coin
unfolding follows
follows_same n Gathering t coin = refl
follows_same n (Proposing r f) t coin = refl
follows_same n (Voting r) t coin = refl

module _ (code : Statement → List ℕ) (top n site : ℕ) (last : Last) where
  moved_same : (t : State) (x : Next) (l : Lasting)
      → but_jump (moved code top n site last (with_jump true t) x (with_setting true l)) ≡ but_jump (moved code top n site last (with_jump false t) x (with_setting false l))
  unfolding pick
  moved_same t x l = go (above last s.question (step s))
    where
      s : Statement
      s = own code site t.question x.kind x.value x.flag x.round

      u : Bool → State
      u b = began n t.question (with_setting b l) x.stage s (x.first ++ x.second)

      k : ℕ
      k = pick (ltb t.lasting.decision none || eqb l.decision none) sent sent_decided

      go : (a : Bool) → but_jump (pick a (sends k s (x.first ++ x.second) (u true)) (refused not_above)) ≡ but_jump (pick a (sends k s (x.first ++ x.second) (u false)) (refused not_above))
      go true = refl
      go false = refl

  ended_same : (t : State) (coin : ℕ) → but_jump (ended code top n site last (with_jump true t) coin) ≡ but_jump (ended code top n site last (with_jump false t) coin)
  unfolding ended pick
  ended_same t coin = go (closes top t.stage)
    where
      l : Lasting
      l = lasting_at t.stage t.lasting t.held

      go : (c : Bool) → but_jump (pick c (keeps closed_now (shut (with_jump true t) l)) (moved code top n site last (with_jump true t) (follows n t.stage (with_jump true t) coin) (with_setting true l)))
          ≡ but_jump (pick c (keeps closed_now (shut (with_jump false t) l)) (moved code top n site last (with_jump false t) (follows n t.stage (with_jump false t) coin) (with_setting false l)))
      go true = refl
      go false =
          moved_same t (follows n t.stage (with_jump true t) coin) l
          ∙ ap (λ (x : Next). but_jump (moved code top n site last (with_jump false t) x (with_setting false l))) (follows_same n t.stage t coin)

  taken_same : (t : State) (m : Statement) (c : List Statement) (coin : ℕ)
      → but_jump (taken code top n site last (with_jump true t) m c coin) ≡ but_jump (taken code top n site last (with_jump false t) m c coin)
  unfolding taken pick
  taken_same t m c coin = go (ltb (length (insert m t.held)) (quorum n))
    where
      k : State
      k = keeping n t m c

      go : (b : Bool) → but_jump (pick b (keeps kept (with_jump true k)) (ended code top n site last (with_jump true k) coin))
          ≡ but_jump (pick b (keeps kept (with_jump false k)) (ended code top n site last (with_jump false k) coin))
      go true = refl
      go false = ended_same k coin

module _ (form : Form) where
  -- ---- with jump off a later step is 8, where the tests before pass
  pub off_is_8 : (mac : List ℕ → List ℕ → List ℕ) (m : Module) (t : Station) (ws : List ℕ) (coin : ℕ) (out : List ℕ) → t.lasting.jump ≡ false
      → All (λ x. x.ok ≡ true) (station_tests form m t coin out) → All (λ x. x.ok ≡ true) (bundle_tests form (mac m.key) m.n (Only t.identity.question) ws)
      → stage_step t.stage < step (main_of form ws) → giving form mac m t ws coin out ≡ as_given too_early m t out
  unfolding giving returned state_of first_failed pick
  off_is_8 mac m t ws coin out off ready valid up =
      ap (λ (k : ℕ). returned form m t out (pick (eqb k 0) whole (refused k)))
      (passed_front (station_tests form m t coin out) (bundle ++ step_tests (state_of form t) (main_of form ws)) ready ∙ passed_front bundle (step_tests (state_of form t) (main_of form ws)) valid ∙ eight)
    where
      bundle : List Test
      bundle = bundle_tests form (mac m.key) m.n (Only t.identity.question) ws

      whole : Outcome
      whole = on_bundle form mac answered m t ws coin

      eight : first_failed (step_tests (state_of form t) (main_of form ws)) ≡ too_early
      eight = rw (off, le-leb (stage_step t.stage) (step (main_of form ws)) (omega arith), lt-leb (step (main_of form ws)) (stage_step t.stage) up)

  -- ---- with jump on a valid bundle of a later step is answered 23, or 12 where the module's last pair is not below that step, and nothing else
  pub on_is_23_or_12 : (mac : List ℕ → List ℕ → List ℕ) (m : Module) (t : Station) (ws : List ℕ) (coin : ℕ) (out : List ℕ) → t.lasting.jump ≡ true
      → All (λ x. x.ok ≡ true) (station_tests form m t coin out) → All (λ x. x.ok ≡ true) (bundle_tests form (mac m.key) m.n (Only t.identity.question) ws)
      → stage_step t.stage < step (main_of form ws)
      → (giving form mac m t ws coin out).number ≡ pick (above (last_for m t.identity.question) t.identity.question (step (main_of form ws))) jumped not_above
  unfolding giving returned state_of first_failed pick step
  on_is_23_or_12 mac m t ws coin out on ready valid up =
      ap (λ (k : ℕ). (returned form m t out (pick (eqb k 0) (pick (jumps (state_of form t) (main_of form ws)) entering staying) (refused k))).number)
      (passed_front (station_tests form m t coin out) (bundle ++ step_tests (state_of form t) (main_of form ws)) ready ∙ passed_front bundle (step_tests (state_of form t) (main_of form ws)) valid ∙ passes)
      ∙ ap (λ (b : Bool). (returned form m t out (pick b entering staying)).number) ahead
      ∙ go (above (last_for m t.identity.question) t.identity.question (step (main_of form ws)))
    where
      bundle : List Test
      bundle = bundle_tests form (mac m.key) m.n (Only t.identity.question) ws

      entering : Outcome
      entering = on_bundle form mac entered m t ws coin

      staying : Outcome
      staying = on_bundle form mac taken m t ws coin

      ahead : jumps (state_of form t) (main_of form ws) ≡ true
      ahead = join t.lasting.jump (ltb (stage_step t.stage) (step (main_of form ws))) on (lt-ltb (stage_step t.stage) (step (main_of form ws)) up)

      passes : first_failed (step_tests (state_of form t) (main_of form ws)) ≡ 0
      passes = rw (ahead, le-leb (stage_step t.stage) (step (main_of form ws)) (omega arith))

      s : Statement
      s = own (statement_code form (mac m.key)) m.station t.identity.question (main_of form ws).kind (copied_value (main_of form ws) coin) (main_of form ws).flag (main_of form ws).round

      go : (a : Bool) → (returned form m t out (pick a (sends jumped s (certificate_of form ws)
          (began m.n t.identity.question t.lasting (stage_of (main_of form ws)) s (certificate_of form ws))) (refused not_above))).number ≡ pick a jumped not_above
      go true = refl
      go false = refl

  returned_same : (m : Module) (t : Station) (out : List ℕ) (b : Bool) (o : Outcome) → but_setting (returned form m (set_jump b t) out o) ≡ but_setting (returned form m (set_jump false t) out (but_jump o))
  unfolding returned as_station
  returned_same m t out b (refused k) = refl
  returned_same m t out b (keeps k u) = refl
  returned_same m t out b (sends k s c u) = refl

  -- ---- two stations alike but for the setting get the same outcome but for the setting, where the bundle's step is not above theirs
  module _ (mac : List ℕ → List ℕ → List ℕ) (m : Module) (t : Station) (ws : List ℕ) (coin : ℕ) (out : List ℕ) (here : step (main_of form ws) ≤ stage_step t.stage) where
    outcome_same : but_jump (giving_outcome form mac m (set_jump true t) ws coin out) ≡ but_jump (giving_outcome form mac m (set_jump false t) ws coin out)
    unfolding fits state_of pick
    outcome_same = rw (le-ltb (stage_step t.stage) (step (main_of form ws)) here) (go (eqb (first_failed (give_tests form mac m (set_jump false t) ws coin out)) 0))
      where
        k : ℕ
        k = first_failed (give_tests form mac m (set_jump false t) ws coin out)

        whole : Bool → Outcome
        whole b = by_module form mac taken m t.identity.question (with_jump b (state_of form t)) (main_of form ws) (certificate_of form ws) coin

        go : (b : Bool) → but_jump (pick b (whole true) (refused k)) ≡ but_jump (pick b (whole false) (refused k))
        go true = taken_same (statement_code form (mac m.key)) (last_round form) m.n m.station (last_for m t.identity.question) (state_of form t) (main_of form ws) (certificate_of form ws) coin
        go false = refl

    pub same_but_setting : but_setting (giving form mac m (set_jump true t) ws coin out) ≡ but_setting (giving form mac m (set_jump false t) ws coin out)
    unfolding giving
    same_but_setting =
        returned_same m t out true (giving_outcome form mac m (set_jump true t) ws coin out)
        ∙ ap (λ (o : Outcome). but_setting (returned form m (set_jump false t) out o)) outcome_same
        ∙ sym (returned_same m t out false (giving_outcome form mac m (set_jump false t) ws coin out))

  -- ---- a giving leaves question and setting, but for closing, which clears the setting
  pub setting_kept : (mac : List ℕ → List ℕ → List ℕ) (m : Module) (t : Station) (ws : List ℕ) (coin : ℕ) (out : List ℕ) → Lengths form t
      → ((giving form mac m t ws coin out).station.identity.question ≡ t.identity.question) × ((giving form mac m t ws coin out).station.lasting.jump ≡ true → t.lasting.jump ≡ true)
  unfolding giving returned as_station state_of
  setting_kept mac m t ws coin out L = go (giving_outcome form mac m t ws coin out) (gives_view form mac m t ws coin out L)
    where
      go : (o : Outcome) → Gives form mac m t ws coin out o
          → ((returned form m t out o).station.identity.question ≡ t.identity.question) × ((returned form m t out o).station.lasting.jump ≡ true → t.lasting.jump ≡ true)
      go _ (refuses e) = (refl, λ j. j)
      go _ (holds_on A few) = (refl, λ j. j)
      go _ (shuts A size c) = (refl, λ j. never false refl j)
      go _ (goes_on A size c later k) = (refl, λ j. j)
      go _ (enters J later) = (refl, λ j. j)

  -- ---- an open station keeps its setting, on or off, through every outcome
  pub open_keeps_setting : (mac : List ℕ → List ℕ → List ℕ) (m : Module) (t : Station) (ws : List ℕ) (coin : ℕ) (out : List ℕ) → Lengths form t
      → (giving form mac m t ws coin out).station.closed ≡ false → (giving form mac m t ws coin out).station.lasting.jump ≡ t.lasting.jump
  unfolding giving returned as_station state_of
  open_keeps_setting mac m t ws coin out L = go (giving_outcome form mac m t ws coin out) (gives_view form mac m t ws coin out L)
    where
      go : (o : Outcome) → Gives form mac m t ws coin out o → (returned form m t out o).station.closed ≡ false → (returned form m t out o).station.lasting.jump ≡ t.lasting.jump
      go _ (refuses e) open_still = refl
      go _ (holds_on A few) open_still = refl
      go _ (shuts A size c) open_still = never true open_still refl
      go _ (goes_on A size c later k) open_still = refl
      go _ (enters J later) open_still = refl

  -- ---- and an opening that is not refused gives it the setting that it brings
  pub opened_with_setting : (mac : List ℕ → List ℕ → List ℕ) (m : Module) (question proposal jump : ℕ) (out : List ℕ) → unrefused (opening form mac m question proposal jump out).number ≡ true
      → (opening form mac m question proposal jump out).station.lasting.jump ≡ eqb jump 1
  unfolding opening returned as_station
  opened_with_setting mac m question proposal jump out = go (opening_outcome form mac m question proposal jump out) (opens_view form mac m question proposal jump out)
    where
      go : (o : Outcome) → Opens form mac m question proposal jump out o → unrefused (returned form m (no_station form) out o).number ≡ true
          → (returned form m (no_station form) out o).station.lasting.jump ≡ eqb jump 1
      go _ (no_opening {k} e) u = never (unrefused k) e u
      go _ (begins room range bit later) u = refl

  -- ---- "a jump setting outside 0 and 1 is 2"
  pub setting_out_of_range : (mac : List ℕ → List ℕ → List ℕ) (m : Module) (question proposal jump : ℕ) (out : List ℕ) → output_words form ≤ length out → 2 ≤ jump
      → opening form mac m question proposal jump out ≡ as_given out_of_range m (no_station form) out
  unfolding opening returned first_failed pick
  setting_out_of_range mac m question proposal jump out room wide =
      rw (le-leb (output_words form) (length out) room, le-ltb jump 2 wide, fails (module_fits form m && ltb proposal 2))
    where
      fails : (b : Bool) → (b && false) ≡ false
      fails true = refl
      fails false = refl
