-- An opening in order is answered 20 and names no decision; "The first decision is kept", whatever is given.
use Rattle.std.specs.Prelude.{ℕ, Bool, true, false, ◌||◌, List, [], ◌++◌, ◌≡◌, refl, eqb, ltb, leb, length}
use Rattle.laws.specs.Pick.{pick}
use Rattle.laws.specs.Refusals.{first_failed}
use Rattle.laws.specs.Over.{over}
use Rattle.format.specs.Numbers.{kind_init, none, d_get, kept, sent, sent_decided, closed_now, jumped, not_above}
use Rattle.format.specs.Group.{quorum}
use Rattle.format.specs.Words.{step_of}
use Rattle.format.specs.Statement.{Statement, step}
use Rattle.format.specs.Present.{output_words, bundle_words, last_round, statement_code, main_of, certificate_of, bundle_of}
use Rattle.modules.specs.declared.Module.{Module}
use Rattle.modules.specs.Counter.{last_for, above, advanced}
use Rattle.modules.specs.Present.{module_fits}
use Rattle.station.specs.declared.Stage.{Stage}
use Rattle.station.specs.declared.Stage.TheVariants.{Gathering, Proposing, Voting}
use Rattle.station.specs.declared.Station.{Station}
use Rattle.station.specs.Machine.{State, Outcome, refused, keeps, sends, Next, own, began, undecided, shut, moved, keeping, follows, decision_at, lasting_at, closes, ended, taken, stage_of, jumps, copied_value, entered, answered}
use Rattle.station.specs.Calls.{Returned}
use Rattle.station.specs.Present.{state_of, as_station, returned, opening, give_tests, giving, on_bundle, by_module}
use Rattle.station.specs.declared.Lasting.{Lasting}

-- 20, eleven words, and a station that gathers, holds its INIT alone and names no decision
abbrev pub opened_with : (List ℕ → List ℕ → List ℕ) → Module → ℕ → ℕ → ℕ → List ℕ → Returned
opened_with mac m question proposal jump out =
    let s = own (statement_code (mac m.key)) m.station question kind_init proposal d_get 0 in
    record {
      number = sent;
      count = bundle_words 0;
      station = as_station m.n m.station (began m.n question (undecided (eqb jump 1)) Gathering s []);
      after = advanced m question 0;
      lent = over (bundle_of s []) out;
    }

pub opens : (mac : List ℕ → List ℕ → List ℕ) (m : Module) (question proposal jump : ℕ) (out : List ℕ) → leb output_words (length out) ≡ true
    → module_fits m ≡ true → ltb proposal 2 ≡ true → ltb jump 2 ≡ true → above (last_for m question) question 0 ≡ true
    → opening mac m question proposal jump out ≡ opened_with mac m question proposal jump out
unfolding Rattle.station.specs.Calls.opening Rattle.station.specs.Calls.returned first_failed pick step step_of
opens mac m question proposal jump out room fit bit setting later = rw (room, fit, bit, setting, later)

pub opened_undecided : (mac : List ℕ → List ℕ → List ℕ) (m : Module) (question proposal jump : ℕ) (out : List ℕ)
    → (opened_with mac m question proposal jump out).station.lasting.decision ≡ none
unfolding Rattle.station.specs.Words.as_station
opened_undecided mac m question proposal jump out = refl

-- a decision that is there stays
stays : (g : Stage) (old : ℕ) (h : List Statement) → ltb old none ≡ true → decision_at g old h ≡ old
unfolding pick
stays Gathering old h e = refl
stays (Proposing r f) old h e = refl
stays (Voting r) old h e = rw e

module _ (mac : List ℕ → List ℕ → List ℕ) (m : Module) (t : Station) (ws : List ℕ) (coin : ℕ) (out : List ℕ) (there : ltb t.lasting.decision none ≡ true) where
  Keeps : Outcome → Type 0
  Keeps o = (returned m t out o).station.lasting.decision ≡ t.lasting.decision

  pub first_kept : (giving mac m t ws coin out).station.lasting.decision ≡ t.lasting.decision
  unfolding Rattle.station.specs.Calls.giving Rattle.station.specs.Calls.returned taken ended Rattle.station.specs.Words.as_station Rattle.station.specs.Words.state_of pick Keeps
  first_kept = go (eqb (first_failed (give_tests mac m t ws coin out)) 0)
    where
      k : State
      k = keeping m.n (state_of t) (main_of ws) (certificate_of ws)

      l : Lasting
      l = lasting_at t.stage t.lasting k.held

      x : Next
      x = follows m.n t.stage k coin

      s : Statement
      s = own (statement_code (mac m.key)) m.station t.identity.question x.kind x.value x.flag x.round

      sent_on : (a : Bool) (number : ℕ) → Keeps (pick a (sends number s (x.first ++ x.second)
          (began m.n t.identity.question l x.stage s (x.first ++ x.second))) (refused not_above))
      sent_on true number = stays t.stage t.lasting.decision k.held there
      sent_on false number = refl

      end : (c : Bool) → Keeps (pick c (keeps closed_now (shut k l))
          (by_module mac moved m t.identity.question k x l))
      end true = stays t.stage t.lasting.decision k.held there
      end false =
          sent_on (above (last_for m t.identity.question) t.identity.question (step s)) (pick (ltb t.lasting.decision none || eqb l.decision none) sent sent_decided)

      take_in : (b : Bool) → Keeps (pick b (keeps kept k) (by_module mac ended m t.identity.question k coin))
      take_in true = refl
      take_in false = end (closes last_round t.stage)

      u : Statement
      u = own (statement_code (mac m.key)) m.station t.identity.question (main_of ws).kind (copied_value (main_of ws) coin) (main_of ws).flag (main_of ws).round

      enter : (a : Bool) → Keeps (pick a (sends jumped u (certificate_of ws)
          (began m.n t.identity.question t.lasting (stage_of (main_of ws)) u (certificate_of ws))) (refused not_above))
      enter true = refl
      enter false = refl

      jump_or_take : (j : Bool) → Keeps (pick j
          (on_bundle mac entered m t ws coin)
          (on_bundle mac taken m t ws coin))
      jump_or_take true = enter (above (last_for m t.identity.question) t.identity.question (step u))
      jump_or_take false = take_in (ltb (length k.held) (quorum m.n))

      go : (b : Bool) → Keeps (pick b (on_bundle mac answered m t ws coin)
          (refused (first_failed (give_tests mac m t ws coin out))))
      go true = jump_or_take (jumps (state_of t) (main_of ws))
      go false = refl
