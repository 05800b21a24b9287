-- The definitions in the form that the functions read and write: the names that their promises cite.
use Rattle.std.specs.Prelude.{ℕ, Bool, List}
use Rattle.laws.specs.Refusals.{Test}
use Rattle.format.specs.Form.{present_form}
use Rattle.format.specs.Statement.{Statement}
use Rattle.rules.specs.declared.Group.{Group}
use Rattle.modules.specs.declared.Last.{Last}
use Rattle.modules.specs.declared.Module.{Module}
use Rattle.station.specs.declared.Identity.{Identity}
use Rattle.station.specs.declared.Lasting.{Lasting}
use Rattle.station.specs.declared.Stage.{Stage}
use Rattle.station.specs.declared.Station.{Station}
use Rattle.station.specs.Machine.{State, Outcome}
use Rattle.station.specs.Calls.{Returned}

abbrev pub held_in : ℕ → List ℕ → ℕ → ℕ → List Statement
held_in = Rattle.station.specs.Words.held_in present_form

abbrev pub sites : ℕ
sites = Rattle.station.specs.Words.sites present_form

abbrev pub slots_words : ℕ
slots_words = Rattle.station.specs.Words.slots_words present_form

abbrev pub kept_words : ℕ
kept_words = Rattle.station.specs.Words.kept_words present_form

abbrev pub Lengths : Station → Type 0
Lengths = Rattle.station.specs.Words.Lengths present_form

abbrev pub empty_station : Identity → Stage → Bool → Lasting → Station
empty_station = Rattle.station.specs.Words.empty_station present_form

abbrev pub held_by : Station → List Statement
held_by = Rattle.station.specs.Words.held_by present_form

abbrev pub state_of : Station → State
state_of = Rattle.station.specs.Words.state_of present_form

abbrev pub slot_of : List Statement → ℕ → List ℕ
slot_of = Rattle.station.specs.Words.slot_of present_form

abbrev pub slots_of : List Statement → ℕ → ℕ → List ℕ
slots_of = Rattle.station.specs.Words.slots_of present_form

abbrev pub group_words : List Statement → List ℕ
group_words = Rattle.station.specs.Words.group_words present_form

abbrev pub as_station : ℕ → ℕ → State → Station
as_station = Rattle.station.specs.Words.as_station present_form

abbrev pub slot_fits : ℕ → ℕ → ℕ → ℕ → List ℕ → Bool
slot_fits = Rattle.station.specs.Fit.slot_fits present_form

abbrev pub slots_fit : ℕ → ℕ → ℕ → ℕ → List ℕ → ℕ → ℕ → Bool
slots_fit = Rattle.station.specs.Fit.slots_fit present_form

abbrev pub stage_fits : Stage → ℕ → Bool
stage_fits = Rattle.station.specs.Fit.stage_fits present_form

abbrev pub group_fits : ℕ → ℕ → Group → List ℕ → Bool
group_fits = Rattle.station.specs.Fit.group_fits present_form

abbrev pub held_fits : ℕ → ℕ → Station → Bool
held_fits = Rattle.station.specs.Fit.held_fits present_form

abbrev pub rest_fits : ℕ → ℕ → Station → Bool
rest_fits = Rattle.station.specs.Fit.rest_fits present_form

abbrev pub fits : ℕ → ℕ → Station → Bool
fits = Rattle.station.specs.Fit.fits present_form

abbrev pub returned : Module → Station → List ℕ → Outcome → Returned
returned = Rattle.station.specs.Calls.returned present_form

abbrev pub no_station : Station
no_station = Rattle.station.specs.Calls.no_station present_form

abbrev pub station_tests : Module → Station → ℕ → List ℕ → List Test
station_tests = Rattle.station.specs.Calls.station_tests present_form

abbrev pub by_module : (List ℕ → List ℕ → List ℕ) → {A : Type 0} → ((Statement → List ℕ) → ℕ → ℕ → ℕ → Last → A) → Module → ℕ → A
by_module mac = Rattle.station.specs.Calls.by_module present_form mac

abbrev pub on_bundle : (List ℕ → List ℕ → List ℕ) → ((Statement → List ℕ) → ℕ → ℕ → ℕ → Last → State → Statement → List Statement → ℕ → Outcome) → Module → Station → List ℕ → ℕ → Outcome
on_bundle = Rattle.station.specs.Calls.on_bundle present_form

abbrev pub open_tests : (List ℕ → List ℕ → List ℕ) → Module → ℕ → ℕ → List ℕ → List Test
open_tests = Rattle.station.specs.Calls.open_tests present_form

abbrev pub opening_outcome : (List ℕ → List ℕ → List ℕ) → Module → ℕ → ℕ → ℕ → List ℕ → Outcome
opening_outcome = Rattle.station.specs.Calls.opening_outcome present_form

abbrev pub opening : (List ℕ → List ℕ → List ℕ) → Module → ℕ → ℕ → ℕ → List ℕ → Returned
opening = Rattle.station.specs.Calls.opening present_form

abbrev pub give_tests : (List ℕ → List ℕ → List ℕ) → Module → Station → List ℕ → ℕ → List ℕ → List Test
give_tests = Rattle.station.specs.Calls.give_tests present_form

abbrev pub giving_outcome : (List ℕ → List ℕ → List ℕ) → Module → Station → List ℕ → ℕ → List ℕ → Outcome
giving_outcome = Rattle.station.specs.Calls.giving_outcome present_form

abbrev pub giving : (List ℕ → List ℕ → List ℕ) → Module → Station → List ℕ → ℕ → List ℕ → Returned
giving = Rattle.station.specs.Calls.giving present_form

abbrev pub Reached : (List ℕ → List ℕ → List ℕ) → List ℕ → ℕ → ℕ → Station → Type 0
Reached = Rattle.station.specs.Demand.Reached present_form

abbrev pub ValidToAll : (List ℕ → List ℕ → List ℕ) → List ℕ → ℕ → List ℕ → Type 0
ValidToAll = Rattle.station.specs.Demand.ValidToAll present_form

abbrev pub BySeal : (List ℕ → List ℕ → List ℕ) → Module → ℕ → Returned → Type 0
BySeal = Rattle.station.specs.Demand.BySeal present_form

abbrev pub CoinEffect : (List ℕ → List ℕ → List ℕ) → Module → Station → List ℕ → List ℕ → Type 0
CoinEffect = Rattle.station.specs.Demand.CoinEffect present_form

abbrev pub Demand2 : (List ℕ → List ℕ → List ℕ) → Type 0
Demand2 = Rattle.station.specs.Demand.Demand2 present_form
