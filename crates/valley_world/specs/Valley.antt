-- The run of the program valley: a definition from the input's bytes to the output's bytes (document 01, "The program valley").
use Rattle.std.specs.Prelude.{ℕ, suc, ◌-◌, Bool, not, ◌&&◌, List, [], ◌∷◌, ◌++◌, Option, Some, None, eqb, ltb, leb, take, get_or, set, replicate}
use Rattle.laws.specs.Pick.{pick}
use Rattle.format.specs.Numbers.{none}
use Rattle.format.specs.Present.{output_words}
use Rattle.hmac.specs.Code.{hmac_code}
use Rattle.modules.specs.declared.Module.{Module}
use Rattle.modules.specs.Counter.{no_module}
use Rattle.modules.specs.Present.{making}
use Rattle.station.specs.declared.Station.{Station}
use Rattle.station.specs.Machine.{stage_step}
use Rattle.station.specs.Calls.{Returned}
use Rattle.station.specs.Present.{no_station, opening, giving}
use Rattle.valley_lines.specs.declared.Line.{Line}
use Rattle.valley_lines.specs.declared.Line.TheVariants.{Group, Open, Give}
use Rattle.valley_lines.specs.Read.{newline, split, read_line}
use Rattle.valley_printing.specs.Print.{event_line, bad_line}
use Rattle.valley_world.specs.declared.Bundle.{Bundle}
use Rattle.valley_world.specs.declared.World.{World}
use Rattle.valley_world.specs.declared.Phase.{Phase}
use Rattle.valley_world.specs.declared.Phase.TheVariants.{First, Running, Ended}

-- "a number from 2 to 7"
abbrev pub least_n : ℕ
least_n = 2

abbrev pub most_n : ℕ
most_n = 7

-- "at most 40"
abbrev pub most_bundles : ℕ
most_bundles = 40

-- "on question 1"
abbrev pub the_question : ℕ
the_question = 1

-- valley opens with jump off
abbrev pub jump_off : ℕ
jump_off = 0

-- "The key is 32 zero bytes."
abbrev pub the_key : List ℕ
the_key = replicate 32 0

-- the words lent to each call
abbrev pub the_output : List ℕ
the_output = replicate output_words 0

-- ---- the group
unfoldable pub no_bundle : Bundle
no_bundle = record { count = 0; words = the_output }

-- the module of a station; making refuses a number over n, and its answer then is the all-zero module, which every call refuses by 1 or 2
abbrev pub made_for : ℕ → ℕ → Module
made_for n s = (making the_key n s).made

-- a group of n stations before the first event: no station is open, no bundle is written
unfoldable pub group_of : ℕ → World
group_of n =
    record {
      modules = made_for n 1 ∷ made_for n 2 ∷ made_for n 3 ∷ made_for n 4 ∷ made_for n 5 ∷ made_for n 6 ∷ made_for n 7 ∷ [];
      stations = replicate most_n no_station;
      written = 0;
      bundles = replicate most_bundles no_bundle;
    }

-- what stands at a number's place, where numbers count from 1
abbrev pub at_number : {A : Type 0} → List A → ℕ → A → A
at_number l s none_there = pick (eqb s 0) none_there (get_or l (s - 1) none_there)

abbrev pub put_number : {A : Type 0} → List A → ℕ → A → List A
put_number l s a = pick (eqb s 0) l (set l (s - 1) a)

unfoldable pub module_at : World → ℕ → Module
module_at w s = at_number w.modules s no_module

unfoldable pub station_at : World → ℕ → Station
station_at w s = at_number w.stations s no_station

-- a station not open is that of a refused opening, whose n is 0
unfoldable pub is_open : World → ℕ → Bool
is_open w s = not (eqb (station_at w s).identity.n 0)

-- "Bundles count from 1 as written"
unfoldable pub is_written : World → ℕ → Bool
is_written w k = leb 1 k && leb k w.written

unfoldable pub bundle_at : World → ℕ → List ℕ
bundle_at w k = take (at_number w.bundles k no_bundle).count (at_number w.bundles k no_bundle).words

-- ---- the events
-- "`open s v` opens station s with proposal v on question 1"
abbrev pub opens : World → ℕ → ℕ → Returned
opens w s v = opening hmac_code (module_at w s) the_question v jump_off the_output

-- "`give s k c` gives bundle k to station s with coin c"
abbrev pub gives : World → ℕ → ℕ → ℕ → Returned
gives w s k c = giving hmac_code (module_at w s) (station_at w s) (bundle_at w k) c the_output

-- a bundle is written
abbrev pub writes : Returned → Bool
writes r = ltb 0 r.count

-- the group after a call on station s: the station and the module that it returned, and its bundle, if it wrote one, behind those before
unfoldable pub after : World → ℕ → Returned → World
after w s r =
    record {
      modules = put_number w.modules s r.after;
      stations = put_number w.stations s r.station;
      written = pick (writes r) (suc w.written) w.written;
      bundles = pick (writes r) (set w.bundles w.written (record { count = r.count; words = r.lent })) w.bundles;
    }

-- an opening that is refused leaves the group as it was; one that is not writes a bundle
unfoldable pub after_opening : World → ℕ → Returned → World
after_opening w s r = pick (writes r) (after w s r) w

-- ---- what a line does: how the run goes on, and what it prints
pub record Turn : Type 0 where
  pub phase : Phase
  pub world : World
  pub printed : List ℕ

-- "prints `bad line` and its line number, and ends the run"
unfoldable pub bad : World → ℕ → Turn
bad w number = record { phase = Ended; world = w; printed = bad_line number }

-- "step after it, decision (2 = undecided); a station not open prints step 0 and decision 2"
unfoldable pub shown_step : World → ℕ → ℕ
shown_step w s = pick (is_open w s) (stage_step (station_at w s).stage) 0

unfoldable pub shown_decision : World → ℕ → ℕ
shown_decision w s = pick (is_open w s) (station_at w s).lasting.decision none

-- "Each event prints event, returned number, step after it, decision": the events count from the second line on
unfoldable pub told : World → ℕ → ℕ → ℕ → Turn
told w number s returned =
    record { phase = Running; world = w; printed = event_line (number - 1) returned (shown_step w s) (shown_decision w s) }

-- "or would make bundle 41"
abbrev pub one_too_many : World → Returned → Bool
one_too_many w r = writes r && leb most_bundles w.written

-- the event of a call on station s, after which the group is u
unfoldable pub event : World → ℕ → ℕ → Returned → World → Turn
event w number s r u = pick (one_too_many w r) (bad w number) (told u number s r.number)

unfoldable pub first_turn : World → ℕ → Option Line → Turn
first_turn w number (Some (Group n)) =
    pick (leb least_n n && leb n most_n) (record { phase = Running; world = group_of n; printed = [] }) (bad w number)
first_turn w number (Some (Open s v)) = bad w number
first_turn w number (Some (Give s k c)) = bad w number
first_turn w number None = bad w number

-- "A line that can't be read, names no opened station or written bundle": that is looked at before the coin
unfoldable pub later_turn : World → ℕ → Option Line → Turn
later_turn w number (Some (Group n)) = bad w number
later_turn w number (Some (Open s v)) = event w number s (opens w s v) (after_opening w s (opens w s v))
later_turn w number (Some (Give s k c)) =
    pick (is_open w s && is_written w k) (event w number s (gives w s k c) (after w s (gives w s k c))) (bad w number)
later_turn w number None = bad w number

-- "Its input starts with `n`"; a run that has ended prints nothing more
unfoldable pub turn : Phase → World → ℕ → Option Line → Turn
turn First w number l = first_turn w number l
turn Running w number l = later_turn w number l
turn Ended w number l = record { phase = Ended; world = w; printed = [] }

-- ---- the run
-- at the end of the input: "a missing first line counts as line 1"
unfoldable pub missing : Phase → ℕ → List ℕ
missing First number = bad_line number
missing Running number = []
missing Ended number = []

-- what is printed from the line of the given number on
unfoldable pub run_lines : Phase → World → ℕ → List (List ℕ) → List ℕ
run_lines p w number [] = missing p number
run_lines p w number (l ∷ more) =
    (turn p w number (read_line l)).printed
    ++ run_lines (turn p w number (read_line l)).phase (turn p w number (read_line l)).world (suc number) more

-- lines end in a newline, which may be missing behind the last one: behind the last newline there is a line only if bytes stand there
unfoldable pub without_end : List (List ℕ) → List (List ℕ)
without_end [] = []
without_end ([] ∷ []) = []
without_end ((b ∷ bs) ∷ []) = (b ∷ bs) ∷ []
without_end (l ∷ k ∷ more) = l ∷ without_end (k ∷ more)

unfoldable pub lines_of : List ℕ → List (List ℕ)
lines_of input = without_end (split newline input)

-- before the first line no group is there
abbrev pub no_group : World
no_group = group_of 0

-- the whole run: the bytes that are printed for the bytes of an input
unfoldable pub valley : List ℕ → List ℕ
valley input = run_lines First no_group 1 (lines_of input)
