-- The words that a script is run over (docs/SCRIPT.md), in one list: the numbers of a line, the words that a call may change as they were, and behind
-- them the registers, 32 modules of 13 words, 64 stations of 640 words, 128 buffers of 400 words with their length behind them. A register is
-- named by the place where it begins.
use Rattle.std.specs.Prelude.{◌≡◌, ℕ, ◌+◌, ◌-◌, ◌≤◌, List, Result, Ok, Err, take, drop, ◌==◌, nat_le, slice_index}
use Rattle.std.specs.Result.{result_unwrap_or}
use Rattle.std.proofs.Common.{ap, ◌∙◌, arith, take-take}
use Rattle.sha256.specs.Sha256.{bytes}
use Rattle.certificate.specs.Present.{checked}
use Rattle.laws.specs.Pick.{pick}
use Rattle.hmac.specs.Code.{hmac_code}
use Rattle.format.specs.Returns.{number_in}
use Rattle.format.specs.declared.Refusal.{Refusal}
use Rattle.modules.specs.declared.Last.{Last}
use Rattle.modules.specs.declared.Module.{Module}
use Rattle.modules.specs.Counter.{Made}
use Rattle.modules.specs.Present.{making}
use Rattle.modules.specs.Returned.{made_of}
use Rattle.sealed.specs.Present.{coding_plain, coding_coin}
use Rattle.station.specs.Calls.{Returned}
use Rattle.station.specs.declared.Station.{Station}
use Rattle.station.specs.Present.{no_station, opening, giving}
use Rattle.station_words.specs.Words.{station_words, part, Reading, read_by, reading}
use Rattle.call_cases.specs.declared.Copied.{Copied}
use Rattle.call_cases.specs.declared.Named.{Named}

abbrev pub all_words : ℕ
all_words = 93836

-- a setting copies words that are there to words that are there
pub record Within (c : Copied) : Type 0 where
  pub to_is : c.to + c.count ≤ all_words
  pub from_is : c.from + c.count ≤ all_words

-- the registers that a call names are there
pub record InRange (names : Named) : Type 0 where
  pub module_is : names.module + 13 ≤ all_words
  pub station_is : names.station + station_words ≤ all_words
  pub lent_is : names.lent + 401 ≤ all_words
  pub given_is : names.given + 401 ≤ all_words

-- the key of a module, the top byte of each word first
unfoldable pub key_of : List ℕ → ℕ → List ℕ
key_of ws at = bytes (part at 8 ws)

-- words 10 to 12 of a module
abbrev pub last_in : ℕ → ℕ → ℕ → Last
last_in coded question step = record { coded = (coded == 1); question = question; step = record { 0 = step } }

-- a module
unfoldable pub module_in : List ℕ → ℕ → Module
module_in ws at =
    record {
      key = key_of ws at;
      n = slice_index ws (at + 8);
      station = slice_index ws (at + 9);
      last = last_in (slice_index ws (at + 10)) (slice_index ws (at + 11)) (slice_index ws (at + 12));
    }

-- how many words of a buffer a call sees: its length, which no setting makes larger than 400
unfoldable pub shown : ℕ → ℕ
shown l = pick (nat_le l 400) l 400

-- the words of a buffer that a call sees
unfoldable pub seen : List ℕ → ℕ → List ℕ
seen ws at = part at (shown (slice_index ws (at + 400))) ws

-- what `make M K0 .. K7 N I` answers
unfoldable pub made_by : List ℕ → ℕ
made_by ws = (making (key_of ws 1) (slice_index ws 9) (slice_index ws 10)).number

-- what `check M B` answers
unfoldable pub check_of : List ℕ → ℕ → ℕ → ℕ
check_of ws m b = checked (key_of ws m) (slice_index ws (m + 8)) (seen ws b)

-- a number and a word count are those that a call returns by its definition
pub record Counted (x : Returned) (number count : ℕ) : Type 0 where
  pub number_is : number ≡ x.number
  pub count_is : count ≡ x.count

-- what `open M S Q V J O` returns
unfoldable pub opened_by : List ℕ → Named → ℕ → ℕ → ℕ → Returned
opened_by ws names question proposal jump = opening hmac_code (module_in ws names.module) question proposal jump (seen ws names.lent)

-- what giving words returns, and `give M S B C O`
unfoldable pub given_words : List ℕ → Named → List ℕ → ℕ → Returned
given_words ws names words coin =
    giving hmac_code (module_in ws names.module) (reading (part names.station station_words ws)).station words coin (seen ws names.lent)

unfoldable pub given_by : List ℕ → Named → ℕ → Returned
given_by ws names coin = given_words ws names (seen ws names.given) coin

-- ---- for the code
-- a part of the registers that is lent
pub part_lent : (ws : List ℕ) (at count : ℕ) → take (at + count - at) (drop at ws) ≡ part at count ws
unfolding part
part_lent ws at count = let e : at + count - at ≡ count = omega arith in rw e

-- the part of a buffer that is lent
pub seen_lent : (ws : List ℕ) (at l : ℕ) → l ≡ shown (slice_index ws (at + 400)) → take (at + l - at) (drop at ws) ≡ seen ws at
unfolding seen
seen_lent ws at l e = part_lent ws at l ∙ ap (λ (k : ℕ). part at k ws) e

-- the front of a copy of a buffer
pub seen_copy : (ws copy : List ℕ) (at l : ℕ) → copy ≡ part at 400 ws → l ≡ shown (slice_index ws (at + 400)) → l ≤ 400 → take l copy ≡ seen ws at
unfolding seen part
seen_copy ws copy at l CopyIs e short = rw (CopyIs, take-take l 400 (drop at ws) short, e)

-- the number of a making
pub number_made : (r : Result Module Refusal) (x : Made) → made_of r ≡ x → number_in r ≡ x.number
number_made (Ok m) x e = ap (λ (y : Made). y.number) e
number_made (Err f) x e = ap (λ (y : Made). y.number) e

module _ (ws : List ℕ) where
  pub check_is : (key : List ℕ) (m b l r : ℕ) → key ≡ key_of ws m → l ≡ shown (slice_index ws (b + 400))
      → r ≡ checked key (slice_index ws (m + 8)) (take (b + l - b) (drop b ws)) → r ≡ check_of ws m b
  unfolding check_of
  check_is key m b l r key_is l_is r_is = r_is ∙ rw (key_is, seen_lent ws b l l_is)

  -- the numbers of both ways to code
  pub plain_number : (m b l r : ℕ) (x : Module) → x ≡ module_in ws m → l ≡ shown (slice_index ws (b + 400))
      → r ≡ (coding_plain hmac_code x (take (b + l - b) (drop b ws))).number
      → r ≡ (coding_plain hmac_code (module_in ws m) (seen ws b)).number
  plain_number m b l r x x_is l_is r_is = r_is ∙ rw (x_is, seen_lent ws b l l_is)

  pub coin_number : (m b l coin r : ℕ) (x : Module) → x ≡ module_in ws m → l ≡ shown (slice_index ws (b + 400))
      → r ≡ (coding_coin hmac_code x (take (b + l - b) (drop b ws)) coin).number
      → r ≡ (coding_coin hmac_code (module_in ws m) (seen ws b) coin).number
  coin_number m b l coin r x x_is l_is r_is = r_is ∙ rw (x_is, seen_lent ws b l l_is)

module _ (ws : List ℕ) (names : Named) (x : Module) (l number count : ℕ) (x_is : x ≡ module_in ws names.module)
    (l_is : l ≡ shown (slice_index ws (names.lent + 400))) (y : Returned) (counted : Counted y number count) where
  pub opened_is : (question proposal jump : ℕ)
      → y ≡ opening hmac_code x question proposal jump (take (names.lent + l - names.lent) (drop names.lent ws))
      → Counted (opened_by ws names question proposal jump) number count
  unfolding opened_by
  opened_is question proposal jump y_is = rw (← x_is, ← seen_lent ws names.lent l l_is, ← y_is) counted

  pub given_is : (words : List ℕ) (t : Station) (coin : ℕ) → t ≡ (reading (part names.station station_words ws)).station
      → y ≡ giving hmac_code x t words coin (take (names.lent + l - names.lent) (drop names.lent ws))
      → Counted (given_words ws names words coin) number count
  unfolding given_words
  given_is words t coin t_is y_is = rw (← x_is, ← t_is, ← seen_lent ws names.lent l l_is, ← y_is) counted

-- a station that was read, or the one that is none
pub station_or_none : (r : Result Station Refusal) (x : Reading) (none : Station) → read_by r ≡ x → none ≡ no_station → result_unwrap_or r none ≡ x.station
station_or_none (Ok t) x none e none_is = ap (λ (y : Reading). y.station) e
station_or_none (Err f) x none e none_is = none_is ∙ ap (λ (y : Reading). y.station) e

-- of a copy of the words that are given
pub given_copy : (ws : List ℕ) (names : Named) (copy : List ℕ) (k coin number count : ℕ) → copy ≡ part names.given 400 ws
    → (k ≤ 400) × (k ≡ shown (slice_index ws (names.given + 400)))
    → Counted (given_words ws names (take k copy) coin) number count → Counted (given_by ws names coin) number count
unfolding given_by
given_copy ws names copy k coin number count CopyIs k_is c = rw (← seen_copy ws copy names.given k CopyIs k_is.1 k_is.0) c
