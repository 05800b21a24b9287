-- A station as words and back, without loss: what the two calls promise together.
use Rattle.std.specs.Prelude.{ℕ, ◌≤◌, true, false, List, ◌≡◌, length, take, drop}
use Rattle.std.proofs.Common.{ap, ◌∙◌, take_at, le-leb}
use Rattle.laws.specs.Pick.{pick}
use Rattle.laws.specs.Over.{over}
use Rattle.format.specs.Numbers.{malformed}
use Rattle.station.specs.declared.Station.{Station}
use Rattle.station.specs.Present.{no_station, Lengths}
use Rattle.station_words.specs.Words.{station_words, words_of, is_station, station_in, flag_fits, refusal, reading, Writing, writing}
use Rattle.station_words.proofs.Laws.Back.{words_length, written_is, station_back, words_back, read_fits}

-- reading gives back what was written, for each station that can be written
pub read_back : (t : Station) → Lengths t → flag_fits t.stage ≡ true → reading (words_of t) ≡ record { number = 0; station = t }
unfolding reading pick
read_back t L fit = rw (written_is t L fit) (λ i. record { number = 0; station = station_back t L fit i })

-- writing gives back what was read, for all words that are a station
pub write_back : (ws : List ℕ) → is_station ws ≡ true → words_of (station_in ws) ≡ ws
write_back ws is = words_back ws is

-- words that are no station are refused
pub no_station_read : (ws : List ℕ) → is_station ws ≡ false → reading ws ≡ record { number = malformed; station = no_station }
unfolding reading pick
no_station_read ws none = rw none

-- a station with a flag of 0 or 1 is written wherever 640 words are lent
pub is_written : (t : Station) (out : List ℕ) → flag_fits t.stage ≡ true → station_words ≤ length out
    → writing t out ≡ record { number = 0; count = station_words; lent = over (words_of t) out }
unfolding writing refusal pick
is_written t out fit room = rw (le-leb station_words (length out) room, fit)

-- the two calls one behind the other: what was written is read as the station that was given
pub written_read : (t : Station) (out : List ℕ) → Lengths t → flag_fits t.stage ≡ true → station_words ≤ length out
    → reading (take station_words (writing t out).lent) ≡ record { number = 0; station = t }
written_read t out L fit room =
    ap (λ (x : Writing). reading (take station_words x.lent)) (is_written t out fit room)
    ∙ ap reading (take_at (words_of t) (drop (length (words_of t)) out) station_words (words_length t L fit))
    ∙ read_back t L fit

-- and what was read is written as the words that were there
pub read_written : (ws out : List ℕ) → is_station ws ≡ true → station_words ≤ length out
    → writing (reading ws).station out ≡ record { number = 0; count = station_words; lent = over ws out }
unfolding reading pick
read_written ws out is room =
    rw is
    (is_written (station_in ws) out (read_fits ws is) room
    ∙ (λ i. record { number = 0; count = station_words; lent = over (words_back ws is i) out }))
