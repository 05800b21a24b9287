-- The numbers of document 01 that no form of the words changes: kinds, values, flags, the smallest group, the words of a code, the bits of a head, and the table of returns.
use Rattle.std.specs.Prelude.{ℕ}

-- "bits 31..30 kind (0 INIT, 1 P, 2 V; 3 never)"
abbrev pub kind_init : ℕ
kind_init = 0

abbrev pub kind_p : ℕ
kind_p = 1

abbrev pub kind_v : ℕ
kind_v = 2

abbrev pub none : ℕ
none = 2  -- "value (0, 1, or 2 = none)"

-- "flag (0 D-GET, taken from votes; 1 R-GET, from the coin)"
abbrev pub d_get : ℕ
d_get = 0

abbrev pub r_get : ℕ
r_get = 1

abbrev pub least_stations : ℕ
least_stations = 2  -- "A group has n stations, 2 to 31"

abbrev pub code_words : ℕ
code_words = 8  -- "Words 2 to 9: the code", after the covered words

abbrev pub head_mark : ℕ
head_mark = 3  -- "a head word (bits 31..30 are 3, bits 29..16 zero, bits 15..0 the count of certificate statements, 0 to 32)"

abbrev pub mark_bit : ℕ
mark_bit = 30

abbrev pub middle_bits : ℕ
middle_bits = 14

abbrev pub count_bits : ℕ
count_bits = 16

-- ---- the table of returns, by rising number, in document 01's words
-- 0: "kept, step not ended; also valid, coded, or module made"
abbrev pub kept : ℕ
kept = 0

abbrev pub valid : ℕ
valid = 0

abbrev pub short_output : ℕ
short_output = 1  -- 1: "lent output below 331 words"

-- 2: "n, station number, proposal or coin out of range; a station whose n or number isn't the given module's, or whose stage, set and held statements don't
-- fit one another"; since Job 3 of document 02 too: "a jump setting outside 0 and 1"
abbrev pub out_of_range : ℕ
out_of_range = 2

abbrev pub malformed : ℕ
malformed = 3  -- 3: "words, kinds, fields or lengths not as above, a station over n included; or the wrong way to code"

abbrev pub other_question : ℕ
other_question = 4  -- 4: "a question differs from the main statement's, or that from the station's"

abbrev pub wrong_code : ℕ
wrong_code = 5  -- 5: "a code that doesn't verify, or a statement of another station to code"

abbrev pub no_certificate : ℕ
no_certificate = 6  -- 6: "certificate not as rules 1 to 7"

abbrev pub too_late : ℕ
too_late = 7  -- 7: "step below the station's"

abbrev pub too_early : ℕ
too_early = 8  -- 8: "step above it"; since Job 3 "only with jump off"

abbrev pub already_held : ℕ
already_held = 9  -- 9: "that station is held in this step"

abbrev pub conflicting : ℕ
conflicting = 10  -- 10: "the held and the new would have votes for both 0 and 1, or, in a round over 1, D-GET of both values"

abbrev pub station_closed : ℕ
station_closed = 11  -- 11: "station closed"

abbrev pub not_above : ℕ
not_above = 12  -- 12: "the pair isn't above the module's last"

abbrev pub sent : ℕ
sent = 20  -- 20: "sent: bundle written, its word count with it"

abbrev pub sent_decided : ℕ
sent_decided = 21  -- 21: "sent, and first decided in this call"

abbrev pub closed_now : ℕ
closed_now = 22  -- 22: "closed in this call; a decision may have been made"

abbrev pub jumped : ℕ
jumped = 23  -- 23, since Job 3: "a valid bundle of a later step makes the station enter that step and return 23"
