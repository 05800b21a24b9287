-- The numbers of document 01 as computed rows beside its words: the table of returns, with Job 3's 23, and those of the layout; one theorem over all of it.
-- (The largest n, the longest bundle and the last round, in each form: `first_sizes` and `wide_sizes` in Form.)
use Rattle.std.specs.Prelude.{ℕ, List, [], ◌∷◌, ◌++◌, ◌≡◌, refl}
use Rattle.laws.specs.All.{All}
use Rattle.format.specs.Numbers.{kind_init, kind_p, kind_v, none, d_get, r_get, least_stations, code_words, valid, kept, sent, sent_decided, closed_now, jumped, short_output, out_of_range, malformed, other_question, wrong_code, no_certificate, too_late, too_early, already_held, conflicting, station_closed, not_above}
use Rattle.format.specs.Form.{first_form, most_statements, place_of, bundle_words}

-- a definition, and the number that the document says
pub record Numeral : Type 0 where
  pub named : ℕ
  pub says : ℕ

infixl 70 ◌is◌
abbrev pub ◌is◌ : ℕ → ℕ → Numeral
named is says = record { named = named; says = says }

-- "Table of returns"
abbrev pub returns : List Numeral
returns =
    -- "also valid, coded, or module made"
    valid is 0
    -- "kept, step not ended"
    ∷ kept is 0
    -- "sent: bundle written, its word count with it"
    ∷ sent is 20
    -- "sent, and first decided in this call"
    ∷ sent_decided is 21
    -- "closed in this call; a decision may have been made"
    ∷ closed_now is 22
    -- Job 3: "a valid bundle of a later step makes the station enter that step and return 23"
    ∷ jumped is 23
    -- "lent output below 331 words"
    ∷ short_output is 1
    -- "n, station number, proposal or coin out of range; a station whose n or number isn't the given module's, or whose stage, set and held statements
    -- don't fit one another"
    ∷ out_of_range is 2
    -- "words, kinds, fields or lengths not as above, a station over n included; or the wrong way to code"
    ∷ malformed is 3
    -- "a question differs from the main statement's, or that from the station's"
    ∷ other_question is 4
    -- "a code that doesn't verify, or a statement of another station to code"
    ∷ wrong_code is 5
    -- "certificate not as rules 1 to 7"
    ∷ no_certificate is 6
    -- "step below the station's"
    ∷ too_late is 7
    -- "step above it"
    ∷ too_early is 8
    -- "that station is held in this step"
    ∷ already_held is 9
    -- "the held and the new would have votes for both 0 and 1, or, in a round over 1, D-GET of both values"
    ∷ conflicting is 10
    -- "station closed"
    ∷ station_closed is 11
    -- "the pair isn't above the module's last"
    ∷ not_above is 12
    ∷ []

-- "Group and thresholds" and "Words"
abbrev pub layout : List Numeral
layout =
    -- "kind (0 INIT, 1 P, 2 V; 3 never)"
    kind_init is 0
    ∷ kind_p is 1
    ∷ kind_v is 2
    -- "value (0, 1, or 2 = none)"
    ∷ none is 2
    -- "flag (0 D-GET, taken from votes; 1 R-GET, from the coin)"
    ∷ d_get is 0
    ∷ r_get is 1
    -- "A group has n stations, 2 to 31"
    ∷ least_stations is 2
    -- "Words 2 to 9: the code"
    ∷ code_words is 8
    -- "the count of certificate statements, 0 to 32"
    ∷ most_statements first_form is 32
    -- "It has 1 + 10 × (1 + count) words": without a certificate, and with one statement in it
    ∷ bundle_words first_form 0 is 11
    ∷ bundle_words first_form 1 is 21
    -- "a head word …, one main statement, then the certificate": where these begin
    ∷ place_of first_form 0 is 1
    ∷ place_of first_form 1 is 11
    ∷ []

-- every definition is the number that the document says
pub tables_hold : All (λ r. r.named ≡ r.says) (returns ++ layout)
tables_hold =
    (refl, (refl, (refl, (refl, (refl, (refl, (refl, (refl, (refl, (refl, (refl, (refl, (refl, (refl, (refl, (refl, (refl, (refl, (refl, (refl, (refl, (refl, (refl, (refl, (refl, (refl, (refl, (refl, (refl, (refl, (refl, tt)))))))))))))))))))))))))))))))
