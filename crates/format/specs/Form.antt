-- The forms of the words, and all that differs between them, a clause a form. The first is document 01's: ten words a statement, the round in word 0.
-- The wide one is Job 10's of document 02: eleven words, the round a word of its own; until Job 11 its groups are as large as the first form's.
use Rattle.std.specs.Prelude.{ℕ, ◌+◌, ◌*◌, ◌^◌, Bool, ◌&&◌, List, ◌∷◌, ◌≡◌, leb, get_or}
use Rattle.format.specs.declared.Fields.{Fields}
use Rattle.format.specs.Numbers.{least_stations, code_words, count_bits}
use Rattle.format.specs.Words.{round_of, fields_of, wide_fields}

pub data Form : Type 0 where
  first_form : Form
  wide_form : Form

abbrev pub present_form : Form
present_form = first_form  -- the form that the functions read and write

-- ---- what a form decides: document 01's sentence, then Job 10's
-- "A group has n stations, 2 to 31"; Job 10 says nothing of it
abbrev pub most_stations : Form → ℕ
most_stations first_form = 31
most_stations wide_form = 31

-- "round 1 to 65,535"; "from 1 to 4,294,967,295 for P and V"
abbrev pub last_round : Form → ℕ
last_round first_form = 65535
last_round wide_form = 4294967295

-- "the count of certificate statements, 0 to 32"; Job 10 says nothing of it
abbrev pub most_statements : Form → ℕ
most_statements first_form = 32
most_statements wide_form = 32

-- "over the 8 bytes of words 0 and 1"; "the code covers words 0 to 2 and follows them": how many words a code covers, the first of a statement
abbrev pub covered_words : Form → ℕ
covered_words first_form = 2
covered_words wide_form = 3

-- bits 29..16 of a bundle's head: "zero"; "Bit 28 of both heads is 1"
abbrev pub head_bits : Form → ℕ
head_bits first_form = 0
head_bits wide_form = 2 ^ 12

-- bits 15..0 of word 0, for a round: "Bits 15..0 round"; "bits 15..0 of word 0 are zero"
abbrev pub low_bits : Form → ℕ → ℕ
low_bits first_form round = round
low_bits wide_form round = 0

-- what stands after words 0 and 1: the given words; "the round is the new word 2", then the given words
abbrev pub with_round : Form → ℕ → List ℕ → List ℕ
with_round first_form round ws = ws
with_round wide_form round ws = round ∷ ws

-- the round of the statement that begins at a place
abbrev pub round_at : Form → List ℕ → ℕ → ℕ
round_at first_form ws at = round_of (get_or ws at 0)
round_at wide_form ws at = get_or ws (at + 2) 0

-- and its fields: kind, value, flag and station, the round wherever it stands, and all bits of word 0 that must be zero
abbrev pub fields_at : Form → List ℕ → ℕ → Fields
fields_at first_form ws at = fields_of (get_or ws at 0)
fields_at wide_form ws at = wide_fields (get_or ws at 0) (get_or ws (at + 2) 0)

-- ---- sizes that follow
-- "A group has n stations, 2 to 31, numbered 1 to n."
abbrev pub size_fits : Form → ℕ → Bool
size_fits form n = leb least_stations n && leb n (most_stations form)

-- "A statement has 10 words."; "A statement now has 11 words": those that the code covers, and the code
abbrev pub statement_words : Form → ℕ
statement_words form = covered_words form + code_words

-- "A bundle is a head word …, one main statement, then the certificate": where its statement k begins, the main statement being statement 0, at 1
abbrev pub place_of : Form → ℕ → ℕ
place_of form k = 1 + k * statement_words form

abbrev pub bundle_words : Form → ℕ → ℕ
bundle_words form count = 1 + statement_words form * (1 + count)  -- "It has 1 + 10 × (1 + count) words"

-- "lent output below 331 words"; "A bundle has at most 364 words …, which replace the limits in 1"
abbrev pub output_words : Form → ℕ
output_words form = bundle_words form (most_statements form)

-- ---- the documents' numbers: the largest n, the words that a code covers, those of a statement and of the longest bundle, a head's bits 29..16 in their
-- place, the last round
pub record Sizes (form : Form) (largest covered statement longest head last : ℕ) : Type 0 where
  pub largest_is : most_stations form ≡ largest
  pub covered_is : covered_words form ≡ covered
  pub statement_is : statement_words form ≡ statement
  pub longest_is : output_words form ≡ longest
  pub head_is : head_bits form * 2 ^ count_bits ≡ head
  pub last_is : last_round form ≡ last
