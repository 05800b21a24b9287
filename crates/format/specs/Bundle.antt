-- The words of a bundle: their layout, and how they are written.
use Rattle.std.specs.Prelude.{ℕ, zero, suc, ◌+◌, ◌*◌, ◌/◌, ◌%◌, ◌^◌, Bool, true, ◌&&◌, List, [], ◌∷◌, ◌++◌, eqb, leb, get_or, length}
use Rattle.format.specs.Numbers.{head_mark, mark_bit, middle_bits, count_bits}
use Rattle.format.specs.Form.{Form, most_statements, head_bits, fields_at, statement_words, bundle_words}
use Rattle.format.specs.Statement.{Statement, formed, statement, statements, written}

abbrev pub count_in : List ℕ → ℕ
count_in ws = get_or ws 0 0 % 2 ^ count_bits

module _ (form : Form) where
  -- the head in a form: bits 29..16 are as it says, zero in the first
  abbrev pub head_fits : ℕ → Bool
  head_fits h = eqb (h / 2 ^ mark_bit) head_mark && eqb (h / 2 ^ count_bits % 2 ^ middle_bits) (head_bits form) && leb (h % 2 ^ count_bits) (most_statements form)

  -- "It has 1 + 10 × (1 + count) words, at most 331.": so in the first form
  unfoldable pub laid_out : List ℕ → Bool
  laid_out ws = head_fits (get_or ws 0 0) && eqb (length ws) (bundle_words form (count_in ws))

  abbrev pub main_of : List ℕ → Statement
  main_of ws = statement form ws 1  -- "one main statement, then the certificate"

  abbrev pub certificate_of : List ℕ → List Statement
  certificate_of ws = statements form ws (1 + statement_words form) (count_in ws)

  -- k statements from a place on, each with its fields in place
  unfoldable pub all_formed : ℕ → List ℕ → ℕ → ℕ → Bool
  all_formed n ws at zero = true
  all_formed n ws at (suc k) = formed form n (fields_at form ws at) && all_formed n ws (at + statement_words form) k

  unfoldable pub bundle_fits : ℕ → List ℕ → Bool
  bundle_fits n ws = laid_out ws && all_formed n ws 1 (suc (count_in ws))  -- the words are a bundle, and its statements are well-formed

  -- ---- writing
  -- statements, one behind the other
  unfoldable pub all_written : List Statement → List ℕ
  all_written [] = []
  all_written (s ∷ c) = written form s ++ all_written c

  -- "a head word, one main statement, then the certificate"
  unfoldable pub bundle_of : Statement → List Statement → List ℕ
  bundle_of s c = (head_mark * 2 ^ mark_bit + head_bits form * 2 ^ count_bits + length c) ∷ (written form s ++ all_written c)
