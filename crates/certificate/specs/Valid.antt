-- Demand 2: "a message is found valid exactly if a rule backs it", stated. `check_exact` in Exact proves it.
use Rattle.std.specs.Prelude.{ℕ, suc, ◌/◌, ◌%◌, ◌^◌, ◌≤◌, true, List, ◌≡◌, get_or, length}
use Rattle.laws.specs.All.{All}
use Rattle.format.specs.Form.{Form, most_stations, most_statements, head_bits, bundle_words}
use Rattle.format.specs.Numbers.{least_stations, head_mark, mark_bit, count_bits, middle_bits}
use Rattle.format.specs.Statement.{statements, verifies}
use Rattle.hmac.specs.Code.{hmac_code}
use Rattle.format.specs.Bundle.{count_in, main_of, certificate_of, all_formed}
use Rattle.rules.specs.Rules.{Backed}
use Rattle.certificate.specs.Check.{checked}

module _ (form : Form) where
  -- "A bundle is a head word (bits 31..30 are 3, bits 29..16 zero, bits 15..0 the count of certificate statements, 0 to 32), one main statement, then
  -- the certificate. It has 1 + 10 × (1 + count) words": so in the first form; and each statement has its fields in place
  pub record IsBundle (n : ℕ) (ws : List ℕ) : Type 0 where
    pub head_kind : get_or ws 0 0 / 2 ^ mark_bit ≡ head_mark
    pub head_middle : get_or ws 0 0 / 2 ^ count_bits % 2 ^ middle_bits ≡ head_bits form
    pub few : count_in ws ≤ most_statements form
    pub size : length ws ≡ bundle_words form (count_in ws)
    pub fields : all_formed form n ws 1 (suc (count_in ws)) ≡ true

  pub record Valid (code : List ℕ → List ℕ) (n : ℕ) (ws : List ℕ) : Type 0 where
    pub at_least : least_stations ≤ n
    pub at_most : n ≤ most_stations form
    pub bundle : IsBundle n ws
    pub question : All (λ s. s.question ≡ (main_of form ws).question) (certificate_of form ws)
    pub codes : All (λ s. verifies form code s ≡ true) (statements form ws 1 (suc (count_in ws)))
    pub backed : Backed n (main_of form ws) (certificate_of form ws)

  -- the public check answers 0 exactly for a well-formed bundle of one question in a group of a fitting size, all of whose codes verify and whose main
  -- statement a rule backs by its certificate
  abbrev pub Exact : Type 0
  Exact = (key : List ℕ) (n : ℕ) (ws : List ℕ) → (checked form key n ws ≡ 0 → Valid (hmac_code key) n ws) × (Valid (hmac_code key) n ws → checked form key n ws ≡ 0)
