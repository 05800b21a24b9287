-- The two forms beside each other: a statement as a bundle in each, and that the head tells them apart.
use Rattle.std.specs.Prelude.{ℕ, ◌+◌, ◌*◌, ◌/◌, ◌%◌, ◌^◌, Bool, true, ◌&&◌, List, [], ◌∷◌, ◌≡◌, refl, eqb, get_or}
use Rattle.std.proofs.Common.{arith, eqb-true}
use Rattle.laws.specs.Bools.{both}
use Rattle.format.specs.Numbers.{kind_v, d_get, head_mark, mark_bit, middle_bits, count_bits}
use Rattle.format.specs.Words.{word_of}
use Rattle.format.specs.Form.{Form, first_form, wide_form, last_round, head_bits}
use Rattle.format.specs.Statement.{Statement}
use Rattle.format.specs.Bundle.{head_fits, laid_out, all_written, bundle_of}

-- station 3's vote for 1 on question 7 in a round, with the code 11 to 18
abbrev vote_in : ℕ → Statement
vote_in round =
    record { kind = kind_v; value = 1; flag = d_get; station = 3; round = round; question = 7; code = 11 ∷ 12 ∷ 13 ∷ 14 ∷ 15 ∷ 16 ∷ 17 ∷ 18 ∷ [] }

-- in the last round of each form
pub in_first_form : bundle_of first_form (vote_in (last_round first_form)) []
    ≡ (3 * 2 ^ 30) ∷ (2 * 2 ^ 30 + 1 * 2 ^ 28 + 3 * 2 ^ 16 + 65535) ∷ 7 ∷ 11 ∷ 12 ∷ 13 ∷ 14 ∷ 15 ∷ 16 ∷ 17 ∷ 18 ∷ []
unfolding bundle_of all_written word_of
in_first_form = refl

pub in_wide_form : bundle_of wide_form (vote_in (last_round wide_form)) []
    ≡ (3 * 2 ^ 30 + 2 ^ 28) ∷ (2 * 2 ^ 30 + 1 * 2 ^ 28 + 3 * 2 ^ 16) ∷ 7 ∷ 4294967295 ∷ 11 ∷ 12 ∷ 13 ∷ 14 ∷ 15 ∷ 16 ∷ 17 ∷ 18 ∷ []
unfolding bundle_of all_written word_of
in_wide_form = refl

-- ---- the head
-- bits 29..16 of the head of a bundle
middle : (form : Form) (ws : List ℕ) → laid_out form ws ≡ true → get_or ws 0 0 / 2 ^ count_bits % 2 ^ middle_bits ≡ head_bits form
unfolding laid_out
middle form ws h =
    let top : Bool = eqb (get_or ws 0 0 / 2 ^ mark_bit) head_mark in
    eqb-true _ _ (both top _ (both (top && eqb (get_or ws 0 0 / 2 ^ count_bits % 2 ^ middle_bits) (head_bits form)) _ (both (head_fits form (get_or ws 0 0)) _ h).0).0).1

-- no words are a bundle in both: "Errors: 3 for ten-word bundles" (Job 10 of document 02), and the other way about
pub forms_apart : (ws : List ℕ) → laid_out first_form ws ≡ true → laid_out wide_form ws ≡ true → ⊥
forms_apart ws h k = omega (arith, middle first_form ws h, middle wide_form ws k)
