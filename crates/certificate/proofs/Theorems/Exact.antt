-- The check is exact: each of its tests says what `Valid` asks.
use Rattle.std.specs.Prelude.{ℕ, suc, ◌/◌, ◌%◌, ◌^◌, Bool, ◌&&◌, List, [], ◌∷◌, ◌≡◌, leb, get_or, length}
use Rattle.std.proofs.Math.Bool.{true}
use Rattle.std.proofs.Math.Path.{refl}
use native.Mathlib.Omega.{arith}
use Rattle.std.proofs.Math.Dec.{eqb}
use borrow.Author.Tests.{eqb-true, eq-eqb, leb-true, le-leb}
use Rattle.laws.specs.Bools.{both, join}
use Rattle.laws.specs.Refusals.{all_passed, none_failed}
use Rattle.laws.specs.All.{All, all_map}
use Rattle.format.specs.Numbers.{head_mark, mark_bit, middle_bits, count_bits}
use Rattle.format.specs.Form.{Form, most_stations, head_bits, fields_at, bundle_words}
use Rattle.format.specs.Statement.{Statement, statements, verifies, well_formed, formed}
use Rattle.format.specs.Lists.{every}
use Rattle.hmac.specs.Code.{hmac_code}
use Rattle.format.specs.Bundle.{head_fits, count_in, laid_out, main_of, certificate_of, all_formed, bundle_fits}
use Rattle.format.proofs.Laws.Layout.{formed_well}
use Rattle.rules.specs.declared.Which.TheVariants.{Any}
use Rattle.certificate.specs.Check.{one_question, check_tests, check_by, judged, checked}
use Rattle.format.proofs.Laws.Shape.{formed_out}
use Rattle.rules.proofs.Theorems.Backed.{rule_backed, backed_rule}
use Rattle.certificate.specs.Valid.{IsBundle, Valid, Exact}

pub every_out : (p : Statement → Bool) (c : List Statement) → every p c ≡ true → All (λ s. p s ≡ true) c
unfolding every
every_out p [] h = tt
every_out p (s ∷ c) h = let a = both (p s) _ h in (a.0, every_out p c a.1)

pub every_in : (p : Statement → Bool) (c : List Statement) → All (λ s. p s ≡ true) c → every p c ≡ true
unfolding every
every_in p [] h = refl
every_in p (s ∷ c) h = join (p s) _ h.0 (every_in p c h.1)

module _ (form : Form) where
  pub bundle_out : (n : ℕ) (ws : List ℕ) → bundle_fits form n ws ≡ true → IsBundle form n ws
  unfolding bundle_fits laid_out
  bundle_out n ws h =
      let a = both (head_fits form (get_or ws 0 0) && eqb (length ws) (bundle_words form (count_in ws))) _ h in
      let b = both (head_fits form (get_or ws 0 0)) _ a.0 in
      let c = both (eqb (get_or ws 0 0 / 2 ^ mark_bit) head_mark && eqb (get_or ws 0 0 / 2 ^ count_bits % 2 ^ middle_bits) (head_bits form)) _ b.0 in
      let d = both (eqb (get_or ws 0 0 / 2 ^ mark_bit) head_mark) _ c.0 in
      record {
        head_kind = eqb-true _ _ d.0;
        head_middle = eqb-true _ _ d.1;
        few = leb-true _ _ c.1;
        size = eqb-true _ _ b.1;
        fields = a.1;
      }

  bundle_in : (n : ℕ) (ws : List ℕ) → IsBundle form n ws → bundle_fits form n ws ≡ true
  unfolding bundle_fits laid_out
  bundle_in n ws b =
      join (head_fits form (get_or ws 0 0) && eqb (length ws) (bundle_words form (count_in ws))) _
      (join (head_fits form (get_or ws 0 0)) _
      (join (eqb (get_or ws 0 0 / 2 ^ mark_bit) head_mark && eqb (get_or ws 0 0 / 2 ^ count_bits % 2 ^ middle_bits) (head_bits form)) _
      (join (eqb (get_or ws 0 0 / 2 ^ mark_bit) head_mark) _ (eq-eqb _ _ b.head_kind) (eq-eqb _ _ b.head_middle))
      (le-leb _ _ b.few))
      (eq-eqb _ _ b.size))
      b.fields

  main_formed : (n : ℕ) (ws : List ℕ) (k : ℕ) → all_formed form n ws 1 (suc k) ≡ true → well_formed form n (main_of form ws) ≡ true
  unfolding all_formed
  main_formed n ws k h = formed_well form n ws 1 (both (formed form n (fields_at form ws 1)) _ h).0

  module _ (code : List ℕ → List ℕ) (n : ℕ) (ws : List ℕ) where
    pub found_valid : check_by form code n Any ws ≡ 0 → Valid form code n ws
    unfolding check_by
    found_valid h =
        let t = all_passed (check_tests form code n Any ws) (omega arith, (omega arith, (omega arith, (omega arith, (omega arith, tt))))) h in
        let size = both (leb 2 n) (leb n (most_stations form)) t.0 in
        let b = bundle_out n ws t.1.0 in
        record {
          at_least = leb-true 2 n size.0;
          at_most = leb-true n (most_stations form) size.1;
          bundle = b;
          question = all_map (λ s e. eqb-true _ _ e) (certificate_of form ws) (every_out (λ s. eqb s.question (main_of form ws).question) (certificate_of form ws) (both (one_question (main_of form ws) (certificate_of form ws)) true t.1.1.0).0);
          codes = every_out (verifies form code) (statements form ws 1 (suc (count_in ws))) t.1.1.1.0;
          backed = rule_backed form n (main_of form ws) (certificate_of form ws) (formed_out form n (main_of form ws) (main_formed n ws (count_in ws) b.fields)).shape t.1.1.1.1.0;
        }

    pub valid_found : Valid form code n ws → check_by form code n Any ws ≡ 0
    unfolding check_by
    valid_found v =
        none_failed (check_tests form code n Any ws) (
          join (leb 2 n) (leb n (most_stations form)) (le-leb 2 n v.at_least) (le-leb n (most_stations form) v.at_most),
          (
            bundle_in n ws v.bundle,
            (
              join (one_question (main_of form ws) (certificate_of form ws)) true
                  (every_in (λ s. eqb s.question (main_of form ws).question) (certificate_of form ws) (all_map (λ s e. eq-eqb _ _ e) (certificate_of form ws) v.question)) refl,
              (every_in (verifies form code) (statements form ws 1 (suc (count_in ws))) v.codes, (backed_rule n (main_of form ws) (certificate_of form ws) v.backed, tt)),
            ),
          ),
        )

  -- the theorem, of the answer that the public check promises
  pub check_exact : Exact form
  unfolding checked judged
  check_exact key n ws = (found_valid (hmac_code key) n ws, valid_found (hmac_code key) n ws)
