-- What the walk has found at its end, over the whole bundle: `walk_finds`; and which number follows: `number_found`.
use Rattle.std.specs.Prelude.{ℕ, suc, ◌||◌, List, [], ◌∷◌, ◌≡◌}
use Rattle.std.proofs.Math.Bool.{Bool, true, false, not}
use Rattle.std.proofs.Math.Path.{refl, ap}
use Rattle.std.proofs.Common.{sym, ◌∙◌}
use Rattle.std.proofs.Math.Dec.{eqb}
use Rattle.laws.specs.Pick.{pick}
use Rattle.laws.specs.Refusals.{test, first_failed}
use Rattle.format.specs.Numbers.{malformed, other_question, wrong_code, no_certificate}
use Rattle.format.specs.Lists.{some}
use Rattle.format.specs.Bundle.{count_in}
use Rattle.format.specs.Present.{place_of, statements, verifies, all_formed, main_of, certificate_of}
use Rattle.rules.specs.declared.Which.{Which}
use Rattle.rules.specs.Rules.{which}
use Rattle.rules.specs.Test.{rule}
use Rattle.walk.specs.declared.Findings.{Findings}
use Rattle.walk.specs.Walk.{findings, answer}
use Rattle.walk.proofs.Theorems.WalkParts.{all_parts, parts, found_3, findings_are, end_other, end_wrong, end_unbacked}

-- 3 is found exactly if the fields of a statement are not in place. Else 4 is found exactly if the main statement is not of the question asked for or another
-- is not of the main statement's, 5, where 4 is not, exactly if a code does not verify, and 6, where neither is, exactly if the certificate is not as the rules ask
pub record Found (code : List ℕ → List ℕ) (n : ℕ) (asked : Which) (ws : List ℕ) (r : Findings) : Type 0 where
  pub malformed : r.malformed ≡ not (all_formed n ws (place_of 0) (suc (count_in ws)))
  pub other : all_formed n ws (place_of 0) (suc (count_in ws)) ≡ true
      → r.other ≡ (not (which asked (main_of ws).question) || some (λ s. not (eqb s.question (main_of ws).question)) (certificate_of ws))
  pub wrong : all_formed n ws (place_of 0) (suc (count_in ws)) ≡ true → r.other ≡ false
      → r.wrong ≡ some (λ s. not (verifies code s)) (statements ws (place_of 0) (suc (count_in ws)))
  pub unbacked : all_formed n ws (place_of 0) (suc (count_in ws)) ≡ true → r.other ≡ false → r.wrong ≡ false → r.unbacked ≡ not (rule n (main_of ws) (certificate_of ws))

-- the number, from what is found of each test
pub number_found : (r : Findings) (a b c d : Bool) → r.malformed ≡ not a → (a ≡ true → r.other ≡ not b) → (a ≡ true → b ≡ true → r.wrong ≡ not c)
    → (a ≡ true → b ≡ true → c ≡ true → r.unbacked ≡ not d)
    → answer r ≡ first_failed (test a malformed ∷ test b other_question ∷ test c wrong_code ∷ test d no_certificate ∷ [])
unfolding answer first_failed pick
number_found r false b c d p q s t = rw p
number_found r true false c d p q s t = rw (p, q refl)
number_found r true true false d p q s t = rw (p, q refl, s refl refl)
number_found r true true true false p q s t = rw (p, q refl, s refl refl, t refl refl refl)
number_found r true true true true p q s t = rw (p, q refl, s refl refl, t refl refl refl)

module _ (code : List ℕ → List ℕ) (n : ℕ) (asked : Which) (ws : List ℕ) where
  -- the theorem: for every code function, n, question asked for and list of words
  pub walk_finds : Found code n asked ws (findings code n asked ws)
  walk_finds =
      rw (findings_are code n asked ws)
      (record {
        malformed = found_3 code n asked ws ∙ ap not (sym (all_parts code n asked ws));
        other = λ h. let p = parts code n asked ws h in end_other code n asked ws p.0 p.1 p.2;
        wrong = λ h q. let p = parts code n asked ws h in end_wrong code n asked ws p.0 p.1 p.2 q;
        unbacked = λ h q v. let p = parts code n asked ws h in end_unbacked code n asked ws p.0 p.1 p.2 q v;
      })
