-- The walk gives every bundle the answer that the check gives it: `walk_exact`.
use Rattle.std.specs.Prelude.{ℕ, suc, Bool, not, ◌&&◌, ◌||◌, List, [], ◌∷◌, ◌≡◌, eqb}
use Rattle.std.proofs.Math.Bool.{true, false}
use Rattle.std.proofs.Math.Path.{refl}
use Rattle.std.proofs.Common.{sym, ap, ◌∙◌}
use Rattle.laws.specs.Pick.{pick}
use Rattle.laws.specs.Refusals.{first_failed}
use Rattle.format.specs.Statement.{Statement}
use Rattle.format.specs.Lists.{some, every}
use Rattle.format.specs.Bundle.{count_in}
use Rattle.format.specs.Present.{place_of, size_fits, statements, verifies, laid_out, all_formed, bundle_fits, main_of, certificate_of}
use Rattle.rules.specs.declared.Which.{Which}
use Rattle.rules.specs.Rules.{which}
use Rattle.rules.specs.Test.{rule}
use Rattle.walk.specs.declared.Findings.{Findings}
use Rattle.walk.specs.Walk.{findings, answer, walk}
use Rattle.walk.proofs.Theorems.WalkFinds.{Found, number_found, walk_finds}
use Rattle.certificate.specs.Check.{question_fits}
use Rattle.certificate.specs.Present.{all_verify, bundle_tests, check_by}

-- some statement fails a test exactly if not every one passes it
some_not : (p : Statement → Bool) (c : List Statement) → some (λ s. not (p s)) c ≡ not (every p c)
unfolding some every
some_not p [] = refl
some_not p (s ∷ c) = go (p s) (some_not p c)
  where
    go : (b : Bool) → some (λ s. not (p s)) c ≡ not (every p c) → (not b || some (λ s. not (p s)) c) ≡ not (b && every p c)
    go true e = e
    go false e = refl

either_not : (w a : Bool) → (not w || not a) ≡ not (a && w)
either_not true true = refl
either_not true false = refl
either_not false true = refl
either_not false false = refl

module _ (code : List ℕ → List ℕ) (n : ℕ) (asked : Which) (ws : List ℕ) where
  -- findings that come to what `Found` says are number-found as the check answers
  module _ (r : Findings) (found : Found code n asked ws r) where
    other : all_formed n ws (place_of 0) (suc (count_in ws)) ≡ true → r.other ≡ not (question_fits asked (main_of ws) (certificate_of ws))
    other h =
        let p : Statement → Bool = λ s. eqb s.question (main_of ws).question in
        let w : Bool = which asked (main_of ws).question in
        found.other h ∙ ap (λ (x : Bool). not w || x) (some_not p (certificate_of ws)) ∙ either_not w (every p (certificate_of ws))

    wrong : all_formed n ws (place_of 0) (suc (count_in ws)) ≡ true → question_fits asked (main_of ws) (certificate_of ws) ≡ true
        → r.wrong ≡ not (all_verify code (statements ws (place_of 0) (suc (count_in ws))))
    wrong h q = found.wrong h (other h ∙ ap not q) ∙ some_not (verifies code) (statements ws 1 (suc (count_in ws)))

    laid : laid_out ws ≡ true → bundle_fits n ws ≡ all_formed n ws (place_of 0) (suc (count_in ws))
    unfolding Rattle.format.specs.Bundle.bundle_fits
    laid l = rw l

    check_is : size_fits n ≡ true → check_by code n asked ws ≡ first_failed (bundle_tests code n asked ws)
    unfolding Rattle.certificate.specs.Check.check_by first_failed pick
    check_is a = rw a

    found_exact : size_fits n ≡ true → laid_out ws ≡ true → answer r ≡ check_by code n asked ws
    found_exact a l =
        let e : bundle_fits n ws ≡ all_formed n ws 1 (suc (count_in ws)) = laid l in
        number_found r (bundle_fits n ws) (question_fits asked (main_of ws) (certificate_of ws)) (all_verify code (statements ws 1 (suc (count_in ws)))) (rule n (main_of ws) (certificate_of ws))
        (found.malformed ∙ ap not (sym e))
        (λ h. other (sym e ∙ h))
        (λ h q. wrong (sym e ∙ h) q)
        (λ h q v. found.unbacked (sym e ∙ h) (other (sym e ∙ h) ∙ ap not q) (wrong (sym e ∙ h) q ∙ ap not v))
        ∙ sym (check_is a)

  walk_is : size_fits n ≡ true → laid_out ws ≡ true → walk code n asked ws ≡ answer (findings code n asked ws)
  unfolding walk pick
  walk_is a l = rw (a, l)

  -- the theorem: for every code function, n, question asked for and list of words
  pub walk_exact : walk code n asked ws ≡ check_by code n asked ws
  unfolding walk Rattle.certificate.specs.Check.check_by first_failed pick Rattle.format.specs.Bundle.bundle_fits
  walk_exact = go (size_fits n) (laid_out ws) refl refl
    where
      go : (s l : Bool) → size_fits n ≡ s → laid_out ws ≡ l → walk code n asked ws ≡ check_by code n asked ws
      go false l a b = rw a
      go true false a b = rw (a, b)
      go true true a b = walk_is a b ∙ found_exact (findings code n asked ws) (walk_finds code n asked ws) a b
