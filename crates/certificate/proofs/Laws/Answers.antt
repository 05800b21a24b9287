-- The answers of the check, each from what led to it: no fitting size, no layout, or the walk.
use Rattle.std.specs.Prelude.{ℕ, ◌+◌, ◌%◌, ◌^◌, Bool, true, false, not, ◌&&◌, List, ◌≡◌, refl, eqb, length, get_or}
use Rattle.std.proofs.Common.{sym, ap, ◌∙◌}
use Rattle.laws.specs.Pick.{pick}
use Rattle.laws.specs.Bools.{join}
use Rattle.laws.specs.Refusals.{first_failed}
use Rattle.format.specs.Numbers.{out_of_range, malformed, count_bits}
use Rattle.format.specs.declared.Fields.{Fields}
use Rattle.format.specs.Words.{fields_of}
use Rattle.format.specs.Bundle.{count_in}
use Rattle.format.specs.Present.{statement_words, bundle_words, place_of, size_fits, formed, statement, words_at, fields_at, head_fits, laid_out, all_formed, main_of, certificate_of}
use Rattle.rules.specs.declared.Which.{Which}
use Rattle.rules.specs.Rules.{which}
use Rattle.hmac.specs.Code.{hmac_code}
use Rattle.walk.specs.declared.Findings.{Findings}
use Rattle.certificate.specs.Check.{one_question}
use Rattle.walk.specs.Walk.{started, through, findings, answer, walk}
use Rattle.certificate.proofs.Theorems.WalkExact.{walk_exact}
use Rattle.certificate.proofs.Laws.Read.{word_0_read, word_1_read, fields_read, statement_read}
use Rattle.certificate.specs.Present.{check_by, judged}

-- the layout, by the head word
pub laid_by : (ws : List ℕ) (h : ℕ) (r : Bool) → h ≡ get_or ws 0 0 → r ≡ (head_fits h && eqb (length ws) (bundle_words (h % 2 ^ count_bits))) → laid_out ws ≡ r
unfolding Rattle.format.specs.Bundle.laid_out
laid_by ws h r e p = sym (rw (← e) p)

-- where the main statement is malformed, or not of the question asked for, no code is looked at
pub any_code : (code other : List ℕ → List ℕ) (n : ℕ) (asked : Which) (ws : List ℕ)
    → ((formed n (fields_at ws (place_of 0)) && which asked (main_of ws).question) ≡ true → code ≡ other) → check_by code n asked ws ≡ check_by other n asked ws
unfolding Rattle.certificate.specs.Check.check_by first_failed pick Rattle.format.specs.Bundle.bundle_fits Rattle.format.specs.Bundle.all_formed
any_code code other n asked ws same = go (formed n (fields_at ws (place_of 0))) (which asked (main_of ws).question) refl refl
  where
    no_right : (a b : Bool) → b ≡ false → (a && b) ≡ false
    no_right true b e = e
    no_right false b e = refl

    no_middle : (a b c : Bool) → b ≡ false → (a && (b && c)) ≡ false
    no_middle true b c e = rw e
    no_middle false b c e = refl

    go : (f b : Bool) → formed n (fields_at ws (place_of 0)) ≡ f → which asked (main_of ws).question ≡ b → check_by code n asked ws ≡ check_by other n asked ws
    go true true p e = ap (λ (c : List ℕ → List ℕ). check_by c n asked ws) (same (join _ _ p e))
    go true false p e = rw (no_right (one_question (main_of ws) (certificate_of ws)) (which asked (main_of ws).question) e)
    go false b p e = rw (no_middle (laid_out ws) (formed n (fields_at ws (place_of 0))) (all_formed n ws (1 + statement_words) (count_in ws)) p)

module _ (key : List ℕ) (n : ℕ) (asked : Which) (ws : List ℕ) where
  walk_judged : walk (hmac_code key) n asked ws ≡ judged key n asked ws
  unfolding Rattle.certificate.specs.Check.judged
  walk_judged = walk_exact (hmac_code key) n asked ws

  pub judged_size : size_fits n ≡ false → out_of_range ≡ judged key n asked ws
  unfolding walk pick
  judged_size a = rw a at walk_judged

  module _ (a : size_fits n ≡ true) where
    pub judged_layout : laid_out ws ≡ false → malformed ≡ judged key n asked ws
    unfolding walk pick
    judged_layout b = rw (a, b) at walk_judged

    module _ (b : laid_out ws ≡ true) where
      walk_is : (code : List ℕ → List ℕ)
          → answer (through code n (fields_at ws (place_of 0)) (main_of ws).question ws (count_in ws) (started code asked (not (formed n (fields_at ws (place_of 0)))) (main_of ws))) ≡ walk code n asked ws
      unfolding walk findings pick
      walk_is code = rw (a, b)

      -- the words that were read are those of the main statement
      module _ (code : List ℕ → List ℕ) (t : List ℕ) (m : Fields) (count : ℕ) (f : Findings) (x : ℕ) (good fits : Bool) (read : t ≡ words_at ws (place_of 0)) (main : m ≡ fields_of (get_or t 0 0))
          (p : good ≡ formed n m) (q : fits ≡ which asked (get_or t 1 0)) (same : (good && fits) ≡ true → code ≡ hmac_code key) (counted : count ≡ count_in ws)
          (begun : f ≡ started code asked (not (formed n (fields_at t 0))) (statement t 0)) (found : x ≡ answer (through code n m (get_or t 1 0) ws count f)) where
        fields : m ≡ fields_at ws (place_of 0)
        fields = main ∙ rw (read, word_0_read ws 1)

        first : fields_at t 0 ≡ fields_at ws (place_of 0)
        first = rw read (fields_read ws 1)

        asked_for : get_or t 1 0 ≡ (main_of ws).question
        asked_for = rw read (word_1_read ws 1)

        stated : statement t 0 ≡ main_of ws
        stated = rw read (statement_read ws 1)

        begins : f ≡ started code asked (not (formed n (fields_at ws (place_of 0)))) (main_of ws)
        begins = begun ∙ rw (stated, first)

        any : check_by code n asked ws ≡ judged key n asked ws
        unfolding Rattle.certificate.specs.Check.judged
        any =
            let known : (good && fits) ≡ (formed n (fields_at ws 1) && which asked (main_of ws).question) = rw (p, q, fields, asked_for) in
            any_code code (hmac_code key) n asked ws (λ h. same (known ∙ h))

        pub judged_walk : x ≡ judged key n asked ws
        judged_walk = found ∙ rw (begins, counted, fields, asked_for) (walk_is code) ∙ walk_exact code n asked ws ∙ any
