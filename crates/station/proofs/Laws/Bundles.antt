-- A bundle that is written of a proper statement and a certificate that backs it is valid.
use Rattle.std.specs.Prelude.{ℕ, suc, ◌+◌, ◌*◌, ◌^◌, ◌≤◌, Bool, true, false, ◌≡◌, refl, eqb, ltb, length, drop}
use mathlib.Core.List.{List, [], ◌∷◌, ◌++◌, append-nil}
use Rattle.std.proofs.Math.Path.{sym, ap, subst}
use Rattle.std.proofs.Common.{◌∙◌, arith, length-append, drop_at, eqb-true, ltb-true, ltb-false}
use Rattle.std.proofs.lemmas.Bool.{eqb-false}
use Rattle.laws.specs.Bools.{never, join}
use Rattle.laws.specs.All.{All, all_map}
use Rattle.format.specs.Form.{Form, most_stations, most_statements, head_bits, fields_at, statement_words, bundle_words}
use Rattle.format.proofs.Form.{count_fits, head_in_bits, groups_fit}
use Rattle.format.specs.Numbers.{least_stations, head_mark, mark_bit, count_bits}
use Rattle.format.proofs.Laws.Group.{backing_most}
use Rattle.format.specs.Statement.{Statement, statements, written, verifies, formed}
use Rattle.format.specs.Bundle.{count_in, main_of, certificate_of, all_formed, all_written, bundle_of}
use Rattle.rules.specs.Rules.{Backed, rule_1, rule_2, rule_3, rule_4, rule_5, rule_6, rule_7, some_d_get}
use Rattle.certificate.specs.Valid.{IsBundle, Valid}
use Rattle.station.proofs.Laws.ReadBack.{statements_drop, statements_back, length_all}
use Rattle.format.proofs.Laws.ReadBack.{Proper, statement_drop, statement_back, length_written, formed_drop, formed_back_on}
use Rattle.station.proofs.Laws.Sane.{all_formed_drop, all_formed_back}

module _ (form : Form) where
  module _ (n : ℕ) (s : Statement) (c : List Statement) (top : n ≤ most_stations form) (p : Proper form n s) (a : All (Proper form n) c) (few : length c ≤ most_statements form) where
    abbrev ws : List ℕ
    ws = (head_mark * 2 ^ mark_bit + head_bits form * 2 ^ count_bits + length c) ∷ (written form s ++ all_written form c)

    count_is : count_in ws ≡ length c
    count_is = omega (arith, count_fits form)

    pub main_is : main_of form ws ≡ s
    main_is = statement_drop form ws 1 ∙ statement_back form n s (all_written form c) top p

    behind : drop (1 + statement_words form) ws ≡ all_written form c
    behind =
        let e : 1 + statement_words form ≡ suc (statement_words form) = omega arith in
        ap (λ (k : ℕ). drop k ws) e ∙ drop_at (written form s) (all_written form c) (statement_words form) (length_written form n s p)

    pub certificate_is : certificate_of form ws ≡ c
    certificate_is =
        ap (statements form ws (1 + statement_words form)) count_is ∙ statements_drop form ws (1 + statement_words form) (length c)
        ∙ ap (λ (l : List ℕ). statements form l 0 (length c)) (behind ∙ sym (append-nil (all_written form c))) ∙ statements_back form n c [] top a

    pub ws_length : length ws ≡ bundle_words form (length c)
    ws_length = ap suc (length-append (written form s) (all_written form c)) ∙ omega (arith, length_written form n s p, length_all form n c a)

    pub all_in : statements form ws 1 (suc (count_in ws)) ≡ s ∷ c
    unfolding statements
    all_in = λ i. main_is i ∷ certificate_is i

    formed_in_words : all_formed form n ws 1 (suc (count_in ws)) ≡ true
    unfolding all_formed
    formed_in_words =
        join (formed form n (fields_at form ws 1)) _ (formed_drop form n ws 1 ∙ formed_back_on form n s (all_written form c) top p.formed)
        (ap (all_formed form n ws (1 + statement_words form)) count_is ∙ all_formed_drop form n ws (1 + statement_words form) (length c)
        ∙ ap (λ (l : List ℕ). all_formed form n l 0 (length c)) (behind ∙ sym (append-nil (all_written form c))) ∙ all_formed_back form n c [] top a)

    pub bundle_there : IsBundle form n ws
    bundle_there =
        record {
          head_kind = omega (arith, count_fits form, head_in_bits form);
          head_middle = omega (arith, count_fits form, head_in_bits form);
          few = omega (arith, count_is);
          size = ws_length ∙ ap (bundle_words form) (sym count_is);
          fields = formed_in_words;
        }

    pub bundle_valid : (code : List ℕ → List ℕ) → least_stations ≤ n → All (λ x. x.question ≡ s.question) c → verifies form code s ≡ true → All (λ x. verifies form code x ≡ true) c → Backed n s c
        → Valid form code n (bundle_of form s c)
    unfolding bundle_of
    bundle_valid code low q v vs b =
        record {
          at_least = low;
          at_most = top;
          bundle = bundle_there;
          question = subst (λ (l : List Statement). All (λ x. x.question ≡ (main_of form ws).question) l) (sym certificate_is) (all_map (λ x e. e ∙ ap (λ (y : Statement). y.question) (sym main_is)) c q);
          codes = subst (λ (l : List Statement). All (λ x. verifies form code x ≡ true) l) (sym all_in) (v, vs);
          backed = subst (λ (l : List Statement). Backed n (main_of form ws) l) (sym certificate_is) (subst (λ (y : Statement). Backed n y c) (sym main_is) b);
        }

  -- a certificate has no more statements than the form allows
  pub backed_few : (n : ℕ) (m : Statement) (c : List Statement) → n ≤ most_stations form → Backed n m c → length c ≤ most_statements form
  backed_few n m c top (rule_1 k) = omega (arith, groups_fit form n top)
  backed_few n m c top (rule_2 k r f h) = omega (arith, groups_fit form n top, h.size, backing_most n m.value)
  backed_few n m c top (rule_3 k r f h) = omega (arith, groups_fit form n top, h.size)
  backed_few n m c top (rule_4 k r f h) = omega (arith, groups_fit form n top, h.size)
  backed_few n m _ top (rule_5 {c} {d} k v h i s o) = go (eqb m.round 1) refl (ltb 1 m.round) refl (some_d_get c) refl
    where
      go : (w : Bool) → eqb m.round 1 ≡ w → (x : Bool) → ltb 1 m.round ≡ x → (y : Bool) → some_d_get c ≡ y → length (c ++ d) ≤ most_statements form
      go true e x p y q = omega (arith, groups_fit form n top, length-append c d, h.size, (i (eqb-true m.round 1 e)).size, backing_most n m.value)
      go false e true p true q = omega (arith, groups_fit form n top, length-append c d, h.size, (s (ltb-true 1 m.round p, q)).size)
      go false e true p false q =
          let z : d ≡ [] = o (eqb-false m.round 1 e) (λ w. never (some_d_get c) q w.1) in
          omega (arith, groups_fit form n top, length-append c d, h.size, ap length z)
      go false e false p y q =
          let z : d ≡ [] = o (eqb-false m.round 1 e) (λ w. omega (arith, ltb-false 1 m.round p, w.0)) in
          omega (arith, groups_fit form n top, length-append c d, h.size, ap length z)
  backed_few n m c top (rule_6 k v r h b) = omega (arith, groups_fit form n top, h.size)
  backed_few n m _ top (rule_7 {c} {d} k v r h b s) = omega (arith, groups_fit form n top, length-append c d, h.size, s.size)
