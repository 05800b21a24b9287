-- No rule looks at the main statement's station, question or code, nor rule 4 at its value: a certificate that backs a statement backs another of the same
-- kind, flag, round and value too, and of an R-GET proposal one with any value.
use Rattle.std.specs.Prelude.{ℕ, List, ◌≡◌}
use Rattle.std.proofs.Common.{sym, ◌∙◌, arith}
use Rattle.format.specs.Numbers.{kind_p, kind_v, d_get, r_get}
use Rattle.format.specs.Statement.{Statement}
use Rattle.rules.specs.Rules.{Backed, rule_1, rule_2, rule_3, rule_4, rule_5, rule_6, rule_7}

module _ (n : ℕ) (m s : Statement) (kind : s.kind ≡ m.kind) (flag : s.flag ≡ m.flag) (round : s.round ≡ m.round)
    (value : (m.kind ≡ kind_p → m.flag ≡ r_get → ⊥) → s.value ≡ m.value) where
  -- a D-GET proposal and a vote have the value too
  given : m.flag ≡ d_get → s.value ≡ m.value
  given f = value (λ a b. omega arith)

  voted : m.kind ≡ kind_v → s.value ≡ m.value
  voted k = value (λ a b. omega arith)

  pub backed_copied : (c : List Statement) → Backed n m c → Backed n s c
  backed_copied _ (rule_1 k) = rule_1 (kind ∙ k)
  backed_copied c (rule_2 k r f h) = rule_2 {c = c} (kind ∙ k) (round ∙ r) (flag ∙ f) (rw (given f) h)
  backed_copied c (rule_3 k r f h) = rule_3 {c = c} (kind ∙ k) (omega arith) (flag ∙ f) (rw (round, given f) h)
  backed_copied c (rule_4 k r f h) = rule_4 {c = c} (kind ∙ k) (omega arith) (flag ∙ f) (rw round h)
  backed_copied _ (rule_5 {c} {d} k v h i o z) =
      let e = voted k in
      rule_5 {c = c} {d = d} (kind ∙ k) (omega arith) (rw (round, e) h) (λ a. rw e (i (sym round ∙ a)))
      (λ a. rw (round, e) (o (omega (arith, a.0), a.1))) (λ a b. z (λ y. a (round ∙ y)) (λ y. b (omega (arith, y.0), y.1)))
  backed_copied c (rule_6 k v r h b) = rule_6 {c = c} (kind ∙ k) (voted k ∙ v) (round ∙ r) h b
  backed_copied _ (rule_7 {c} {d} k v r h b o) = rule_7 {c = c} {d = d} (kind ∙ k) (voted k ∙ v) (omega arith) (rw round h) b (rw round o)
