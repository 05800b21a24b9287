-- One after the other, the sites of a team do something, each leaving the others as they were: then all have done it.
use Rattle.std.specs.Prelude.{◌≡◌, refl, Bool, true, false, ◌⊎◌, List, ℕ, zero, suc, ◌≤◌, eqb}
use Rattle.std.proofs.Common.{sym, ◌∙◌, ap, subst, inl, inr, arith, eqb-true}
use Rattle.std.proofs.lemmas.Bool.{eqb-false}
use Rattle.laws.specs.Bools.{never}
use Rattle.format.specs.Form.{present_form}
use Rattle.agreement.proofs.Laws.Ground.{Ground}
use Rattle.agreement.specs.Demand.{Call}
use Rattle.never_stuck.specs.Claim.{Onward, done}
use Rattle.never_stuck.proofs.Laws.Spoken.{Premises}
use Rattle.never_stuck.proofs.Laws.Advance.{Step, then_onward}

module _ (G : Ground present_form) (q : ℕ) (team : ℕ → Bool) (floor : ℕ) where
  open G use {mac, key, n}

  -- of each site of the team
  abbrev pub Team : (ℕ → Type 0) → Type 0
  Team A = (y : ℕ) → 1 ≤ y → y ≤ n → team y ≡ true → A y

  -- what is known of a site stays so where another goes on
  abbrev pub Stable : (List Call → ℕ → Type 0) → Type 0
  Stable A = (cs : List Call) (x : ℕ) (s : Step G q team floor cs x) (y : ℕ) → (y ≡ x → ⊥) → A cs y → A s.list y

  -- a list that goes on from another, behind which something is known of each site of the team
  pub record Arrived (cs : List Call) (A : List Call → ℕ → Type 0) : Type 0 where
    pub list : List Call
    pub premises : Premises G list
    pub onward : Onward mac key n q team floor cs list
    pub each : Team (A list)

  module _ (Low High : List Call → ℕ → Type 0) (low_on : Stable Low) (high_on : Stable High) where
    pub record Pushed (cs : List Call) (x : ℕ) : Type 0 where
      pub step : Step G q team floor cs x
      pub now : High step.list x

    pub record Swept (cs : List Call) (j : ℕ) : Type 0 where
      pub list : List Call
      pub premises : Premises G list
      pub onward : Onward mac key n q team floor cs list
      pub each : Team (λ y. Low list y ⊎ High list y)
      pub first : Team (λ y. y ≤ j → High list y)

    module _ (push : (cs : List Call) (x : ℕ) → Premises G cs → 1 ≤ x → x ≤ n → team x ≡ true → Team (λ y. Low cs y ⊎ High cs y) → Low cs x → Pushed cs x) where
      sweep_to : (j : ℕ) → j ≤ n → (cs : List Call) → Premises G cs → Team (λ y. Low cs y ⊎ High cs y) → Swept cs j
      sweep_to zero b cs P e = record { list = cs; premises = P; onward = done; each = e; first = λ y a c d z. absurd (omega arith) }
      sweep_to (suc j) b cs P e = go (sweep_to j (omega arith) cs P e)
        where
          go : Swept cs j → Swept cs (suc j)
          go w = by (team (suc j)) refl
            where
              -- where the site is not of the team, or has done it already, nothing is to be done
              same : (team (suc j) ≡ true → High w.list (suc j)) → Swept cs (suc j)
              same h = record { list = w.list; premises = w.premises; onward = w.onward; each = w.each; first = λ y a c d z. up_to y a c d z (eqb y (suc j)) refl }
                where
                  up_to : (y : ℕ) → 1 ≤ y → y ≤ n → team y ≡ true → y ≤ suc j → (b : Bool) → eqb y (suc j) ≡ b → High w.list y
                  up_to y a c d z true i = let e = eqb-true y (suc j) i in subst (λ (v : ℕ). High w.list v) (sym e) (h (ap team (sym e) ∙ d))
                  up_to y a c d z false i = w.first y a c d (omega (arith, eqb-false y (suc j) i))

              pushed : Pushed w.list (suc j) → Swept cs (suc j)
              pushed p =
                  record {
                    list = p.step.list;
                    premises = p.step.premises;
                    onward = then_onward G q team floor cs w.list p.step.list w.onward p.step.onward;
                    each = λ y a c d. one y (eqb y (suc j)) refl (w.each y a c d);
                    first = λ y a c d z. early y a c d z (eqb y (suc j)) refl;
                  }
                where
                  this : (y : ℕ) → eqb y (suc j) ≡ true → High p.step.list y
                  this y i = subst (λ (v : ℕ). High p.step.list v) (sym (eqb-true y (suc j) i)) p.now

                  one : (y : ℕ) (b : Bool) → eqb y (suc j) ≡ b → Low w.list y ⊎ High w.list y → Low p.step.list y ⊎ High p.step.list y
                  one y true i h = inr (this y i)
                  one y false i (inl h) = inl (low_on w.list (suc j) p.step y (eqb-false y (suc j) i) h)
                  one y false i (inr h) = inr (high_on w.list (suc j) p.step y (eqb-false y (suc j) i) h)

                  early : (y : ℕ) → 1 ≤ y → y ≤ n → team y ≡ true → y ≤ suc j → (b : Bool) → eqb y (suc j) ≡ b → High p.step.list y
                  early y a c d z true i = this y i
                  early y a c d z false i = high_on w.list (suc j) p.step y (eqb-false y (suc j) i) (w.first y a c d (omega (arith, eqb-false y (suc j) i)))

              by_case : Low w.list (suc j) ⊎ High w.list (suc j) → team (suc j) ≡ true → Swept cs (suc j)
              by_case (inl l) t = pushed (push w.list (suc j) w.premises (omega arith) b t w.each l)
              by_case (inr h) t = same (λ z. h)

              by : (b : Bool) → team (suc j) ≡ b → Swept cs (suc j)
              by true t = by_case (w.each (suc j) (omega arith) b t) t
              by false t = same (λ z. never (team (suc j)) t z)

      pub sweep : (cs : List Call) → Premises G cs → Team (λ y. Low cs y ⊎ High cs y) → Arrived cs High
      sweep cs P e =
          let w = sweep_to n (omega arith) cs P e in
          record { list = w.list; premises = w.premises; onward = w.onward; each = λ y a b c. w.first y a b c b }
