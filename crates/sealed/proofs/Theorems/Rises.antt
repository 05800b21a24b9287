-- The module's pair rises with each coding, plain or with the coin; a refusal leaves the module as it was.
use Rattle.std.specs.Prelude.{ℕ, Bool, true, false, ◌&&◌, List, ◌∷◌, ◌≡◌, eqb}
use Rattle.std.proofs.Math.Path.{refl}
use Rattle.std.proofs.Common.{arith, eqb-true}
use Rattle.std.proofs.Math.Dec.{ltb}
use Rattle.std.proofs.lemmas.Bool.{eqb-false}
use Rattle.laws.specs.Pick.{pick}
use Rattle.laws.specs.Refusals.{test, first_failed, all_passed}
use Rattle.format.specs.Numbers.{out_of_range}
use Rattle.format.specs.Statement.{Statement, step}
use Rattle.format.specs.Present.{statement, written}
use Rattle.modules.specs.declared.Module.{Module}
use Rattle.modules.specs.Counter.{pair, advanced, last_for}
use Rattle.modules.proofs.Theorems.Above.{Above, above_out}
use Rattle.modules.specs.Present.{module_fits}
use Rattle.sealed.specs.Sealed.{Coded, by_plain, by_coin, tossed}
use Rattle.sealed.specs.Present.{signed, coding, coding_plain, coding_coin, coding_tests}

-- what a coding of a statement did: it was answered 0, the pair rose above the last, and the module's new last pair is the statement's; or it was
-- refused, and module and lent words are as they were
pub data Did (m : Module) (ws : List ℕ) (s : Statement) (x : Coded) : Type 0 where
  coded : x.number ≡ 0 → Above (last_for m s.question) s.question (step s) → last_for x.after s.question ≡ pair s.question (step s) → Did m ws s x
  refused : (x.number ≡ 0 → ⊥) → x.after ≡ m → x.lent ≡ ws → Did m ws s x

-- the statement that is coded differs from that of the words at most in its value, so that the pair that was tested is its own
did : (code : List ℕ → List ℕ) (m : Module) (ws : List ℕ) (s : Statement) (range way : Bool)
    → s.question ≡ (statement ws 0).question → step s ≡ step (statement ws 0)
    → Did m ws s (coding code m s ws (first_failed (test range out_of_range ∷ coding_tests m ws way)))
unfolding pick
did code m ws s range way same_question same_step = go (eqb tests 0) refl
  where
    tests : ℕ
    tests = first_failed (test range out_of_range ∷ coding_tests m ws way)

    go : (b : Bool) → eqb tests 0 ≡ b
        → Did m ws s (pick b (record { number = 0; after = advanced m s.question (step s); lent = written (signed code s) }) (record { number = tests; after = m; lent = ws }))
    go true e =
        let p = all_passed (test range out_of_range ∷ coding_tests m ws way) (omega arith, (omega arith, (omega arith, (omega arith, tt)))) (eqb-true _ _ e) in
        coded refl (above_out (last_for m s.question) s.question (step s) (rw (same_step, same_question) p.1.1.1.0)) refl
    go false e = refused (eqb-false _ _ e) refl refl

module _ (mac : List ℕ → List ℕ → List ℕ) (m : Module) (ws : List ℕ) where
  pub plain_rises : Did m ws (statement ws 0) (coding_plain mac m ws)
  unfolding Rattle.sealed.specs.Sealed.coding_plain
  plain_rises = did (mac m.key) m ws (statement ws 0) (module_fits m) (by_plain (statement ws 0).kind (statement ws 0).flag) refl refl

  pub coin_rises : (coin : ℕ) → Did m ws (tossed coin (statement ws 0)) (coding_coin mac m ws coin)
  unfolding Rattle.sealed.specs.Sealed.coding_coin step
  coin_rises coin = did (mac m.key) m ws (tossed coin (statement ws 0)) (module_fits m && ltb coin 2) (by_coin (statement ws 0).kind (statement ws 0).flag) refl refl
