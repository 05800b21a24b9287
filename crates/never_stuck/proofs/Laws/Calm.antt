-- At the votes of a round, all that the team holds is for one value or for none: the value of the agreeing coin.
use Rattle.std.specs.Prelude.{◌≡◌, refl, Bool, true, false, List, ℕ, zero, suc, ◌+◌, ◌*◌, ◌≤◌, ◌<◌, ltb, leb, length}
use Rattle.std.proofs.Common.{◌∙◌, ap, subst, arith, eq-eqb, leb-true, leb-false, ltb-true, ltb-false}
use Rattle.laws.specs.Bools.{left, right}
use Rattle.laws.specs.All.{All, all_map, all_two}
use Rattle.laws.specs.Count.{count, one_if}
use Rattle.format.specs.Form.{present_form}
use Rattle.format.specs.Numbers.{kind_p, none}
use Rattle.format.specs.Group.{quorum, most_faulty}
use Rattle.format.specs.Statement.{Statement, step}
use Rattle.format.specs.Lists.{every}
use Rattle.format.proofs.Laws.Shape.{Shape, init, proposal, vote, formed_out}
use Rattle.format.proofs.Laws.ReadBack.{Proper}
use Rattle.certificate.proofs.Theorems.Exact.{every_in}
use Rattle.station.specs.declared.Station.{Station}
use Rattle.station.specs.Machine.{State, stage_step, has_value}
use Rattle.station.proofs.Laws.Keep.{steps_p, steps_v, steps_0}
use Rattle.station.specs.Present.{state_of}
use Rattle.agreement.proofs.Maths.Log.{In, has, Supp, all_at}
use Rattle.agreement.proofs.Maths.Safe as Safe
use Rattle.agreement.proofs.Maths.Safe.{Just}
use Rattle.agreement.proofs.Maths.Just.{Coded}
use Rattle.agreement.proofs.Laws.Ground.{Ground}
use Rattle.agreement.proofs.Laws.Line.{Line, line_open, reads}
use Rattle.agreement.proofs.Laws.Run.{Inv}
use Rattle.agreement.proofs.Theorems.Theorem.{at, here, rest, rest_few, log_ok, bad_few, sound}
use Rattle.agreement.specs.Demand.{Call}
use Rattle.agreement.specs.Present.{log}
use Rattle.never_stuck.specs.Claim.{Quorate, Waits}
use Rattle.never_stuck.proofs.Laws.Spoken.{Premises}
use Rattle.never_stuck.proofs.Laws.Steps.{calm}
use Rattle.never_stuck.proofs.Laws.Heard.{sane_of}
use Rattle.never_stuck.proofs.Laws.Advance.{state_stage, state_question}
use Rattle.never_stuck.proofs.Laws.Phase.{At}
use Rattle.never_stuck.proofs.Laws.Level.{Waiting}

-- the coin that goes with a round's proposals: 1 if a quorum proposed 1, else 0
abbrev one_proposed : ℕ → List Statement → ℕ → ℕ → Bool
one_proposed n l q r = leb (quorum n) (count (has l kind_p q r 1) n)

unfoldable pub agreeing_coin : ℕ → List Statement → ℕ → ℕ → ℕ
agreeing_coin n l q r = one_if (one_proposed n l q r)

bit_of : (b : Bool) → one_if b < 2
bit_of true = omega arith
bit_of false = omega arith

pub coin_low : (n : ℕ) (l : List Statement) (q r : ℕ) → agreeing_coin n l q r < 2
unfolding agreeing_coin
coin_low n l q r = bit_of (one_proposed n l q r)

-- a justified vote is for the value that a quorum proposed, or for none: b says whether that is 1
calm_by : (n : ℕ) (l : List Statement) (q r : ℕ) (b : Bool) → (b ≡ true → Supp n l kind_p q r 1 (quorum n)) → (b ≡ false → Supp n l kind_p q r 1 (quorum n) → ⊥)
    → (Supp n l kind_p q r 0 (quorum n) → Supp n l kind_p q r 1 (quorum n) → ⊥) → (s : Statement) → Just n l s → Shape present_form s → step s ≡ 2 * r + 1 → s.question ≡ q → calm (one_if b) s ≡ true
unfolding step
calm_by n l q r b is_1 not_1 two s j (init k i c d) e f = absurd (omega (arith, steps_0 s.kind s.round k))
calm_by n l q r b is_1 not_1 two s j (proposal k i c d g) e f = absurd (omega (arith, steps_p s.kind s.round k))
calm_by n l q r b is_1 not_1 two s j (vote k i c d g) e f = by (ltb s.value 2) refl
  where
    rr : s.round ≡ r
    rr = omega (arith, steps_v s.kind s.round k)

    supp : s.value < 2 → (w : ℕ) → s.value ≡ w → Supp n l kind_p q r w (quorum n)
    supp h w v =
        subst (λ (z : ℕ). Supp n l kind_p q r z (quorum n)) v
        (subst (λ (z : ℕ). Supp n l kind_p z r s.value (quorum n)) f (subst (λ (z : ℕ). Supp n l kind_p s.question z s.value (quorum n)) rr (j.voted k h)))

    for_bit : s.value < 2 → (w : ℕ) → s.value ≡ w → (x : Bool) → b ≡ x → calm (one_if x) s ≡ true
    for_bit h zero v true y = absurd (two (supp h 0 v) (is_1 y))
    for_bit h zero v false y = left (has_value 0 s) _ (eq-eqb s.value 0 v)
    for_bit h (suc zero) v true y = left (has_value 1 s) _ (eq-eqb s.value 1 v)
    for_bit h (suc zero) v false y = absurd (not_1 y (supp h 1 v))
    for_bit h (suc (suc w)) v x y = absurd (omega arith)

    by : (x : Bool) → ltb s.value 2 ≡ x → calm (one_if b) s ≡ true
    by true h = for_bit (ltb-true s.value 2 h) s.value refl b refl
    by false h = right (has_value (one_if b) s) _ (eq-eqb s.value none (omega (arith, ltb-false s.value 2 h, d)))

calm_one : (n : ℕ) (l : List Statement) (q r : ℕ) → (Supp n l kind_p q r 0 (quorum n) → Supp n l kind_p q r 1 (quorum n) → ⊥) → (s : Statement) → Just n l s → Shape present_form s → step s ≡ 2 * r + 1
    → s.question ≡ q → calm (agreeing_coin n l q r) s ≡ true
unfolding agreeing_coin
calm_one n l q r two s j h e f = calm_by n l q r (one_proposed n l q r) (leb-true (quorum n) (count (has l kind_p q r 1) n)) (λ y z. omega (arith, leb-false (quorum n) (count (has l kind_p q r 1) n) y)) two s j h e f

module _ (G : Ground present_form) (q : ℕ) (team : ℕ → Bool) (floor : ℕ) (enough : Quorate G.n team) (r : ℕ) (cs : List Call) (P : Premises G cs) where
  open G use {mac, key, n, low}

  abbrev l : List Statement
  l = reads present_form (log mac key n cs)

  abbrev pub coin : ℕ
  coin = agreeing_coin n (reads present_form (log mac key n cs)) q r

  pub calm_held : (jump : Bool) (y : ℕ) (o : Waiting G q team floor enough jump cs y (2 * r + 1) (2 * r + 1)) → every (calm coin) (state_of o.station).held ≡ true
  calm_held jump y o = every_in (calm coin) (state_of o.station).held held_calm
    where
      in_step : stage_step o.station.stage ≡ 2 * r + 1
      in_step = omega (arith, o.from, o.upto)

      w : Waits mac key n cs q y o.opening o.station
      w = o.waits

      faulty : List ℕ
      faulty = rest present_form G cs P.given P.few y y

      few : length faulty ≤ most_faulty n
      few = rest_few present_form G cs P.given P.few y y

      I : Inv present_form G faulty cs
      I = at present_form G cs P.given P.few y y w.sound w.sound

      -- a quorum proposes one value at most
      two : Supp n l kind_p q r 0 (quorum n) → Supp n l kind_p q r 1 (quorum n) → ⊥
      two a b =
          let e : ◌≡◌ {A = ℕ} 0 1
          = Safe.same n (sound present_form G faulty few cs I) l (bad_few present_form G faulty few cs I) low (log_ok present_form G faulty few cs I) kind_p q r 0 1 a b in
          omega arith

      took : List Statement
      took = w.presents.line.took

      L : Line present_form n l y o.station took
      L = subst (λ (z : Station). Line present_form n l y z took) w.presents.now (here present_form G cs P.given P.few y o.opening w.presents.line w.sound w.presents.is)

      u : State
      u = state_of o.station

      asked : u.question ≡ q
      asked = state_question o.station ∙ w.asked

      held_calm : All (λ s. calm coin s ≡ true) u.held
      held_calm =
          let S = sane_of G cs P q y o.opening o.station w in
          all_map (λ s x. calm_one n l q r two s (all_at (λ s. Coded n l s × Just n l s) took L.standing.facts s x.1.0).1 (formed_out present_form n s x.0.formed).shape
          (x.1.1.1 ∙ ap stage_step (state_stage o.station) ∙ in_step) (x.1.1.0 ∙ asked)) u.held
          (all_two (Proper present_form n) (λ s. In s took × ((s.question ≡ u.question) × (step s ≡ stage_step u.stage))) u.held S.proper
          (all_two (λ s. In s took) (λ s. (s.question ≡ u.question) × (step s ≡ stage_step u.stage)) u.held (line_open present_form n l y o.station took L w.still_open).among S.alike))

  pub calmed : (jump : Bool) (y : ℕ) → Waiting G q team floor enough jump cs y (2 * r + 1) (2 * r + 1) → At G q team floor enough cs y (2 * r + 1) (calm coin)
  calmed jump y o = record { opening = o.opening; station = o.station; waits = o.waits; in_step = omega (arith, o.from, o.upto); held_ok = calm_held jump y o }
