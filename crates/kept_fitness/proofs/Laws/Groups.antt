-- One turn of each loop over the statements of a group, which stand from the first word on.
use Rattle.std.specs.Prelude.{ℕ, ◌+◌, ◌-◌, ◌*◌, ◌<◌, ◌≤◌, Bool, true, false, not, refl, ◌&&◌, List, ◌≡◌, eqb, ltb, get_or}
use Rattle.std.proofs.Common.{ap, zero-add, ◌∙◌}
use Rattle.laws.specs.Pick.{pick}
use Rattle.format.specs.declared.Fields.{Fields}
use Rattle.format.specs.Words.{fields_of}
use Rattle.format.specs.Statement.{Statement}
use Rattle.format.specs.Lists.{every}
use Rattle.format.specs.Present.{statement_words, formed, statements, all_formed}
use Rattle.rules.specs.declared.Group.{Group}
use Rattle.rules.specs.Rules.{wanted}
use Rattle.rules.specs.Test.{in_order, holds}
use Rattle.kept_fitness.proofs.Laws.Turns.{parts_start, order_turn, order_end, holds_start, every_turn, every_end, formed_start, formed_turn, formed_end}

module _ (ws : List ℕ) (size : ℕ) where
  abbrev pub rest : ℕ → List Statement
  rest i = statements ws (i * statement_words) (size - i)

  pub order_start : (g : Group) → size ≡ g.size → holds g (statements ws 0 size) ≡ in_order g 0 (rest 0)
  order_start g e = rw (zero-add (0 * statement_words)) at (holds_start g ws 0 size e)

  pub order_next : (g : Group) (last i : ℕ) (f : Fields) → i < size → f ≡ fields_of (get_or ws (i * statement_words) 0)
      → in_order g last (rest i)
      ≡ pick (not (wanted g f.kind f.value f.flag f.round.0 && ltb last f.station)) false (in_order g f.station (rest (i + 1)))
  order_next g last i f h e =
      let z : f ≡ fields_of (get_or ws (0 + i * statement_words) 0) = rw zero-add e in
      rw (zero-add (i * statement_words), zero-add ((i + 1) * statement_words)) at (order_turn g last ws 0 size i f h z)

  pub formed_first : (n : ℕ) → all_formed n ws 0 size ≡ all_formed n ws (0 * statement_words) (size - 0)
  formed_first n = rw (zero-add (0 * statement_words)) at (formed_start n ws 0 size)

  pub formed_next : (n i : ℕ) → i < size
      → all_formed n ws (i * statement_words) (size - i) ≡ pick (not (formed n (fields_of (get_or ws (i * statement_words) 0)))) false (all_formed n ws ((i + 1) * statement_words) (size - (i + 1)))
  formed_next n i h = rw (zero-add (i * statement_words), zero-add ((i + 1) * statement_words)) at (formed_turn n ws 0 size i h)

  module _ (question : ℕ) where
    abbrev pub asked : List Statement → Bool
    asked c = every (λ s. eqb s.question question) c

    pub asked_start : asked (statements ws 0 size) ≡ asked (rest 0)
    asked_start = rw (zero-add (0 * statement_words)) at (ap asked (parts_start ws 0 size))

    pub asked_next : (i : ℕ) → i < size → asked (rest i) ≡ pick (not (eqb (get_or ws (i * statement_words + 1) 0) question)) false (asked (rest (i + 1)))
    asked_next i h = rw (zero-add (i * statement_words), zero-add ((i + 1) * statement_words)) at (every_turn (λ s. eqb s.question question) ws 0 size i h)

-- ---- the three tests in one loop
-- what three tests find that each start with one statement, where the first is tested by all three at once
joined : (x y z a b c : Bool) → (pick (not x) false a && pick (not y) false b && pick (not z) false c) ≡ pick (not (x && y && z)) false (a && b && c)
unfolding pick
joined false y z a b c = refl
joined true false z true b c = refl
joined true false z false b c = refl
joined true true false true true c = refl
joined true true false true false c = refl
joined true true false false b c = refl
joined true true true a b c = refl

module _ (ws : List ℕ) (size : ℕ) (g : Group) (n question : ℕ) where
  -- the statements from the i-th on, above a last station
  abbrev pub fit_from : ℕ → ℕ → Bool
  fit_from last i = in_order g last (rest ws size i) && all_formed n ws (i * statement_words) (size - i) && asked ws size question (rest ws size i)

  pub fit_start : size ≡ g.size → (holds g (statements ws 0 size) && all_formed n ws 0 size && asked ws size question (statements ws 0 size)) ≡ fit_from 0 0
  fit_start e = λ j. order_start ws size g e j && formed_first ws size n j && asked_start ws size question j

  fit_next : (last i : ℕ) (f : Fields) → i < size → f ≡ fields_of (get_or ws (i * statement_words) 0)
      → fit_from last i
      ≡ pick (not ((wanted g f.kind f.value f.flag f.round.0 && ltb last f.station) && formed n f && eqb (get_or ws (i * statement_words + 1) 0) question)) false
      (fit_from f.station (i + 1))
  fit_next last i f h e =
      let formed_so : all_formed n ws (i * statement_words) (size - i) ≡ pick (not (formed n f)) false (all_formed n ws ((i + 1) * statement_words) (size - (i + 1)))
      = rw e (formed_next ws size n i h) in
      (λ j. order_next ws size g last i f h e j && formed_so j && asked_next ws size question i h j)
      ∙ joined (wanted g f.kind f.value f.flag f.round.0 && ltb last f.station) (formed n f) (eqb (get_or ws (i * statement_words + 1) 0) question) _ _ _

  -- a turn, of whose statement the fields were read and two of the tests made
  module _ (last i : ℕ) (f : Fields) (a b : Bool) (h : i < size) (e : f ≡ fields_of (get_or ws (i * statement_words) 0))
      (p : a ≡ wanted g f.kind f.value f.flag f.round.0) (q : b ≡ formed n f) where
    abbrev pub passes : Bool
    passes = (a && ltb last f.station) && b && eqb (get_or ws (i * statement_words + 1) 0) question

    turn : fit_from last i ≡ pick (not passes) false (fit_from f.station (i + 1))
    turn = rw (p, q) (fit_next last i f h e)

    pub fit_fails : passes ≡ false → fit_from last i ≡ false
    unfolding pick
    fit_fails t = turn ∙ ap (λ (x : Bool). pick (not x) false (fit_from f.station (i + 1))) t

    pub fit_goes_on : passes ≡ true → fit_from last i ≡ fit_from f.station (i + 1)
    unfolding pick
    fit_goes_on t = turn ∙ ap (λ (x : Bool). pick (not x) false (fit_from f.station (i + 1))) t

  pub fit_end : (last i : ℕ) → size ≤ i → true ≡ fit_from last i
  fit_end last i h =
      λ j. order_end g last ws (i * statement_words) size i h j && formed_end n ws (i * statement_words) size i h j
      && every_end (λ s. eqb s.question question) ws (i * statement_words) size i h j
