-- The digits are read one by one, and counted beforehand.
use Rattle.std.proofs.Common.{get_or, length, eqb-true, sym, ◌∙◌, ◌≡◌, true, arith}
use Rattle.valley_lines.specs.Read.{is_digit}
use Rattle.valley_lines.proofs.Laws.Words.{wrong_length, no_digit, digits_turn, value_turn, below_turn, digit_range, right}
use Rattle.valley_lines.proofs.number.Goals as goal
use Rattle.valley_lines.proofs.number.Goals.{then-is_empty-via-then-is_empty, then-is_empty-via-else-is_empty+then-word-gt5}

pub returns-then-is_empty : goal.returns-then-is_empty
returns-then-is_empty c = wrong_length c.args.word.now (λ some. elim c.then-is_empty.branch [
  | then-is_empty-via-then-is_empty w ↦ let none = eqb-true (length c.args.word.now) 0 (sym c.is_empty.ensures ∙ w.if-is_empty.true) in omega (arith, none)
  | then-is_empty-via-else-is_empty+then-word-gt5 w ↦ omega arith
])

pub returns-then-not-is_ascii_digit : goal.returns-then-not-is_ascii_digit
returns-then-not-is_ascii_digit c =
    let l = c.loop-b in
    no_digit c.args.word.now l.b-index c.loop-b-test.true (sym c.is_ascii_digit.ensures.value ∙ c.if-not-is_ascii_digit.true) l.invariant.digits

pub loop-b-preserved : goal.loop-b-preserved
loop-b-preserved c =
    let l = c.loop-b in
    let word = c.args.word.now in
    let digit : is_digit (get_or word l.b-index 0) ≡ true = sym c.is_ascii_digit.ensures.value ∙ c.if-not-is_ascii_digit.false in
    record {
      some = l.invariant.some;
      few = l.invariant.few;
      below = below_turn l.v _ l.b-index l.invariant.below (omega (arith, digit_range (get_or word l.b-index 0) digit, c.from.ensures));
      digits = sym (digits_turn word l.b-index c.loop-b-test.true digit) ∙ l.invariant.digits;
      spells = rw c.from.ensures (sym (value_turn word l.b-index l.v c.loop-b-test.true) ∙ l.invariant.spells);
    }

pub returns : goal.returns
returns c =
    let l = c.loop-b in
    right c.args.word.now l.b-index l.v c.loop-b-test.false l.invariant.some l.invariant.few l.invariant.digits l.invariant.spells
