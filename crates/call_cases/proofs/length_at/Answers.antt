-- The smaller of the two is the choice of the definition, in both cases.
use Rattle.std.proofs.Common.{◌≡◌, ℕ, ◌+◌, leb, min, inl, inr, refl, ◌∙◌, arith, slice_index}
use Rattle.std.proofs.lemmas.Bool.{lt-leb, le-leb, cases_lt}
use Rattle.laws.specs.Pick.{here, skip}
use Rattle.call_cases.specs.Registers.{shown}
use Rattle.call_cases.proofs.length_at.Goals as goal

least : (l : ℕ) → min 400 l ≡ shown l
unfolding shown
least l =
    elim (cases_lt 400 l) [
      | inl above ↦ let e : min 400 l ≡ 400 = omega arith in e ∙ skip (leb l 400) l 400 400 (lt-leb l 400 above) refl
      | inr fits ↦ let e : min 400 l ≡ l = omega arith in e ∙ here (leb l 400) l 400 (le-leb l 400 fits)
    ]

pub returns : goal.returns
returns c =
    (omega (arith, c.min.ensures), c.min.ensures ∙ least (slice_index c.args.registers.now (c.args.at + 400)))
