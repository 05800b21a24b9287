-- Worked examples: printed numbers and lines.
use Rattle.std.specs.Prelude.{◌≡◌, refl, [], ◌∷◌}
use Rattle.laws.specs.Pick.{pick}
use Rattle.valley_printing.specs.Print.{decimal_in, decimal, event_line, bad_line}

pub zero_in_digits : decimal 0 ≡ 48 ∷ []
unfolding pick decimal_in decimal
zero_in_digits = refl

pub hundred_thousand : decimal 100000 ≡ 49 ∷ 48 ∷ 48 ∷ 48 ∷ 48 ∷ 48 ∷ []
unfolding pick decimal_in decimal
hundred_thousand = refl

-- `7 21 4 0`
pub decision_printed : event_line 7 21 4 0 ≡ 55 ∷ 32 ∷ 50 ∷ 49 ∷ 32 ∷ 52 ∷ 32 ∷ 48 ∷ 10 ∷ []
unfolding pick decimal_in decimal event_line
decision_printed = refl

-- `bad line 12`
pub twelfth_line : bad_line 12 ≡ 98 ∷ 97 ∷ 100 ∷ 32 ∷ 108 ∷ 105 ∷ 110 ∷ 101 ∷ 32 ∷ 49 ∷ 50 ∷ 10 ∷ []
unfolding pick decimal_in decimal bad_line
twelfth_line = refl
