-- What the computed lists of calls are made of. The code is a toy one, the first two covered words and zeros, so that the checker can compute it; the theorems
-- take any code of eight words. The key is empty.
use Rattle.std.specs.Prelude.{ℕ, List, [], ◌∷◌, ◌≡◌, refl, length, get_or, replicate}
use Rattle.format.specs.Numbers.{code_words}
use Rattle.format.specs.Present.{output_words, written}
use Rattle.station.specs.Demand.{message}
use Rattle.agreement.specs.Demand.{gives, Call, call}
use Rattle.agreement.proofs.Theorems.Computed.{last, present}

abbrev pub toy : List ℕ → List ℕ → List ℕ
toy key ws = get_or ws 0 0 ∷ get_or ws 1 0 ∷ 0 ∷ 0 ∷ 0 ∷ 0 ∷ 0 ∷ 0 ∷ []

pub toy_eight : (key ws : List ℕ) → length (toy key ws) ≡ code_words
toy_eight key ws = refl

abbrev pub out : List ℕ
out = replicate output_words 0

-- a statement of a station, to be coded: its code is zeros
abbrev pub to_code : (station question kind value flag round : ℕ) → List ℕ
to_code station question kind value flag round =
    written (record { kind = kind; value = value; flag = flag; station = station; round = round; question = question; code = replicate code_words 0 })

module _ (n : ℕ) where
  -- the list with one call more: a site gives words to its first station, as the last call on that station returned it
  abbrev pub give : ℕ → List ℕ → ℕ → List Call → List Call
  give i ws coin cs = call i (gives 0 (present toy [] n cs i 0) ws coin out) ∷ cs

  -- all the words that the last call of a list left in its output, and the bundle that it wrote
  abbrev pub lent : List Call → List ℕ
  lent cs = (last toy [] n cs).lent

  abbrev pub bundle : List Call → List ℕ
  bundle cs = message (last toy [] n cs)
