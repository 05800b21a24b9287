-- The numbers that opening and giving return, classed in one table (document 01, "Table of returns").
use Rattle.std.specs.Prelude.{ℕ, Bool, true, false, ◌&&◌, ◌||◌, List, [], ◌∷◌, eqb}
use Rattle.format.specs.Numbers.{kept, sent, sent_decided, closed_now, jumped}

-- a number that is no refusal; whether a bundle was written with it; and whether a giving so answered took the given main statement
pub record Class : Type 0 where
  pub number : ℕ
  pub writes : Bool
  pub takes : Bool

abbrev pub classed : ℕ → Bool → Bool → Class
classed k w t = record { number = k; writes = w; takes = t }

-- "0: kept, step not ended"; "20: sent: bundle written"; "21: sent, and first decided in this call"; "22: closed in this call"; and by Job 3 of document 02
-- 23: a bundle is written, and "Only its own statement is held afterwards". Every other number is a refusal
abbrev pub classes : List Class
classes = classed kept false true ∷ classed sent true true ∷ classed sent_decided true true ∷ classed closed_now false true ∷ classed jumped true false ∷ []

-- whether the number stands there, with what a test asks
abbrev pub listed : (Class → Bool) → List Class → ℕ → Bool
listed p [] k = false
listed p (r ∷ l) k = (eqb k r.number && p r) || listed p l k

abbrev pub unrefused : ℕ → Bool
unrefused k = listed (λ r. true) classes k

abbrev pub wrote : ℕ → Bool
wrote k = listed (λ r. r.writes) classes k

abbrev pub took_given : ℕ → Bool
took_given k = listed (λ r. r.takes) classes k
