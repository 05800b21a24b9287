-- The vocabulary of the coding functions' contracts: an answer, part by part, and the words that are lent back.
use Rattle.std.specs.Prelude.{ℕ, List, ◌≡◌, Result, Ok, Err}
use Rattle.format.specs.declared.Refusal.{Refusal}
use Rattle.modules.specs.declared.Module.{Module}
use Rattle.sealed.specs.Sealed.{Coded}

-- the returned number, the module and the lent words are those of a defined answer
pub record Answered (x : Coded) (number : ℕ) (after : Module) (lent : List ℕ) : Type 0 where
  pub number_is : number ≡ x.number
  pub after_is : after ≡ x.after
  pub lent_is : lent ≡ x.lent

-- the module after the call: at a refusal the one that was given
abbrev pub after_in : Module → Result Module Refusal → Module
after_in m (Ok a) = a
after_in m (Err r) = m
