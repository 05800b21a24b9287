-- Making, by its test.
use Prim.Native.Nat.{ℕ}
use mathlib.Core.Bool.{true, false, ◌&&◌}
use mathlib.Core.List.{List}
use mathlib.Core.Path.{◌≡◌}
use Rattle.laws.specs.Pick.{pick}
use Rattle.format.specs.Numbers.{out_of_range}
use Rattle.format.specs.Words.{of_group}
use Rattle.format.specs.Present.{size_fits}
use Rattle.modules.specs.Counter.{fresh, no_module}
use Rattle.modules.specs.Present.{making}

pub makes : (key : List ℕ) (n site : ℕ) → (size_fits n && of_group n site) ≡ true → making key n site ≡ record { number = 0; made = fresh key n site }
unfolding Rattle.modules.specs.Counter.making pick
makes key n site h = rw h

pub makes_none : (key : List ℕ) (n site : ℕ) → (size_fits n && of_group n site) ≡ false → making key n site ≡ record { number = out_of_range; made = no_module }
unfolding Rattle.modules.specs.Counter.making pick
makes_none key n site h = rw h
