-- Laws of the calls on a group: the module that is there, and the part of an array that counts.
use Rattle.std.specs.Prelude.{ℕ, ◌≤◌, List, ◌≡◌, refl, length, take, Result, Ok, Err}
use Rattle.std.proofs.Common.{sym, ap, ◌∙◌, arith, length-take-le}
use Rattle.std.proofs.lemmas.List.{take_min}
use Rattle.std.proofs.Common.{min}
use Rattle.std.specs.Result.{result_unwrap_or}
use Rattle.format.specs.declared.Refusal.{Refusal}
use Rattle.modules.specs.declared.Module.{Module}
use Rattle.modules.specs.Counter.{no_module}
use Rattle.modules.specs.Returned.{made_of}
use Rattle.valley_world.specs.declared.Bundle.{Bundle}
use Rattle.valley_world.specs.declared.World.{World}
use Rattle.valley_world.specs.Valley.{no_bundle, at_number, bundle_at}

-- what is there of a making, or the all-zero module
pub made_there : (r : Result Module Refusal) → result_unwrap_or r no_module ≡ (made_of r).made
made_there (Ok m) = refl
made_there (Err r) = refl

-- ---- the part of an array that counts
module _ (l : List ℕ) (n count k : ℕ) (long : length l ≡ n) (k_is : k ≡ min count n) where
  pub part_fits : k ≤ length l
  part_fits = omega arith

  pub part_long : k ≡ length (take k l)
  part_long = sym (length-take-le k l part_fits)

  pub part_is : take k l ≡ take count l
  part_is =
      let e : k ≡ min count (length l) = k_is ∙ ap (min count) (sym long) in
      ap (λ (x : ℕ). take x l) e ∙ take_min count l

-- the words of a bundle that count
pub bundle_is : (w : World) (k m : ℕ) (b e : Bundle) → b ≡ at_number w.bundles k e → e ≡ no_bundle
    → length b.words ≡ 331 → m ≡ min b.count 331 → take m b.words ≡ bundle_at w k
unfolding bundle_at
bundle_is w k m b e b_is e_is long m_is =
    let is : b ≡ at_number w.bundles k no_bundle = b_is ∙ ap (λ (x : Bundle). at_number w.bundles k x) e_is in
    part_is b.words 331 b.count m long m_is ∙ ap (λ (x : Bundle). take x.count x.words) is
