-- Words that are zero, from a place on: the test of each word in turn is the definition.
use Rattle.std.specs.Prelude.{ℕ, zero, suc, ◌+◌, ◌≤◌, ◌<◌, Bool, ◌&&◌, List, ◌≡◌, refl, eqb, get_or, length, take, drop}
use Rattle.std.specs.List.{list_all}
use Rattle.std.proofs.Common.{ap, arith, drop-cons}
use Rattle.station.specs.Fit.{zeros}

pub zeros_all : (ws : List ℕ) (at k : ℕ) → at + k ≤ length ws → list_all (λ w. eqb w 0) (take k (drop at ws)) ≡ zeros ws at k
unfolding zeros
zeros_all ws at zero h = refl
zeros_all ws at (suc k) h =
    let l : at < length ws = omega arith in
    rw (drop-cons ws at 0) (ap (λ (b : Bool). eqb (get_or ws at 0) 0 && b) (zeros_all ws (suc at) k (omega arith)))
