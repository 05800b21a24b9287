-- One turn of a loop of rounds is one step of `rounds`.
use Rattle.std.proofs.Common.{◌≡◌, ℕ, suc, ◌+◌, ◌<◌, ◌≤◌, List, ◌∷◌, length, get_or, drop, sym, refl, ◌∙◌, add-one, drop_of_length-le, drop-cons}
use Rattle.compression.specs.Compression.{rounds}
use Rattle.compression.specs.Steps.{stepped, listed, onward}
use Rattle.compression.specs.declared.Working.{Working}

one : (ks ws : List ℕ) (k w : ℕ) (v : Working) → onward (k ∷ ks) (w ∷ ws) v ≡ onward ks ws (stepped v k w)
unfolding onward rounds
one ks ws k w v = refl

-- a turn, with what its call ensures
pub turn : (ks ws r : List ℕ) (i w : ℕ) (v v' : Working) → i < length ks → i < length ws → w ≡ get_or ws i 0 → v' ≡ stepped v (get_or ks i 0) w
    → onward (drop i ks) (drop i ws) v ≡ r → onward (drop (i + 1) ks) (drop (i + 1) ws) v' ≡ r
turn ks ws r i w v v' p q w_is v_is inv =
    rw (v_is, w_is, add-one)
    (sym (one (drop (suc i) ks) (drop (suc i) ws) (get_or ks i 0) (get_or ws i 0) v) ∙ rw (drop-cons ks i 0, drop-cons ws i 0) at inv)

-- behind the last constant
pub last : (ks ws : List ℕ) (i : ℕ) (v : Working) → length ks ≤ i → onward (drop i ks) (drop i ws) v ≡ listed v
unfolding onward rounds
last ks ws i v p = rw (drop_of_length-le ks p)
