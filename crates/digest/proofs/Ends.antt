-- What the calls of `finish` ensure, put together: the rest of the message with the padding makes one last block or two.
use mathlib.Core.Path.{◌≡◌, refl, ◌∙◌}
use mathlib.Core.List.{List, ◌∷◌, ◌++◌}
use Prim.Native.Nat.{ℕ, ◌+◌, ◌-◌, ◌*◌, ◌/◌, ◌%◌, ◌≤◌, ◌<◌}
use native.Mathlib.Omega.{arith}
use lib.ListN.{length, take, drop, replicate, length-drop}
use Rattle.sha256.specs.Sha256.{big64, padding, blocks, hashed}
use Rattle.sha256.proofs.Laws.Chain.{finished}
use Rattle.digest.proofs.Tail.{padded}

pub ended : (st s h b c t r : List ℕ) (done at : ℕ) → done % 64 ≡ 0 → length s % 64 < at → at ≤ 120 → (119 - length s % 64) % 64 ≡ at - 1 - length s % 64
    → h ≡ blocks (length s / 64) st s
    → b ≡ drop (length s - length s % 64) s ++ (128 ∷ replicate (127 - (length s - (length s - length s % 64))) 0)
    → c ≡ take at b ++ (big64 ((done + length s) * 8) ++ drop (at + 8) b)
    → t ≡ take (at + 8) c → r ≡ blocks (length t / 64) h t
    → r ≡ hashed st (s ++ padding (done + length s))
ended st s h b c t r done at even p q zeros h_is b_is c_is t_is r_is =
    let d : List ℕ = drop (length s - length s % 64) s in
    let long : length (drop (length s - length s % 64) s) ≡ length s % 64 = rw length-drop (omega arith) in
    let e : length s - (length s - length s % 64) ≡ length s % 64 = omega arith in
    let rem : (done + length s) % 64 ≡ length s % 64 = omega arith in
    finished st s h d t (padding (done + length s)) r refl h_is
    (t_is ∙ padded d b c (done + length s) (length s % 64) at long p q rem zeros (rw e at b_is) c_is) r_is
