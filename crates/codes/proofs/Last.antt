-- The last block as the code fills it, and that it is the padded message.
use mathlib.Core.Path.{◌≡◌, refl, sym, ap, ◌∙◌}
use mathlib.Core.List.{List, [], ◌∷◌, ◌++◌, append_assoc}
use Prim.Native.Nat.{ℕ, zero, suc, ◌+◌, ◌-◌, ◌*◌, ◌^◌, ◌≤◌}
use native.Mathlib.Omega.{arith}
use lib.ListN.{length, drop, set, replicate, length-append, length-replicate}
use lib.Seq.{set_at}
use Rattle.laws.specs.Fill.{marked, copied}
use Rattle.compression.specs.Compression.{compressed}
use Rattle.laws.specs.Below.{Below}
use Rattle.sha256.specs.Sha256.{bytes, padding}
use Rattle.sha256.proofs.Laws.Chain.{one_block}
use Rattle.sha256.proofs.Laws.Words.{read_back, length_bytes, short_padding, length_padding}
use Rattle.hmac.specs.Hmac.{closed}

-- the words of the last block
abbrev pub last : List ℕ → List ℕ
last ws = ws ++ (2 ^ 31 ∷ (replicate (14 - length ws) 0 ++ ((64 + length ws * 4) * 8 ∷ [])))

-- k zeros and one more behind them
one_more : (k : ℕ) → replicate {A = ℕ} (suc k) 0 ≡ replicate k 0 ++ (0 ∷ [])
one_more zero = refl
one_more (suc k) = ap (λ (l : List ℕ). 0 ∷ l) (one_more k)

pub filled : (ws b : List ℕ) (v : ℕ) → length ws ≤ 13 → b ≡ ws → v ≡ (64 + length ws * 4) * 8 → set (set (b ++ drop (length ws) (replicate 16 0)) (length ws) (2 ^ 31)) 15 v ≡ last ws
filled ws b v h b_is v_is =
    let n : ℕ = length ws in
    let m : set (b ++ drop n (replicate 16 0)) n (2 ^ 31) ≡ ws ++ (2 ^ 31 ∷ replicate (16 - 1 - n) 0)
    = marked 16 ws (b ++ drop n (replicate 16 0)) n n (2 ^ 31) refl (omega arith) (omega arith) (omega arith) (copied 16 ws b n b_is refl) in
    let e : 16 - 1 - n ≡ suc (14 - n) = omega arith in
    let l : length (ws ++ (2 ^ 31 ∷ replicate {A = ℕ} (14 - n) 0)) ≡ 15 = simp (length-append, length-replicate) (omega arith) in
    let f : ws ++ (2 ^ 31 ∷ (replicate (14 - n) 0 ++ (0 ∷ []))) ≡ ws ++ (2 ^ 31 ∷ replicate (14 - n) 0) ++ (0 ∷ [])
    = sym (append_assoc ws (2 ^ 31 ∷ replicate (14 - n) 0) (0 ∷ [])) in
    rw (m, e, one_more, f, v_is)
    (set_at (ws ++ (2 ^ 31 ∷ replicate (14 - n) 0)) 0 [] ((64 + n * 4) * 8) 15 l
    ∙ append_assoc ws (2 ^ 31 ∷ replicate (14 - n) 0) ((64 + n * 4) * 8 ∷ []))

pub closed_block : (s ws : List ℕ) → Below ws → length ws ≤ 13 → closed s ws ≡ compressed s (last ws)
unfolding closed
closed_block s ws below h =
    let n : length (bytes ws ++ padding (64 + length ws * 4)) ≡ 64 = simp (length-append, length_bytes, length_padding) (omega arith) in
    one_block s (bytes ws ++ padding (64 + length ws * 4)) n
    ∙ ap (compressed s) (read_back ws (padding (64 + length ws * 4)) below ∙ ap (λ (l : List ℕ). ws ++ l) (short_padding (length ws) h))
