-- Eight words stored behind the first two of ten.
use mathlib.Core.Path.{◌≡◌, ap, ◌∙◌}
use mathlib.Core.List.{List, [], ◌∷◌, ◌++◌, append-nil}
use Prim.Native.Nat.{ℕ, ◌-◌}
use native.Mathlib.Omega.{arith}
use lib.ListN.{length, get_or, drop, length-drop}
use borrow.Rule.Slice.PartMut.{put_mid}
use Rattle.std.proofs.lemmas.List.{nil_from_length}
use Rattle.format.specs.Present.{covered_words, statement_words}

-- a code written over the eight words behind the first two
pub stored : (d code : List ℕ) → length d ≡ statement_words → put_mid covered_words (length d - covered_words) d code ≡ get_or d 0 0 ∷ get_or d 1 0 ∷ code
stored [] code long = absurd (omega arith)
stored (x ∷ []) code long = absurd (omega arith)
stored (x ∷ y ∷ d) code long =
    let k : ℕ = length (x ∷ y ∷ d) - covered_words in
    let n : drop k d ≡ [] = nil_from_length (drop k d) (length-drop k d ∙ omega arith) in
    ap (λ (l : List ℕ). x ∷ y ∷ (code ++ l)) n ∙ append-nil (x ∷ y ∷ code)
