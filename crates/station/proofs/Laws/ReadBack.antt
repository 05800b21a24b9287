-- What is written is read back: a statement, a list of statements, a station's slots and groups.
use Prim.Native.Nat.{ℕ, zero, suc, ◌+◌, ◌*◌, ◌≤◌}
use mathlib.Core.List.{List, [], ◌∷◌, ◌++◌, append_assoc}
use Rattle.std.specs.Prelude.{◌≡◌, length, drop}
use Rattle.std.proofs.Math.Path.{refl, sym, ap}
use Rattle.std.proofs.Common.{◌∙◌, drop_at, drop-drop}
use native.Mathlib.Omega.{arith}
use Rattle.std.proofs.Math.ListN.{length-append}
use Rattle.std.proofs.Math.Nat.{zero-add}
use Rattle.laws.specs.All.{All}
use Rattle.format.specs.Form.{Form, most_stations, statement_words}
use Rattle.format.specs.Statement.{Statement, statement, statements, written}
use Rattle.format.proofs.Laws.ReadBack.{Proper, length_written, statement_drop, statement_back}
use Rattle.format.specs.Bundle.{all_written}

module _ (form : Form) where
  -- a list of statements
  pub length_all : (n : ℕ) (c : List Statement) → All (Proper form n) c → length (all_written form c) ≡ length c * statement_words form
  unfolding all_written
  length_all n [] h = omega arith
  length_all n (s ∷ c) h =
      length-append (written form s) (all_written form c) ∙ omega (arith, length_written form n s h.0, length_all n c h.1)

  pub statements_drop : (ws : List ℕ) (at k : ℕ) → statements form ws at k ≡ statements form (drop at ws) 0 k
  unfolding statements
  statements_drop ws at zero = refl
  statements_drop ws at (suc k) =
      let r : statements form ws (at + statement_words form) k ≡ statements form (drop at ws) (0 + statement_words form) k
      = statements_drop ws (at + statement_words form) k ∙ ap (λ (l : List ℕ). statements form l 0 k) (sym (rw zero-add (drop-drop (statement_words form) at ws))) ∙ sym (statements_drop (drop at ws) (0 + statement_words form) k) in
      λ i. statement_drop form ws at i ∷ r i

  pub statements_back : (n : ℕ) (c : List Statement) (rest : List ℕ) → n ≤ most_stations form → All (Proper form n) c → statements form (all_written form c ++ rest) 0 (length c) ≡ c
  unfolding statements all_written
  statements_back n [] rest top h = refl
  statements_back n (s ∷ c) rest top h =
      let a : written form s ++ all_written form c ++ rest ≡ written form s ++ (all_written form c ++ rest) = append_assoc (written form s) (all_written form c) rest in
      let one : statement form (written form s ++ all_written form c ++ rest) 0 ≡ s
      = ap (λ (l : List ℕ). statement form l 0) a ∙ statement_back form n s (all_written form c ++ rest) top h.0 in
      let more : statements form (written form s ++ all_written form c ++ rest) (0 + statement_words form) (length c) ≡ c
      = statements_drop (written form s ++ all_written form c ++ rest) (0 + statement_words form) (length c)
      ∙ ap (λ (l : List ℕ). statements form l 0 (length c)) (ap (drop (0 + statement_words form)) a ∙ rw zero-add (drop_at (written form s) (all_written form c ++ rest) (statement_words form) (length_written form n s h.0)))
      ∙ statements_back n c rest top h.1 in
      λ i. one i ∷ more i
