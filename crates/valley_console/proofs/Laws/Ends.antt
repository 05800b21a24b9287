-- What the end of a line and of a piece returns.
use Rattle.std.specs.Prelude.{◌≡◌, ℕ, true, false, List}
use Rattle.std.proofs.Math.Path.{refl}
use Rattle.std.proofs.Common.{sym, ap, ◌∙◌, subst}
use Rattle.laws.specs.Pick.{pick}
use Rattle.valley_console.specs.declared.Run.{Run}
use Rattle.valley_console.specs.declared.Scanned.{Scanned}
use Rattle.valley_console.specs.Pieces.{Takes, prints, line_turn, line_done, taking}
use Rattle.valley_console.specs.Took.{Took, with_line}
use Rattle.valley_console.specs.Scans.{scanned}
use Rattle.valley_console.proofs.Laws.Scans.{taken_by, taking_is}

took_as : {t : Takes} {u : Takes} {used : ℕ} {count : ℕ} {run : Run} {lent : List ℕ} → t ≡ u → Took t used count run lent → Took u used count run lent
took_as {used = used} {count = count} {run = run} {lent = lent} e h = subst (λ (x : Takes). Took x used count run lent) e h

pub taken : {t : Takes} {used : ℕ} {count : ℕ} {run : Run} {lent : List ℕ} → Took t used count run lent
    → (used ≡ t.used) × (count ≡ t.count) × (run ≡ t.run) × (lent ≡ t.lent)
taken h = (h.used_is, h.count_is, h.run_is, h.lent_is)

-- ---- a piece
module _ (r next : Run) (piece before : List ℕ) (s : Scanned) (s_is : s ≡ scanned r.held r.line piece)
    (next_is : next ≡ with_line r s.held s.line) where
  whole : taken_by r s before ≡ taking r piece before
  whole = ap (λ (x : Scanned). taken_by r x before) s_is ∙ sym (taking_is piece r before)

  ended : s.ended ≡ true
      → prints s.used (line_turn (with_line r s.held s.line)).printed (line_done (with_line r s.held s.line)) before
      ≡ taken_by r s before
  unfolding taken_by pick
  ended e = rw e

  pub piece_ends_line : (used count : ℕ) (run : Run) (lent : List ℕ) → s.ended ≡ true
      → Took (prints s.used (line_turn next).printed (line_done next) before) used count run lent
      → Took (taking r piece before) used count run lent
  piece_ends_line used count run lent e h =
      took_as (ap (λ (x : Run). prints s.used (line_turn x).printed (line_done x) before) next_is ∙ ended e ∙ whole) h

  pub piece_taken : s.ended ≡ false → Took (taking r piece before) s.used 0 next before
  unfolding taken_by pick
  piece_taken e = took_as whole (rw e (record { used_is = refl; count_is = refl; run_is = next_is; lent_is = refl }))
