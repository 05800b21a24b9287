-- What a call takes stands in the piece, and what it prints stands in the lent bytes: the bounds that a caller needs.
use Rattle.std.specs.Prelude.{◌≡◌, ℕ, ◌+◌, ◌-◌, ◌<◌, ◌≤◌, Bool, true, false, List, [], ◌∷◌, length, take, drop, ◌==◌, nat_lt}
use Rattle.std.proofs.Common.{sym, ap, ◌∙◌, subst, arith, length-append, length-drop, length-take-le}
use Rattle.std.proofs.lemmas.List.{take_rest}
use Rattle.laws.specs.Pick.{pick}
use Rattle.laws.specs.Over.{over}
use Rattle.valley_lines.specs.Read.{newline}
use Rattle.valley_console.specs.declared.Run.{Run}
use Rattle.valley_world.specs.Valley.{missing}
use Rattle.valley_console.specs.Pieces.{Takes, prints, one_more, lengthened, line_turn, line_done, taking, finishing}

-- at least one byte of a piece is taken, and none behind its end; the count is of lent bytes
pub record Bounds (piece : List ℕ) (t : Takes) : Type 0 where
  pub some : 0 < length piece → 0 < t.used
  pub within : t.used ≤ length piece
  pub lent : t.count ≤ length t.lent

fits : (printed out : List ℕ) → length printed ≤ length (over printed out)
fits printed out = omega (arith, length-append printed (drop (length printed) out))

pub bounds : (piece : List ℕ) (r : Run) (out : List ℕ) → Bounds piece (taking r piece out)
unfolding taking pick
bounds [] r out = record { some = λ h. absurd (omega (arith, h)); within = omega arith; lent = fits [] out }
bounds (b ∷ piece) r out = go (b == newline) (bounds piece (lengthened r b) out)
  where
    go : (t : Bool) → Bounds piece (taking (lengthened r b) piece out) → Bounds (b ∷ piece) (pick t (prints 1 (line_turn r).printed (line_done r) out) (one_more (taking (lengthened r b) piece out)))
    go true ih = record { some = λ h. omega arith; within = omega arith; lent = fits (line_turn r).printed out }
    go false ih = record { some = λ h. omega arith; within = omega (arith, ih.within); lent = ih.lent }

-- the same of what a call says that it took, of what is left of a piece behind its first bytes
pub rest_taken : (piece out : List ℕ) (r : Run) (before used : ℕ) → before < length piece → used ≡ (taking r (take (length piece - before) (drop before piece)) out).used → (before < before + used) × (before + used ≤ length piece)
rest_taken piece out r before used h e =
    let l : length (take (length piece - before) (drop before piece)) ≡ length piece - before =
    length-take-le (length piece - before) (drop before piece) (omega (arith, length-drop before piece)) in
    let b = bounds (take (length piece - before) (drop before piece)) r out in
    let some : 0 < (taking r (take (length piece - before) (drop before piece)) out).used = b.some (omega (arith, h, l)) in
    let within : (taking r (take (length piece - before) (drop before piece)) out).used ≤ length (take (length piece - before) (drop before piece)) = b.within in
    (omega (arith, some, e), omega (arith, h, l, e, within))

-- the same of a whole piece, with no bytes before it
pub piece_taken : (piece out : List ℕ) (r : Run) (used : ℕ) → used ≡ (taking r piece out).used → (0 < length piece → 0 < used) × (used ≤ length piece)
piece_taken [] out r used e = let b = bounds [] r out in (λ h. absurd (omega (arith, h)), omega (arith, e, b.within))
piece_taken (x ∷ piece) out r used e =
    let all : take (length (x ∷ piece) - 0) (drop 0 (x ∷ piece)) ≡ x ∷ piece = take_rest {X = ℕ} (x ∷ piece) 0 in
    let p = rest_taken (x ∷ piece) out r 0 used (omega arith) (e ∙ ap (λ (k : List ℕ). (taking r k out).used) (sym all)) in
    (λ h. omega (arith, p.0), omega (arith, p.1))

end_lent : (r : Run) (out : List ℕ) → (finishing r out).count ≤ length (finishing r out).lent
unfolding finishing pick
end_lent r out = go (nat_lt 0 r.held)
  where
    go : (t : Bool) → (pick t (prints 0 (line_turn r).printed (line_done r) out) (prints 0 (missing r.phase r.number) r out)).count ≤ length (pick t (prints 0 (line_turn r).printed (line_done r) out) (prints 0 (missing r.phase r.number) r out)).lent
    go true = fits (line_turn r).printed out
    go false = fits (missing r.phase r.number) out

-- what a call says it printed stands in the bytes that it leaves
pub lent_enough : (piece out : List ℕ) (r : Run) (count : ℕ) (left : List ℕ) → count ≡ (taking r piece out).count → left ≡ (taking r piece out).lent → count ≤ length left
lent_enough piece out r count left c l = subst (λ (k : ℕ). k ≤ length left) (sym c) (subst (λ (k : List ℕ). (taking r piece out).count ≤ length k) (sym l) (bounds piece r out).lent)

pub end_enough : (r : Run) (out : List ℕ) (count : ℕ) (left : List ℕ) → count ≡ (finishing r out).count → left ≡ (finishing r out).lent → count ≤ length left
end_enough r out count left c l = subst (λ (k : ℕ). k ≤ length left) (sym c) (subst (λ (k : List ℕ). (finishing r out).count ≤ length k) (sym l) (end_lent r out))
