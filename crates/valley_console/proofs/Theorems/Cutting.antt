-- Every cutting of an input into pieces gives the defined output (`every_cutting`). A host feeds each piece, and what is left of it again until
-- all of it is taken, and then ends the input; what it got printed is `valley` of the whole input.
use Rattle.std.specs.Prelude.{◌≡◌, ℕ, zero, suc, ◌+◌, ◌-◌, ◌^◌, ◌<◌, ◌≤◌, Bool, true, false, List, [], ◌∷◌, ◌++◌, length, take, drop, ◌==◌, nat_lt, refl}
use Rattle.std.proofs.Common.{append_assoc, sym, ap, ◌∙◌, subst, arith}
use Rattle.std.proofs.Math.Seq.{take-append_seam}
use Rattle.laws.specs.Pick.{pick, here, skip}
use Rattle.valley_lines.specs.Read.{newline}
use Rattle.valley_console.specs.declared.Run.{Run}
use Rattle.valley_world.specs.Valley.{missing, valley}
use Rattle.valley_console.specs.Pieces.{Takes, prints, one_more, started, lengthened, line_turn, line_done, taking, finishing}
use Rattle.valley_console.proofs.Laws.Bytes.{byte_done, byte_printed, after_bytes, bytes_printed, end_printed, no_newline, Stands, by_lines}

-- the bytes that a call printed
abbrev pub shown : Takes → List ℕ
shown t = take t.count t.lent

-- what a host has after feeding: the run, the lent bytes, and all that was printed
pub record Fed : Type 0 where
  pub run : Run
  pub lent : List ℕ
  pub printed : List ℕ

-- a call, and then what is left of the piece: as often as the piece has bytes is enough
unfoldable pub fed : ℕ → Run → List ℕ → List ℕ → Fed
fed zero r piece out = record { run = r; lent = out; printed = [] }
fed (suc times) r piece out =
    let t : Takes = taking r piece out in
    let f : Fed = fed times t.run (drop t.used piece) t.lent in
    record { run = f.run; lent = f.lent; printed = shown t ++ f.printed }

-- the pieces one after the other, and the end of the input
unfoldable pub printed_by : Run → List (List ℕ) → List ℕ → List ℕ
printed_by r [] out = shown (finishing r out)
printed_by r (piece ∷ pieces) out =
    let f : Fed = fed (length piece) r piece out in
    f.printed ++ printed_by f.run pieces f.lent

-- the input that was cut
unfoldable pub joined : List (List ℕ) → List ℕ
joined [] = []
joined (piece ∷ pieces) = piece ++ joined pieces

-- ---- a call takes bytes of the piece as the run byte by byte does
record AsBytes (r : Run) (piece : List ℕ) (t : Takes) : Type 0 where
  run_is : after_bytes r piece ≡ after_bytes t.run (drop t.used piece)
  printed_is : bytes_printed r piece ≡ shown t ++ bytes_printed t.run (drop t.used piece)
  some : length (drop t.used piece) ≤ length piece - 1

as_bytes : (piece : List ℕ) (r : Run) (out : List ℕ) → AsBytes r piece (taking r piece out)
unfolding taking after_bytes bytes_printed byte_done byte_printed pick
as_bytes [] r out = record { run_is = refl; printed_is = refl; some = omega arith }
as_bytes (b ∷ piece) r out = go (b == newline) refl (as_bytes piece (lengthened r b) out)
  where
    go : (t : Bool) → (b == newline) ≡ t → AsBytes (lengthened r b) piece (taking (lengthened r b) piece out) → AsBytes r (b ∷ piece) (taking r (b ∷ piece) out)
    go true e ih =
        subst (AsBytes r (b ∷ piece)) (here (b == newline) (prints 1 (line_turn r).printed (line_done r) out) (one_more (taking (lengthened r b) piece out)) e)
        (record {
          run_is = rw e;
          printed_is = rw (e, take-append_seam (line_turn r).printed (drop (length (line_turn r).printed) out));
          some = omega arith;
        })
    go false e ih =
        subst (AsBytes r (b ∷ piece)) (skip (b == newline) (prints 1 (line_turn r).printed (line_done r) out) (one_more (taking (lengthened r b) piece out)) (one_more (taking (lengthened r b) piece out)) e refl)
        (record {
          run_is = rw e ih.run_is;
          printed_is = rw e ih.printed_is;
          some = omega (arith, ih.some);
        })

record Through (r : Run) (piece : List ℕ) (f : Fed) : Type 0 where
  run_is : f.run ≡ after_bytes r piece
  printed_is : f.printed ≡ bytes_printed r piece

through : (times : ℕ) (r : Run) (piece out : List ℕ) → length piece ≤ times → Through r piece (fed times r piece out)
unfolding fed after_bytes bytes_printed
through zero r [] out h = record { run_is = refl; printed_is = refl }
through zero r (b ∷ piece) out h = absurd (omega (arith, h))
through (suc times) r piece out h =
    let t : Takes = taking r piece out in
    let k = as_bytes piece r out in
    let f = through times (taking r piece out).run (drop (taking r piece out).used piece) (taking r piece out).lent (omega (arith, h, k.some)) in
    record {
      run_is = f.run_is ∙ sym k.run_is;
      printed_is = ap (λ (l : List ℕ). shown (taking r piece out) ++ l) f.printed_is ∙ sym k.printed_is;
    }

-- ---- bytes one after the other
after_both : (xs ys : List ℕ) (r : Run) → after_bytes r (xs ++ ys) ≡ after_bytes (after_bytes r xs) ys
unfolding after_bytes
after_both [] ys r = refl
after_both (x ∷ xs) ys r = after_both xs ys (byte_done r x)

printed_both : (xs ys : List ℕ) (r : Run) → bytes_printed r (xs ++ ys) ≡ bytes_printed r xs ++ bytes_printed (after_bytes r xs) ys
unfolding bytes_printed after_bytes
printed_both [] ys r = refl
printed_both (x ∷ xs) ys r =
    ap (λ (l : List ℕ). byte_printed r x ++ l) (printed_both xs ys (byte_done r x))
    ∙ sym (append_assoc (byte_printed r x) (bytes_printed (byte_done r x) xs) (bytes_printed (after_bytes (byte_done r x) xs) ys))

end_shown : (r : Run) (out : List ℕ) → shown (finishing r out) ≡ end_printed r
unfolding finishing end_printed pick
end_shown r out = go (nat_lt 0 r.held)
  where
    go : (t : Bool) → shown (pick t (prints 0 (line_turn r).printed (line_done r) out) (prints 0 (missing r.phase r.number) r out)) ≡ pick t (line_turn r).printed (missing r.phase r.number)
    go true = take-append_seam (line_turn r).printed (drop (length (line_turn r).printed) out)
    go false = take-append_seam (missing r.phase r.number) (drop (length (missing r.phase r.number)) out)

by_bytes : (pieces : List (List ℕ)) (r : Run) (out : List ℕ) → printed_by r pieces out ≡ bytes_printed r (joined pieces) ++ end_printed (after_bytes r (joined pieces))
unfolding printed_by joined bytes_printed after_bytes
by_bytes [] r out = end_shown r out
by_bytes (piece ∷ pieces) r out =
    let f = through (length piece) r piece out (omega arith) in
    let e : after_bytes r (piece ++ joined pieces) ≡ after_bytes (after_bytes r piece) (joined pieces) = after_both piece (joined pieces) r in
    rw (f.run_is, f.printed_is, by_bytes pieces (after_bytes r piece) (fed (length piece) r piece out).lent, e, printed_both piece (joined pieces) r)
    (sym (append_assoc (bytes_printed r piece) (bytes_printed (after_bytes r piece) (joined pieces)) (end_printed (after_bytes (after_bytes r piece) (joined pieces)))))

-- before the first byte nothing of a line is there
at_start : Stands started []
unfolding started no_newline
at_start = record { kept = refl; many = refl; room = refl; one_line = refl }

-- Whatever the pieces, and whatever bytes are lent: what is printed is the defined output. Lines are counted in 64 bits, so the input has
-- fewer than 2^64 - 1 bytes.
pub every_cutting : (pieces : List (List ℕ)) (out : List ℕ) → 1 + length (joined pieces) < 2 ^ 64 → printed_by started pieces out ≡ valley (joined pieces)
unfolding valley started
every_cutting pieces out h = by_bytes pieces started out ∙ by_lines (joined pieces) [] started at_start h
