-- Taking a piece of input is what is found in it, and the loop finds it.
use Rattle.std.specs.Prelude.{◌≡◌, ℕ, suc, ◌+◌, ◌<◌, ◌≤◌, Bool, true, false, List, [], ◌∷◌, length, drop, ◌==◌, ◌≢◌, nat_lt, slice_index, slice_index_or, slice_set, refl}
use Rattle.std.proofs.Math.Path.{sym}
use Rattle.std.proofs.Common.{ap, ◌∙◌, one-add, arith, drop_of_length-le, drop-cons}
use Rattle.std.proofs.Math.Numerals.{add-one}
use borrow.Author.Tests.{lt-ltb, le-ltb, eq-eqb, ne_eqb}
use Rattle.laws.specs.Pick.{pick}
use Rattle.valley_lines.specs.Read.{newline}
use Rattle.valley_console.specs.declared.Run.{Run}
use Rattle.valley_console.specs.declared.Scanned.{Scanned}
use Rattle.valley_console.specs.Pieces.{most_kept, Takes, prints, one_more, lengthened, line_turn, line_done, taking}
use Rattle.valley_console.specs.Took.{with_line}
use Rattle.valley_console.specs.Scans.{behind, next_held, next_line, scanned}

-- what taking a piece returns, by what was found in it
unfoldable pub taken_by : Run → Scanned → List ℕ → Takes
taken_by r s out =
    pick s.ended
    (prints s.used (line_turn (with_line r s.held s.line)).printed (line_done (with_line r s.held s.line)) out)
    (prints s.used [] (with_line r s.held s.line) out)

-- ---- taking a piece is what is found in it
found_more : (r : Run) (s : Scanned) (out : List ℕ) → one_more (taken_by r s out) ≡ taken_by r (behind 1 s) out
unfolding taken_by pick
found_more r s out = go s.ended
  where
    go : (t : Bool)
        → one_more (pick t (prints s.used (line_turn (with_line r s.held s.line)).printed (line_done (with_line r s.held s.line)) out)
        (prints s.used [] (with_line r s.held s.line) out))
        ≡ pick t (prints (1 + s.used) (line_turn (with_line r s.held s.line)).printed (line_done (with_line r s.held s.line)) out)
        (prints (1 + s.used) [] (with_line r s.held s.line) out)
    go true = rw (one-add s.used)
    go false = rw (one-add s.used)

grows : (r : Run) (b : ℕ) → lengthened r b ≡ with_line r (next_held r.held) (next_line r.held r.line b)
unfolding lengthened pick
grows r b = go (nat_lt r.held most_kept)
  where
    go : (t : Bool)
        → pick t (record { phase = r.phase; number = r.number; held = suc r.held; line = slice_set r.line r.held b; world = r.world }) r
        ≡ with_line r (pick t (suc r.held) r.held) (pick t (slice_set r.line r.held b) r.line)
    go true = refl
    go false = refl

pub taking_is : (piece : List ℕ) (r : Run) (out : List ℕ) → taking r piece out ≡ taken_by r (scanned r.held r.line piece) out
unfolding taking scanned taken_by pick
taking_is [] r out = refl
taking_is (b ∷ piece) r out = go (b == newline) (λ x. taking_is piece x out)
  where
    h : ℕ
    h = next_held r.held

    l : List ℕ
    l = next_line r.held r.line b

    go : (t : Bool) → ((x : Run) → taking x piece out ≡ taken_by x (scanned x.held x.line piece) out)
        → pick t (prints 1 (line_turn r).printed (line_done r) out) (one_more (taking (lengthened r b) piece out))
        ≡ taken_by r
        (pick t (record { used = 1; ended = true; held = r.held; line = r.line })
        (behind 1 (scanned (next_held r.held) (next_line r.held r.line b) piece))) out
    go true ih = refl
    go false ih =
        ap one_more (ap (λ (x : Run). taking x piece out) (grows r b) ∙ ih (with_line r (next_held r.held) (next_line r.held r.line b)))
        ∙ found_more r (scanned (next_held r.held) (next_line r.held r.line b) piece) out

-- ---- the loop: what is found from here on, behind the i bytes passed, is what is found in the whole
pub scan_start : (s : Scanned) → behind 0 s ≡ s
scan_start s = let e : 0 + s.used ≡ s.used = omega arith in
    λ i. record { used = e i; ended = s.ended; held = s.held; line = s.line }

behind_behind : (i : ℕ) (s : Scanned) → behind i (behind 1 s) ≡ behind (i + 1) s
behind_behind i s = let e : i + (1 + s.used) ≡ i + 1 + s.used = omega arith in
    λ j. record { used = e j; ended = s.ended; held = s.held; line = s.line }

module _ (piece : List ℕ) (i held : ℕ) (line : List ℕ) (inside : i < length piece) where
  from_here : scanned held line (drop i piece) ≡ scanned held line (slice_index piece i ∷ drop (i + 1) piece)
  from_here = rw (add-one, drop-cons piece i 0)

  pub scan_found : slice_index_or piece i 0 ≡ newline
      → ◌≡◌ {A = Scanned} (record { used = i + 1; ended = true; held = held; line = line }) (behind i (scanned held line (drop i piece)))
  unfolding scanned pick
  scan_found e = rw (from_here, eq-eqb (slice_index piece i) newline e)

  scan_next : (slice_index piece i ≢ newline)
      → behind i (scanned held line (drop i piece))
      ≡ behind (i + 1) (scanned (next_held held) (next_line held line (slice_index piece i)) (drop (i + 1) piece))
  unfolding scanned pick
  scan_next e =
      rw (from_here, ne_eqb (slice_index piece i) newline e)
      (behind_behind i (scanned (next_held held) (next_line held line (slice_index piece i)) (drop (i + 1) piece)))

  pub scan_room : (slice_index piece i ≢ newline) → held < most_kept
      → behind (i + 1) (scanned (held + 1) (slice_set line held (slice_index piece i)) (drop (i + 1) piece)) ≡ behind i (scanned held line (drop i piece))
  unfolding pick
  scan_room e h = sym (scan_next e ∙ rw (lt-ltb held most_kept h, add-one held))

  pub scan_full : (slice_index piece i ≢ newline) → most_kept ≤ held
      → behind (i + 1) (scanned held line (drop (i + 1) piece)) ≡ behind i (scanned held line (drop i piece))
  unfolding pick
  scan_full e h = sym (scan_next e ∙ rw (le-ltb held most_kept h))

pub scan_end : (piece : List ℕ) (i held : ℕ) (line : List ℕ) → i ≡ length piece
    → ◌≡◌ {A = Scanned} (record { used = length piece; ended = false; held = held; line = line }) (behind i (scanned held line (drop i piece)))
unfolding scanned
scan_end piece i held line h =
    let e : length piece ≡ i + 0 = omega arith in
    let d : drop i piece ≡ [] = drop_of_length-le piece (omega arith) in
    rw d (λ j. record { used = e j; ended = false; held = held; line = line })
