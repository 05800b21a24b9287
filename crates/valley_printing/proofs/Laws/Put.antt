-- How a line is put together at the front of a lent buffer: each text is put behind what was put before.
use Rattle.std.specs.Prelude.{ℕ, suc, ◌+◌, ◌^◌, ◌<◌, ◌≡◌, refl, List, ◌∷◌, ◌++◌, length, take, set}
use Rattle.std.proofs.Common.{sym, ◌∙◌, add-one, arith, length-append, drop-set-lt, take-suc-set}
use Rattle.laws.specs.Over.{over}
use Rattle.laws.proofs.Over.{over_snoc, paste_front, paste_behind}
use Rattle.valley_lines.specs.Read.{space, newline}
use Rattle.valley_printing.specs.Print.{decimal, event_line, bad_line_bytes, bad_line}
use Rattle.valley_printing.proofs.Laws.Width.{decimal_64, decimal_32, event_line_length, bad_line_length}
use Rattle.std.proofs.Math.Seq.{append_snoc, paste}

-- a byte, and a text behind it
pub put_after : (old text out : List ℕ) (at v : ℕ) → at < length old → out ≡ paste (set old at v) (at + 1) text (length text)
    → out ≡ paste old at (v ∷ text) (suc (length text))
put_after old text out at v h e =
    let n : at + suc (length text) ≡ suc at + length text = omega arith in
    let l : at < suc at + length text = omega arith in
    e
    ∙ rw (add-one at, take-suc-set old at v h, append_snoc (take at old) v (take (length text) text), drop-set-lt (suc at + length text) old at v l, n)

-- the line that bad_line puts together
pub bad_line_put : (number r : ℕ) (old with_text with_number : List ℕ) → number < 2 ^ 64 → length old ≡ 64
    → with_text ≡ paste old 0 bad_line_bytes 9
    → r ≡ 9 + length (decimal number)
    → with_number ≡ paste with_text 9 (decimal number) (length (decimal number))
    → (r + 1 ≡ length (bad_line number)) × (set with_number r newline ≡ over (bad_line number) old)
unfolding bad_line
bad_line_put number r old with_text with_number fits long text_is r_is number_is =
    let t : with_text ≡ over bad_line_bytes old = text_is ∙ paste_front bad_line_bytes old in
    let d : with_number ≡ over (bad_line_bytes ++ decimal number) old =
    (rw t at number_is) ∙ paste_behind bad_line_bytes (decimal number) old 9 refl in
    let l : length (bad_line_bytes ++ decimal number) ≡ r = length-append bad_line_bytes (decimal number) ∙ sym r_is in
    let inside : length (bad_line_bytes ++ decimal number) < length old = omega (arith, decimal_64 number fits) in (
      omega (arith, bad_line_length number),
      rw d (over_snoc (bad_line_bytes ++ decimal number) newline old r l (omega arith)),
    )

-- the line that event_line puts together
pub event_line_put : (event number step decision a b c d : ℕ) (old one two three four : List ℕ) → length old ≡ 64
    → event < 2 ^ 64 → number < 2 ^ 32 → step < 2 ^ 64 → decision < 2 ^ 32
    → a ≡ length (decimal event)
    → one ≡ paste old 0 (decimal event) (length (decimal event))
    → b ≡ a + suc (length (decimal number))
    → two ≡ paste one a (space ∷ decimal number) (suc (length (decimal number)))
    → c ≡ b + suc (length (decimal step))
    → three ≡ paste two b (space ∷ decimal step) (suc (length (decimal step)))
    → d ≡ c + suc (length (decimal decision))
    → four ≡ paste three c (space ∷ decimal decision) (suc (length (decimal decision)))
    → (d + 1 ≡ length (event_line event number step decision))
    × (set four d newline ≡ over (event_line event number step decision) old)
unfolding event_line
event_line_put event number step decision a b c d old one two three four long fits_event fits_number fits_step fits_decision a_is one_is b_is two_is c_is three_is d_is four_is =
    let p1 : List ℕ = decimal event in
    let p2 : List ℕ = p1 ++ (space ∷ decimal number) in
    let p3 : List ℕ = p2 ++ (space ∷ decimal step) in
    let p4 : List ℕ = p3 ++ (space ∷ decimal decision) in
    let l2 : length p2 ≡ b = length-append p1 (space ∷ decimal number) ∙ omega arith in
    let l3 : length p3 ≡ c = length-append p2 (space ∷ decimal step) ∙ omega arith in
    let l4 : length p4 ≡ d = length-append p3 (space ∷ decimal decision) ∙ omega arith in
    let e1 : one ≡ over p1 old = one_is ∙ paste_front p1 old in
    let e2 : two ≡ over p2 old = (rw e1 at two_is) ∙ paste_behind p1 (space ∷ decimal number) old a (sym a_is) in
    let e3 : three ≡ over p3 old = (rw e2 at three_is) ∙ paste_behind p2 (space ∷ decimal step) old b l2 in
    let e4 : four ≡ over p4 old = (rw e3 at four_is) ∙ paste_behind p3 (space ∷ decimal decision) old c l3 in
    let inside : length p4 < length old =
    omega (arith, decimal_64 event fits_event, decimal_32 number fits_number, decimal_64 step fits_step, decimal_32 decision fits_decision) in (
      omega (arith, event_line_length event number step decision),
      rw e4 (over_snoc p4 newline old d l4 (omega arith)),
    )
