-- The run byte by byte, in the middle between lines and pieces: a fold over the bytes prints what the lines print (`by_lines`), by standing for
-- the bytes of the line that is not done.
use Rattle.std.specs.Prelude.{◌≡◌, ℕ, suc, ◌+◌, ◌%◌, ◌^◌, ◌<◌, ◌≤◌, Bool, true, false, not, ◌&&◌, ltb, List, [], ◌∷◌, ◌++◌, Option, Some, None, length, take, ◌==◌, nat_eq, nat_le, nat_lt, slice_set, refl}
use Rattle.std.proofs.Common.{append_assoc, append-nil, sym, ap, ◌∙◌, subst, arith, length-set, length-append, take-suc-set, take_all, length-take-le, lt-ltb, le-ltb, ltb-true, ltb-false, eqb-true}
use Rattle.std.proofs.lemmas.List.{take-append-le}
use Rattle.std.proofs.lemmas.Bool.{not-true}
use Rattle.laws.specs.Pick.{pick}
use Rattle.laws.specs.Bools.{both, join}
use Rattle.valley_lines.specs.declared.Line.{Line}
use Rattle.valley_lines.specs.declared.Line.TheVariants.{Group, Open, Give}
use Rattle.valley_lines.specs.Read.{newline, longer, split, read_line}
use Rattle.valley_lines.proofs.Laws.Short.{capped}
use Rattle.valley_world.specs.declared.Phase.{Phase}
use Rattle.valley_world.specs.declared.Phase.TheVariants.{First, Running, Ended}
use Rattle.valley_console.specs.declared.Run.{Run}
use Rattle.valley_world.specs.declared.World.{World}
use Rattle.valley_world.specs.Valley.{least_n, most_n, group_of, is_open, is_written, opens, gives, after, after_opening, bad, told, one_too_many, event, first_turn, later_turn, turn, missing, run_lines, without_end, lines_of}
use Rattle.valley_console.specs.Pieces.{most_kept, lengthened, line_turn, line_done}

-- one more byte
unfoldable pub byte_done : Run → ℕ → Run
byte_done r b = pick (b == newline) (line_done r) (lengthened r b)

unfoldable pub byte_printed : Run → ℕ → List ℕ
byte_printed r b = pick (b == newline) (line_turn r).printed []

unfoldable pub after_bytes : Run → List ℕ → Run
after_bytes r [] = r
after_bytes r (b ∷ bs) = after_bytes (byte_done r b) bs

unfoldable pub bytes_printed : Run → List ℕ → List ℕ
bytes_printed r [] = []
bytes_printed r (b ∷ bs) = byte_printed r b ++ bytes_printed (byte_done r b) bs

-- what the end of the input prints
unfoldable pub end_printed : Run → List ℕ
end_printed r = pick (nat_lt 0 r.held) (line_turn r).printed (missing r.phase r.number)

-- a part of a line has no newline
unfoldable pub no_newline : List ℕ → Bool
no_newline [] = true
no_newline (b ∷ bs) = not (b == newline) && no_newline bs

-- the run has kept what is needed of the line so far
pub record Stands (r : Run) (text : List ℕ) : Type 0 where
  pub kept : take r.held r.line ≡ take most_kept text
  pub many : r.held ≡ length (take most_kept text)
  pub room : length r.line ≡ most_kept
  pub one_line : no_newline text ≡ true

-- ---- lines
ends_line : (text rest : List ℕ) → no_newline text ≡ true → split newline (text ++ (newline ∷ rest)) ≡ text ∷ split newline rest
unfolding no_newline split pick
ends_line [] rest h = refl
ends_line (b ∷ bs) rest h =
    let hs = both (not (b == newline)) (no_newline bs) h in
    let e : nat_eq b newline ≡ false = not-true (b == newline) hs.0 in
    rw (e, ends_line bs rest hs.1)

last_line : (text : List ℕ) → no_newline text ≡ true → split newline text ≡ text ∷ []
unfolding no_newline split pick
last_line [] h = refl
last_line (b ∷ bs) h =
    let hs = both (not (b == newline)) (no_newline bs) h in
    let e : nat_eq b newline ≡ false = not-true (b == newline) hs.0 in
    rw (e, last_line bs hs.1)

-- there is always a part
pub record Parts (l : List (List ℕ)) : Type 0 where
  pub front : List ℕ
  pub behind : List (List ℕ)
  pub are : l ≡ front ∷ behind

parts_longer : (b : ℕ) (l : List (List ℕ)) → Parts l → Parts (longer b l)
parts_longer b [] p = record { front = b ∷ []; behind = []; are = refl }
parts_longer b (x ∷ xs) p = record { front = b ∷ x; behind = xs; are = refl }

parts : (text : List ℕ) → Parts (split newline text)
unfolding split pick
parts [] = record { front = []; behind = []; are = refl }
parts (b ∷ bs) = go (b == newline) (parts bs)
  where
    go : (t : Bool) → Parts (split newline bs) → Parts (pick t ([] ∷ split newline bs) (longer b (split newline bs)))
    go true p = record { front = []; behind = split newline bs; are = refl }
    go false p = parts_longer b (split newline bs) p

with_more : (x : List ℕ) (l : List (List ℕ)) → Parts l → without_end (x ∷ l) ≡ x ∷ without_end l
unfolding without_end
with_more x l p = rw p.are

pub line_ends : (text rest : List ℕ) → no_newline text ≡ true → lines_of (text ++ (newline ∷ rest)) ≡ text ∷ lines_of rest
unfolding lines_of
line_ends text rest h = ap without_end (ends_line text rest h) ∙ with_more text (split newline rest) (parts rest)

-- ---- the run stands for the part of a line
-- text one byte longer, by whether the kept bytes are all of it
keeps_short : (text : List ℕ) (b : ℕ) → length text < most_kept → take most_kept (text ++ (b ∷ [])) ≡ take most_kept text ++ (b ∷ [])
keeps_short text b h =
    take_all most_kept (text ++ (b ∷ [])) (subst (λ (k : ℕ). k ≤ most_kept) (sym (length-append text (b ∷ []))) (omega (arith, h)))
    ∙ ap (λ (l : List ℕ). l ++ (b ∷ [])) (sym (take_all most_kept text (omega (arith, h))))

keeps_long : (text : List ℕ) (b : ℕ) → most_kept ≤ length text → take most_kept (text ++ (b ∷ [])) ≡ take most_kept text
keeps_long text b h = take-append-le most_kept text (b ∷ []) h

kept_short : (text : List ℕ) → length text < most_kept → length (take most_kept text) ≡ length text
kept_short text h = ap length (take_all most_kept text (omega (arith, h)))

kept_long : (text : List ℕ) → most_kept ≤ length text → length (take most_kept text) ≡ most_kept
kept_long text h = length-take-le most_kept text h

still_one_line : (text : List ℕ) (b : ℕ) → no_newline text ≡ true → (b == newline) ≡ false → no_newline (text ++ (b ∷ [])) ≡ true
unfolding no_newline
still_one_line [] b h e = rw e
still_one_line (c ∷ cs) b h e =
    let hs = both (not (c == newline)) (no_newline cs) h in
    join (not (c == newline)) (no_newline (cs ++ (b ∷ []))) hs.0 (still_one_line cs b hs.1 e)

pub stands_longer : (r : Run) (text : List ℕ) (b : ℕ) → Stands r text → (b == newline) ≡ false → Stands (lengthened r b) (text ++ (b ∷ []))
unfolding lengthened pick
stands_longer r text b s e = go (nat_lt (length text) most_kept) refl
  where
    go : (t : Bool) → nat_lt (length text) most_kept ≡ t → Stands (pick (nat_lt r.held most_kept) (record { phase = r.phase; number = r.number; held = suc r.held; line = slice_set r.line r.held b; world = r.world }) r) (text ++ (b ∷ []))
    go true h =
        let short : length text < most_kept = ltb-true (length text) most_kept h in
        let many : r.held ≡ length text = s.many ∙ kept_short text short in
        let less : r.held < most_kept = subst (λ (k : ℕ). k < most_kept) (sym many) short in
        let e1 : ltb r.held most_kept ≡ true = lt-ltb r.held most_kept less in
        let inside : r.held < length r.line = subst (λ (k : ℕ). r.held < k) (sym s.room) less in
        subst (λ (t : Bool). Stands (pick t (record { phase = r.phase; number = r.number; held = suc r.held; line = slice_set r.line r.held b; world = r.world }) r) (text ++ (b ∷ []))) (sym e1)
        (record {
          kept = take-suc-set r.line r.held b inside ∙ ap (λ (l : List ℕ). l ++ (b ∷ [])) s.kept ∙ sym (keeps_short text b short);
          many = ap suc s.many ∙ omega (arith, length-append (take most_kept text) (b ∷ [])) ∙ ap length (sym (keeps_short text b short));
          room = length-set r.line r.held b ∙ s.room;
          one_line = still_one_line text b s.one_line e;
        })
    go false h =
        let long : most_kept ≤ length text = ltb-false (length text) most_kept h in
        let many : r.held ≡ most_kept = s.many ∙ kept_long text long in
        let e1 : ltb r.held most_kept ≡ false = le-ltb r.held most_kept (omega (arith, many)) in
        subst (λ (t : Bool). Stands (pick t (record { phase = r.phase; number = r.number; held = suc r.held; line = slice_set r.line r.held b; world = r.world }) r) (text ++ (b ∷ []))) (sym e1)
        (record {
          kept = s.kept ∙ sym (keeps_long text b long);
          many = s.many ∙ ap length (sym (keeps_long text b long));
          room = s.room;
          one_line = still_one_line text b s.one_line e;
        })

-- a byte of a line changes nothing else
pub record Same (u r : Run) : Type 0 where
  pub phase_is : u.phase ≡ r.phase
  pub world_is : u.world ≡ r.world
  pub number_is : u.number ≡ r.number

longer_same : (r : Run) (b : ℕ) → Same (lengthened r b) r
unfolding lengthened pick
longer_same r b = go (nat_lt r.held most_kept)
  where
    go : (t : Bool) → Same (pick t (record { phase = r.phase; number = r.number; held = suc r.held; line = slice_set r.line r.held b; world = r.world }) r) r
    go true = record { phase_is = refl; world_is = refl; number_is = refl }
    go false = record { phase_is = refl; world_is = refl; number_is = refl }

pub stands_anew : (r : Run) (text : List ℕ) → Stands r text → Stands (line_done r) []
unfolding line_done no_newline
stands_anew r text s = record { kept = refl; many = refl; room = s.room; one_line = refl }

-- a line that is done is not missing
not_missing : (p : Phase) (w : World) (number k : ℕ) (l : Option Line) → missing (turn p w number l).phase k ≡ []
unfolding turn first_turn later_turn event bad told missing pick
not_missing First w number k (Some (Group n)) = go (nat_le least_n n && nat_le n most_n)
  where
    go : (t : Bool) → missing (pick t (record { phase = Running; world = group_of n; printed = [] }) (bad w number)).phase k ≡ []
    go true = refl
    go false = refl
not_missing First w number k (Some (Open s v)) = refl
not_missing First w number k (Some (Give s b c)) = refl
not_missing First w number k None = refl
not_missing Running w number k (Some (Group n)) = refl
not_missing Running w number k (Some (Open s v)) = go (one_too_many w (opens w s v))
  where
    go : (t : Bool) → missing (pick t (bad w number) (told (after_opening w s (opens w s v)) number s (opens w s v).number)).phase k ≡ []
    go true = refl
    go false = refl
not_missing Running w number k (Some (Give s b c)) = go (is_open w s && is_written w b) (one_too_many w (gives w s b c))
  where
    go : (o t : Bool) → missing (pick o (pick t (bad w number) (told (after w s (gives w s b c)) number s (gives w s b c).number)) (bad w number)).phase k ≡ []
    go true true = refl
    go true false = refl
    go false t = refl
not_missing Running w number k None = refl
not_missing Ended w number k l = refl

-- the end of the input, as lines and as bytes
at_end : (r : Run) (text : List ℕ) → r.held ≡ length (take most_kept text) → no_newline text ≡ true → line_turn r ≡ turn r.phase r.world r.number (read_line text) → end_printed r ≡ run_lines r.phase r.world r.number (lines_of text)
unfolding end_printed pick run_lines lines_of without_end
at_end r [] many one e = rw (many, last_line [] one)
at_end r (b ∷ bs) many one e =
    let more : ltb 0 r.held ≡ true = lt-ltb 0 r.held (omega (arith, many)) in
    rw (more, last_line (b ∷ bs) one, e, not_missing r.phase r.world r.number (suc r.number) (read_line (b ∷ bs)), append-nil (turn r.phase r.world r.number (read_line (b ∷ bs))).printed)

-- the line that is there is read as the whole line
read_kept : (r : Run) (text : List ℕ) → Stands r text → line_turn r ≡ turn r.phase r.world r.number (read_line text)
unfolding line_turn
read_kept r text s = ap (λ (l : Option Line). turn r.phase r.world r.number l) (ap read_line s.kept ∙ capped text)

-- a newline: the line is done, and the rest follows
one_line_more : (r : Run) (text bs : List ℕ) → Stands r text → r.number + 1 < 2 ^ 64 →
    (line_turn r).printed ++ run_lines (line_done r).phase (line_done r).world (line_done r).number (lines_of bs) ≡ run_lines r.phase r.world r.number (lines_of (text ++ (newline ∷ bs)))
unfolding line_done run_lines
one_line_more r text bs s h =
    let e : (r.number + 1) % 2 ^ 64 ≡ suc r.number = omega (arith, h) in
    rw (line_ends text bs s.one_line, e, read_kept r text s)

pub by_lines : (bs text : List ℕ) (r : Run) → Stands r text → r.number + length bs < 2 ^ 64 → bytes_printed r bs ++ end_printed (after_bytes r bs) ≡ run_lines r.phase r.world r.number (lines_of (text ++ bs))
unfolding bytes_printed after_bytes byte_printed byte_done pick line_done
by_lines [] text r s h =
    at_end r text s.many s.one_line (read_kept r text s) ∙ ap (λ (l : List ℕ). run_lines r.phase r.world r.number (lines_of l)) (sym (append-nil text))
by_lines (b ∷ bs) text r s h = go (b == newline) refl (λ (u : Run) (l : List ℕ). by_lines bs l u)
  where
    IH : Type 0
    IH = (u : Run) (l : List ℕ) → Stands u l → u.number + length bs < 2 ^ 64 → bytes_printed u bs ++ end_printed (after_bytes u bs) ≡ run_lines u.phase u.world u.number (lines_of (l ++ bs))

    go : (t : Bool) → (b == newline) ≡ t → IH → (byte_printed r b ++ bytes_printed (byte_done r b) bs) ++ end_printed (after_bytes (byte_done r b) bs) ≡ run_lines r.phase r.world r.number (lines_of (text ++ (b ∷ bs)))
    go true e ih =
        let is_newline : b ≡ newline = eqb-true b newline e in
        let next : bytes_printed (line_done r) bs ++ end_printed (after_bytes (line_done r) bs) ≡ run_lines (line_done r).phase (line_done r).world (line_done r).number (lines_of bs) =
        ih (line_done r) [] (stands_anew r text s) (omega (arith, h)) in
        rw e
        (append_assoc (line_turn r).printed (bytes_printed (line_done r) bs) (end_printed (after_bytes (line_done r) bs))
        ∙ ap (λ (l : List ℕ). (line_turn r).printed ++ l) next
        ∙ one_line_more r text bs s (omega (arith, h))
        ∙ ap (λ (c : ℕ). run_lines r.phase r.world r.number (lines_of (text ++ (c ∷ bs)))) (sym is_newline))
    go false e ih =
        let same : Same (lengthened r b) r = longer_same r b in
        let numbered : (lengthened r b).number ≡ r.number = same.number_is in
        let goes_on : run_lines (lengthened r b).phase (lengthened r b).world (lengthened r b).number (lines_of ((text ++ (b ∷ [])) ++ bs)) ≡ run_lines r.phase r.world r.number (lines_of (text ++ (b ∷ bs))) =
        rw (same.phase_is, same.world_is, numbered, append_assoc text (b ∷ []) bs) in
        rw e (ih (lengthened r b) (text ++ (b ∷ [])) (stands_longer r text b s e) (omega (arith, h, numbered)) ∙ goes_on)
