-- The run of valley over an input that comes in pieces: what the library's calls promise.
use Rattle.std.specs.Prelude.{ℕ, suc, ◌+◌, ◌%◌, ◌^◌, List, [], ◌∷◌, length, take, replicate, ◌==◌, nat_lt, slice_set}
use Rattle.laws.specs.Pick.{pick}
use Rattle.laws.specs.Over.{over}
use Rattle.valley_lines.specs.Read.{newline, read_line}
use Rattle.valley_world.specs.declared.Phase.TheVariants.{First}
use Rattle.valley_console.specs.declared.Run.{Run}
use Rattle.valley_world.specs.Valley.{Turn, no_group, turn, missing}

-- of a line the first 23 bytes are kept: none of more than 22 can be read
abbrev pub most_kept : ℕ
most_kept = 23

-- the run before the first byte
unfoldable pub started : Run
started = record { phase = First; number = 1; held = 0; line = replicate most_kept 0; world = no_group }

-- one more byte of the line
unfoldable pub lengthened : Run → ℕ → Run
lengthened r b =
    pick (nat_lt r.held most_kept)
    (record { phase = r.phase; number = r.number; held = suc r.held; line = slice_set r.line r.held b; world = r.world })
    r

-- what the line does that is there
unfoldable pub line_turn : Run → Turn
line_turn r = turn r.phase r.world r.number (read_line (take r.held r.line))

-- the run behind the line: lines are counted in 64 bits
unfoldable pub line_done : Run → Run
line_done r =
    record { phase = (line_turn r).phase; number = (r.number + 1) % 2 ^ 64; held = 0; line = r.line; world = (line_turn r).world }

-- all that taking a piece returns: how many bytes were taken, how many were printed, the run, and the lent bytes
pub record Takes : Type 0 where
  pub used : ℕ
  pub count : ℕ
  pub run : Run
  pub lent : List ℕ

-- the printed bytes stand at the front of the lent ones, and those behind them are untouched
abbrev pub prints : ℕ → List ℕ → Run → List ℕ → Takes
prints used printed r out = record { used = used; count = length printed; run = r; lent = over printed out }

abbrev pub one_more : Takes → Takes
one_more t = record { used = suc t.used; count = t.count; run = t.run; lent = t.lent }

-- a piece is taken up to its first newline, or whole where it has none
unfoldable pub taking : Run → List ℕ → List ℕ → Takes
taking r [] out = prints 0 [] r out
taking r (b ∷ piece) out = pick (b == newline) (prints 1 (line_turn r).printed (line_done r) out) (one_more (taking (lengthened r b) piece out))

-- the end of the input: a line with no newline behind it is done; a missing first line is told
unfoldable pub finishing : Run → List ℕ → Takes
finishing r out = pick (nat_lt 0 r.held) (prints 0 (line_turn r).printed (line_done r) out) (prints 0 (missing r.phase r.number) r out)
