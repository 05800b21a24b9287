-- What is found in a piece of input, over the line alone.
use Rattle.std.specs.Prelude.{ℕ, suc, ◌+◌, true, false, List, [], ◌∷◌, ◌==◌, nat_lt, slice_set}
use Rattle.laws.specs.Pick.{pick}
use Rattle.valley_lines.specs.Read.{newline}
use Rattle.valley_console.specs.declared.Scanned.{Scanned}
use Rattle.valley_console.specs.Pieces.{most_kept}

-- i bytes more were taken
abbrev pub behind : ℕ → Scanned → Scanned
behind i s = record { used = i + s.used; ended = s.ended; held = s.held; line = s.line }

abbrev pub next_held : ℕ → ℕ
next_held held = pick (nat_lt held most_kept) (suc held) held

abbrev pub next_line : ℕ → List ℕ → ℕ → List ℕ
next_line held line b = pick (nat_lt held most_kept) (slice_set line held b) line

unfoldable pub scanned : ℕ → List ℕ → List ℕ → Scanned
scanned held line [] = record { used = 0; ended = false; held = held; line = line }
scanned held line (b ∷ piece) =
    pick (b == newline) (record { used = 1; ended = true; held = held; line = line })
    (behind 1 (scanned (next_held held) (next_line held line b) piece))
