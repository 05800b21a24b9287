-- The main statement is written, then into the rest behind it the held statements, then into the rest behind these the kept group.
use Prim.Native.Nat.{ℕ, ◌+◌, ◌*◌}
use mathlib.Core.Path.{◌≡◌, refl, ap, ◌∙◌}
use mathlib.Core.List.{◌++◌}
use native.Mathlib.Omega.{arith}
use lib.Count.{ones}
use lib.ListN.{length}
use Rattle.laws.specs.Over.{over}
use Rattle.writer.specs.Written.{segment, held_words, main_words, words_of}
use Rattle.writer.proofs.Laws.Writing.{parts_done, length_main, held_length}
use Rattle.writer.proofs.write_parts.Goals as goal

pub returns : goal.returns
unfolding words_of
returns c =
    let a = c.args in
    let p = main_words (a.count + a.k) a.w0 a.question in
    let h = held_words a.set a.slots.now 0 31 in
    let g = segment (a.k * 10) 0 a.group.now in
    let n : a.count ≡ ones a.set = c.requires.4 in
    let x : length h ≡ ones a.set * 10 = held_length a.set a.slots.now c.requires.1 in (
      omega arith,
      parts_done p h g a.out.now c.write_main.new.out c.write_held.new.out c.write_group.new.out (11 + a.count * 10) _ _
          c.write_main.ensures (length_main (a.count + a.k) a.w0 a.question) (omega arith) (omega arith) refl c.write_held.ensures refl
          c.write_group.ensures
          ∙ ap (λ (y : ℕ). over (main_words (y + a.k) a.w0 a.question ++ h ++ g) a.out.now) n,
    )
