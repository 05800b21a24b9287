-- Three words are stored, and zeros behind them.
use Rattle.std.proofs.Common.{ℕ, ◌≡◌, ◌+◌, ◌*◌, ◌^◌, ◌∙◌, List, ap, arith, length, set, take, drop, replicate, length-set, length-drop, length-take-le}
use Rattle.format.specs.Numbers.{code_words, head_mark, mark_bit}
use Rattle.writer.proofs.Laws.Writing.{main_put}
use Rattle.writer.proofs.write_main.Goals as goal

pub returns : goal.returns
returns c =
    let a = c.args in
    let three : List ℕ = set (set (set a.out.now 0 (head_mark * 2 ^ mark_bit + a.count)) 1 a.w0) 2 a.question in
    let eight : length (take code_words (drop 3 three)) ≡ code_words = length-take-le code_words (drop 3 three) (simp (length-drop, length-set) (omega arith)) in
    main_put a.count a.w0 a.question a.out.now _ c.requires.1 (c.fill.ensures.after (λ y e. e) ∙ ap (λ (k : ℕ). replicate {A = ℕ} k 0) eight)
