-- The invariant: the words compared so far, and those that the iterator has left, decide the whole.
use Rattle.std.proofs.Common.{◌≡◌, ◌&&◌, length}
use Rattle.std.specs.Slice.Iter.{iter_rest}
use Rattle.std.specs.Iterator.Adapters.{zip_first, zip_second}
use Rattle.format.specs.Statement.{same_words}
use Rattle.format.specs.Present.{code_at}
use Rattle.walk.proofs.code_matches.Given as goal

abbrev pub invariant-loop-word : goal.invariant-loop-word
invariant-loop-word l =
    (length (iter_rest (zip_first l.word-iterator)) ≡ length (iter_rest (zip_second l.word-iterator)))
    × (same_words (code_at l.words 0) l.code ≡ (l.same && same_words (iter_rest (zip_first l.word-iterator)) (iter_rest (zip_second l.word-iterator))))
