-- The invariant: the iterator has left the words from some place on, and what is passed from there on has the answer of all.
use Rattle.std.proofs.Common.{◌≡◌, ℕ, false, drop}
use Rattle.std.specs.Slice.Iter.{chunks_exact_rest, chunks_exact_size}
use Rattle.format.specs.Present.{statement_words}
use Rattle.glance.specs.Glance.{Glancing}
use Rattle.glance.proofs.answer_behind.Given as goal

abbrev pub invariant-loop-words : goal.invariant-loop-words
invariant-loop-words l =
    (chunks_exact_size l.words-iterator ≡ statement_words)
    × ((at : ℕ) × (chunks_exact_rest l.words-iterator ≡ drop at l.ws) × Glancing l.n l.question l.ws l.f at false l.other)
