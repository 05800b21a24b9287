-- The words of a written bundle, read off the slots, the set and a kept group; words behind the bundle stay as they were.
use Rattle.std.specs.Prelude.{ℕ, zero, suc, ◌+◌, ◌*◌, ◌^◌, Bool, ◌&&◌, List, [], ◌∷◌, ◌++◌, ltb, leb, length, get_or, set, replicate}
use Rattle.std.specs.Int.Count.{ones}
use Rattle.laws.specs.Pick.{pick}
use Rattle.laws.specs.Sets.{bit}
use Rattle.laws.specs.Over.{over}
use Rattle.format.specs.Numbers.{code_words, head_mark, mark_bit}
use Rattle.format.specs.Group.{quorum}
use Rattle.format.specs.Present.{statement_words, output_words, most_statements, bundle_words, place_of}
use Rattle.station.specs.Present.{sites}

-- n words from a place on, with 0 for each that the list lacks
unfoldable pub segment : ℕ → ℕ → List ℕ → List ℕ
segment zero at l = []
segment (suc n) at l = segment n at l ++ (get_or l (at + n) 0 ∷ [])

-- the words of those of k slots from slot i on whose bit is set, by rising station
unfoldable pub held_words : ℕ → List ℕ → ℕ → ℕ → List ℕ
held_words set slots i zero = []
held_words set slots i (suc k) =
    pick (bit set i) (segment statement_words (i * statement_words) slots ++ held_words set slots (suc i) k) (held_words set slots (suc i) k)

-- the head word and the main statement's ten words: zeros stand where its code will
unfoldable pub main_words : ℕ → ℕ → ℕ → List ℕ
main_words count w0 question = (head_mark * 2 ^ mark_bit + count) ∷ w0 ∷ question ∷ replicate code_words 0

-- head and main statement, the held statements of the set, and behind them k statements of a kept group
unfoldable pub words_of : ℕ → ℕ → List ℕ → ℕ → List ℕ → ℕ → List ℕ
words_of w0 question slots set group k =
    main_words (ones set + k) w0 question ++ held_words set slots 0 sites ++ segment (k * statement_words) 0 group

-- what is lent has room for every bundle, the set names stations only, and a bundle has room for the statements
unfoldable pub writable : ℕ → ℕ → ℕ → ℕ → Bool
writable lent set count k = leb output_words lent && ltb set (2 ^ sites) && leb k (quorum sites) && leb (count + k) most_statements

-- the lent words behind the call, and the word count: where the bundle cannot be written no word is changed
unfoldable pub lent_after : ℕ → ℕ → List ℕ → ℕ → List ℕ → ℕ → List ℕ → List ℕ
lent_after w0 question slots set group k out =
    pick (writable (length out) set (ones set) k) (over (words_of w0 question slots set group k) out) out

unfoldable pub count_after : ℕ → ℕ → ℕ → ℕ
count_after lent set k = pick (writable lent set (ones set) k) (bundle_words (ones set + k)) 0

-- ---- a given bundle, copied
-- the words of a bundle with another word 0 of its main statement
unfoldable pub with_word : ℕ → List ℕ → List ℕ
with_word w0 ws = set ws 1 w0

-- there is a main statement, and the lent words have room for all
unfoldable pub copyable : ℕ → ℕ → Bool
copyable have lent = leb (place_of 1) have && leb have lent

unfoldable pub copy_after : ℕ → List ℕ → List ℕ → List ℕ
copy_after w0 ws out = pick (copyable (length ws) (length out)) (over (with_word w0 ws) out) out

unfoldable pub copy_count : ℕ → ℕ → ℕ
copy_count have lent = pick (copyable have lent) have 0
