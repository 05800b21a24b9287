-- What sending leaves, by the words alone. `Law` ties it to the machine's definition, `sends`.
use Rattle.std.specs.Prelude.{ℕ, List, ◌++◌, eqb, length, take, drop}
use Rattle.laws.specs.Pick.{pick}
use Rattle.format.specs.declared.Fields.{Fields}
use Rattle.format.specs.Words.{word_of}
use Rattle.format.specs.Present.{statement_words}
use Rattle.hmac.specs.Code.{hmac_code}
use Rattle.modules.specs.declared.Module.{Module}
use Rattle.sealed.specs.Sealed.{Coded, by_coin}
use Rattle.sealed.specs.Present.{coding_plain, coding_coin}
use Rattle.station.specs.declared.Lasting.{Lasting}
use Rattle.station.specs.declared.Stage.{Stage}
use Rattle.station.specs.declared.Station.{Station}
use Rattle.writer.specs.Written.{lent_after, count_after, copy_after, copy_count}
use Rattle.keeping.specs.Kept.{with_bundle}
use Rattle.keeping.specs.Begun.{blank}

-- the word count
unfoldable pub sent_count : ℕ → ℕ → List ℕ → ℕ
sent_count set k out = count_after (length out) set k

-- the lent words with the statement of these fields, not coded yet: zeros stand where its code will; behind it the held statements of the set, and k
-- statements of a kept group
unfoldable pub drafted : ℕ → Fields → List ℕ → ℕ → List ℕ → ℕ → List ℕ → List ℕ
drafted question f slots set group k out = lent_after (word_of f) question slots set group k out

-- the module's call on the statement's words, by the way that is for it: with its value as the coin where it is an R-GET, else plain
unfoldable pub asked : Module → Fields → List ℕ → Coded
asked m f ws = pick (by_coin f.kind f.flag) (coding_coin hmac_code m ws f.value) (coding_plain hmac_code m ws)

-- the statement's words within the lent ones: those behind the head
abbrev pub main_part : List ℕ → List ℕ
main_part ws = take statement_words (drop 1 ws)

abbrev pub with_main : List ℕ → List ℕ → List ℕ
with_main main ws = take 1 ws ++ (main ++ drop statement_words (drop 1 ws))

-- where words were written their part is lent to the module; else it is not asked
unfoldable pub coded_lent : Module → Fields → ℕ → List ℕ → List ℕ
coded_lent m f count ws = pick (eqb count 0) ws (with_main (asked m f (main_part ws)).lent ws)

unfoldable pub coded_after : Module → Fields → ℕ → List ℕ → Module
coded_after m f count ws = pick (eqb count 0) m (asked m f (main_part ws)).after

-- the lent words, and the module
unfoldable pub sent_lent : Module → ℕ → Fields → List ℕ → ℕ → List ℕ → ℕ → List ℕ → List ℕ
sent_lent m question f slots set group k out = coded_lent m f (sent_count set k out) (drafted question f slots set group k out)

unfoldable pub sent_after : Module → ℕ → Fields → List ℕ → ℕ → List ℕ → ℕ → List ℕ → Module
sent_after m question f slots set group k out = coded_after m f (sent_count set k out) (drafted question f slots set group k out)

-- the bundle among the lent words
unfoldable pub sent_bundle : Module → ℕ → Fields → List ℕ → ℕ → List ℕ → ℕ → List ℕ → List ℕ
sent_bundle m question f slots set group k out = take (sent_count set k out) (sent_lent m question f slots set group k out)

-- the station: nothing held but the bundle that it wrote
unfoldable pub sent_station : Module → ℕ → Lasting → Stage → List ℕ → Station
sent_station m question l g ws = with_bundle (blank m.n m.station question l g) ws

-- ---- a statement sent with the certificate of a given bundle
-- the given words with word 0 of the statement in the main statement's place, coded
unfoldable pub copy_lent : Module → Fields → List ℕ → List ℕ → List ℕ
copy_lent m f ws out = coded_lent m f (copy_count (length ws) (length out)) (copy_after (word_of f) ws out)

unfoldable pub copy_module : Module → Fields → List ℕ → List ℕ → Module
copy_module m f ws out = coded_after m f (copy_count (length ws) (length out)) (copy_after (word_of f) ws out)

-- the bundle among the lent words
unfoldable pub copy_bundle : Module → Fields → List ℕ → List ℕ → List ℕ
copy_bundle m f ws out = take (copy_count (length ws) (length out)) (copy_lent m f ws out)
