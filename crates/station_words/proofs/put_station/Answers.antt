-- Five parts, each put behind the one before, are the words of the station.
use Prim.Native.Nat.{ℕ}
use mathlib.Core.List.{[], ◌∷◌}
use mathlib.Core.Path.{ap}
use Rattle.std.proofs.Common.{rules}
use Rattle.station_words.specs.Laws.Put.{put_five}
use Rattle.station_words.proofs.Laws.Code.{words_put, truth_is}
use Rattle.station_words.proofs.put_station.Goals as goal

pub returns : goal.returns
returns c =
    let a = c.args in
    words_put a.t a.out.now c.head.result _ _ c.head.ensures (ap (λ (x : ℕ). x ∷ []) (truth_is a.t.lasting.jump _ c.from.ensures))
    (put_five _ _ _ _ _ _ _ _ _ _ _ (search rules) c.put.ensures c.put-2.ensures c.put-3.ensures c.put-4.ensures c.put-5.ensures)
