-- Going on, by a station's words: what makes the certificate, and what is returned.
use Rattle.std.specs.Prelude.{ℕ, ◌||◌, List, eqb, ltb}
use Rattle.laws.specs.Pick.{pick}
use Rattle.format.specs.declared.Fields.{Fields}
use Rattle.format.specs.Numbers.{none, sent, sent_decided, not_above}
use Rattle.format.specs.Group.{quorum, backing}
use Rattle.format.specs.Words.{step_of}
use Rattle.modules.specs.declared.Module.{Module}
use Rattle.modules.specs.Counter.{above, last_for}
use Rattle.station.specs.declared.Groups.{Groups}
use Rattle.station.specs.declared.Lasting.{Lasting}
use Rattle.station.specs.declared.Station.{Station}
use Rattle.station.specs.Calls.{Returned}
use Rattle.ending.specs.declared.Kept.{Kept}
use Rattle.ending.specs.declared.Kept.TheVariants.{Nothing, Inits, ForValue, ForNone}
use Rattle.ending.specs.declared.Following.{Following}
use Rattle.sending.specs.Sends.{own_fields}
use Rattle.sending.specs.Sent.{sent_count, sent_lent, sent_bundle, sent_station, sent_after}

-- ---- what makes the certificate: the held statements of a set, and behind them so many of a kept group
unfoldable pub group_by : Kept → Groups → List ℕ
group_by Nothing g = g.value
group_by Inits g = g.value
group_by ForValue g = g.value
group_by ForNone g = g.none

unfoldable pub count_by : Kept → ℕ → ℕ → ℕ
count_by Nothing n v = 0
count_by Inits n v = backing n v
count_by ForValue n v = quorum n
count_by ForNone n v = quorum n

-- ---- all that is returned
abbrev pub with_no_bundle : ℕ → Station → Module → List ℕ → Returned
with_no_bundle k t m out = record { number = k; count = 0; station = t; after = m; lent = out }

-- 21 where this call decides first
unfoldable pub answer : ℕ → ℕ → ℕ
answer old d = pick (ltb old none || eqb d none) sent sent_decided

unfoldable pub sending_words : Module → Station → Following → Fields → Lasting → List ℕ → Returned
sending_words m k x f l out =
    let q = k.identity.question in
    let set = x.set in
    let group = group_by x.kept k.groups in
    let size = count_by x.kept m.n x.value in
    record {
      number = answer k.lasting.decision l.decision;
      count = sent_count set size out;
      station = sent_station m q l x.stage (sent_bundle m q f k.held.slots set group size out);
      after = sent_after m q f k.held.slots set group size out;
      lent = sent_lent m q f k.held.slots set group size out;
    }

-- "only where a bundle would be written, 12"
unfoldable pub moving : Module → Station → Following → Lasting → List ℕ → Returned
moving m k x l out =
    pick (above (last_for m k.identity.question) k.identity.question (step_of x.kind x.round.0))
    (sending_words m k x (own_fields m x.kind x.value x.flag x.round.0) l out)
    (with_no_bundle not_above k m out)
