-- What the calls inside giving answer, put together.
use Rattle.std.specs.Prelude.{ℕ, ◌≤◌, ◌<◌, Bool, true, false, List, ◌≡◌, refl}
use Rattle.std.proofs.Common.{sym, ◌∙◌, lt-ltb, le-ltb}
use Rattle.std.proofs.Math.Path.{ap}
use Rattle.std.specs.Int.Count.{ones}
use Rattle.laws.specs.Pick.{here, skip}
use Rattle.format.specs.Numbers.{closed_now, kept}
use Rattle.format.specs.Group.{quorum}
use Rattle.format.specs.Present.{last_round}
use Rattle.modules.specs.declared.Module.{Module}
use Rattle.station.specs.declared.Lasting.{Lasting}
use Rattle.station.specs.declared.Station.{Station}
use Rattle.station.specs.Machine.{closes, lasting_at}
use Rattle.station.specs.Calls.{Returned}
use Rattle.station.specs.Present.{held_by}
use Rattle.ending.specs.declared.Following.{Following}
use Rattle.ending.specs.After.{next_by}
use Rattle.moving.specs.Moves.{with_no_bundle, moving}
use Rattle.giving.specs.Gives.{shut_words, ending_words, after_words}

-- the end of a step
module _ (m : Module) (k : Station) (coin : ℕ) (out : List ℕ) where
  pub ends_closed : (l : Lasting) (t : Station) (b : Bool) → l ≡ lasting_at k.stage k.lasting (held_by k) → b ≡ closes last_round k.stage → b ≡ true → t ≡ shut_words k l
      → with_no_bundle closed_now t m out ≡ ending_words m k coin out
  unfolding ending_words
  ends_closed l t b el eb h et = ap (λ (y : Station). with_no_bundle closed_now y m out) (et ∙ ap (shut_words k) el) ∙ here _ _ _ (sym eb ∙ h)

  pub ends_on : (l : Lasting) (x : Following) (b : Bool) (y : Returned) → l ≡ lasting_at k.stage k.lasting (held_by k) → b ≡ closes last_round k.stage → b ≡ false
      → x ≡ next_by m.n k.stage k.held.heard k.held.slots coin → y ≡ moving m k x l out → y ≡ ending_words m k coin out
  unfolding ending_words
  ends_on l x b y el eb h ex e = e ∙ (λ i. moving m k (ex i) (el i) out) ∙ skip _ _ _ _ (sym eb ∙ h) refl

  pub taken_kept : (c q : ℕ) → c ≡ ones k.held.heard → q ≡ quorum m.n → c < q → with_no_bundle kept k m out ≡ after_words m k coin out
  unfolding after_words
  taken_kept c q ec eq h = here _ _ _ (rw (← ec, ← eq) (lt-ltb c q h))

  pub taken_ends : (c q : ℕ) (y : Returned) → c ≡ ones k.held.heard → q ≡ quorum m.n → q ≤ c → y ≡ ending_words m k coin out → y ≡ after_words m k coin out
  unfolding after_words
  taken_ends c q y ec eq h e = skip _ _ _ _ (rw (← ec, ← eq) (le-ltb c q h)) e
