-- The law of jumping: a given bundle that makes the station jump is copied, its main statement replaced by the own one, which is what the machine's `entered`
-- says.
use Rattle.std.specs.Prelude.{ℕ, Bool, true, false, List, ◌≡◌}
use Rattle.std.proofs.Math.Path.{refl, sym}
use Rattle.laws.specs.Pick.{pick}
use Rattle.laws.specs.Below.{Below}
use Rattle.format.specs.Form.{present_form}
use Rattle.format.specs.Numbers.{jumped, not_above}
use Rattle.format.specs.Words.{fields_of, step_of}
use Rattle.format.specs.Statement.{Statement, step}
use Rattle.format.specs.Present.{main_of, certificate_of}
use Rattle.hmac.specs.Code.{hmac_code}
use Rattle.hmac.specs.Code.{hmac_eight}
use Rattle.modules.specs.declared.Module.{Module}
use Rattle.modules.specs.Counter.{above, last_for}
use Rattle.station.specs.declared.Station.{Station}
use Rattle.station.specs.Machine.{Outcome, refused, sends, began, stage_of, copied_value, entered}
use Rattle.station.specs.Calls.{Returned}
use Rattle.station.proofs.Laws.Views.{Jumping, jump_statement}
use Rattle.station.proofs.Laws.Fits.{jump_proper}
use Rattle.station.proofs.Theorems.Written.{jump_few}
use Rattle.station.proofs.Theorems.Seal.{range_fits}
use Rattle.station.specs.Present.{returned, on_bundle}
use Rattle.keeping.proofs.Laws.Back.{bundle_back}
use Rattle.sending.specs.Sends.{own_fields, copy_count_is, copy_lent_is, copy_station_is, copy_after_is}
use Rattle.jumping.specs.Jumps.{value_by, copied_fields, stage_by, given_fields, jump_words, jumping}

module _ (m : Module) (t : Station) (ws : List ℕ) (coin : ℕ) (out : List ℕ) (J : Jumping present_form hmac_code m t ws coin out) (low : Below ws) where
  abbrev q : ℕ
  q = t.identity.question

  abbrev given : Statement
  given = main_of ws

  abbrev s : Statement
  s = jump_statement present_form hmac_code m t ws coin out

  whole : Outcome
  whole = sends jumped s (certificate_of ws) (began m.n q t.lasting (stage_of given) s (certificate_of ws))

  asked : given.question ≡ q
  unfolding Rattle.station.specs.Words.state_of
  asked = J.fitting.asked

  sent_so : above (last_for m q) q (step s) ≡ true
      → Below (jump_words m t (given_fields ws) (own_fields m given.kind (copied_value given coin) given.flag given.round) ws out).lent
      → returned m t out whole ≡ jump_words m t (given_fields ws) (own_fields m given.kind (copied_value given coin) given.flag given.round) ws out
  unfolding Rattle.station.specs.Calls.returned jump_words stage_by fields_of whole
  sent_so later low_out =
      let b = bundle_back m.n ws low J.cleared.bundle in
      let p = jump_proper present_form hmac_code hmac_eight m t ws coin out J in
      let few = jump_few present_form hmac_code hmac_eight m t ws coin out J in
      let fit = range_fits m J.cleared.range in
      let v = copied_value given coin in
      let g = stage_of given in
      sym (λ i.
      record {
        number = jumped;
        count = copy_count_is m t.identity.question given.kind (copied_value given coin) given.flag given.round t.lasting (stage_of given) given (certificate_of ws) ws b asked out J.cleared.room J.cleared.range.at_most
            J.fitting.proper p J.fitting.certificate few fit later i;
        station = copy_station_is m t.identity.question given.kind (copied_value given coin) given.flag given.round t.lasting (stage_of given) given (certificate_of ws) ws b asked out J.cleared.room J.cleared.range.at_most
            J.fitting.proper p J.fitting.certificate few fit later low_out i;
        after = copy_after_is m t.identity.question given.kind (copied_value given coin) given.flag given.round t.lasting (stage_of given) given (certificate_of ws) ws b asked out J.cleared.room J.cleared.range.at_most
            J.fitting.proper p J.fitting.certificate few fit later i;
        lent = copy_lent_is m t.identity.question given.kind (copied_value given coin) given.flag given.round t.lasting (stage_of given) given (certificate_of ws) ws b asked out J.cleared.room J.cleared.range.at_most
            J.fitting.proper p J.fitting.certificate few fit later i;
      })

  pub jumped_is : Below (jumping m t ws coin out).lent
      → returned m t out (on_bundle hmac_code entered m t ws coin)
      ≡ jumping m t ws coin out
  unfolding jumping Rattle.station.specs.Calls.returned pick Rattle.station.specs.Words.state_of step value_by copied_fields fields_of whole
  jumped_is = go (above (last_for m q) q (step_of given.kind given.round)) refl
    where
      r : Returned
      r = jump_words m t (given_fields ws) (own_fields m given.kind (copied_value given coin) given.flag given.round) ws out

      go : (a : Bool) → above (last_for m q) q (step_of given.kind given.round) ≡ a
          → Below (pick a r (record { number = not_above; count = 0; station = t; after = m; lent = out })).lent
          → returned m t out (pick a whole (refused not_above)) ≡ pick a r (record { number = not_above; count = 0; station = t; after = m; lent = out })
      go true e low_out = sent_so e low_out
      go false e low_out = refl
