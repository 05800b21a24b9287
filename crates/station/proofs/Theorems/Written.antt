-- Demand 2: "every message that a station writes is valid to every station of its group". For a station made by opening and changed only by these
-- calls, with modules of one key and one n, each bundle that is written is answered 0 by the check under that key and n, and its word count is its
-- length.
use Rattle.std.specs.Prelude.{ℕ, ◌+◌, ◌-◌, ◌*◌, ◌≤◌, Bool, ◌≡◌, eqb, ltb, take, drop, replicate}
use Rattle.std.proofs.Math.Bool.{true, false}
use mathlib.Core.List.{List, [], ◌∷◌, ◌++◌}
use Rattle.std.proofs.Math.Path.{refl, ap, subst}
use Rattle.std.proofs.Common.{sym, ◌∙◌, eq-eqb}
use native.Mathlib.Omega.{arith}
use Rattle.std.proofs.Math.ListN.{length, length-append, length-replicate}
use Rattle.std.proofs.Math.Seq.{take_at}
use Rattle.laws.specs.Pick.{pick}
use Rattle.laws.specs.Bools.{never, join}
use Rattle.laws.specs.All.{All, all_map, all_append}
use Rattle.laws.specs.Over.{over}
use Rattle.format.specs.Form.{Form, most_stations, last_round, most_statements, statement_words, bundle_words}
use Rattle.format.proofs.Form.{words_mono}
use Rattle.format.specs.Numbers.{kind_init, kind_p, kind_v, none, d_get, r_get, code_words}
use Rattle.format.specs.Group.{quorum, backing}
use Rattle.format.specs.Statement.{Statement, statements, covered, same_words, verifies, statement_code}
use Rattle.format.specs.Lists.{those}
use Rattle.hmac.specs.Code.{hmac_code}
use Rattle.hmac.specs.Code.{hmac_eight}
use Rattle.format.specs.Bundle.{main_of, certificate_of, all_written, bundle_of}
use Rattle.format.proofs.Laws.Shape.{init}
use Rattle.rules.specs.declared.Which.TheVariants.{Any}
use Rattle.rules.specs.Rules.{Backed, rule_1, rule_2, rule_3, rule_4, rule_5, rule_6, rule_7, some_d_get}
use Rattle.rules.specs.Test.{has_second}
use Rattle.certificate.specs.Check.{check_by, judged, checked}
use Rattle.certificate.specs.Valid.{Valid}
use Rattle.certificate.proofs.Theorems.Exact.{valid_found}
use Rattle.modules.specs.declared.Module.{Module}
use Rattle.station.specs.declared.Stage.{Stage}
use Rattle.station.specs.declared.Stage.TheVariants.{Gathering, Proposing, Voting}
use Rattle.station.specs.declared.Station.{Station}
use Rattle.station.specs.Machine.{State, Outcome, Next, own, began, shut, stage_of, copied_value, supplies_for_value, supplies_for_none, takes, closes, has_value, first_value, vote_value, carried, follows, undecided}
use Rattle.station.specs.Words as W
use Rattle.station.specs.Words.{state_of, group_words, sites, Lengths, kept_words}
use Rattle.station.specs.Calls.{returned, opening, giving, opening_outcome, giving_outcome, no_station}
use Rattle.station.proofs.Laws.ReadBack.{length_all}
use Rattle.format.proofs.Laws.ReadBack.{Proper}
use Rattle.station.proofs.Laws.Slots.{slots_length}
use Rattle.station.proofs.Laws.Insert.{insert_all}
use Rattle.station.proofs.Laws.Sane.{Sane, state_back}
use Rattle.station.proofs.Laws.FitSane.{for_value_size, for_none_size}
use Rattle.station.proofs.Laws.Keep.{all_take}
use Rattle.station.proofs.Laws.Pieces.{those_all}
use Rattle.station.proofs.Laws.End.{EarlyDGet}
use Rattle.station.proofs.Laws.Views.{Accepted, Jumping, jump_statement, after, lasting_then, sent_statement, Gives, refuses, holds_on, shuts, goes_on, enters, gives_view, full_after, init_statement, Opens, no_opening, begins, opens_view}
use Rattle.station.specs.Returns.{unrefused, wrote}
use Rattle.station.proofs.Laws.Returns.{wrote_unrefused}
use Rattle.station.specs.Demand.{message, OfGroup, Reached, by_opening, by_giving}
use Rattle.station.proofs.Laws.Fits.{backed, own_proper, init_sane, next_ready, sent_proper, sent_sane, kept_sane, jump_proper, jump_fitting, jump_sane}
use Rattle.station.proofs.Laws.Bundles.{bundle_valid, backed_few, ws_length}
use Rattle.station.specs.declared.Lasting.{Lasting}

-- ---- what is held and kept verifies
pub same_self : (l : List ℕ) → same_words l l ≡ true
unfolding same_words
same_self [] = refl
same_self (x ∷ l) = join (eqb x x) _ (eq-eqb x x refl) (same_self l)

-- what holds of all that is held and kept holds of the certificate that follows
module _ (P : Statement → Type 0) (n : ℕ) (k : State) (coin : ℕ) (h : All P k.held) (f : All P k.for_value) (s : All P k.for_none) where
  pub next_all : (g : Stage) → All P (follows n g k coin).first × All P (follows n g k coin).second
  unfolding follows pick
  next_all Gathering =
      let v = first_value k.held in
      (all_take P (backing n v) (those (has_value v) k.held) (all_map (λ x p. p.0) (those (has_value v) k.held) (those_all P (has_value v) k.held h)), tt)
  next_all (Proposing r x) = (h, go (has_second kind_v (vote_value k.held) r.0 (some_d_get k.held)) (ltb (vote_value k.held) none))
    where
      go : (a b : Bool) → All P (pick a (pick b k.for_value k.for_none) [])
      go true true = f
      go true false = s
      go false b = tt
  next_all (Voting r) = go (ltb (carried k.held) none)
    where
      go : (a : Bool) → All P (pick {A = Next} a
          (record { kind = kind_p; value = carried k.held; flag = d_get; round = r.0 + 1; first = k.for_value; second = []; stage = Proposing (record { 0 = r.0 + 1 }) d_get })
          (record { kind = kind_p; value = coin; flag = r_get; round = r.0 + 1; first = k.held; second = []; stage = Proposing (record { 0 = r.0 + 1 }) r_get })).first
          × All P (pick {A = Next} a
          (record { kind = kind_p; value = carried k.held; flag = d_get; round = r.0 + 1; first = k.for_value; second = []; stage = Proposing (record { 0 = r.0 + 1 }) d_get })
          (record { kind = kind_p; value = coin; flag = r_get; round = r.0 + 1; first = k.held; second = []; stage = Proposing (record { 0 = r.0 + 1 }) r_get })).second
      go true = (f, tt)
      go false = (h, tt)

-- a proposal of round 1 that a rule backs is D-GET
pub backed_given : (n : ℕ) (m : Statement) (c : List Statement) → Backed n m c → m.round ≡ 1 → m.kind ≡ kind_p → m.flag ≡ d_get
backed_given n m c (rule_1 k) r p = absurd (omega arith)
backed_given n m c (rule_2 k a f h) r p = f
backed_given n m c (rule_3 k a f h) r p = f
backed_given n m c (rule_4 k a f h) r p = absurd (omega arith)
backed_given n m _ (rule_5 k v h i s o) r p = absurd (omega arith)
backed_given n m c (rule_6 k v a h b) r p = absurd (omega arith)
backed_given n m _ (rule_7 k v a h b s) r p = absurd (omega arith)

module _ (form : Form) where
  -- ---- the lengths of a station that is written from a state
  pub lengths_of : (n site : ℕ) (t : State) → n ≤ most_stations form → Sane form n site t → Lengths form (W.as_station form n site t)
  unfolding W.as_station
  lengths_of n site t top S =
      record {
        slots = slots_length form n t.held 1 (sites form) S.proper;
        for_value = group_length t.for_value S.for_value.proper (omega (arith, S.for_value.as_asked.size, for_value_size form n t.stage t.held top));
        for_none = group_length t.for_none S.for_none.proper (omega (arith, S.for_none.as_asked.size, for_none_size form n t.stage t.held top));
      }
    where
      group_length : (c : List Statement) → All (Proper form n) c → length c ≤ quorum (sites form) → length (group_words form c) ≡ kept_words form
      group_length c p few =
          length-append (all_written form c) (replicate (kept_words form - length c * statement_words form) 0) ∙ omega (arith, length_all form n c p, words_mono form (length c) (quorum (sites form)) few, length-replicate {A = ℕ} (kept_words form - length c * statement_words form) 0)

  pub shut_lengths : (n site : ℕ) (t : State) → t.held ≡ [] → t.for_value ≡ [] → t.for_none ≡ [] → Lengths form (W.as_station form n site t)
  unfolding W.as_station W.slots_of W.slot_of all_written
  shut_lengths n site t a b c =
      record { slots = rw a (slots_length form n [] 1 (sites form) tt); for_value = rw b none_kept; for_none = rw c none_kept }
    where
      none_kept : length (replicate {A = ℕ} (kept_words form - 0 * statement_words form) 0) ≡ kept_words form
      none_kept = length-replicate (kept_words form - 0 * statement_words form) 0 ∙ omega arith

  pub own_verifies : (code : List ℕ → List ℕ) (site question kind value flag round : ℕ) → verifies form code (own (statement_code form code) site question kind value flag round) ≡ true
  unfolding verifies
  own_verifies code site question kind value flag round = same_self (code (covered form (own (statement_code form code) site question kind value flag round)))

  pub record Certain (code : List ℕ → List ℕ) (t : State) : Type 0 where
    pub held : All (λ s. verifies form code s ≡ true) t.held
    pub for_value : All (λ s. verifies form code s ≡ true) t.for_value
    pub for_none : All (λ s. verifies form code s ≡ true) t.for_none
    pub given : EarlyDGet t.held

  -- the state of a station that has sent, by its own statement and its certificate
  began_certain : (code : List ℕ → List ℕ) (n question : ℕ) (l : Lasting) (g : Stage) (s : Statement) (c : List Statement) → verifies form code s ≡ true
      → All (λ s. verifies form code s ≡ true) c → Backed n s c → Certain code (began n question l g s c)
  unfolding pick
  began_certain code n question l g s c v vs b =
      record { held = (v, tt); for_value = part (supplies_for_value g s); for_none = part (supplies_for_none g s); given = (backed_given n s c b, tt) }
    where
      part : (b : Bool) → All (λ s. verifies form code s ≡ true) (pick b (take (quorum n) c) [])
      part true = all_take (λ s. verifies form code s ≡ true) (quorum n) c vs
      part false = tt

  module _ (mac : List ℕ → List ℕ → List ℕ) (m : Module) (t : Station) (ws : List ℕ) (coin : ℕ) (out : List ℕ) (A : Accepted form mac m t ws coin out) where
    abbrev code : List ℕ → List ℕ
    code = mac m.key

    verified : (verifies form code (main_of form ws) ≡ true) × All (λ s. verifies form code s ≡ true) (certificate_of form ws)
    unfolding statements
    verified = A.cleared.codes

    pub kept_certain : Certain code (state_of form t) → Certain code (after form mac m t ws coin out)
    unfolding pick
    kept_certain C =
        record {
          held = insert_all (λ s. verifies form code s ≡ true) (main_of form ws) (state_of form t).held verified.0 C.held;
          for_value = part (takes (supplies_for_value (state_of form t).stage) (state_of form t).held (main_of form ws)) (state_of form t).for_value C.for_value;
          for_none = part (takes (supplies_for_none (state_of form t).stage) (state_of form t).held (main_of form ws)) (state_of form t).for_none C.for_none;
          given = insert_all (λ s. s.round ≡ 1 → s.kind ≡ kind_p → s.flag ≡ d_get) (main_of form ws) (state_of form t).held
              (backed_given m.n (main_of form ws) (certificate_of form ws) A.fitting.backed) C.given;
        }
      where
        part : (b : Bool) (l : List Statement) → All (λ s. verifies form code s ≡ true) l → All (λ s. verifies form code s ≡ true) (pick b (take (quorum m.n) (certificate_of form ws)) l)
        part true l h = all_take (λ s. verifies form code s ≡ true) (quorum m.n) (certificate_of form ws) verified.1
        part false l h = h

    module _ (eight : (key ws : List ℕ) → length (mac key ws) ≡ code_words) (L : Lengths form t) (C : Certain code (state_of form t))
        (size : length (after form mac m t ws coin out).held ≡ quorum m.n) (more : closes (last_round form) t.stage ≡ false) where
      abbrev x : Next
      x = follows m.n t.stage (after form mac m t ws coin out) coin

      abbrev s : Statement
      s = sent_statement form mac m t ws coin out

      certain_after : Certain code (after form mac m t ws coin out)
      certain_after = kept_certain C

      stage_same : (after form mac m t ws coin out).stage ≡ t.stage
      unfolding state_of
      stage_same = refl

      pub sent_backed : Backed m.n s (x.first ++ x.second)
      sent_backed =
          backed form m.n (after form mac m t ws coin out) (full_after form mac m t ws coin out L A size) coin A.cleared.coin_bit certain_after.given t.stage stage_same more s refl refl refl refl

      parts_verify : All (λ s. verifies form code s ≡ true) x.first × All (λ s. verifies form code s ≡ true) x.second
      parts_verify =
          next_all (λ s. verifies form code s ≡ true) m.n (after form mac m t ws coin out) coin certain_after.held certain_after.for_value certain_after.for_none t.stage

      s_verifies : verifies form code s ≡ true
      s_verifies = own_verifies code m.station t.identity.question x.kind x.value x.flag x.round

      all_verify : All (λ s. verifies form code s ≡ true) (x.first ++ x.second)
      all_verify = all_append (λ y. verifies form code y ≡ true) x.first x.second parts_verify.0 parts_verify.1

      pub sent_certain : Certain code (began m.n t.identity.question (lasting_then form mac m t ws coin out) x.stage s (x.first ++ x.second))
      sent_certain = began_certain code m.n t.identity.question (lasting_then form mac m t ws coin out) x.stage s (x.first ++ x.second) s_verifies all_verify sent_backed

      pub sent_valid : Valid form code m.n (bundle_of form s (x.first ++ x.second))
      sent_valid =
          let R = next_ready form mac eight m t ws coin out L A size more in
          bundle_valid form m.n s (x.first ++ x.second) A.cleared.range.at_most (sent_proper form mac eight m t ws coin out L A size more)
          (all_append (Proper form m.n) x.first x.second R.proper R.more_proper)
          (backed_few form m.n s (x.first ++ x.second) A.cleared.range.at_most sent_backed) code A.cleared.range.at_least
          (all_append (λ y. y.question ≡ t.identity.question) x.first x.second R.alike R.more_alike) s_verifies
          all_verify sent_backed

  -- ---- a jump: the given certificate verifies and backs the own statement
  module _ (mac : List ℕ → List ℕ → List ℕ) (eight : (key ws : List ℕ) → length (mac key ws) ≡ code_words) (m : Module) (t : Station) (ws : List ℕ) (coin : ℕ) (out : List ℕ)
      (J : Jumping form mac m t ws coin out) where
    abbrev u : Statement
    u = jump_statement form mac m t ws coin out

    given_verifies : All (λ s. verifies form (mac m.key) s ≡ true) (certificate_of form ws)
    unfolding statements
    given_verifies = J.cleared.codes.1

    own_code : verifies form (mac m.key) u ≡ true
    own_code = own_verifies (mac m.key) m.station t.identity.question (main_of form ws).kind (copied_value (main_of form ws) coin) (main_of form ws).flag (main_of form ws).round

    pub jump_few : length (certificate_of form ws) ≤ most_statements form
    jump_few = backed_few form m.n u (certificate_of form ws) J.cleared.range.at_most (jump_fitting form mac eight m t ws coin out J).backed

    pub jump_certain : Certain (mac m.key) (began m.n t.identity.question t.lasting (stage_of (main_of form ws)) u (certificate_of form ws))
    jump_certain =
        began_certain (mac m.key) m.n t.identity.question t.lasting (stage_of (main_of form ws)) u (certificate_of form ws) own_code given_verifies
        (jump_fitting form mac eight m t ws coin out J).backed

    pub jump_valid : Valid form (mac m.key) m.n (bundle_of form u (certificate_of form ws))
    unfolding state_of
    jump_valid =
        let F = jump_fitting form mac eight m t ws coin out J in
        bundle_valid form m.n u (certificate_of form ws) J.cleared.range.at_most F.proper F.certificate jump_few (mac m.key) J.cleared.range.at_least F.alike own_code given_verifies F.backed

  -- ---- stations made by opening and changed only by these calls
  module _ (mac : List ℕ → List ℕ → List ℕ) (key : List ℕ) (n : ℕ) where
    pub record Good (site : ℕ) (t : Station) : Type 0 where
      pub lengths : Lengths form t
      pub certain : t.closed ≡ false → Certain (mac key) (state_of form t)

    module _ (eight : (key ws : List ℕ) → length (mac key ws) ≡ code_words) where
      -- a station written from a sane state of which all is certain
      good_state : (site i : ℕ) (t : State) → i ≤ most_stations form → 1 ≤ site → site ≤ i → Sane form i site t → Certain (mac key) t → Good site (W.as_station form i site t)
      good_state site i t top lo hi S C =
          record {
            lengths = lengths_of i site t top S;
            certain = λ e. subst (λ (u : State). Certain (mac key) u) (sym (state_back form i site t top lo hi S)) C;
          }

      good_shut : (site i : ℕ) (t : State) → t.closed ≡ true → t.held ≡ [] → t.for_value ≡ [] → t.for_none ≡ [] → Good site (W.as_station form i site t)
      unfolding W.as_station
      good_shut site i t c h f s = record { lengths = shut_lengths i site t h f s; certain = λ e. never t.closed e c }

      pub good_opening : (site : ℕ) (m : Module) (question v jump : ℕ) (out : List ℕ) → OfGroup key n site m → unrefused (opening form mac m question v jump out).number ≡ true
          → Good site (opening form mac m question v jump out).station
      unfolding opening returned pick
      good_opening site m question v jump out G = go (opening_outcome form mac m question v jump out) (opens_view form mac m question v jump out)
        where
          go : (o : Outcome) → Opens form mac m question v jump out o → unrefused (returned form m (no_station form) out o).number ≡ true → Good site (returned form m (no_station form) out o).station
          go _ (no_opening e) u = never _ e u
          go _ (begins room r p a) u =
              let b = began m.n question (undecided (eqb jump 1)) Gathering (init_statement form mac m question v out) [] in
              subst (λ (i : ℕ). Good i (W.as_station form m.n m.station b)) G.same_site
              (good_state m.station m.n b r.at_most r.low r.high
              (init_sane form mac eight m question v (eqb jump 1) r p)
              (subst (λ (c : List ℕ). Certain (mac c) b) G.same_key
              (record { held = (own_verifies (mac m.key) m.station question kind_init v d_get 0, tt); for_value = tt; for_none = tt; given = ((λ a b. absurd (omega arith)), tt) })))

      pub good_giving : (site : ℕ) (t : Station) → Good site t → (m : Module) (ws : List ℕ) (coin : ℕ) (out : List ℕ) → OfGroup key n site m
          → unrefused (giving form mac m t ws coin out).number ≡ true → Good site (giving form mac m t ws coin out).station
      unfolding giving returned
      good_giving site t good m ws coin out G = go (giving_outcome form mac m t ws coin out) (gives_view form mac m t ws coin out good.lengths)
        where
          C : Accepted form mac m t ws coin out → Certain (mac m.key) (state_of form t)
          C A = subst (λ (c : List ℕ). Certain (mac c) (state_of form t)) (sym G.same_key) (good.certain A.cleared.still_open)

          of_key : {u : State} → Certain (mac m.key) u → Certain (mac key) u
          of_key {u} c = subst (λ (x : List ℕ). Certain (mac x) u) G.same_key c

          here : (u : State) → Good m.station (W.as_station form m.n m.station u) → Good site (W.as_station form m.n m.station u)
          here u g = subst (λ (i : ℕ). Good i (W.as_station form m.n m.station u)) G.same_site g

          go : (o : Outcome) → Gives form mac m t ws coin out o → unrefused (returned form m t out o).number ≡ true → Good site (returned form m t out o).station
          go _ (refuses e) u = never _ e u
          go _ (holds_on A few) u =
              here (after form mac m t ws coin out) (good_state m.station m.n (after form mac m t ws coin out) A.cleared.range.at_most A.cleared.range.low A.cleared.range.high
              (kept_sane form mac eight m t ws coin out good.lengths A few) (of_key (kept_certain mac m t ws coin out A (C A))))
          go _ (shuts A size c) u =
              here (shut (after form mac m t ws coin out) (lasting_then form mac m t ws coin out))
              (good_shut m.station m.n (shut (after form mac m t ws coin out) (lasting_then form mac m t ws coin out)) refl refl refl refl)
          go _ (goes_on A size c above k) u =
              here _ (good_state m.station m.n _ A.cleared.range.at_most A.cleared.range.low A.cleared.range.high
              (sent_sane form mac eight m t ws coin out good.lengths A size c) (of_key (sent_certain mac m t ws coin out A eight good.lengths (C A) size c)))
          go _ (enters J above) u =
              here _ (good_state m.station m.n _ J.cleared.range.at_most J.cleared.range.low J.cleared.range.high
              (jump_sane form mac eight m t ws coin out J good.lengths) (of_key (jump_certain mac eight m t ws coin out J)))

      pub reached_good : (site : ℕ) (t : Station) → Reached form mac key n site t → Good site t
      reached_good site _ (by_opening m question v jump out G u) = good_opening site m question v jump out G u
      reached_good site _ (by_giving {t} r m ws coin out G u) = good_giving site t (reached_good site t r) m ws coin out G u

      -- the written words are the bundle's, and no more
      pub bundle_front : (i : ℕ) (s : Statement) (c : List Statement) (out : List ℕ) → i ≤ most_stations form → Proper form i s → All (Proper form i) c → length c ≤ most_statements form
          → take (bundle_words form (length c)) (over (bundle_of form s c) out) ≡ bundle_of form s c
      unfolding bundle_of
      bundle_front i s c out top p a few =
          take_at (bundle_of form s c) (drop (length (bundle_of form s c)) out) (bundle_words form (length c)) (ws_length form i s c top p a few)

      pub opening_written : (site : ℕ) (m : Module) (question v jump : ℕ) (out : List ℕ) → OfGroup key n site m → wrote (opening form mac m question v jump out).number ≡ true
          → check_by form (mac key) n Any (message (opening form mac m question v jump out)) ≡ 0
      unfolding opening returned
      opening_written site m question v jump out G = go (opening_outcome form mac m question v jump out) (opens_view form mac m question v jump out)
        where
          go : (o : Outcome) → Opens form mac m question v jump out o → wrote (returned form m (no_station form) out o).number ≡ true
              → check_by form (mac key) n Any (message (returned form m (no_station form) out o)) ≡ 0
          go _ (no_opening {k} e) u = never (unrefused k) e (wrote_unrefused k u)
          go _ (begins room r p a) u = checks
            where
              s : Statement
              s = init_statement form mac m question v out

              proper : Proper form m.n s
              proper = own_proper form mac eight m question kind_init v d_get 0 r (init refl refl p refl)

              checks : check_by form (mac key) n Any (take (bundle_words form 0) (over (bundle_of form s []) out)) ≡ 0
              checks =
                  ap (check_by form (mac key) n Any) (bundle_front m.n s [] out r.at_most proper tt (omega arith))
                  ∙ valid_found form (mac key) n (bundle_of form s [])
                  (subst (λ (i : ℕ). Valid form (mac key) i (bundle_of form s [])) G.same_n
                  (subst (λ (c : List ℕ). Valid form (mac c) m.n (bundle_of form s [])) G.same_key
                  (bundle_valid form m.n s [] r.at_most proper tt (omega arith) (mac m.key) r.at_least tt
                  (own_verifies (mac m.key) m.station question kind_init v d_get 0) tt (rule_1 refl))))

      pub giving_written : (site : ℕ) (t : Station) → Reached form mac key n site t → (m : Module) (ws : List ℕ) (coin : ℕ) (out : List ℕ) → OfGroup key n site m
          → wrote (giving form mac m t ws coin out).number ≡ true → check_by form (mac key) n Any (message (giving form mac m t ws coin out)) ≡ 0
      unfolding giving returned
      giving_written site t reached m ws coin out G = go (giving_outcome form mac m t ws coin out) (gives_view form mac m t ws coin out (reached_good site t reached).lengths)
        where
          go : (o : Outcome) → Gives form mac m t ws coin out o → wrote (returned form m t out o).number ≡ true → check_by form (mac key) n Any (message (returned form m t out o)) ≡ 0
          go _ (refuses {k} e) u = never (unrefused k) e (wrote_unrefused k u)
          go _ (holds_on A few) u = never false refl u
          go _ (shuts A size c) u = never false refl u
          go _ (enters J above) u =
              let c = certificate_of form ws in
              let s = jump_statement form mac m t ws coin out in
              ap (check_by form (mac key) n Any) (bundle_front m.n s c out J.cleared.range.at_most (jump_proper form mac eight m t ws coin out J) J.fitting.certificate (jump_few mac eight m t ws coin out J))
              ∙ valid_found form (mac key) n (bundle_of form s c)
              (subst (λ (i : ℕ). Valid form (mac key) i (bundle_of form s c)) G.same_n (subst (λ (x : List ℕ). Valid form (mac x) m.n (bundle_of form s c)) G.same_key (jump_valid mac eight m t ws coin out J)))
          go _ (goes_on A size c above k) u = checks A size c
            where
              checks : (A : Accepted form mac m t ws coin out) (size : length (after form mac m t ws coin out).held ≡ quorum m.n) (c : closes (last_round form) t.stage ≡ false)
                  → let x = follows m.n t.stage (after form mac m t ws coin out) coin in
                  check_by form (mac key) n Any (take (bundle_words form (length (x.first ++ x.second))) (over (bundle_of form (sent_statement form mac m t ws coin out) (x.first ++ x.second)) out)) ≡ 0
              checks A size c =
                  let x = follows m.n t.stage (after form mac m t ws coin out) coin in
                  let s = sent_statement form mac m t ws coin out in
                  let g = reached_good site t reached in
                  let C : Certain (mac m.key) (state_of form t) = subst (λ (c : List ℕ). Certain (mac c) (state_of form t)) (sym G.same_key) (g.certain A.cleared.still_open) in
                  let R = next_ready form mac eight m t ws coin out g.lengths A size c in
                  ap (check_by form (mac key) n Any) (bundle_front m.n s (x.first ++ x.second) out A.cleared.range.at_most (sent_proper form mac eight m t ws coin out g.lengths A size c)
                  (all_append (Proper form m.n) x.first x.second R.proper R.more_proper)
                  (backed_few form m.n s (x.first ++ x.second) A.cleared.range.at_most (sent_backed mac m t ws coin out A eight g.lengths C size c)))
                  ∙ valid_found form (mac key) n (bundle_of form s (x.first ++ x.second))
                  (subst (λ (i : ℕ). Valid form (mac key) i (bundle_of form s (x.first ++ x.second))) G.same_n
                  (subst (λ (c : List ℕ). Valid form (mac c) m.n (bundle_of form s (x.first ++ x.second))) G.same_key
                  (sent_valid mac m t ws coin out A eight g.lengths C size c)))

  -- ---- under HMAC, by the public check's own answer
  pub opening_valid : (key : List ℕ) (n site : ℕ) (m : Module) (question v jump : ℕ) (out : List ℕ) → OfGroup key n site m
      → wrote (opening form hmac_code m question v jump out).number ≡ true → checked form key n (message (opening form hmac_code m question v jump out)) ≡ 0
  unfolding checked judged
  opening_valid key n site m question v jump out G u = opening_written hmac_code key n hmac_eight site m question v jump out G u

  pub giving_valid : (key : List ℕ) (n site : ℕ) (t : Station) → Reached form hmac_code key n site t → (m : Module) (ws : List ℕ) (coin : ℕ) (out : List ℕ)
      → OfGroup key n site m → wrote (giving form hmac_code m t ws coin out).number ≡ true → checked form key n (message (giving form hmac_code m t ws coin out)) ≡ 0
  unfolding checked judged
  giving_valid key n site t r m ws coin out G u = giving_written hmac_code key n hmac_eight site t r m ws coin out G u
