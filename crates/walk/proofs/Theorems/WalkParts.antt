-- What the walk has found at the end of each part of a bundle.
use Rattle.std.specs.Prelude.{ℕ, suc, ◌+◌, ◌-◌, ◌*◌, ◌&&◌, ◌||◌, List, ◌≡◌}
use Rattle.std.proofs.Math.Bool.{Bool, true, false, not}
use Rattle.std.proofs.Math.Path.{refl, ap}
use Rattle.std.proofs.Common.{sym, ◌∙◌, arith}
use Rattle.std.proofs.Math.Dec.{eqb}
use Rattle.laws.specs.Bools.{both, neither, or_assoc}
use Rattle.laws.specs.Least.{least, least_fits}
use Rattle.format.specs.Words.{fields_of}
use Rattle.format.specs.Statement.{Statement}
use Rattle.format.specs.Lists.{some}
use Rattle.format.specs.Bundle.{count_in}
use Rattle.format.specs.Present.{place_of, statement_words, formed, statements, fields_at, verifies, all_formed, main_of, certificate_of}
use Rattle.rules.specs.declared.Which.{Which}
use Rattle.rules.specs.Rules.{which, some_d_get}
use Rattle.rules.specs.Test.{in_order, spread, rule}
use Rattle.walk.specs.declared.Findings.{Findings}
use Rattle.walk.specs.Walk.{started, walked, first_size, second_size, both_seen, between, through, findings}
use Rattle.walk.proofs.Laws.Turns.{Finds, stopped, finds_malformed, finds}
use Rattle.walk.proofs.Laws.Border.{one, two, missed_is, formed_split, some_split}

module _ (code : List ℕ → List ℕ) (n : ℕ) (asked : Which) (ws : List ℕ) where
  -- the two parts of the certificate, and what is found behind each
  abbrev pub have : ℕ
  have = least (first_size (fields_at ws (place_of 0)) (one n ws)) (count_in ws)

  abbrev pub rest : ℕ
  rest = count_in ws - have

  abbrev pub main_formed : Bool
  main_formed = formed n (fields_at ws (place_of 0))

  abbrev pub begun : Findings
  begun = started code asked (not main_formed) (main_of ws)

  abbrev pub front : Findings
  front = walked code n (one n ws) (main_of ws).question ws begun have

  abbrev pub border : Findings
  border = between (fields_at ws (place_of 0)) (eqb have (first_size (fields_at ws (place_of 0)) (one n ws))) rest (two n ws) front

  abbrev pub end : Findings
  end = walked code n (two n ws) (main_of ws).question ws border rest

  abbrev pub formed_front : Bool
  formed_front = all_formed n ws (place_of 1) have

  abbrev pub formed_rest : Bool
  formed_rest = all_formed n ws (place_of 1 + have * statement_words) rest

  abbrev pub before : List Statement
  before = statements ws (place_of 1) have

  abbrev pub behind : List Statement
  behind = statements ws (place_of 1 + have * statement_words) rest

  whole : have + rest ≡ count_in ws
  whole = omega (arith, least_fits (first_size (fields_at ws (place_of 0)) (one n ws)) (count_in ws))

  pub all_parts : all_formed n ws (place_of 0) (suc (count_in ws)) ≡ (main_formed && (formed_front && formed_rest))
  unfolding Rattle.format.specs.Bundle.all_formed
  all_parts = ap (λ (x : Bool). main_formed && x) (ap (all_formed n ws 11) (sym whole) ∙ formed_split n ws 11 have rest)

  -- 3 in the main statement ends both walks
  module _ (z : main_formed ≡ false) where
    front_is : front ≡ begun
    unfolding started
    front_is = stopped code n (one n ws) (main_of ws).question ws begun have (ap not z)

    end_is : end.malformed ≡ true
    unfolding between started
    end_is =
        let m : border.malformed ≡ true = ap (λ (r : Findings). r.malformed) front_is ∙ ap not z in
        ap (λ (r : Findings). r.malformed) (stopped code n (two n ws) (main_of ws).question ws border rest m) ∙ m

  module _ (m : main_formed ≡ true) where
    begun_formed : begun.malformed ≡ false
    unfolding started
    begun_formed = ap not m

    front_malformed : front.malformed ≡ not formed_front
    unfolding started
    front_malformed = finds_malformed code n (one n ws) (main_of ws).question ws have begun 11 refl begun_formed

    front_finds : formed_front ≡ true → Finds code (one n ws) (main_of ws).question begun front have before
    unfolding started
    front_finds a = finds code n (one n ws) (main_of ws).question ws have begun 11 refl begun_formed a

    border_malformed : formed_front ≡ true → border.malformed ≡ false
    unfolding between
    border_malformed a = front_malformed ∙ ap not a

    border_place : formed_front ≡ true → place_of border.place ≡ place_of 1 + have * statement_words
    unfolding between started
    border_place a = omega (arith, (front_finds a).place)

    end_malformed : end.malformed ≡ not (formed_front && formed_rest)
    unfolding between
    end_malformed = go formed_front refl
      where
        go : (b : Bool) → formed_front ≡ b → end.malformed ≡ not (formed_front && formed_rest)
        go true a = rw a (finds_malformed code n (two n ws) (main_of ws).question ws rest border (place_of 1 + have * statement_words) (border_place a) (border_malformed a))
        go false a =
            rw a
            (ap (λ (r : Findings). r.malformed) (stopped code n (two n ws) (main_of ws).question ws border rest (front_malformed ∙ ap not a)) ∙ front_malformed ∙ ap not a)

    module _ (a : formed_front ≡ true) (b : formed_rest ≡ true) where
      end_finds : Finds code (two n ws) (main_of ws).question border end rest behind
      end_finds = finds code n (two n ws) (main_of ws).question ws rest border (place_of 1 + have * statement_words) (border_place a) (border_malformed a) b

      split : (p : Statement → Bool) → (some p before || some p behind) ≡ some p (certificate_of ws)
      split p = sym (ap (λ k. some p (statements ws 11 k)) (sym whole) ∙ some_split p ws 11 have rest)

      pub end_other : end.other ≡ (not (which asked (main_of ws).question) || some (λ s. not (eqb s.question (main_of ws).question)) (certificate_of ws))
      unfolding between started
      end_other =
          let p : Statement → Bool = λ s. not (eqb s.question (main_of ws).question) in
          let o : Bool = not (which asked (main_of ws).question) in
          end_finds.other
          ∙ ap (λ (x : Bool). x || some p behind) (front_finds a).other
          ∙ or_assoc o (some p before) (some p behind)
          ∙ ap (λ (x : Bool). o || x) (split p)

      pub end_wrong : end.other ≡ false → end.wrong ≡ some (λ s. not (verifies code s)) (statements ws (place_of 0) (suc (count_in ws)))
      unfolding between started some Rattle.format.specs.Statement.statements
      end_wrong none =
          let p : Statement → Bool = λ s. not (verifies code s) in
          let early : front.other ≡ false = (neither _ _ (sym end_finds.other ∙ none)).0 in
          let main : begun.other ≡ false = (neither _ _ (sym (front_finds a).other ∙ early)).0 in
          end_finds.wrong none
          ∙ ap (λ (x : Bool). x || some p behind) ((front_finds a).wrong early)
          ∙ rw (m, main) (or_assoc (p (main_of ws)) (some p before) (some p behind) ∙ ap (λ (x : Bool). p (main_of ws) || x) (split p))

      -- what is found of 6 up to the second part, by what the first part is
      border_unbacked : front.other ≡ false → front.wrong ≡ false
          → border.unbacked
          ≡ (begun.unbacked
          || not (in_order (one n ws) begun.last before)
          || not (eqb have (first_size (fields_at ws (place_of 0)) (one n ws))
          && spread (main_of ws) before
          && eqb rest (second_size (fields_at ws (place_of 0)) (two n ws) (some_d_get before))))
      unfolding between started fields_of spread
      border_unbacked o w =
          let fs = front_finds a in
          ap (λ (u : Bool). u || not (eqb have (first_size (fields_at ws 1) (one n ws)) && both_seen (fields_at ws 1) front && eqb rest (second_size (fields_at ws 1) (two n ws) front.dget))) (fs.unbacked o w)
          ∙ ap (λ (d : Bool). begun.unbacked || not (in_order (one n ws) begun.last before) || not (eqb have (first_size (fields_at ws 1) (one n ws)) && both_seen (fields_at ws 1) front && eqb rest (second_size (fields_at ws 1) (two n ws) d))) (fs.dget o w)
          ∙ rw (fs.zeros o w, fs.ones o w)

      pub end_unbacked : end.other ≡ false → end.wrong ≡ false → end.unbacked ≡ not (rule n (main_of ws) (certificate_of ws))
      unfolding between started
      end_unbacked none right =
          let o : front.other ≡ false = (neither _ _ (sym end_finds.other ∙ none)).0 in
          let w : front.wrong ≡ false = (neither _ _ (sym (end_finds.wrong none) ∙ right)).0 in
          end_finds.unbacked none right ∙ ap (λ (u : Bool). u || not (in_order (two n ws) 0 behind)) (border_unbacked o w) ∙ missed_is n ws (count_in ws) have refl

  pub findings_are : findings code n asked ws ≡ end
  unfolding findings through fields_of
  findings_are = refl

  pub found_3 : end.malformed ≡ not (main_formed && (formed_front && formed_rest))
  found_3 = go main_formed refl
    where
      go : (b : Bool) → main_formed ≡ b → end.malformed ≡ not (main_formed && (formed_front && formed_rest))
      go true m = end_malformed m ∙ ap (λ (x : Bool). not (x && (formed_front && formed_rest))) (sym m)
      go false z = end_is z ∙ ap (λ (x : Bool). not (x && (formed_front && formed_rest))) (sym z)

  pub parts : all_formed n ws (place_of 0) (suc (count_in ws)) ≡ true → (main_formed ≡ true) × (formed_front ≡ true) × (formed_rest ≡ true)
  parts h =
      let a = both main_formed (formed_front && formed_rest) (sym all_parts ∙ h) in
      let b = both formed_front formed_rest a.1 in
      (a.0, b.0, b.1)
