-- The leader of a team, found: the search through all the sites.
use Rattle.std.specs.Prelude.{◌≡◌, refl, Bool, true, false, List, ℕ, zero, suc, ◌≤◌, eqb}
use Rattle.std.proofs.Common.{subst, arith, eqb-true}
use Rattle.std.proofs.lemmas.Bool.{eqb-false}
use Rattle.laws.specs.Bools.{never}
use Rattle.laws.specs.Count.{meet, every_one}
use Rattle.format.specs.Form.{present_form}
use Rattle.agreement.proofs.Laws.Ground.{Ground}
use Rattle.agreement.specs.Demand.{Call}
use Rattle.never_stuck.specs.Claim.{Quorate, Ready}
use Rattle.never_stuck.proofs.Laws.Leader.{Leads, Search, nobody, somebody, with_site}

module _ (G : Ground present_form) (q : ℕ) (team : ℕ → Bool) (cs : List Call) (r : ℕ) (jump : Bool) where
  open G use {mac, key, n}

  -- who is of the team, where site j + 1 is not
  inside : (j y : ℕ) → team (suc j) ≡ false → y ≤ suc j → team y ≡ true → y ≤ j
  inside j y out e c = by (eqb y (suc j)) refl
    where
      by : (z : Bool) → eqb y (suc j) ≡ z → y ≤ j
      by true z = never (team (suc j)) out (subst (λ (v : ℕ). team v ≡ true) (eqb-true y (suc j) z) c)
      by false z = omega (arith, eqb-false y (suc j) z)

  search_to : (j : ℕ) → j ≤ n → ((y : ℕ) → 1 ≤ y → y ≤ n → team y ≡ true → Ready mac key n cs q r jump y) → Search G q team cs r jump j
  search_to zero b ready = nobody (λ y a e c. omega arith)
  search_to (suc j) b ready = go (team (suc j)) refl (search_to j (omega arith) ready)
    where
      -- a site outside the team changes nothing
      skipped : team (suc j) ≡ false → Search G q team cs r jump j → Search G q team cs r jump (suc j)
      skipped out (nobody none) = nobody (λ y a e c. none y a (inside j y out e c) c)
      skipped out (somebody f L) =
          somebody f (record { at = L.at; low = L.low; high = L.high; of_team = L.of_team; ready = L.ready; stands = L.stands; under = λ y a e c. L.under y a (inside j y out e c) c })

      go : (z : Bool) → team (suc j) ≡ z → Search G q team cs r jump j → Search G q team cs r jump (suc j)
      go true c S = with_site G q team cs r jump j b c (ready (suc j) (omega arith) b c) S
      go false c S = skipped c S

  pub record Leader : Type 0 where
    pub step : ℕ
    pub leads : Leads G q team cs r jump n step

  pub leader : Quorate n team → ((y : ℕ) → 1 ≤ y → y ≤ n → team y ≡ true → Ready mac key n cs q r jump y) → Leader
  leader enough ready = go (search_to n (omega arith) ready)
    where
      go : Search G q team cs r jump n → Leader
      go (somebody f L) = record { step = f; leads = L }
      go (nobody none) =
          let s = meet team (λ i. true) n (omega (arith, every_one n)) in
          absurd (none s.at s.low s.high s.in_first)
