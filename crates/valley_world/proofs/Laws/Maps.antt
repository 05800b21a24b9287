-- An array's map by a closure that stays as it is: each element is the closure's answer.
use Rattle.std.specs.Prelude.{ℕ, zero, suc, ◌+◌, ◌≤◌, ◌<◌, List, [], ◌∷◌, ◌≡◌, refl, map, length, get_or}
use Rattle.std.proofs.Common.{sym, ap, ◌∙◌, subst, arith}
use Rattle.std.proofs.Math.Decide.{dec_lt}
use Rattle.std.proofs.lemmas.List.{length-map, get_or-map, ext_get_or}
use Rattle.std.specs.Fn.{Called}
use Rattle.std.specs.Array.{IsMapOf, MapsFrom}
use denote.Param.Members.{Mut}

module _ {F A B : Type 0} (g : Mut F (A × Unit {0}) B) (h : A → B) (f : F)
    (gives : (x : A) (y : B) (q : F) → Called g f (x, tt) y q → (q ≡ f) × (y ≡ h x)) where
  from : (xs : List A) (ys : List B) (n i : ℕ) (q : F) → q ≡ f → MapsFrom g q xs ys i n
      → (k : ℕ) → i ≤ k → k < i + n → (d : A) (e : B) → get_or ys k e ≡ h (get_or xs k d)
  from xs ys zero i q q_is m k low high d e = absurd (omega arith)
  from xs ys (suc n) i q q_is (q2, x, y, x_at, y_at, called, rest) k low high d e =
      let now : Called g f (x, tt) y q2 = subst (λ (p : F). Called g p (x, tt) y q2) q_is called in
      let known = gives x y q2 now in
      go (dec_lt i k) known.1 (λ later. from xs ys n (i + 1) q2 known.0 rest k later (omega arith) d e)
    where
      go : Dec (i < k) → y ≡ h x → (i + 1 ≤ k → get_or ys k e ≡ h (get_or xs k d)) → get_or ys k e ≡ h (get_or xs k d)
      go (yes later) y_is more = more (omega arith)
      go (no first) y_is more =
          let here : k ≡ i = omega (arith, first) in
          rw here (y_at.1 e ∙ y_is ∙ ap h (sym (x_at.1 d)))

  pub maps_is : (xs : List A) (ys : List B) (n : ℕ) → length xs ≡ n → IsMapOf g f xs ys n → ys ≡ map h xs
  maps_is [] [] n long m = refl
  maps_is [] (y ∷ ys) n long m = absurd (omega (arith, m.long))
  maps_is (x ∷ xs) ys n long m =
      ext_get_or (h x) ys (map h (x ∷ xs)) (m.long ∙ sym long ∙ sym (length-map (x ∷ xs) h))
      (λ i inside. from (x ∷ xs) ys n 0 f refl m.each i (omega arith) (omega (arith, m.long)) x (h x)
      ∙ sym (get_or-map h (x ∷ xs) i x (h x) (omega (arith, m.long))))
