-- The plate rule, for callers: the choice is the first of the nominally smallest plates that serve, there is one exactly where
-- one serves, and the rule names no other. Assumes nothing.
use Rattle.std.specs.Prelude.{◌≡◌, refl, Bool, true, false, ◌&&◌, ◌||◌, cond, ℕ, ◌≤◌, ◌<◌, ltb, Option, Some, None}
use Rattle.std.proofs.Math.Path.{sym}
use Rattle.std.proofs.Common.{ap, subst, ◌∙◌, arith, ltb-true, ltb-false, append-nil, append_assoc, true≢false}
use Rattle.std.proofs.Math.Bool.{and-eq-true_iff}
use Rattle.std.specs.List.{filter, fold, reduce}
use mathlib.Core.Logic.{inl, inr, ◌⊎◌}
use mathlib.Core.List.Memᴰ
use mathlib.Core.List.{List, [], ◌∷◌, ◌++◌, foldl, map}
use Rattle.plates.specs.declared.Plate.{Plate}
use Rattle.plates.proofs.LeastByKey.{lower}
use Rattle.plates.specs.Plates.{serves, any_serves, smaller, better, smallest_serving, is_chosen}
use Rattle.plates.specs.Plates.{Listed, Serves, Smallest, Chosen}

-- of two plates the first, unless the second is nominally smaller
abbrev pub smaller_of_two : Plate → Plate → Plate
smaller_of_two = lower (λ plate. plate.thickness)

module _ (total : ℕ) where
  -- the test is the rule's
  pub serves_true : (plate : Plate) → Serves total plate → serves total plate ≡ true
  serves_true plate s = grind (arith, s.0, s.1)

  pub true_serves : (plate : Plate) → serves total plate ≡ true → Serves total plate
  true_serves plate e = (grind (arith, e), grind (arith, e))

  -- ---- one plate more, at the end of a list

  module _ (done : List Plate) (q : Plate) where
    -- what holds of each serving plate so far, and of q, holds of each
    each :
        (R : Plate → Type 0) →
        ((x : Plate) → Listed x done → Serves total x → R x) →
        (Serves total q → R q) →
        (x : Plate) →
        Listed x (done ++ q ∷ []) →
        Serves total x →
        R x
    each R so_far of_q x m h = by_part (Memᴰ.append_cases done m)
      where
        by_part : Listed x done ⊎ Listed x (q ∷ []) → R x
        by_part (inl m) = so_far x m h
        by_part (inr m) =
            let e = Memᴰ.eq_of_singleton m in
            subst R (sym e) (of_q (subst (Serves total) e h))

    taken :
        Serves total q →
        ((x : Plate) → Listed x done → Serves total x → q.thickness < x.thickness) →
        Smallest total (done ++ q ∷ []) q
    taken s larger = record {
      before = done;
      after = [];
      place = refl;
      serving = s;
      larger = larger;
      least = each (λ x. q.thickness ≤ x.thickness) (λ x m h. omega (arith, larger x m h)) (λ h. omega arith);
    }

    stays :
        (p : Plate) →
        (Serves total q → p.thickness ≤ q.thickness) →
        Smallest total done p →
        Smallest total (done ++ q ∷ []) p
    stays p not_smaller s = record {
      before = s.before;
      after = s.after ++ q ∷ [];
      place = ap (λ (l : List Plate). l ++ q ∷ []) s.place ∙ append_assoc s.before (p ∷ s.after) (q ∷ []);
      serving = s.serving;
      larger = s.larger;
      least = each (λ x. p.thickness ≤ x.thickness) s.least not_smaller;
    }

    step : (c : Option Plate) → Chosen total done c → Chosen total (done ++ q ∷ []) (better total c q)
    step c s = by_test c s (serves total q && smaller q c) refl
      where
        by_test :
            (c : Option Plate) →
            Chosen total done c →
            (b : Bool) →
            (serves total q && smaller q c) ≡ b →
            Chosen total (done ++ q ∷ []) (cond b (Some q) c)
        by_test None s true e =
            taken (true_serves q ((and-eq-true_iff (serves total q) true).0 e).0) (λ x m h. absurd (s x m h))
        by_test None s false e = each (λ x. ⊥) s (λ h. true≢false (rw (serves_true q h) at e))
        by_test (Some p) s true e =
            let both = (and-eq-true_iff (serves total q) (ltb q.thickness p.thickness)).0 e in
            let below = ltb-true q.thickness p.thickness both.1 in
            taken (true_serves q both.0) (λ x m h. omega (arith, s.least x m h))
        by_test (Some p) s false e = stays p (λ h. ltb-false _ _ (rw (serves_true q h) at e)) s

  run :
      (ps done : List Plate) (c : Option Plate) →
      Chosen total done c →
      Chosen total (done ++ ps) (foldl (better total) c ps)
  run [] done c s = rw (append-nil done) s
  run (q ∷ ps) done c s =
      rw (← append_assoc done (q ∷ []) ps) (run ps (done ++ q ∷ []) (better total c q) (step done q c s))

  pub smallest : (plates : List Plate) → Chosen total plates (smallest_serving total plates)
  unfolding smallest_serving
  smallest plates = run plates [] None (λ q m h. Memᴰ.not-nil m)

  -- so of whatever is the definition's choice
  pub as_chosen :
      (plates : List Plate) {choice : Option Plate} →
      choice ≡ smallest_serving total plates →
      (choice ≡ smallest_serving total plates) × Chosen total plates choice
  as_chosen plates e = (e, rw e (smallest plates))

  -- the plate chosen is of the list
  pub listed : {plates : List Plate} {chosen : Plate} → Smallest total plates chosen → Listed chosen plates
  listed {chosen = chosen} s = subst (Listed chosen) (sym s.place) (Memᴰ.append_right s.before (Memᴰ.head refl))

  -- ---- the rule names one plate

  module _ (p q : Plate) where
    -- two that stand in one list stand at one place, if neither stands before the other
    one_place :
        (b c a d : List Plate) →
        b ++ p ∷ a ≡ c ++ q ∷ d →
        (Listed q b → ⊥) →
        (Listed p c → ⊥) →
        p ≡ q
    one_place [] [] a d e q_not p_not = cc
    one_place [] (y ∷ c) a d e q_not p_not = absurd (p_not (Memᴰ.head cc))
    one_place (x ∷ b) [] a d e q_not p_not = absurd (q_not (Memᴰ.head cc))
    one_place (x ∷ b) (y ∷ c) a d e q_not p_not =
        let rest : b ++ p ∷ a ≡ c ++ q ∷ d = cc in
        one_place b c a d rest (λ (m : Listed q b). q_not (Memᴰ.tail m)) (λ (m : Listed p c). p_not (Memᴰ.tail m))

    one_plate : {plates : List Plate} → Smallest total plates p → Smallest total plates q → p ≡ q
    one_plate s t =
        one_place s.before t.before s.after t.after (sym s.place ∙ t.place)
        (λ m. omega (arith, s.larger q m t.serving, t.least p (listed s) s.serving))
        (λ m. omega (arith, t.larger p m s.serving, s.least q (listed t) t.serving))

  pub names_one : (plates : List Plate) (choice : Option Plate) → Chosen total plates choice → choice ≡ smallest_serving total plates
  names_one plates choice c = by_choice choice (smallest_serving total plates) c (smallest plates)
    where
      by_choice : (one other : Option Plate) → Chosen total plates one → Chosen total plates other → one ≡ other
      by_choice (Some p) (Some q) c d = ap Some (one_plate p q c d)
      by_choice (Some p) None c d = absurd (d p (listed c) c.serving)
      by_choice None (Some q) c d = absurd (c q (listed d) d.serving)
      by_choice None None c d = refl

  -- ---- chosen exactly where one serves

  one_more : (c : Option Plate) (plate : Plate) → is_chosen (better total c plate) ≡ (is_chosen c || serves total plate)
  one_more (Some p) plate = grind arith
  one_more None plate = grind arith

  run_chooses :
      (ps : List Plate) (c : Option Plate) →
      is_chosen (foldl (better total) c ps) ≡ foldl ◌||◌ (is_chosen c) (map (serves total) ps)
  run_chooses [] c = refl
  run_chooses (q ∷ ps) c =
      run_chooses ps (better total c q)
      ∙ ap (λ (b : Bool). foldl ◌||◌ b (map (serves total) ps)) (one_more c q)

  pub chosen-serves : (plates : List Plate) → any_serves total plates ≡ is_chosen (smallest_serving total plates)
  unfolding smallest_serving
  chosen-serves plates = sym (run_chooses plates None)

  -- ---- the least of the plates that serve, the first of equals, is the definition's choice

  picks : (ps : List Plate) (p : Plate) → Some (fold smaller_of_two p (filter (serves total) ps)) ≡ foldl (better total) (Some p) ps
  picks [] p = refl
  picks (q ∷ ps) p = grind (arith, picks ps)

  pub picked : (plates : List Plate) → reduce smaller_of_two (filter (serves total) plates) ≡ smallest_serving total plates
  unfolding smallest_serving
  picked [] = refl
  picked (q ∷ ps) = grind (arith, picks ps, picked ps)
