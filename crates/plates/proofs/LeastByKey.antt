-- What `min_by_key` finds: of the items that are least by the key, the first. Assumes nothing.
use Rattle.std.specs.Prelude.{◌≡◌, refl, ℕ, cond, ltb, Option, Some, None}
use Rattle.std.proofs.Common.{sym, ap, subst, ◌∙◌, arith, List, [], ◌∷◌, map-id, lt-ltb, le-ltb, Ordering, Less, Equal, Greater}
use Rattle.std.specs.List.{FoldsTo, fold, reduce}
use Rattle.std.specs.Fn.{CalledAt}
use Rattle.std.specs.Iterator.{KeyTurn, PicksMinByKey}
use Rattle.std.specs.Ordering.{nat_cmp, min_by_ordering}
use Rattle.std.proofs.lemmas.Cmp.{ranked}
use Rattle.std.proofs.lemmas.Iterator.{YieldsList, items_from_drains}
use denote.Ref.{Bor}
use denote.Param.Members.{Mut}

-- of two items the first, unless the second is less by the key
abbrev pub lower : {A : Type 0} → (A → ℕ) → A → A → A
lower key p q = cond (ltb (key q) (key p)) q p

module _ {A F : Type 0} (key : A → ℕ) (g : Mut F (Bor A × Unit {0}) ℕ) (f : F)
    (calls : (x : A) (k : ℕ) (q : F) → CalledAt g f x k q → (q ≡ f) × (k ≡ key x)) where
  -- one turn: the better of two items and its key
  turned : (o : Ordering) (p q : A) → nat_cmp (key p) (key q) ≡ o
      → (min_by_ordering o p q ≡ lower key p q) × (min_by_ordering o (key p) (key q) ≡ key (lower key p q))
  turned Less p q e = let h = ranked (key p) (key q) Less (sym e) in rw (le-ltb (key q) (key p) (omega (arith, h))) (refl, refl)
  turned Equal p q e = let h = ranked (key p) (key q) Equal (sym e) in rw (le-ltb (key q) (key p) (omega (arith, h))) (refl, refl)
  turned Greater p q e = let h = ranked (key p) (key q) Greater (sym e) in rw (lt-ltb (key q) (key p) h) (refl, refl)

  turns :
      (xs : List A) (x : A) (w : F) (k : ℕ) (end : F × ℕ) (y : A) →
      w ≡ f →
      k ≡ key x →
      FoldsTo {P = (F × ℕ) × A} (KeyTurn min_by_ordering min_by_ordering g nat_cmp) ((w, k), x) xs (end, y) →
      y ≡ fold (lower key) x xs
  turns [] x w k end y a b c = sym (ap (λ q. q.1) c)
  turns (z ∷ xs) x w k end y a b c =
      let turn = c.1 in
      let called = calls z turn.0 _ (subst (λ v. CalledAt g v z turn.0 c.0.0.0) a turn.2) in
      let best = turned turn.1 x z (rw (← b, ← called.1) turn.3) in
      let item = turn.5 ∙ best.0 in
      let at_key = turn.4 ∙ rw (b, called.1) best.1 ∙ ap key (sym item) in
      turns xs c.0.1 c.0.0.0 c.0.0.1 end y called.0 at_key c.2 ∙ ap (λ v. fold (lower key) v xs) item

  pub least_by_key :
      {S : Type 0} {steps : S → Option A → S → Type 0} {s : S} {all : List A} (r : Option A) →
      PicksMinByKey steps g nat_cmp s f r →
      YieldsList steps (λ x. x) s all →
      r ≡ reduce (lower key) all
  least_by_key None d e = ap (reduce (lower key)) (items_from_drains [] (d.1.0, d.1.1, λ _. (d.0, d.1.2)) e)
  least_by_key (Some y) d e =
      let first = calls d.0 d.2 d.3 d.6 in
      let drained = d.5 in
      ap Some (turns d.1 d.0 d.3 d.2 d.4 y first.0 first.1 d.7)
      ∙ ap (reduce (lower key))
      (sym (map-id (d.0 ∷ d.1)) ∙ items_from_drains (d.0 ∷ d.1) (drained.1.0, drained.1.1, λ _. (drained.0, drained.1.2)) e)
