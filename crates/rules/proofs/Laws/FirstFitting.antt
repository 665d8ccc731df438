-- Laws for callers: the bolts taken from a list of sizes are the first pair of a size and a count that fits. Assumes nothing.
use mathlib.Core.Path.{◌≡◌, refl, ap, ◌∙◌}
use mathlib.Core.Bool.{Bool, true, false, cond}
use mathlib.Core.List.{List, [], ◌∷◌, Memᴰ}
use mathlib.Core.List.Memᴰ
use Prim.Native.Nat.{ℕ}
use Rattle.std.specs.Prelude.{Option, Some, None, find, length}
use Rattle.limits.specs.Causes.{any}
use Rattle.limits.specs.declared.unbolted.UnboltedSheet.{UnboltedSheet}
use Rattle.limits.specs.declared.unbolted.FlangeBolts.{FlangeBolts}
use Rattle.rules.specs.BoltChoice.{bolts_fit, pairs, lengths_refused, bolts_taken, NonePasses, First}

-- ---- the first that passes a test

module _ {A : Type 0} (test : A → Bool) where
  abbrev pub IsFirst : List A → Option A → Type 0
  IsFirst items (Some x) = First test items x
  IsFirst items None = NonePasses test items

  one_more : {x : A} {items : List A} → test x ≡ false → NonePasses test items → NonePasses test (x ∷ items)
  one_more e n y (Memᴰ.head p) = ap test p ∙ e
  one_more e n y (Memᴰ.tail m) = n y m

  later :
      {x : A} (items : List A) → test x ≡ false → (found : Option A) → IsFirst items found → IsFirst (x ∷ items) found
  later {x} items e (Some y) f = record {
    before = x ∷ f.before;
    after = f.after;
    stands = ap (λ (items : List A). x ∷ items) f.stands;
    passes = f.passes;
    earlier = one_more e f.earlier;
  }
  later items e None f = one_more e f

  pub found_first : (items : List A) → IsFirst items (find test items)
  found_first [] = λ x m. absurd (Memᴰ.not-nil m)
  found_first (x ∷ items) = by_test (test x) refl (found_first items)
    where
      by_test : (b : Bool) → test x ≡ b → IsFirst items (find test items) → IsFirst (x ∷ items) (cond b (Some x) (find test items))
      by_test true e r =
          record { before = []; after = items; stands = refl; passes = e; earlier = λ y m. absurd (Memᴰ.not-nil m) }
      by_test false e r = later items e (find test items) r

-- ---- of two lists

module _ (s : UnboltedSheet) (diameters areas : List ℕ) where
  -- the pair taken fits, and no earlier one does
  pub taken_first :
      {b : FlangeBolts} → bolts_taken s diameters areas ≡ Some b → First (bolts_fit s) (pairs diameters areas) b
  unfolding bolts_taken
  taken_first {b} e = by_lists (any (lengths_refused (length diameters) (length areas))) e
    where
      by_lists :
          (refused : Bool) →
          cond refused None (find (bolts_fit s) (pairs diameters areas)) ≡ Some b →
          First (bolts_fit s) (pairs diameters areas) b
      by_lists true q = cc
      by_lists false q = rw q at (found_first (bolts_fit s) (pairs diameters areas))

  -- and of lists that are not refused none is taken only where none fits
  pub none_fits :
      any (lengths_refused (length diameters) (length areas)) ≡ false →
      bolts_taken s diameters areas ≡ None →
      NonePasses (bolts_fit s) (pairs diameters areas)
  unfolding bolts_taken
  none_fits e q =
      let none : find (bolts_fit s) (pairs diameters areas) ≡ None = rw e at q in
      rw none at (found_first (bolts_fit s) (pairs diameters areas))
