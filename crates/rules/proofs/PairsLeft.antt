-- The pairs of a size and a count that are left to try, in the two loops over them. Assumes nothing.
use mathlib.Core.Path.{◌≡◌, refl, ap, ◌∙◌}
use mathlib.Core.Logic.{◌⊎◌, inl, inr}
use mathlib.Core.Bool.{Bool, true, false, cond}
use mathlib.Core.List.{List, [], ◌∷◌, ◌++◌, map}
use Prim.Native.Nat.{ℕ, zero, suc, ◌+◌, ◌-◌, ◌/◌, ◌<◌, ◌≤◌}
use native.Mathlib.Omega.{arith}
use Rattle.std.specs.Prelude.{Option, Some, None, find, zip, length}
use Rattle.std.proofs.lemmas.List.{length-map}
use Rattle.limits.specs.Causes.{any}
use Rattle.limits.specs.declared.unbolted.UnboltedSheet.{UnboltedSheet}
use Rattle.limits.specs.declared.unbolted.FlangeBolts.{FlangeBolts}
use Rattle.rules.specs.BoltChoice.{bolts_fit, bolts_taken, counts, lengths_refused, pairs, pairs_of, with_counts}

-- those of the sizes in two lists whose entries are these numbers
abbrev pub sizes_left : {N : Type 0} → (N → ℕ) → List N → List N → List FlangeBolts
sizes_left number diameters areas = pairs_of (zip (map number diameters) (map number areas))

-- what is taken from such lists
module _ {N : Type 0} (number : N → ℕ) (s : UnboltedSheet) (diameters areas : List N) where
  pub none_taken :
      true ≡ any (lengths_refused (length diameters) (length areas)) →
      None ≡ bolts_taken s (map number diameters) (map number areas)
  unfolding bolts_taken
  none_taken e = rw (length-map diameters number, length-map areas number, ← e)

  pub taken_left :
      false ≡ any (lengths_refused (length diameters) (length areas)) →
      bolts_taken s (map number diameters) (map number areas) ≡ find (bolts_fit s) (sizes_left number diameters areas)
  unfolding bolts_taken pairs
  taken_left e = rw (length-map diameters number, length-map areas number, ← e)

-- so many counts from this one on, each four more than the one before
unfoldable pub by_fours : ℕ → ℕ → List ℕ
by_fours zero count = []
by_fours (suc n) count = count ∷ by_fours n (count + 4)

-- the counts from this one on
abbrev pub counts_left : ℕ → List ℕ
counts_left count = by_fours ((104 - count) / 4) count

-- all of them
pub from_four : counts ≡ counts_left 4
unfolding counts by_fours
from_four = refl

one_count : (count : ℕ) → count ≤ 100 → counts_left count ≡ count ∷ counts_left (count + 4)
unfolding by_fours
one_count count h =
    let k : (104 - count) / 4 ≡ suc ((104 - (count + 4)) / 4) = omega arith in
    rw k

no_count : (count : ℕ) → 100 < count → counts_left count ≡ []
unfolding by_fours
no_count count h =
    let k : (104 - count) / 4 ≡ 0 = omega arith in
    rw k

-- a size with the counts from this one on, and the sizes after it
module _ (test : FlangeBolts → Bool) (bolt root count : ℕ) (rest : List FlangeBolts) where
  abbrev left : List ℕ → Option FlangeBolts
  left counts = find test (with_counts (bolt, root) counts ++ rest)

  abbrev pub pair : FlangeBolts
  pair = record { bolt = bolt; root = root; count = count }

  next_pair : count ≤ 100 → left (counts_left count) ≡ cond (test pair) (Some pair) (left (counts_left (count + 4)))
  next_pair h = ap left (one_count count h)

  pub passed_over : count ≤ 100 → test pair ≡ false → left (counts_left count) ≡ left (counts_left (count + 4))
  passed_over h e = next_pair h ∙ rw e

  pub found : count ≤ 100 → test pair ≡ true → left (counts_left count) ≡ Some pair
  found h e = next_pair h ∙ rw e

  pub next_size : 100 < count → left (counts_left count) ≡ find test rest
  next_size h = ap left (no_count count h)

-- at the end of either list no size is left
module _ {N : Type 0} (number : N → ℕ) where
  none_left : (diameters areas : List N) → (length diameters ≡ 0) ⊎ (length areas ≡ 0) → sizes_left number diameters areas ≡ []
  none_left [] areas h = refl
  none_left (d ∷ diameters) [] h = refl
  none_left (d ∷ diameters) (a ∷ areas) (inl e) = absurd (omega (arith, e))
  none_left (d ∷ diameters) (a ∷ areas) (inr e) = absurd (omega (arith, e))

  pub all_tried :
      {A B : Type 0} {P : A → Type 0} {Q : B → Type 0} (test : FlangeBolts → Bool) (diameters areas : List N) →
      ((x : A) × ((length diameters ≡ 0) × P x)) ⊎ ((x : B) × ((length areas ≡ 0) × Q x)) →
      find test (sizes_left number diameters areas) ≡ None
  all_tried test diameters areas (inl h) = ap (find test) (none_left diameters areas (inl h.1.0))
  all_tried test diameters areas (inr h) = ap (find test) (none_left diameters areas (inr h.1.0))
