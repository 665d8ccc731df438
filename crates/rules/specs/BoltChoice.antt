-- The bolts of a blind flange chosen from a list of sizes (document 02, R-10). A size is a diameter in mm and a root area in
-- tenths of mm²; the circle C is in tenths of a mm.
use Rattle.std.specs.Prelude.{ℕ, ◌*◌, Bool, true, false, not, ◌&&◌, cond, eqb, ltb, leb, length, ◌≡◌}
use Rattle.std.specs.Prelude.{List, [], ◌∷◌, ◌++◌, map, flat_map, zip, find, Option, None}
use mathlib.Core.List.{Memᴰ}
use Rattle.limits.specs.Causes.{Tests, any, first_cause}
use Rattle.limits.specs.Unbolted.{bolted}
use Rattle.limits.specs.declared.BlindFlangeSheet.{BlindFlangeSheet}
use Rattle.limits.specs.declared.unbolted.UnboltedSheet.{UnboltedSheet}
use Rattle.limits.specs.declared.unbolted.FlangeBolts.{FlangeBolts}
use Rattle.rules.specs.FlangeCauses.{bolts_causes}

-- ---- the pairs of a size and a count, in the order in which they are tried

-- 4, 8, 12 up to 100
unfoldable pub counts : List ℕ
counts =
    4
    ∷ 8 ∷ 12 ∷ 16 ∷ 20 ∷ 24 ∷ 28 ∷ 32 ∷ 36 ∷ 40 ∷ 44 ∷ 48 ∷ 52
    ∷ 56 ∷ 60 ∷ 64 ∷ 68 ∷ 72 ∷ 76 ∷ 80 ∷ 84 ∷ 88 ∷ 92 ∷ 96 ∷ 100
    ∷ []

-- a size with each of some counts
abbrev pub with_counts : ℕ × ℕ → List ℕ → List FlangeBolts
with_counts size these = map (λ (count : ℕ). record { bolt = size.0; root = size.1; count = count }) these

-- the sizes in list order, each with every count
abbrev pub pairs_of : List (ℕ × ℕ) → List FlangeBolts
pairs_of sizes = flat_map (λ size. with_counts size counts) sizes

unfoldable pub pairs : List ℕ → List ℕ → List FlangeBolts
pairs diameters areas = pairs_of (zip diameters areas)

-- ---- the pair taken

-- pitch is enough: 314·C is not below 2500·bolt·count
abbrev pub pitch_enough : BlindFlangeSheet → Bool
pitch_enough s = leb (2500 * s.bolt * s.count) (314 * s.circle)

-- a flange's bolts meet none of the causes 10, 12 and 13, and their pitch is enough
unfoldable pub fits : BlindFlangeSheet → Bool
fits s = eqb (first_cause (bolts_causes s s.bolt s.root s.count)) 0 && pitch_enough s

-- the same of bolts for a flange without them
abbrev pub bolts_fit : UnboltedSheet → FlangeBolts → Bool
bolts_fit s bolts = fits (bolted s bolts)

-- a list is empty or longer than 16, or the lengths differ
abbrev pub length_refused : ℕ → Tests
length_refused sizes = eqb sizes 0 ∷ ltb 16 sizes ∷ []

abbrev pub lengths_refused : ℕ → ℕ → Tests
lengths_refused diameters areas = length_refused diameters ++ length_refused areas ++ not (eqb diameters areas) ∷ []

-- the first pair that fits; none of lists that are refused
unfoldable pub bolts_taken : UnboltedSheet → List ℕ → List ℕ → Option FlangeBolts
bolts_taken s diameters areas =
    cond (any (lengths_refused (length diameters) (length areas))) None (find (bolts_fit s) (pairs diameters areas))

-- ---- what the first is

abbrev pub NonePasses : {A : Type 0} → (A → Bool) → List A → Type 0
NonePasses {A} test items = (x : A) → Memᴰ x items → test x ≡ false

-- it passes the test, it stands in the list, and none before it passes
pub record First {A : Type 0} (test : A → Bool) (items : List A) (found : A) : Type 0 where
  pub before : List A
  pub after : List A
  pub stands : items ≡ before ++ found ∷ after
  pub passes : test found ≡ true
  pub earlier : NonePasses test before
