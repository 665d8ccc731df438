-- Laws of support plates, for callers: what is answered where the tables have an entry and where not, in which bounds, and that
-- the numbers name the answer. Assumes nothing.
use Rattle.std.specs.Prelude.{ℕ, ◌<◌, ◌≤◌, ◌≡◌, ◌≢◌, refl, Bool, true, false, [], ◌∷◌, eqb, ltb, Result, Ok, Err}
use Rattle.std.proofs.Common.{arith, sym, ◌∙◌, lt-ltb, le-ltb, ne_eqb}
use Rattle.std.proofs.lemmas.Bool.Decides.{nat_tests}
use Rattle.tables.specs.SupportPlates.{longest_span_of, plate_thickness_of}
use Rattle.tables.proofs.Laws.SupportPlates.{no_group, tube_below, span_least, span_most, greatest_span, plate_above, thickness_least}
use Rattle.supports.specs.declared.Cause.{Cause}
use Rattle.supports.specs.declared.SupportPlate.{SupportPlate}
use Rattle.supports.specs.SupportPlate.{tube_refused, plate_refused, cause_for, numbers_for, number_of, numbers_of}

module _ (tube group : ℕ) where
  -- 18 is exactly where Table 13 has no entry
  pub no_entry : tube_refused tube group ≡ eqb (longest_span_of tube group) 0
  no_entry = by (tube_refused tube group) refl where
    by : (b : Bool) → tube_refused tube group ≡ b → b ≡ eqb (longest_span_of tube group) 0
    by true e = below (ltb tube 6) refl where
      below : (b : Bool) → ltb tube 6 ≡ b → true ≡ eqb (longest_span_of tube group) 0
      below true c = rw (tube_below tube group (grind (arith, nat_tests, c))) refl
      below false c =
          rw (no_group tube group (λ g. grind (arith, nat_tests, c, e)) (λ g. grind (arith, nat_tests, c, e))) refl
    by false e =
        let least = span_least tube group (grind (arith, nat_tests, e)) (grind (arith, nat_tests, e)) (grind (arith, nat_tests, e)) in
        grind (arith, nat_tests, least)

  module _ (span diameter : ℕ) where
    -- each way in which a call ends
    pub under_18 : longest_span_of tube group ≡ 0 → numbers_for tube group span diameter ≡ 18 ∷ 0 ∷ 0 ∷ 0 ∷ []
    unfolding numbers_for
    under_18 h = rw (no_entry, h) refl

    pub under_19 :
        longest_span_of tube group ≢ 0 → longest_span_of tube group < span →
        numbers_for tube group span diameter ≡ 19 ∷ 0 ∷ 0 ∷ 0 ∷ []
    unfolding numbers_for
    under_19 h k = rw (no_entry, ne_eqb _ 0 h, lt-ltb (longest_span_of tube group) span k) refl

    pub under_20 :
        longest_span_of tube group ≢ 0 → span ≤ longest_span_of tube group → plate_thickness_of span diameter ≡ 0 →
        numbers_for tube group span diameter ≡ 20 ∷ 0 ∷ 0 ∷ 0 ∷ []
    unfolding numbers_for
    under_20 h k p =
        let most : span ≤ greatest_span = omega (arith, k, span_most tube group) in
        let large : plate_refused diameter ≡ true = grind (arith, nat_tests, p, thickness_least span diameter most) in
        rw (no_entry, ne_eqb _ 0 h, le-ltb (longest_span_of tube group) span k, large) refl

    pub answered :
        longest_span_of tube group ≢ 0 → span ≤ longest_span_of tube group → plate_thickness_of span diameter ≢ 0 →
        numbers_for tube group span diameter ≡ 0 ∷ 0 ∷ longest_span_of tube group ∷ plate_thickness_of span diameter ∷ []
    unfolding numbers_for
    answered h k p =
        let small : plate_refused diameter ≡ false = grind (arith, nat_tests, p, plate_above span diameter) in
        rw (no_entry, ne_eqb _ 0 h, le-ltb (longest_span_of tube group) span k, small) refl

-- where nothing refuses, neither answer is 0, and the span is within the longest
pub entries :
    (tube group span diameter : ℕ) → cause_for tube group span diameter ≡ 0 →
    (longest_span_of tube group ≢ 0) × (span ≤ longest_span_of tube group) × (plate_thickness_of span diameter ≢ 0)
entries tube group span diameter h =
    let accepted : tube_refused tube group ≡ false = grind (arith, nat_tests, h) in
    let given : eqb (longest_span_of tube group) 0 ≡ false = sym (no_entry tube group) ∙ accepted in
    let within : span ≤ longest_span_of tube group = grind (arith, nat_tests, h) in
    let plate : diameter ≤ 1000 = grind (arith, nat_tests, h) in
    let least = thickness_least span diameter (omega (arith, within, span_most tube group)) plate in
    (λ z. grind (arith, nat_tests, given, z), within, λ z. omega (arith, least, z))

named_by_number : (c d : Cause) → number_of c ≡ number_of d → c ≡ d
named_by_number c d e = grind arith

-- no two answers have the same numbers: what is promised of these is promised of the answer itself
pub named_by_numbers : (a b : Result SupportPlate Cause) → numbers_of a ≡ numbers_of b → a ≡ b
named_by_numbers (Ok a) (Ok b) e = grind arith
named_by_numbers (Ok a) (Err d) e = grind arith
named_by_numbers (Err c) (Ok b) e = grind arith
named_by_numbers (Err c) (Err d) e = grind (arith, named_by_number)
