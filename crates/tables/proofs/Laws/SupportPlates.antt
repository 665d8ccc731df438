-- Laws of Tables 13 and 14, for callers: which entry is read, where there is none, and the least and greatest. Assumes nothing.
use Rattle.std.specs.Prelude.{ℕ, zero, suc, ◌-◌, ◌<◌, ◌≤◌, ◌≡◌, ◌≢◌, refl, Bool, ◌&&◌, List, [], ◌∷◌, T, eqb, leb, length, get_or, Some}
use Rattle.std.proofs.Common.{zero-le, ap, ◌∙◌, arith, leb→le, eqb→eq}
use Rattle.std.proofs.Math.ListN.{get_or-eq_default}
use Rattle.std.proofs.lemmas.Bool.Decides.{nat_tests}
use Rattle.tables.specs.ByLimits.{Reads, ReadsLast}
use Rattle.tables.specs.SupportPlates.{longest_span_of, plate_thickness_of, table13, table14, tube_limits, span_limits, plate_limits}
use Rattle.tables.specs.SupportPlates.{tube_row, plate_row, span_column}
use Rattle.tables.specs.DesignStress.{nonzero}
use Rattle.tables.specs.TableRule.{every, at, inside, both}
use Rattle.tables.proofs.Laws.ByLimits.{read, read_last, entry_read, entry_read_last}

-- ---- what is read: for every number a line

pub tube_read : (tube : ℕ) → ReadsLast tube tube_limits (tube_row tube)
unfolding tube_row
tube_read tube = read_last tube tube_limits tt

pub plate_read : (diameter : ℕ) → Reads diameter plate_limits (plate_row diameter)
unfolding plate_row
plate_read diameter = read diameter plate_limits tt

pub span_read : (span : ℕ) → Reads span span_limits (span_column span)
unfolding span_column
span_read span = read span span_limits tt

-- one statement over both tables, for every number: the answers are the entries of whatever lines are read, and 0 where these
-- have none. `tube_read`, `plate_read` and `span_read` have the lines
pub lookups :
    (tube group span diameter i j k : ℕ) →
    ReadsLast tube tube_limits i → Reads diameter plate_limits j → Reads span span_limits k →
    (longest_span_of tube group ≡ get_or (0 ∷ get_or ([] ∷ table13) i []) group 0)
    × (plate_thickness_of span diameter ≡ get_or (get_or table14 j []) k 0)
unfolding longest_span_of plate_thickness_of tube_row plate_row span_column
lookups tube group span diameter i j k a b c = (
  ap (λ row. get_or (0 ∷ row) group 0) (entry_read_last tube tube_limits ([] ∷ table13) [] tt i a),
  ap (λ row. get_or row (span_column span) 0) (entry_read diameter plate_limits table14 [] tt j b)
      ∙ entry_read span span_limits (get_or table14 j []) 0 tt k c,
)

-- a whole table: each row has so many entries, none below the least
abbrev whole : ℕ → ℕ → List (List ℕ) → Bool
whole n least rows = every (λ r. eqb (length r) n && every (leb least) r) rows

-- then there is one at each place
entry_least :
    (n least : ℕ) (rows : List (List ℕ)) → T (whole n least rows) →
    (i j : ℕ) → i < length rows → j < n → least ≤ get_or (get_or rows i []) j 0
entry_least n least rows t i j h k =
    let r = get_or rows i [] in
    let row = both (eqb (length r) n) (every (leb least) r) (inside (λ r. eqb (length r) n && every (leb least) r) rows [] t i h) in
    leb→le least _ (inside (leb least) r 0 row.1 j (omega (arith, k, eqb→eq (length r) n row.0)))

entry_given : (n least : ℕ) → 1 ≤ least → least ≤ n → nonzero n ≡ Some n
entry_given n least p h = grind (arith, nat_tests)

-- ---- Table 13

span_row_length : (tube : ℕ) → length (get_or ([] ∷ table13) (tube_row tube) []) ≤ 2
span_row_length tube = leb→le _ _ (at (λ r. leb (length r) 2) ([] ∷ table13) [] tt tt (tube_row tube))

-- no span: a tube below every listed one
pub no_tube : (tube group : ℕ) → tube_row tube ≡ 0 → longest_span_of tube group ≡ 0
unfolding longest_span_of
no_tube tube zero h = refl
no_tube tube (suc k) h = ap (λ (i : ℕ). get_or (0 ∷ get_or ([] ∷ table13) i []) (suc k) 0) h

-- nor a group that is neither of the two
pub no_group : (tube group : ℕ) → group ≢ 1 → group ≢ 2 → longest_span_of tube group ≡ 0
unfolding longest_span_of
no_group tube zero a b = refl
no_group tube (suc zero) a b = absurd (a refl)
no_group tube (suc (suc zero)) a b = absurd (b refl)
no_group tube (suc (suc (suc k))) a b =
    get_or-eq_default (get_or ([] ∷ table13) (tube_row tube) []) 0 (omega (arith, span_row_length tube))

-- the entry that the code reads; it is not 0
pub span_entry :
    (tube group k i : ℕ) → group ≡ suc k → tube_row tube ≡ suc i →
    longest_span_of tube group ≡ get_or (get_or table13 i []) k 0
unfolding longest_span_of
span_entry tube group k i g h = rw (g, h) refl

pub span_given :
    (tube group k i : ℕ) → group ≡ suc k → tube_row tube ≡ suc i → i < 10 → k < 2 →
    nonzero (longest_span_of tube group) ≡ Some (get_or (get_or table13 i []) k 0)
span_given tube group k i g h p q =
    rw (span_entry tube group k i g h) (entry_given _ 550 (omega arith) (entry_least 2 550 table13 tt i k p q))

-- ---- Table 14

thickness_row_length : (diameter : ℕ) → length (get_or table14 (plate_row diameter) []) ≤ 5
thickness_row_length diameter = leb→le _ _ (at (λ r. leb (length r) 5) table14 [] tt tt (plate_row diameter))

-- no thickness: a span or a plate past the last limit
pub no_plate : (span diameter : ℕ) → 3 ≤ plate_row diameter → plate_thickness_of span diameter ≡ 0
unfolding plate_thickness_of
no_plate span diameter h =
    ap (λ (row : List ℕ). get_or row (span_column span) 0) (get_or-eq_default table14 [] h)

pub no_column : (span diameter : ℕ) → 5 ≤ span_column span → plate_thickness_of span diameter ≡ 0
unfolding plate_thickness_of
no_column span diameter h =
    let row = get_or table14 (plate_row diameter) [] in
    let past : length row ≤ span_column span = omega (arith, h, thickness_row_length diameter) in
    get_or-eq_default row 0 past

pub thickness_given :
    (span diameter i j : ℕ) → plate_row diameter ≡ i → span_column span ≡ j → i < 3 → j < 5 →
    nonzero (plate_thickness_of span diameter) ≡ Some (get_or (get_or table14 i []) j 0)
unfolding plate_thickness_of
thickness_given span diameter i j h k p q =
    rw (h, k) (entry_given _ 3 (omega arith) (entry_least 5 3 table14 tt i j p q))

-- ---- bounds

-- no span below the least diameter, and one from it on, in either group
abbrev pub least_tube : ℕ
least_tube = 6

pub tube_below : (tube group : ℕ) → tube < least_tube → longest_span_of tube group ≡ 0
tube_below tube group h = no_tube tube group (grind (arith, nat_tests, (tube_read tube).1 0 (omega arith)))

pub span_least : (tube group : ℕ) → least_tube ≤ tube → 1 ≤ group → group ≤ 2 → 550 ≤ longest_span_of tube group
span_least tube group h g q =
    let p = tube_row tube in
    let one : 1 ≤ p = grind (arith, nat_tests, (tube_read tube).1 0 (omega arith)) in
    let row : p ≡ suc (p - 1) = omega (arith, one) in
    let column : group ≡ suc (group - 1) = omega (arith, g) in
    rw (span_entry tube group (group - 1) (p - 1) column row)
    (entry_least 2 550 table13 tt (p - 1) (group - 1) (omega (arith, one, (tube_read tube).0)) (omega (arith, g, q)))

-- none is over the last column of Table 14, so that a span allowed has a column
abbrev pub greatest_span : ℕ
greatest_span = 3000

pub span_most : (tube group : ℕ) → longest_span_of tube group ≤ greatest_span
unfolding longest_span_of
span_most tube zero = zero-le
span_most tube (suc k) =
    let rule = at (every (λ s. leb s greatest_span)) ([] ∷ table13) [] tt tt (tube_row tube) in
    leb→le _ _ (at (λ s. leb s greatest_span) (get_or ([] ∷ table13) (tube_row tube) []) 0 rule tt k)

-- no thickness above the greatest diameter, and one up to it, at a span up to the greatest
abbrev pub greatest_plate : ℕ
greatest_plate = 1000

pub plate_above : (span diameter : ℕ) → greatest_plate < diameter → plate_thickness_of span diameter ≡ 0
plate_above span diameter h =
    no_plate span diameter (grind (arith, nat_tests, (plate_read diameter).1 2 (omega arith)))

pub thickness_least :
    (span diameter : ℕ) → span ≤ greatest_span → diameter ≤ greatest_plate → 3 ≤ plate_thickness_of span diameter
unfolding plate_thickness_of
thickness_least span diameter h k =
    let i = plate_row diameter in
    let j = span_column span in
    let row : i < 3 = grind (arith, nat_tests, (plate_read diameter).1 2 (omega arith)) in
    let column : j < 5 = grind (arith, nat_tests, (span_read span).1 4 (omega arith)) in
    entry_least 5 3 table14 tt i j row column
