-- Laws of the design stress, for callers: where there is none, and the bounds between which it lies. Assumes nothing.
use Rattle.std.specs.Prelude.{ℕ, zero, suc, ◌-◌, ◌≤◌, ◌<◌, ◌≡◌, refl, ◌≢◌, Bool, ◌||◌, List, [], ◌∷◌, T, leb, eqb, length, get_or}
use Rattle.std.proofs.Common.{zero-le, ap, ◌∙◌, arith, leb→le, le→leb, eqb→eq}
use Rattle.std.proofs.lemmas.Bool.Decides.{nat_tests}
use Rattle.std.proofs.Math.ListN.{get_or-eq_default}
use Rattle.tables.specs.ByLimits.{Reads}
use Rattle.tables.specs.DesignStress.{design_stress_of, column, row_of, table1, column_limits}
use Rattle.tables.specs.TableRule.{every, at, other}
use Rattle.tables.proofs.Laws.ByLimits.{read, entry_read}

-- the stress is an entry of the material's row, that of the column read: none lies between two columns
pub in_table : (m t : ℕ) → design_stress_of m t ≡ get_or (row_of m) (column t) 0
unfolding design_stress_of
in_table m t = refl

-- so it is the entry of whatever column is read
pub stress_read : (m t i : ℕ) → Reads t column_limits i → design_stress_of m t ≡ get_or (row_of m) i 0
unfolding column
stress_read m t i h = in_table m t ∙ entry_read t column_limits (row_of m) 0 tt i h

-- no row is longer than the nine columns
pub row-length : (m : ℕ) → length (row_of m) ≤ 9
row-length m = leb→le _ _ (at (λ r. leb (length r) 9) ([] ∷ table1) [] tt tt m)

-- no stress: a material outside 1 to 11, a temperature over 300
pub no_material : (t : ℕ) → design_stress_of 0 t ≡ 0
no_material t = in_table 0 t

pub past_materials : (m t : ℕ) → 11 < m → design_stress_of m t ≡ 0
past_materials m t h =
    in_table m t ∙ ap (λ (r : List ℕ). get_or r (column t) 0) (get_or-eq_default ([] ∷ table1) [] h)

pub past_columns : (m t : ℕ) → 8 < column t → design_stress_of m t ≡ 0
past_columns m t h = in_table m t ∙ get_or-eq_default (row_of m) 0 (omega (arith, row-length m))

pub too_hot : (m t : ℕ) → 300 < t → design_stress_of m t ≡ 0
unfolding column
too_hot m t h = past_columns m t (grind (arith, nat_tests, (read t column_limits tt).1 8 (omega arith)))

-- the entry that the code reads
pub entry : (m t : ℕ) → m ≢ 0 → design_stress_of m t ≡ get_or (get_or table1 (m - 1) []) (column t) 0
entry zero t h = absurd (h refl)
entry (suc k) t h =
    let e : k ≡ suc k - 1 = omega arith in
    in_table (suc k) t ∙ ap (λ (i : ℕ). get_or (get_or table1 i []) (column t) 0) e

-- a test of single stresses holds of every design stress
stress_rule : (test : ℕ → Bool) → T (every (every test) table1) → T (test 0) → (m t : ℕ) → T (test (design_stress_of m t))
stress_rule test e z m t =
    rw (in_table m t) (at test (row_of m) 0 (at (every test) ([] ∷ table1) [] e tt m) z (column t))

-- the greatest and the least stress of the table
abbrev pub greatest_stress : ℕ
greatest_stress = 128

abbrev pub least_stress : ℕ
least_stress = 18

pub stress_most : (m t : ℕ) → design_stress_of m t ≤ greatest_stress
stress_most m t = leb→le _ _ (stress_rule (λ s. leb s greatest_stress) tt tt m t)

pub stress_least : (m t : ℕ) → design_stress_of m t ≢ 0 → least_stress ≤ design_stress_of m t
stress_least m t h =
    let s = design_stress_of m t in
    let enough = leb least_stress s in
    let rule = stress_rule (λ s. eqb s 0 || leb least_stress s) tt tt m t in
    leb→le least_stress s (other (eqb s 0) enough rule (λ z. h (eqb→eq s 0 z)))

-- a material's greatest stress is that of its first column
pub ambient_greatest : (m t : ℕ) → design_stress_of m t ≤ design_stress_of m 50
unfolding column
ambient_greatest m t =
    let r = row_of m in
    let first = get_or r 0 0 in
    let rule : T (every (λ s. leb s first) r) = at (λ r. every (λ s. leb s (get_or r 0 0)) r) ([] ∷ table1) [] tt tt m in
    rw (in_table m t, in_table m 50)
    (leb→le _ _ (at (λ s. leb s first) r 0 rule (le→leb 0 first zero-le) (column t)))
