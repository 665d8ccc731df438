-- The laws that callers cite: each answer is the least, whatever is the least is the answer, and what is answered
-- over zero. Assumes nothing.
use Rattle.std.specs.Prelude.{◌≡◌, refl, Bool, true, false, cond, ◌↔◌, ℕ, zero, suc, ◌+◌, ◌-◌, ◌*◌, ◌/◌, ◌≤◌, ◌<◌, leb}
use Rattle.std.proofs.Common.{mul-le-mul, div-lt_iff_lt-mul, lt_of_not-le, arith, leb-true, leb-false, ne_eqb}
use Rattle.root.specs.Least.{◌≥◌, Least, Covers, Reaches, least_unique}
use Rattle.root.specs.Root.{over_zero, ceil_div, whole_root_by, least_root, least_root_over}

-- ---- ceiling division

pub ceil_div-zero : (n : ℕ) → ceil_div n 0 ≡ over_zero
unfolding ceil_div
ceil_div-zero n = refl

-- the law by which it is used: it is at most q exactly where q covers n
pub ceil_div-le : (n d q : ℕ) → 0 < d → (ceil_div n d ≤ q) ↔ Covers n d q
unfolding ceil_div
ceil_div-le n d q h =
    let e : ((n + (d - 1)) / d < suc q) ↔ (n + (d - 1) < suc q * d) = div-lt_iff_lt-mul h in
    rw (ne_eqb d 0 (omega arith)) ((λ l. omega (arith, e.0 (omega arith))), (λ l. omega (arith, e.1 (omega arith))))

pub ceil_div_least : (n d : ℕ) → 0 < d → Least (Covers n d) (ceil_div n d)
ceil_div_least n d h = record {
  holds = (ceil_div-le n d _ h).0 (omega arith);
  fails = λ q l c. omega (arith, (ceil_div-le n d q h).1 c);
}

-- rounding up adds less than d
pub ceil_div_excess : (n d : ℕ) → 0 < d → d * ceil_div n d < n + d
ceil_div_excess n d h = by_size (ceil_div n d) (ceil_div_least n d h)
  where
    by_size : (q : ℕ) → Least (Covers n d) q → d * q < n + d
    by_size zero p = omega arith
    by_size (suc q) p = omega (arith, lt_of_not-le (p.fails q (omega arith)))

pub ceil_div_unique : (n d q : ℕ) → 0 < d → Least (Covers n d) q → q ≡ ceil_div n d
ceil_div_unique n d q h p = least_unique q _ p (ceil_div_least n d h)

-- ---- the least root

-- r is the whole part of n's root
abbrev Whole : ℕ → ℕ → Type 0
Whole n r = (r * r ≤ n) × (n < (r + 1) * (r + 1))

digit :
    (n r : ℕ) →
    Whole (n / 4) r →
    (b : Bool) →
    leb ((2 * r + 1) * (2 * r + 1)) n ≡ b →
    Whole n (cond b (2 * r + 1) (2 * r))
digit n r h true e = omega (arith, leb-true)
digit n r h false e = omega (arith, leb-false)

whole_by : (digits n : ℕ) → n ≤ digits → Whole n (whole_root_by digits n)
unfolding whole_root_by
whole_by zero n h = omega arith
whole_by (suc k) zero h = omega arith
whole_by (suc k) (suc m) h = digit (suc m) _ (whole_by k (suc m / 4) (omega arith)) _ refl

pub square_le : {a b : ℕ} → a ≤ b → a * a ≤ b * b
square_le h = mul-le-mul h h

up : (n r : ℕ) → Whole n r → (b : Bool) → leb n (r * r) ≡ b → Least (λ r. r * r ≥ n) (cond b r (r + 1))
up n r h true e = record {
  holds = omega (arith, leb-true);
  fails = λ s l c. omega (arith, square_le {a = s + 1} {b = r} (omega arith));
}
up n r h false e = record {
  holds = omega arith;
  fails = λ s l c. omega (arith, leb-false, square_le {a = s} {b = r} (omega arith));
}

pub least_root_least : (n : ℕ) → Least (λ r. r * r ≥ n) (least_root n)
unfolding least_root
least_root_least n = up n (whole_root_by n n) (whole_by n n (omega arith)) _ refl

pub least_root_unique : (n r : ℕ) → Least (λ r. r * r ≥ n) r → r ≡ least_root n
least_root_unique n r p = least_unique r _ p (least_root_least n)

-- ---- the root over a factor: the law of every use of the root

pub least_root_over-zero : (n : ℕ) → least_root_over n 0 ≡ over_zero
unfolding least_root_over
least_root_over-zero n = refl

-- how it is computed: for the proof of least_root_over, not for callers
pub least_root_over_is : (n a : ℕ) → 0 < a → least_root_over n a ≡ least_root (ceil_div n a)
unfolding least_root_over
least_root_over_is n a h = simp (ne_eqb a 0 (omega arith))

pub least_root_over_least : (n a : ℕ) → 0 < a → Least (Reaches n a) (least_root_over n a)
least_root_over_least n a h =
    let p = least_root_least (ceil_div n a) in
    rw (least_root_over_is n a h) record {
      holds = (ceil_div-le n a _ h).0 p.holds;
      fails = λ t l c. p.fails t l ((ceil_div-le n a (t * t) h).1 c);
    }

pub least_root_over_unique : (n a t : ℕ) → 0 < a → Least (Reaches n a) t → t ≡ least_root_over n a
least_root_over_unique n a t h p = least_unique t _ p (least_root_over_least n a h)
