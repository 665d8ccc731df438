-- The accuracy argument: a thickness that is the least for a load rounded up is near the least for the exact load.
-- Assumes nothing.
use mathlib.Core.Path.{◌≡◌, refl}
use mathlib.Core.Bool.{Bool, true, false}
use mathlib.Core.Logic.{◌↔◌}
use Prim.Native.Nat.{ℕ, ◌+◌, ◌-◌, ◌*◌, max, ◌≤◌, ◌<◌}
use native.Mathlib.Nat.{mul-le-mul_left, mul-le-mul_right, mul-lt-mul_of_pos_left, lt_of_not-le, not-le_of_lt}
use native.Mathlib.Omega.{arith}
use borrow.Author.Tests.{leb-true, leb-false}
use lib.Dec.{leb}
use Rattle.root.specs.Least.{Least, Reaches}
use Rattle.root.proofs.Laws.{square_le}
use Rattle.rules.specs.Exact.{near_from, Near}

-- the least that a square grows by in a step from 2 below near_from on
abbrev pub least_step : ℕ
least_step = 2 * (near_from - 2) + 1

-- e is the least for the right side y. k times y is at least the exact right side x, and at most slack above it
module _
    (k a y x slack e : ℕ)
    (pos : 0 < k)
    (least : Least (Reaches y a) e)
    (low : x ≤ k * y)
    (high : k * y ≤ x + slack) where
  -- the slack is not more than what that step adds
  pub rounded : slack ≤ k * a * least_step → Near (λ t. x ≤ k * a * (t * t)) e
  rounded small = record {
    holds = omega (arith, mul-le-mul_left k least.holds);
    fails = λ thick t l. not-le_of_lt (below thick t l);
  }
    where
      below : near_from ≤ e → (t : ℕ) → t + 2 ≤ e → k * a * (t * t) < x
      below thick t l =
          let w = e - 2 in
          let short : a * ((w + 1) * (w + 1)) < y = lt_of_not-le (least.fails (w + 1) (omega arith)) in
          omega (
            arith,
            mul-lt-mul_of_pos_left short pos,
            mul-le-mul_left (k * a) (square_le {a = t} {b = w} (omega arith)),
            mul-le-mul_left {m = near_from - 2} {n = w} (k * a) (omega arith),
          )

-- the same for the right sides of a flange: a fixed part z, and the moment of a load that is rounded up by at most r
module _
    (k a z W X r lever y e : ℕ)
    (pos : 0 < k)
    (low : X ≤ k * W)
    (high : k * W ≤ X + r)
    (sum : y ≡ z + 95450 * W * lever)
    (least : Least (Reaches y a) e) where
  pub loaded : 95450 * r * lever ≤ k * a * least_step → Near (λ t. k * z + 95450 * X * lever ≤ k * a * (t * t)) e
  loaded =
      rounded k a y (k * z + 95450 * X * lever) (95450 * r * lever) e pos least
      (rw sum (omega (arith, mul-le-mul_right lever low)))
      (rw sum (omega (arith, mul-le-mul_right lever high)))

-- ---- two demands on one number

pub near_map : {P Q : ℕ → Type 0} {r : ℕ} → ((t : ℕ) → P t ↔ Q t) → Near P r → Near Q r
near_map {r = r} f n = record {
  holds = (f r).0 n.holds;
  fails = λ h t l q. n.fails h t l ((f t).1 q);
}

abbrev pub Rises : (ℕ → Type 0) → Type 0
Rises P = (t u : ℕ) → t ≤ u → P t → P u

-- the greater of two is near both demands together
pub near_both :
    {P Q : ℕ → Type 0} {d e : ℕ} → Rises P → Rises Q → Near P d → Near Q e → Near (λ t. P t × Q t) (max d e)
near_both {P} {Q} {d} {e} p q n m = record {
  holds = (p d (max d e) (omega arith) n.holds, q e (max d e) (omega arith) m.holds);
  fails = λ h t l b. by_greater (leb e d) refl h t l b;
}
  where
    by_greater : (b : Bool) → leb e d ≡ b → near_from ≤ max d e → (t : ℕ) → t + 2 ≤ max d e → ¬ (P t × Q t)
    by_greater true c h t l b = let c = leb-true e d c in n.fails (omega arith) t (omega arith) b.0
    by_greater false c h t l b = let c = leb-false e d c in m.fails (omega arith) t (omega arith) b.1
