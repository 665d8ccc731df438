-- Thicknesses of a blind flange (document 01; 004, Figure 4), in hundredths of a mm, each with the law that it is the
-- least of its inequality. Stresses in N/mm², P in thousandths of N/mm², G and the bolt circle C in tenths of a mm, loads
-- in tenths of a newton.
use Rattle.std.specs.Prelude.{ℕ, ◌+◌, ◌-◌, ◌*◌, max, ◌≤◌, ◌<◌, ◌≡◌, refl}
use Rattle.std.proofs.Common.{mul-le-mul, arith}
use Rattle.root.specs.Least.{◌≥◌, Least}
use Rattle.root.specs.Root.{least_root_over}
use Rattle.root.proofs.Laws.{least_root_over_least}

-- 95450·W·(C − G), for a load
abbrev pub moment : ℕ → ℕ → ℕ → ℕ
moment W C G = 95450 * W * (C - G)

-- what the need is worked from: 3·G³·P + 95450·Wm1·(C − G)
abbrev pub flange_loading : ℕ → ℕ → ℕ → ℕ → ℕ
flange_loading G P C Wm1 = 3 * (G * G * G) * P + moment Wm1 C G

pub flange_factor : (S G : ℕ) → 1 ≤ S → 1 ≤ G → 0 < 100 * S * G
flange_factor S G hS hG = omega (arith, mul-le-mul hS hG)

-- e, the need: the least with 100·S·G·e² ≥ 3·G³·P + 95450·Wm1·(C − G)
unfoldable pub flange_thickness : ℕ → ℕ → ℕ → ℕ → ℕ → ℕ
flange_thickness S G P C Wm1 = least_root_over (flange_loading G P C Wm1) (100 * S * G)

pub flange_thickness_least :
    (S G P C Wm1 : ℕ) →
    1 ≤ S →
    1 ≤ G →
    Least
    (λ e. 100 * S * G * (e * e) ≥ 3 * (G * G * G) * P + 95450 * Wm1 * (C - G))
    (flange_thickness S G P C Wm1)
unfolding flange_thickness
flange_thickness_least S G P C Wm1 hS hG = least_root_over_least _ (100 * S * G) (flange_factor S G hS hG)

-- one of the two edges: the least with 100·S·G·edge² ≥ 95450·W·(C − G), for a stress and a load
unfoldable pub edge_under : ℕ → ℕ → ℕ → ℕ → ℕ
edge_under S G C W = least_root_over (moment W C G) (100 * S * G)

pub edge_under_least :
    (S G C W : ℕ) →
    1 ≤ S →
    1 ≤ G →
    Least (λ edge. 100 * S * G * (edge * edge) ≥ 95450 * W * (C - G)) (edge_under S G C W)
unfolding edge_under
edge_under_least S G C W hS hG = least_root_over_least _ (100 * S * G) (flange_factor S G hS hG)

-- edge: the greater of that for S0 and W and that for S and Wm1
abbrev pub edge_thickness_of : ℕ → ℕ → ℕ → ℕ → ℕ → ℕ → ℕ
edge_thickness_of S S0 G C Wm1 W = max (edge_under S0 G C W) (edge_under S G C Wm1)

-- an edge that is the greater of two numbers, each the least of its own inequality
pub record GreaterEdge (S S0 G C Wm1 W edge : ℕ) : Type 0 where
  pub ambient : ℕ
  pub operating : ℕ
  pub ambient_least : Least (λ t. 100 * S0 * G * (t * t) ≥ 95450 * W * (C - G)) ambient
  pub operating_least : Least (λ t. 100 * S * G * (t * t) ≥ 95450 * Wm1 * (C - G)) operating
  pub greater : edge ≡ max ambient operating

pub edge_thickness_of_greater :
    (S S0 G C Wm1 W : ℕ) →
    1 ≤ S →
    1 ≤ S0 →
    1 ≤ G →
    GreaterEdge S S0 G C Wm1 W (edge_thickness_of S S0 G C Wm1 W)
edge_thickness_of_greater S S0 G C Wm1 W hS hS0 hG = record {
  ambient = edge_under S0 G C W;
  operating = edge_under S G C Wm1;
  ambient_least = edge_under_least S0 G C W hS0 hG;
  operating_least = edge_under_least S G C Wm1 hS hG;
  greater = refl;
}
