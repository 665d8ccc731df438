-- `figures::blind_flange_figures` meets its contract: what each step asks for follows from what those before it answered.
-- Assumes nothing.
use Rattle.std.proofs.Common.{arith, ap, rules, sym, ◌∙◌, ◌≡◌, ◌≤◌, ℕ, Option, unwrap_or}
use Rattle.tables.specs.DesignStress.{design_stress_of}
use Rattle.rules.specs.Bounds.{most_load}
use Rattle.rules.specs.Figures.{ambient, blind_flange_figures}
use Rattle.rules.proofs.WithinLimits.{FlangeWithin, BoltingWithin, both_within}
use Rattle.rules.proofs.FlangeBounded as bounds
use Rattle.rules.proofs.figures.blind_flange_figures.Goals as goal
use Rattle.rules.proofs.figures.blind_flange_figures.Goals.{Start, After-unwrap-ambient_stress}

-- what holds of the sheet and its gasket where no cause applies
limits : (c : Start) → FlangeWithin c.args.s
limits c = (both_within c.args.s c.requires.within).0

bolting : (c : Start) → BoltingWithin c.args.s
bolting c = (both_within c.args.s c.requires.within).1

most : (c : Start) → bounds.GasketMost c.args.s (limits c) c.args.gasket
most c = bounds.gasket_most c.args.s (limits c) c.requires.worked.1

circle : (c : Start) → bounds.Circle c.args.s (limits c) (bolting c) c.args.gasket.reaction_diameter
circle c = bounds.circle c.args.s (limits c) (bolting c) c.requires.worked.1

flange : (c : Start) → c.args.flange_load ≤ most_load
flange c =
    bounds.flange c.args.s (limits c) (bolting c) (most c).operating (most c).seating c.requires.loaded

pub unwrap-ambient_stress-requires : goal.unwrap-ambient_stress-requires
unwrap-ambient_stress-requires c =
    let w = goal.at.unwrap-ambient_stress-requires c in
    rw (c.design_stress.ensures, bounds.ambient_given c.args.s (limits w.Start)) (search rules)

-- S0 is the table's
ambient_stress : (c : After-unwrap-ambient_stress) → c.unwrap-ambient_stress.result ≡ design_stress_of c.args.s.material ambient
ambient_stress c =
    let w = goal.at.After-unwrap-ambient_stress c in
    ap
    (λ (o : Option ℕ). unwrap_or o 0)
    (sym c.unwrap-ambient_stress.ensures ∙ c.design_stress.ensures ∙ bounds.ambient_given c.args.s (limits w.Start))

stresses : (c : After-unwrap-ambient_stress) → bounds.Stresses c.args.s (limits (goal.at.After-unwrap-ambient_stress c).Start) c.args.stress c.unwrap-ambient_stress.result
stresses c =
    let w = goal.at.After-unwrap-ambient_stress c in
    bounds.stresses c.args.s (limits w.Start) c.requires.worked.0 (ambient_stress c)

pub invariant_of-diameters : goal.invariant_of-diameters
invariant_of-diameters c =
    let w = (goal.at.invariant_of-diameters c).Start in
    record { bounded = omega (arith, most w, circle w) }

pub invariant_of-operating : goal.invariant_of-operating
invariant_of-operating c =
    let w = goal.at.invariant_of-operating c in
    record { bounded = omega (arith, stresses w.After-unwrap-ambient_stress, most w.Start) }

-- whichever load is handed on fits: which one it has to be is a matter of the result
pub invariant_of-ambient : goal.invariant_of-ambient
invariant_of-ambient c =
    let w = goal.at.invariant_of-ambient c in
    record { bounded = omega (arith, stresses w.After-unwrap-ambient_stress, flange w.Start) }

pub flange_thickness-thickness-requires : goal.flange_thickness-thickness-requires
flange_thickness-thickness-requires c = (limits (goal.at.flange_thickness-thickness-requires c).Start).pressure

pub overflow_add-result : goal.overflow_add-result
overflow_add-result c =
    let s = c.args.s in
    let w = goal.at.overflow_add-result c in
    let within = limits w.Start in
    let bolts = bolting w.Start in
    let stressed = stresses w.After-unwrap-ambient_stress in
    let gasket = most w.Start in
    let round = circle w.Start in
    let operating : c.args.gasket.operating_load ≤ most_load = omega (arith, gasket.operating) in
    omega (
      arith,
      within.allowance,
      c.max.ensures,
      c.from-4.ensures,
      c.flange_thickness-thickness.ensures,
      bounds.thickness_most s within bolts stressed gasket.ring.diameter round operating,
      bounds.edge_most s within bolts stressed gasket.ring.diameter round operating c.edge_thickness-edge.ensures (flange w.Start),
    )

pub returns : goal.returns
unfolding blind_flange_figures
returns c =
    let w = goal.at.returns c in
    rw (
      c.max.ensures,
      c.edge_thickness-edge.ensures,
      c.flange_thickness-thickness.ensures,
      c.from-4.ensures,
      c.from-3.ensures,
      c.from-2.ensures,
      c.from.ensures,
      ambient_stress w.After-unwrap-ambient_stress,
      c.requires.loaded,
      c.requires.worked.0,
      c.requires.worked.1,
    )
