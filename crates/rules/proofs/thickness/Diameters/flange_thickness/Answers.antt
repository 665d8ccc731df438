-- `Diameters::flange_thickness` meets its contract: the products fit. Assumes nothing.
use Rattle.std.proofs.Common.{arith}
use Rattle.rules.proofs.ProductsFit.{edge_products, bending_products}
use Rattle.rules.proofs.thickness.Diameters.flange_thickness.Goals as goal

pub overflow_mul-bending-4 : goal.overflow_mul-bending-4
overflow_mul-bending-4 c =
    rw (c.from-d.ensures, c.from.ensures) (omega (arith, bending_products c.args.self.bounded.0 c.requires))

pub overflow_add-bending : goal.overflow_add-bending
overflow_add-bending c =
    let d = c.args.self.bounded in
    let under = c.args.operating.bounded in
    let edge = edge_products under.0 d.0 d.2 under.1 in
    rw (c.from-d.ensures, c.from.ensures, c.from-2.ensures) (omega (arith, bending_products d.0 c.requires, edge))
