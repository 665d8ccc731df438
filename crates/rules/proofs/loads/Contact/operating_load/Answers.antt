-- `Contact::operating_load` meets its contract: the products fit. Assumes nothing.
use Rattle.std.proofs.Common.{arith}
use Rattle.rules.proofs.ProductsFit.{GasketProducts, gasket_products}
use Rattle.rules.proofs.loads.Contact.operating_load.Goals as goal
use Rattle.rules.proofs.loads.Contact.operating_load.Goals.{Start}

products : (c : Start) → let k = c.args.self in GasketProducts k.g k.b k.rib k.br c.args.m c.args.pressure
products c =
    let k = c.args.self in
    gasket_products k.ring_bounded.0 k.ring_bounded.1 k.rib_bounded.0 k.rib_bounded.1 c.requires.0 c.requires.1

pub overflow_mul-ring-4 : goal.overflow_mul-ring-4
overflow_mul-ring-4 c =
    rw (c.from-g.ensures, c.from-m.ensures, c.from-p.ensures) (omega (arith, products (goal.at.overflow_mul-ring-4 c).Start))

pub overflow_mul-rib-4 : goal.overflow_mul-rib-4
overflow_mul-rib-4 c =
    rw (c.from.ensures, c.from-m.ensures, c.from-p.ensures) (omega (arith, products (goal.at.overflow_mul-rib-4 c).Start))

pub overflow_add-end : goal.overflow_add-end
overflow_add-end c =
    rw (c.from-g.ensures, c.from-m.ensures, c.from-p.ensures) (omega (arith, products (goal.at.overflow_add-end c).Start))

pub overflow_add-end-2 : goal.overflow_add-end-2
overflow_add-end-2 c =
    rw
    (c.from.ensures, c.from-g.ensures, c.from-m.ensures, c.from-p.ensures)
    (omega (arith, products (goal.at.overflow_add-end-2 c).Start))
