-- `gasket::gasket_of` meets its contract: within the limits the loads fit. Assumes nothing.
use Rattle.rules.specs.Loads.{gasket_of}
use Rattle.rules.proofs.FiguresBounded.{inset}
use Rattle.rules.proofs.WithinLimits.{flange_within}
use Rattle.rules.proofs.FlangeBounded.{ring_most}
use Rattle.rules.proofs.gasket.gasket_of.Goals as goal

pub invariant_of-contact : goal.invariant_of-contact
invariant_of-contact c =
    let within = flange_within c.args.s c.requires in
    let ring = ring_most c.args.s within c.effective_width-b.ensures c.reaction_diameter.ensures in
    record {
      ring_bounded = (ring.diameter, ring.width);
      rib_bounded = (within.rib, rw c.effective_width.ensures within.rib_width_most);
    }

pub operating_load-requires : goal.operating_load-requires
operating_load-requires c = let within = flange_within c.args.s c.requires in (within.m, within.pressure)

pub seating_load-requires : goal.seating_load-requires
seating_load-requires c = (flange_within c.args.s c.requires).y

pub returns : goal.returns
unfolding gasket_of
returns c =
    rw (
      c.seating_load.ensures,
      c.operating_load.ensures,
      c.reaction_diameter.ensures,
      c.effective_width.ensures,
      c.effective_width-b.ensures,
      inset c.args.s.od c.args.s.width,
    )
