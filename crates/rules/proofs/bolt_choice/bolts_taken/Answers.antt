-- `bolt_choice::bolts_taken` meets its contract. Assumes nothing.
use Rattle.std.proofs.Common.{refl, sym, ap, ◌∙◌, arith}
use Rattle.rules.specs.BoltChoice.{fits, bolts_fit}
use Rattle.rules.specs.Loads.{gasket_of}
use Rattle.rules.proofs.BoltsTaken.{bolted_within}
use Rattle.rules.proofs.PairsLeft.{none_taken, taken_left, from_four, passed_over, found, next_size, all_tried}
use Rattle.rules.proofs.bolt_choice.bolts_taken.Goals as goal

pub returns-then-lengths_refused : goal.returns-then-lengths_refused
returns-then-lengths_refused g c =
    none_taken g.N.Number.number_of c.args.s c.args.diameters.now c.args.areas.now
    (sym c.if-lengths_refused.true ∙ c.lengths_refused.ensures)

pub sizes-init : goal.sizes-init
sizes-init g c =
    let e = c.into_iter-diameter-iterator.ensures.into_iter_gives in
    let z = c.zip-diameter-items.ensures in (
      refl,
      rw
          (e, z.first, c.iter.ensures.rest, z.second.0)
          (taken_left g.N.Number.number_of c.args.s c.args.diameters.now c.args.areas.now
          (sym c.if-lengths_refused.false ∙ c.lengths_refused.ensures)),
    )

pub loop-count-init : goal.loop-count-init
loop-count-init g c =
    let step = c.in-Some.ensures.steps in (
      c.sizes.invariant.0,
      rw (c.number-bolt.ensures, c.number-root.ensures, ← from_four) (rw (step.0, step.1) at c.sizes.invariant.1),
    )

pub loop-count-preserved : goal.loop-count-preserved
loop-count-preserved g c =
    let l = c.loop-count in
    let over = sym (c.fits.ensures ∙ ap fits c.bolted.ensures) ∙ c.if-fits.false in
    (l.invariant.0, l.invariant.1 ∙ passed_over _ _ _ _ _ (omega arith) over)

pub sizes-preserved : goal.sizes-preserved
sizes-preserved g c =
    let l = c.loop-count in
    (l.invariant.0, l.invariant.1 ∙ next_size _ _ _ _ _ (omega arith))

pub fits-requires-clause-within : goal.fits-requires-clause-within
fits-requires-clause-within g c =
    rw c.bolted.ensures (bolted_within c.args.s c.requires.within _)

pub fits-requires-clause-worked : goal.fits-requires-clause-worked
unfolding gasket_of
fits-requires-clause-worked g c = rw c.bolted.ensures c.requires.worked

pub returns-in-None : goal.returns-in-None
returns-in-None g c =
    let l = c.sizes in
    let it = l.diameter-iterator in
    let none =
    all_tried g.N.Number.number_of (bolts_fit c.args.s) it.a.rest.now it.b.rest.now c.in-None.ensures.steps in
    l.invariant.0 ∙ sym (l.invariant.1 ∙ none)

pub returns-then-fits : goal.returns-then-fits
returns-then-fits g c =
    let fitting = sym (c.fits.ensures ∙ ap fits c.bolted.ensures) ∙ c.if-fits.true in
    sym (c.loop-count.invariant.1 ∙ found _ _ _ _ _ (omega arith) fitting)
