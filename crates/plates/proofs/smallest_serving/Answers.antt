-- `smallest_serving` meets its contract: what the chain picks is the definition's choice. Assumes nothing.
use Rattle.std.proofs.Common.{rules, tests, ◌∙◌}
use Rattle.std.proofs.lemmas.Iterator.{YieldsList-from_slice, YieldsList-from_map}
use Rattle.std.proofs.lemmas.Iterator.Consumers.{YieldsList-at, YieldsList-from_filter}
use mathlib.Core.List.{map}
use Rattle.plates.specs.Plates.{serves}
use Rattle.plates.proofs.Laws.{as_chosen, picked}
use Rattle.plates.proofs.LeastByKey.{least_by_key}
use Rattle.plates.proofs.smallest_serving.Goals as goal

pub returns : goal.returns
returns g c =
    let total = c.args.total in
    let plate_of = g.E.Entry.plate_of in
    let plates = map plate_of c.args.entries.now in
    let least =
    least_by_key (λ plate. plate.thickness) _ _ (λ x k q h. search (rules, tests)) _ c.min_by_key.ensures.ran
    (YieldsList-from_filter _ (serves total)
    (YieldsList-at c.filter.ensures.source
    (YieldsList-from_map _ plate_of (YieldsList-from_slice c.args.entries.now cc) c.map.ensures.closure (λ x r q k. search (rules, tests))))
    c.filter.ensures.closure (λ x r q k. search (rules, tests)))
    in
    let chosen = as_chosen total plates (least ∙ picked total plates) in
    record { value = chosen.0; smallest = chosen.1 }
