-- The search of limits is the definition's. Assumes nothing.
use Rattle.std.proofs.Common.{rules, tests, ◌∙◌, ◌≡◌, leb}
use Rattle.std.proofs.lemmas.Iterator.{YieldsList-from_slice}
use Rattle.std.proofs.lemmas.Iterator.Search.{position_from_yields_List}
use Rattle.std.specs.List.{position}
use Rattle.tables.proofs.Places.{searched}
use Rattle.tables.proofs.by_limits.first_not_below.Goals as goal

pub returns : goal.returns
returns c =
    let place : c.position.result ≡ position (leb c.args.number) c.args.limits.now =
    position_from_yields_List (leb c.args.number) _ _ c.position.result c.position.ensures.ran
    (YieldsList-from_slice c.args.limits.now cc) (λ x b q k. (search (rules, tests), search (rules, tests))) in
    place ∙ searched c.args.number c.args.limits.now
