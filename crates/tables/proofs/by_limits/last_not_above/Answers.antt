-- The search of limits is the definition's. Assumes nothing.
use Rattle.std.proofs.Common.{rules, tests, ◌≡◌, ltb, suc, ◌≤◌, ◌-◌, subst}
use Rattle.std.proofs.lemmas.Iterator.{YieldsList-from_slice}
use Rattle.std.proofs.lemmas.Iterator.Search.{position_from_yields_List}
use Rattle.std.specs.List.{position}
use Rattle.std.specs.Option.{SomeIff}
use Rattle.tables.specs.ByLimits.{last_not_above}
use Rattle.tables.proofs.Places.{or_past, less_one}
use Rattle.tables.proofs.by_limits.last_not_above.Goals as goal

pub returns : goal.returns
returns c =
    let place : c.position-above.result ≡ position (ltb c.args.number) c.args.limits.now =
    position_from_yields_List (ltb c.args.number) _ _ c.position-above.result c.position-above.ensures.ran
    (YieldsList-from_slice c.args.limits.now cc) (λ x b q k. (search (rules, tests), search (rules, tests))) in
    let above : c.unwrap_or.result ≡ last_not_above c.args.number c.args.limits.now =
    rw (c.unwrap_or.ensures, place) (or_past (suc c.args.number) c.args.limits.now) in
    less_one _ _ (subst (λ p. SomeIff c.checked_sub.result (1 ≤ p) (p - 1)) above c.checked_sub.ensures)
