-- Of both loops: none of the pairs tried fits, so the first that fits is the first of those left.
use Rattle.std.proofs.Common.{◌≡◌, ◌++◌, None}
use Rattle.std.specs.Prelude.{find}
use mathlib.Core.List.{map}
use Rattle.rules.specs.BoltChoice.{with_counts, bolts_fit, bolts_taken}
use Rattle.rules.proofs.PairsLeft.{sizes_left, counts_left}
use Rattle.rules.proofs.bolt_choice.bolts_taken.Given as goal

abbrev pub invariant-loop-count : goal.invariant-loop-count
invariant-loop-count g l =
    let number = g.N.Number.number_of in
    let it = l.diameter-iterator in
    let later = sizes_left number it.a.rest.now it.b.rest.now in
    (l.taken ≡ None)
    × (bolts_taken l.s (map number l.diameters) (map number l.areas)
    ≡ find (bolts_fit l.s) (with_counts (l.bolt, l.root) (counts_left l.count) ++ later))

abbrev pub invariant-sizes : goal.invariant-sizes
invariant-sizes g l =
    let number = g.N.Number.number_of in
    let it = l.diameter-iterator in
    (l.taken ≡ None)
    × (bolts_taken l.s (map number l.diameters) (map number l.areas)
    ≡ find (bolts_fit l.s) (sizes_left number it.a.rest.now it.b.rest.now))
