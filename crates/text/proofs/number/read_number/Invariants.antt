use Rattle.std.proofs.Common.{drop, ◌<◌, ◌^◌, ◌≡◌}
use Rattle.text.specs.Number.{number_of, digits_after}
use Rattle.text.proofs.number.read_number.Given as goal

abbrev pub invariant-loop-digit : goal.invariant-loop-digit
invariant-loop-digit l = (number_of l.v ≡ digits_after l.n (drop l.digit-index l.v)) × (l.n < 10 ^ l.digit-index)
