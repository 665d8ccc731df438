-- `places::bolted_at` meets its contract. Assumes nothing.
use Rattle.std.proofs.Common.{sym, ◌∙◌, arith}
use Rattle.std.proofs.lemmas.List.{get_or_append_left}
use Rattle.std.specs.Prelude.{Some}
use Rattle.rules.specs.Answer.{BlindFlange}
use Rattle.rules.specs.BoltedAnswer.{bolts_list}
use Rattle.capi.specs.Places.{by_place, figure_at, bolted_figure_at}
use Rattle.capi.proofs.places.bolted_at.Goals as goal

pub returns-then-place-lt-BOLT : goal.returns-then-place-lt-BOLT
unfolding figure_at bolted_figure_at
returns-then-place-lt-BOLT c =
    let size = c.args.size in
    let figures = by_place (BlindFlange size.figures size.plate) in
    c.blind_flange_at.ensures
    ∙ sym (get_or_append_left figures (bolts_list (Some size.bolts)) 0 c.args.place (omega arith))
