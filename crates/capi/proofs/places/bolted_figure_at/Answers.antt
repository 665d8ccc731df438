-- `places::bolted_figure_at` meets its contract. Assumes nothing.
use Rattle.std.specs.Prelude.{ℕ, ◌≡◌, refl, Err}
use Rattle.rules.specs.Answer.{in_numbers}
use Rattle.rules.specs.BoltedAnswer.{bolted_in_numbers}
use Rattle.rules.specs.declared.Refusal.{Refusal}
use Rattle.capi.specs.Places.{figure_at, bolted_figure_at}
use Rattle.capi.proofs.places.bolted_figure_at.Goals as goal

-- a refusal has no bolts to show
refused :
    (refusal : Refusal) (place : ℕ) →
    bolted_figure_at (bolted_in_numbers (Err refusal)) place ≡ figure_at (in_numbers (Err refusal)) place
unfolding figure_at bolted_figure_at
refused refusal place = refl

pub returns-in-Err : goal.returns-in-Err
returns-in-Err c = rw (c.in-Err.is, refused c.in-Err.refusal c.args.place) c.refused_at.ensures
