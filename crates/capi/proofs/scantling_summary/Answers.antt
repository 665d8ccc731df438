-- `scantling_summary` meets its contract. Assumes nothing.
use Rattle.std.proofs.Common.{◌≡◌, arith, length}
use Rattle.std.specs.Prelude.{Ok, Err}
use Rattle.batch.specs.Laws.Summary.{length_known}
use Rattle.batch.specs.Summary.{summary_for}
use Rattle.capi.proofs.scantling_summary.Goals as goal
use Rattle.capi.proofs.scantling_summary.Goals.{In-Ok, In-Err}

written : (c : In-Ok) → c.in-Ok.length ≡ length (summary_for c.args.text.now)
written c = length_known c.args.text.now c.args.out.now (Ok c.in-Ok.length) c.in-Ok.ensures.numbers

needed : (c : In-Err) → c.in-Err.short.length ≡ length (summary_for c.args.text.now)
needed c = length_known c.args.text.now c.args.out.now (Err c.in-Err.short) c.in-Err.ensures.numbers

pub returns-in-Ok-clause-value : goal.returns-in-Ok-clause-value
returns-in-Ok-clause-value c = written (goal.at.returns-in-Ok-clause-value c).In-Ok

pub returns-in-Ok-clause-short : goal.returns-in-Ok-clause-short
returns-in-Ok-clause-short c =
    omega (arith, written (goal.at.returns-in-Ok-clause-short c).In-Ok, c.in-Ok.ensures.short)

pub returns-in-Err-clause-value : goal.returns-in-Err-clause-value
returns-in-Err-clause-value c = needed (goal.at.returns-in-Err-clause-value c).In-Err

pub returns-in-Err-clause-short : goal.returns-in-Err-clause-short
returns-in-Err-clause-short c =
    omega (arith, needed (goal.at.returns-in-Err-clause-short c).In-Err, c.in-Err.ensures.short)
