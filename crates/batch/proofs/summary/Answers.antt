-- `summary` meets its contract. Assumes nothing.
use Rattle.std.proofs.Common.{◌≡◌, refl, sym, ap, ◌∙◌, arith, length, le-leb}
use Rattle.std.proofs.lemmas.Bool.{lt-leb}
use Rattle.batch.specs.Laws.Summary.{summary_stands, summary_untouched}
use Rattle.batch.specs.Summary.{summary_for, summary_numbers_for}
use Rattle.batch.proofs.summary.Goals as goal
use Rattle.batch.proofs.summary.Goals.{After-len-length}

size : (c : After-len-length) → c.len-length.result ≡ length (summary_for c.args.text.now)
size c = c.len-length.ensures.value ∙ ap length c.spell-lines.ensures

pub returns-then-length-out : goal.returns-then-length-out
unfolding summary_numbers_for
returns-then-length-out c =
    let a = c.args in
    let long = size (goal.at.returns-then-length-out c).After-len-length in
    record {
      numbers = rw (← long, lt-leb _ _ c.if-length-out.true) refl;
      content = sym (summary_untouched a.text.now a.out.now (omega (arith, long, c.if-length-out.true)));
      short = omega (arith, long, c.len-length.ensures.fits);
    }

pub returns : goal.returns
unfolding summary_numbers_for
returns c =
    let a = c.args in
    let long = size (goal.at.returns c).After-len-length in
    let stand = summary_stands a.text.now a.out.now (omega (arith, long, c.if-length-out.false)) in
    record {
      numbers = rw (← long, le-leb _ _ c.if-length-out.false) refl;
      content = rw (c.copy_from_slice.ensures.after, c.deref.ensures.0, c.spell-lines.ensures) (sym (rw (← long) at stand));
      short = omega (arith, long, c.len-length.ensures.fits);
    }
