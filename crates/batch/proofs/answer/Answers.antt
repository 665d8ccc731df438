-- `answer` meets its contract. Assumes nothing.
use Rattle.std.proofs.Common.{sym, arith}
use Rattle.batch.specs.Laws.Stands.{untouched_bad, untouched_short, reports_stand}
use Rattle.batch.proofs.Numbers.{limit_bad, limit_good, bad_numbers, bad_exact, bad_short, short_numbers, written_numbers}
use Rattle.batch.proofs.answer.Goals as goal

pub returns-then-limit-eq0 : goal.returns-then-limit-eq0
returns-then-limit-eq0 c =
    let a = c.args in
    let bad = limit_bad a.limit c.then-limit-eq0.either in
    record {
      numbers = bad_numbers a.text.now a.out.now a.limit bad;
      content = sym (untouched_bad a.text.now a.out.now a.limit bad);
      exact = bad_exact a.text.now a.out.now a.limit bad;
      short = bad_short a.text.now a.out.now a.limit bad;
    }

pub returns-then-out-length : goal.returns-then-out-length
returns-then-out-length c =
    let a = c.args in
    let g = c.gather-count.ensures in
    let good = limit_good a.limit c.if-limit-eq0.false c.if-limit-gt-MOST_PIECES.false in
    record {
      numbers = short_numbers a.text.now a.out.now a.limit good g.length (omega arith);
      content = sym (untouched_short a.text.now a.out.now a.limit good (omega (arith, g.length)));
      exact = g.exact;
      short = rw (← g.length) g.short;
    }

pub returns : goal.returns
returns c =
    let a = c.args in
    let g = c.gather-count.ensures in
    let good = limit_good a.limit c.if-limit-eq0.false c.if-limit-gt-MOST_PIECES.false in
    let stand = reports_stand a.text.now a.out.now a.limit good (omega (arith, g.length)) in
    record {
      numbers = written_numbers a.text.now a.out.now a.limit good g.length g.count (omega arith);
      content = rw (c.copy_from_slice.ensures.after, g.content) (sym (rw (← g.length) at stand));
      exact = g.exact;
      short = rw (← g.length) g.short;
    }
