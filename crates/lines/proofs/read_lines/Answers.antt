-- `read_lines` meets its contract. Assumes nothing.
use Rattle.std.proofs.Common.{arith, rules, tests, sym, ◌∙◌, ◌≡◌, length, length-set}
use Rattle.std.specs.Prelude.{Some}
use Rattle.text.specs.Ascii.{line_feed}
use Rattle.text.specs.Line.{after}
use Rattle.text.specs.Plates.{plates_held}
use Rattle.lines.proofs.LineByLine.{line_more, lines_end}
use Rattle.lines.proofs.read_lines.Goals as goal

pub loop-i-preserved : goal.loop-i-preserved
loop-i-preserved g c =
    let l = c.loop-i in
    let x = c.in_ok-values.field-0 in
    let was : c.read.result ≡ Some x = search rules in
    let more = line_more _ _ l.i _ (omega arith) l.values x (omega arith) c.read.ensures was in
    (l.invariant.0 ∙ rw c.next_line-t.ensures more, length-set l.values l.i x ∙ l.invariant.1)

pub returns : goal.returns
returns g c =
    let l = c.loop-i in
    let nothing : length (after line_feed l.t.now) ≡ 0 = search (rules, tests) in
    sym (l.invariant.0 ∙ lines_end c.args.fields.now l.t.now l.i l.values (plates_held c.in_ok-plates.plates) (omega arith) (omega arith) (search rules) nothing)
