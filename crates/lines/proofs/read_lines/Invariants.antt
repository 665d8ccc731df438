use Rattle.std.proofs.Common.{length, map, take, ◌≡◌}
use Rattle.lines.specs.Fields.{field_meant}
use Rattle.lines.specs.Lines.{lines_of}
use Rattle.lines.proofs.LineByLine.{prepend, lines_from}
use Rattle.lines.proofs.read_lines.Given as goal

-- the numbers read so far and the rest of the text give the whole
abbrev pub invariant-loop-i : goal.invariant-loop-i
invariant-loop-i g l =
    (lines_of 2 (map field_meant l.fields) l.text ≡ prepend (take l.i l.values) (lines_from l.i l.fields l.t))
    × (length l.values ≡ g.row.N)
