-- The text so far and the lines to come are the whole text, and the room left takes those lines. Assumes nothing.
use Rattle.std.proofs.Common.{◌≡◌, ◌+◌, ◌≤◌, ◌++◌, drop}
use Rattle.arrayvec.specs.ArrayVec.{array_vec_len}
use Rattle.report.specs.Report.{row_lines, rows_room, longest}
use Rattle.report.proofs.lines.text_of.Given as goal

abbrev pub invariant-loop-key : goal.invariant-loop-key
invariant-loop-key l =
    let rest = drop l.key-index l.rows in
    (l.text.items ++ row_lines rest ≡ row_lines l.rows) × (array_vec_len l.text + rows_room rest ≤ longest)
