-- The lines so far and those to come are all, and the room left takes those lines. Assumes nothing.
use Rattle.std.proofs.Common.{◌≡◌, ◌+◌, ◌≤◌, ◌++◌, drop}
use Rattle.arrayvec.specs.ArrayVec.{array_vec_len}
use Rattle.batch.specs.Lines.{met_lines, met_room}
use Rattle.batch.proofs.figures.add_met.Given as goal

abbrev pub invariant-loop-number : goal.invariant-loop-number
invariant-loop-number l =
    let rest = drop l.number-index l.rows in
    (l.lines.items ++ met_lines l.causes rest ≡ l.initial.lines.items ++ met_lines l.causes l.rows)
    × (array_vec_len l.lines + met_room rest ≤ array_vec_len l.initial.lines + met_room l.rows)
