-- What the functions that write a summary promise of its lines, over the causes of the refused pieces.
use Rattle.std.specs.Prelude.{ℕ, ◌+◌, List, [], ◌∷◌, eqb, flat_map}
use Rattle.std.specs.Borrow.{Bor}
use Rattle.std.specs.List.{count_by}
use Rattle.report.specs.Decimal.{number_line}
use Rattle.report.specs.Report.{line_room}

-- how often the number is among the causes
abbrev pub times_met : List ℕ → ℕ → ℕ
times_met causes number = count_by (λ cause. eqb cause number) causes

-- a line for each row, a number and its key: how often the number is met
abbrev pub met_lines : List ℕ → List (ℕ × Bor (List ℕ)) → List ℕ
met_lines causes rows = flat_map (λ row. number_line row.1.now (times_met causes row.0)) rows

-- what these lines may take
abbrev pub met_room : List (ℕ × Bor (List ℕ)) → ℕ
met_room [] = 0
met_room (row ∷ rows) = line_room row.1.now + met_room rows
