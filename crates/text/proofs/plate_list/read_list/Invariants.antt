use Rattle.std.proofs.Common.{drop, length, ◌-◌, ◌≡◌, ◌≤◌}
use Rattle.std.specs.List.{slice_split}
use Rattle.text.specs.Plates.{most_plates, plates_held, plates_listed}
use Rattle.text.proofs.Listed.{is_comma, prepend_list, entries_in}
use Rattle.text.proofs.plate_list.read_list.Given as goal

-- what is read so far and the rest of the parts give the whole list
abbrev pub invariant-loop-part : goal.invariant-loop-part
invariant-loop-part l =
    let n = length l.yielded in
    (plates_listed most_plates l.v ≡ prepend_list (plates_held l.plates) (entries_in (most_plates - n) (drop n (slice_split is_comma l.v))))
    × (length (plates_held l.plates) ≡ n)
    × (n ≤ most_plates)
