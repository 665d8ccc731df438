-- `plate_list::read_list` meets its contract. Assumes nothing.
use Rattle.std.proofs.Common.{rules, tests, arith, ◌∙◌, ◌≡◌, ◌<◌, sym, ◌-◌, ap, length, get_or}
use Rattle.std.specs.List.{slice_split}
use Rattle.text.specs.Plates.{most_plates, plates_held}
use Rattle.std.proofs.lemmas.Iterator.Consumers.{YieldsList-turn, YieldsList-end}
use Rattle.std.proofs.lemmas.Iterator.Splits.{YieldsList-from_slice_split}
use Rattle.std.proofs.lemmas.List.{length_push}
use Rattle.text.proofs.Listed.{is_comma, plates_listed_is, prepend_list, prepend_list_nothing, entries_full, entries_malformed, entries_more, entries_end}
use Rattle.text.proofs.plate_list.read_list.Goals as goal
use Rattle.text.proofs.plate_list.read_list.Goals.{In-Some}

-- the part that is read is the next of those around the commas
here : (c : In-Some)
    → (length c.loop-part.yielded < length (slice_split is_comma c.args.v.now))
    × (c.in-Some.part.now ≡ get_or (slice_split is_comma c.args.v.now) (length c.loop-part.yielded) c.in-Some.part.now)
here c =
    YieldsList-turn (YieldsList-from_slice_split _ is_comma c.args.v.now (cc) (cc) (cc) (λ x b q k. search (rules, tests))) c.loop-part.yielded _ c.loop-part.yielded_by _ _ c.in-Some.part c.in-Some.is c.next.ensures.steps

pub loop-part-init : goal.loop-part-init
loop-part-init c =
    (plates_listed_is _ _ ∙ rw c.requires (prepend_list_nothing _), rw c.requires, search rules)

pub returns-in_err-read_plate : goal.returns-in_err-read_plate
returns-in_err-read_plate c =
    let none = entries_malformed _ _ _ (here (goal.at.returns-in_err-read_plate c).In-Some) _ (sym c.in_err-read_plate.ensures) in
    rw c.from_residual.ensures (sym (c.loop-part.invariant.0 ∙ ap (prepend_list (plates_held c.loop-part.plates)) none))

pub returns-then-is_full : goal.returns-then-is_full
returns-then-is_full c =
    let l = c.loop-part in
    let full : length (plates_held l.plates) ≡ most_plates = search (rules, tests) in
    let none = entries_full _ _ _ (here (goal.at.returns-then-is_full c).In-Some) (most_plates - length l.yielded) (omega arith) in
    sym (l.invariant.0 ∙ ap (prepend_list (plates_held l.plates)) none)

pub loop-part-preserved : goal.loop-part-preserved
loop-part-preserved c =
    let l = c.loop-part in
    let room : length (plates_held l.plates) < most_plates = search (rules, tests) in
    let more = entries_more _ _ _ (here (goal.at.loop-part-preserved c).In-Some) most_plates (plates_held l.plates) _ (sym c.in_ok-read_plate.ensures) (omega arith) in
    rw (length_push l.yielded c.in-Some.part, c.push.ensures, length_push (plates_held l.plates) c.in_ok-read_plate.field-0)
    (l.invariant.0 ∙ more, omega arith, omega arith)

pub returns : goal.returns
returns c =
    let t = YieldsList-end (YieldsList-from_slice_split _ is_comma c.args.v.now (cc) (cc) (cc) (λ x b q k. search (rules, tests))) c.loop-part.yielded _ c.loop-part.yielded_by _ _ c.in-None.is c.next.ensures.steps in
    sym (c.loop-part.invariant.0 ∙ entries_end _ _ _ _ t.1)
