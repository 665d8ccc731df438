-- `gather::gather` meets its contract. Assumes nothing.
use Rattle.std.proofs.Common.{refl, ap, ◌<◌, length, length-take, length-drop, take, drop, arith, rules, ◌+◌, ◌-◌, ◌≤◌}
use Rattle.std.proofs.lemmas.List.{map-append, length-map}
use Rattle.std.proofs.lemmas.Iterator.Consumers.{YieldsList-turn, YieldsList-end}
use Rattle.report.specs.Report.{longest}
use Rattle.sheet.specs.Outcome.{length_for}
use Rattle.batch.specs.Book.{worked, reports_for}
use Rattle.batch.proofs.Gathered.{items, at_most, gathered_none, gathered_more}
use Rattle.batch.proofs.gather.gather.Goals as goal
use Rattle.batch.proofs.gather.gather.Goals.{In-Some}

-- a turn is at a piece within the limit
within : (c : In-Some) → length c.loop-piece.yielded < length (worked c.args.text.now c.args.limit)
within c =
    let l = c.loop-piece in
    let these = items c.args.text.now c.args.limit c.requires.few (cc) (cc) in
    (YieldsList-turn these l.yielded _ l.yielded_by _ _ c.in-Some.piece c.in-Some.is c.next.ensures.steps).0

pub loop-piece-init : goal.loop-piece-init
loop-piece-init c = (gathered_none _, refl)

pub loop-piece-preserved : goal.loop-piece-preserved
loop-piece-preserved c =
    let l = c.loop-piece in
    let made = c.write_report-at.ensures in
    let few : l.count < c.args.limit =
    omega (
      arith,
      within (goal.at.loop-piece-preserved c).In-Some,
      at_most c.args.text.now c.args.limit c.requires.few,
      l.invariant.0.counted,
      length-map l.yielded (λ p. p.now),
    ) in
    let room : l.at + longest ≤ length l.space =
    omega (arith, few, l.invariant.0.short, l.invariant.1, c.requires.few, c.requires.room) in
    let left = take (length l.space - l.at) (drop l.at l.space) in
    let long : longest ≤ length left =
    omega (arith, room, length-drop l.at l.space, length-take (length l.space - l.at) (drop l.at l.space)) in
    let short : length_for c.in-Some.piece.now ≤ longest = rw (← made.value) made.short in
    let more = gathered_more l.invariant.0 c.in-Some.piece.now left _ (omega (arith, room)) long short made.exact in
    (rw (map-append, made.value, made.content) more, search rules)

pub returns : goal.returns
unfolding reports_for
returns c =
    let l = c.loop-piece in
    let few = c.requires.few in
    let all =
    YieldsList-end (items c.args.text.now c.args.limit few (cc) (cc)) l.yielded _ l.yielded_by _ _ c.in-None.is
    c.next.ensures.steps in
    let g = rw all.0 at l.invariant.0 in
    record {
      count = g.counted;
      length = g.size;
      content = g.content;
      exact = g.exact;
      short = omega (arith, g.short, g.counted, at_most c.args.text.now c.args.limit few, few);
      room = omega (arith, g.size, ap length g.content, length-take l.at l.space);
    }
