-- `tally::tallied` meets its contract. Assumes nothing.
use Rattle.std.proofs.Common.{◌≡◌, refl, arith}
use Rattle.std.proofs.lemmas.List.{map-append}
use Rattle.std.proofs.lemmas.Iterator.Consumers.{YieldsList-end}
use Rattle.limits.specs.Cause.{number_of}
use Rattle.rules.specs.Answer.{Endplate, BlindFlange, Refused}
use Rattle.sheet.specs.Sheet.{answer_of}
use Rattle.batch.specs.Book.{most_pieces}
use Rattle.batch.specs.Summary.{answers_for}
use Rattle.batch.proofs.Gathered.{items, worked_is}
use Rattle.batch.proofs.Laws.Counted.{reached}
use Rattle.batch.proofs.Tallied.{tallied_none, more_accepted, more_refused}
use Rattle.batch.proofs.tally.tallied.Goals as goal
use Rattle.batch.proofs.tally.tallied.Goals.{In-Ok-Endplate, In-Ok-BlindFlange, In-Err}

-- the answer to the piece, by its case
endplate : (c : In-Ok-Endplate) → Endplate c.in-Ok-Endplate.figures c.in-Ok-Endplate.plate ≡ answer_of c.in-Some.piece.now
endplate c = rw c.in-Ok-Endplate.field-0-is at c.in-Ok-Endplate.ensures.value

flange :
    (c : In-Ok-BlindFlange) →
    BlindFlange c.in-Ok-BlindFlange.figures c.in-Ok-BlindFlange.plate ≡ answer_of c.in-Some.piece.now
flange c = rw c.in-Ok-BlindFlange.field-0-is at c.in-Ok-BlindFlange.ensures.value

refused : (c : In-Err) → Refused (number_of c.in-Err.refusal.cause) c.in-Err.refusal.figure ≡ answer_of c.in-Some.piece.now
refused c = c.in-Err.ensures.value

pub loop-piece-init : goal.loop-piece-init
loop-piece-init c = rw (c.new.ensures, c.new-2.ensures) tallied_none

pub excess-requires : goal.excess-requires
excess-requires c =
    let e = endplate (goal.at.excess-requires c).In-Ok-Endplate in
    rw (← e) at (reached c.in-Some.piece.now)

pub excess-requires-in-Ok-BlindFlange : goal.excess-requires-in-Ok-BlindFlange
excess-requires-in-Ok-BlindFlange c =
    let e = flange (goal.at.excess-requires-in-Ok-BlindFlange c).In-Ok-BlindFlange in
    rw (← e) at (reached c.in-Some.piece.now)

pub loop-piece-preserved-in-Ok-Endplate : goal.loop-piece-preserved-in-Ok-Endplate
loop-piece-preserved-in-Ok-Endplate c =
    let e = endplate (goal.at.loop-piece-preserved-in-Ok-Endplate c).In-Ok-Endplate in
    let more = more_accepted c.loop-piece.invariant _ _ refl refl refl (λ n. refl) in
    rw (map-append, map-append, ← e, c.push.ensures.items, c.excess.ensures) more

pub loop-piece-preserved-in-Ok-BlindFlange : goal.loop-piece-preserved-in-Ok-BlindFlange
loop-piece-preserved-in-Ok-BlindFlange c =
    let e = flange (goal.at.loop-piece-preserved-in-Ok-BlindFlange c).In-Ok-BlindFlange in
    let more = more_accepted c.loop-piece.invariant _ _ refl refl refl (λ n. refl) in
    rw (map-append, map-append, ← e, c.push-in-Ok-BlindFlange.ensures.items, c.excess-in-Ok-BlindFlange.ensures) more

pub loop-piece-preserved : goal.loop-piece-preserved
loop-piece-preserved c =
    let e = refused (goal.at.loop-piece-preserved c).In-Err in
    rw (map-append, map-append, ← e, c.push-in-Err.ensures.items, c.number.ensures) (more_refused c.loop-piece.invariant _ _)

pub returns : goal.returns
unfolding answers_for
returns c =
    let l = c.loop-piece in
    let these = items c.args.text.now most_pieces (omega arith) (cc) (cc) in
    let all = YieldsList-end these l.yielded _ l.yielded_by _ _ c.in-None.is c.next.ensures.steps in
    let t = rw (all.0, ← worked_is c.args.text.now most_pieces (omega arith)) at l.invariant in
    record { pieces = t.counted; excesses = t.above; accepted = t.taken; refused = t.refusals; causes = t.under }
