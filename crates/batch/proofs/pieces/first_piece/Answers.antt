-- `pieces::first_piece` meets its contract. Assumes nothing.
use Rattle.std.proofs.Common.{◌≡◌, true, ◌+◌, ◌<◌, ◌&&◌, false, eqb, refl, sym, ◌∙◌, length, drop, length-drop, arith}
use Rattle.std.proofs.Math.Bool.{and-false}
use Rattle.std.specs.List.{starts_with}
use Rattle.std.proofs.lemmas.List.{take_rest}
use Rattle.batch.specs.Pieces.{mark}
use Rattle.batch.proofs.Cuts.{first_cut, last_piece, skipped, one_more, cut_is, Uncut, cut_at}
use Rattle.batch.proofs.pieces.first_piece.Goals as goal
use Rattle.batch.proofs.pieces.first_piece.Goals.{In-Some, After-ends_with, Then-starts_with, else-ends_with-via-then-ends_with+else-starts_with, else-ends_with-via-else-ends_with}

-- the place that is looked at
within : (c : In-Some) → c.loop-next.from + c.in-Some.next < length c.args.text.now
within c = let h = rw take_rest at c.in-Some.ensures.0.high in omega (arith, h, length-drop c.loop-next.from c.args.text.now)

-- there is no cut before it
found : (c : In-Some) → Uncut c.args.text.now (c.loop-next.from + c.in-Some.next)
found c =
    let h = rw take_rest at c.in-Some.ensures.0.before in
    skipped c.args.text.now c.loop-next.from c.in-Some.next c.loop-next.invariant.0 h

-- and whether there is one at it is what the two tests ask
asked : (c : After-ends_with) → let at = c.loop-next.from + c.in-Some.next in
    cut_at c.args.text.now at ≡ (c.ends_with.result && starts_with eqb c.split_at.result.1.now mark)
asked c =
    let at = c.loop-next.from + c.in-Some.next in
    let parts = c.split_at.ensures in
    cut_is c.args.text.now at (omega (arith, within (goal.at.After-ends_with c).In-Some))
    ∙ rw (c.ends_with.ensures.value, parts.front, parts.back) refl

pub loop-next-init : goal.loop-next-init
loop-next-init c = (λ j h. absurd (omega (arith, h)), omega arith)

pub returns-then-starts_with : goal.returns-then-starts_with
returns-then-starts_with c =
    let before = goal.at.returns-then-starts_with c in
    let parts = c.split_at.ensures in
    let begun : starts_with eqb c.split_at.result.1.now mark ≡ true =
    sym c.starts_with.ensures.value ∙ c.if-starts_with.true in
    let here : cut_at c.args.text.now (c.loop-next.from + c.in-Some.next) ≡ true =
    asked before.After-ends_with ∙ rw (c.if-ends_with.true, begun) refl in
    let first = first_cut c.args.text.now _ here (found before.In-Some) in
    rw (parts.front, parts.back) (sym first)

pub loop-next-preserved : goal.loop-next-preserved
loop-next-preserved c =
    let before = goal.at.loop-next-preserved c in
    let none : cut_at c.args.text.now (c.loop-next.from + c.in-Some.next) ≡ false =
    asked before.After-ends_with
    ∙ elim c.else-ends_with.branch [
      | else-ends_with-via-then-ends_with+else-starts_with w ↦
          let other : starts_with eqb c.split_at.result.1.now mark ≡ false =
          sym w.starts_with.ensures.value ∙ w.if-starts_with.false in
          rw other (and-false c.ends_with.result)
      | else-ends_with-via-else-ends_with w ↦ rw w.if-ends_with.false refl
    ] in
    (one_more c.args.text.now _ (found before.In-Some) none, omega (arith, within before.In-Some))

pub returns : goal.returns
returns c =
    let t = c.args.text.now in
    let l = c.loop-next in
    let all : l.from + length (drop l.from t) ≡ length t = omega (arith, l.invariant.1, length-drop l.from t) in
    let none = skipped t l.from (length (drop l.from t)) l.invariant.0 (rw take_rest at c.in_default.ensures) in
    sym (last_piece t (rw all at none))
