-- Reports gathered one after another at the front of a space. Assumes nothing.
use Rattle.std.proofs.Common.{ℕ, zero, suc, ◌+◌, ◌*◌, ◌≤◌, List, [], ◌∷◌, ◌++◌, ◌≡◌, refl, sym, ap, ◌∙◌, length, length-append, take, arith, append-nil}
use Rattle.std.specs.Prelude.{All, flat_map}
use Rattle.std.proofs.Math.Seq.{take-append-add}
use Rattle.std.proofs.lemmas.List.{length-take, length-take-le, take-append-le}
use Rattle.std.proofs.lemmas.List.Elements.{All-nil, All-push}
use Rattle.std.proofs.lemmas.Grind.{flat_map-append}
use Rattle.std.specs.Iterator.{YieldsFirstRef}
use Rattle.std.specs.Iterator.Adapters.{take_source, take_count, take_steps}
use Rattle.std.proofs.lemmas.Iterator.{YieldsList, YieldsList-from_take}
use Rattle.std.proofs.lemmas.Iterator.Consumers.{YieldsList-from_first}
use Rattle.report.specs.Report.{longest}
use Rattle.sheet.specs.Outcome.{report_for, length_for, space_of}
use Rattle.sheet.specs.Exact.{SheetExact}
use Rattle.sheet.specs.Laws.{space_front}
use Rattle.batch.specs.Pieces.{pieces_of, pieces_left}
use Rattle.batch.specs.Book.{most_pieces, worked}

-- within the greatest limit those worked are the first pieces
pub worked_is : (book : List ℕ) (limit : ℕ) → limit ≤ most_pieces → take limit (pieces_of book) ≡ worked book limit
unfolding worked
worked_is book zero h = refl
worked_is book (suc n) h = grind (arith, h)

-- what the loop goes over
pub items :
    (book : List ℕ) (limit : ℕ) {s : _} →
    limit ≤ most_pieces →
    pieces_left (take_source s) ≡ pieces_of book →
    take_count s ≡ limit →
    YieldsList (take_steps (YieldsFirstRef pieces_left)) (λ p. p.now) s (worked book limit)
items book limit h e n =
    rw (← worked_is book limit h)
    (YieldsList-from_take limit (YieldsList-from_first (λ p. p.now) pieces_left (pieces_of book) e) n)

-- no more pieces are worked than the limit says
pub at_most : (book : List ℕ) (limit : ℕ) → limit ≤ most_pieces → length (worked book limit) ≤ limit
at_most book limit h = omega (arith, ap length (worked_is book limit h), length-take limit (pieces_of book))

-- the reports of so many pieces stand at the front, and each is exact
pub record Gathered (pieces : List (List ℕ)) (count at : ℕ) (space : List ℕ) : Type 0 where
  pub counted : count ≡ length pieces
  pub size : at ≡ length (flat_map report_for pieces)
  pub content : take at space ≡ flat_map report_for pieces
  pub short : at ≤ longest * count
  pub exact : All SheetExact pieces

pub gathered_none : (space : List ℕ) → Gathered [] 0 0 space
gathered_none space = record { counted = refl; size = refl; content = refl; short = omega arith; exact = All-nil SheetExact }

-- one piece more, with its report laid at the front of what is left of the space
module _ {pieces : List (List ℕ)} {count at : ℕ} {space : List ℕ} (g : Gathered pieces count at space) where
  pub gathered_more :
      (piece left tail : List ℕ) →
      at ≤ length space →
      longest ≤ length left →
      length_for piece ≤ longest →
      SheetExact piece →
      Gathered (pieces ++ piece ∷ []) (count + 1) (at + length_for piece) (take at space ++ (space_of piece left ++ tail))
  gathered_more piece left tail h room short exact =
      let report = report_for piece in
      let laid : List ℕ = space_of piece left in
      let reports : flat_map report_for (pieces ++ piece ∷ []) ≡ flat_map report_for pieces ++ report =
      flat_map-append report_for pieces (piece ∷ []) ∙ ap (λ r. flat_map report_for pieces ++ r) (append-nil report) in
      let front : take (length report) laid ≡ report = space_front piece left (omega (arith, short)) in
      let long : length report ≤ length laid = omega (arith, ap length front, length-take (length report) laid) in
      let seam : length (take at space) ≡ at = length-take-le at space h in
      record {
        counted = omega (arith, g.counted, length-append pieces (piece ∷ []));
        size = rw reports (omega (arith, g.size, length-append (flat_map report_for pieces) report));
        content =
            ap (λ n. take (n + length report) (take at space ++ (laid ++ tail))) (sym seam)
            ∙ take-append-add (take at space) (laid ++ tail) (length report)
            ∙ rw (g.content, take-append-le (length report) laid tail long, front, reports) refl;
        short = omega (arith, g.short, short);
        exact = All-push SheetExact pieces piece g.exact exact;
      }
