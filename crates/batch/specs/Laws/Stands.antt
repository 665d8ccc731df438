-- What stands in the space after a call: in a space where all reports fit that of each piece worked follows those of the pieces
-- before it, and demand 3 holds of it there; under 15 and 16 all is as it was. Assumes nothing.
use Rattle.std.specs.Prelude.{ℕ, ◌≤◌, ◌<◌, true, false, List, ◌∷◌, ◌++◌, ◌≡◌, refl, length, take, drop, flat_map}
use Rattle.std.proofs.Common.{◌∙◌, arith, append_assoc, zero-add}
use Rattle.std.proofs.Math.Seq.{take-append_seam, drop-append_seam}
use Rattle.std.proofs.lemmas.Grind.{flat_map-append}
use Rattle.std.proofs.lemmas.List.Elements.{All-drop, All-head}
use Rattle.rules.specs.Answer.{Accepted}
use Rattle.report.specs.Space.{written_at}
use Rattle.report.specs.Laws.Laid.{laid-fits, laid_not}
use Rattle.sheet.specs.Sheet.{sheet_of, answer_of}
use Rattle.sheet.specs.Outcome.{report_for, length_for}
use Rattle.sheet.specs.Exact.{SheetExact, ReportExact}
use Rattle.batch.specs.Book.{bad_limit, worked, reports_for, book_space}
use Rattle.batch.specs.Exact.{BookExact}

module _ (book space : List ℕ) (limit : ℕ) where
  -- 16
  pub untouched_bad : bad_limit limit ≡ true → book_space book limit space ≡ space
  unfolding book_space
  untouched_bad e = rw e refl

  module _ (good : bad_limit limit ≡ false) where
    -- 15
    pub untouched_short : length space < length (reports_for book limit) → book_space book limit space ≡ space
    unfolding book_space
    untouched_short h = rw good (laid_not 0 (reports_for book limit) space (omega (arith, h)))

    module _ (room : length (reports_for book limit) ≤ length space) where
      pub reports_stand : book_space book limit space ≡ reports_for book limit ++ drop (length (reports_for book limit)) space
      unfolding book_space written_at
      reports_stand = rw good (laid-fits 0 (reports_for book limit) space (omega (arith, room)) ∙ rw zero-add refl)

      -- of the piece p, with those before it and after it
      module _ (before after : List (List ℕ)) (p : List ℕ) (these : worked book limit ≡ before ++ p ∷ after) where
        split : reports_for book limit ≡ flat_map report_for before ++ (report_for p ++ flat_map report_for after)
        unfolding reports_for
        split = rw these (flat_map-append report_for before (p ∷ after))

        abbrev pub bytes : List ℕ
        bytes = take (length_for p) (drop (length (flat_map report_for before)) (book_space book limit space))

        pub report_stands : bytes ≡ report_for p
        report_stands =
            rw (reports_stand, split, append_assoc, drop-append_seam, append_assoc) (take-append_seam (report_for p) _)

        pub piece_exact : BookExact book limit → Accepted (answer_of p) → ReportExact (sheet_of p) bytes
        piece_exact exact accepted =
            let all = All-drop SheetExact (length before) (before ++ p ∷ after) (rw these at exact) in
            rw report_stands (All-head SheetExact p after (rw drop-append_seam at all) accepted)
