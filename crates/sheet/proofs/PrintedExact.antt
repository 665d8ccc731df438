-- Demand 3 of the report of an accepted answer: the numbers read out of it are the answer's. Assumes nothing.
use mathlib.Core.List.{List}
use mathlib.Core.Path.{refl}
use Rattle.plates.specs.declared.Plate.{Plate}
use Rattle.rules.specs.Answer.{Accepted}
use Rattle.rules.specs.Exact.{EndplateSized, BlindFlangeSized}
use Rattle.limits.specs.declared.EndplateSheet.{EndplateSheet}
use Rattle.limits.specs.declared.BlindFlangeSheet.{BlindFlangeSheet}
use Rattle.rules.specs.Answer.{Answer}
use Rattle.rules.specs.Answer.{Endplate, BlindFlange, Refused}
use Rattle.report.specs.Report.{report_text}
use Rattle.report.specs.Laws.ReadBack.{report_shows}
use Rattle.sheet.specs.Sheet.{Sheet, malformed, endplate, blind_flange}
use Rattle.sheet.specs.Exact.{ReportExact, AnswerExact}

endplate_shows : (s : EndplateSheet) (plates : List Plate) (a : Answer) → EndplateSized s a
    → ReportExact (endplate s plates) (report_text a)
endplate_shows s plates (Endplate f plate) e = (f.thickness, report_shows "need" (Endplate f plate) refl, e)
endplate_shows s plates (BlindFlange f plate) e = absurd e
endplate_shows s plates (Refused cause figure) e = absurd e

flange_shows : (s : BlindFlangeSheet) (plates : List Plate) (a : Answer) → BlindFlangeSized s a
    → ReportExact (blind_flange s plates) (report_text a)
flange_shows s plates (Endplate f plate) e = absurd e
flange_shows s plates (BlindFlange f plate) e = (
  (f.thickness, report_shows "need" (BlindFlange f plate) refl, e.0),
  (f.edge_thickness, report_shows "edge" (BlindFlange f plate) refl, e.1),
)
flange_shows s plates (Refused cause figure) e = absurd e

pub report_exact : (s : Sheet) (a : Answer) → AnswerExact s a → Accepted a → ReportExact s (report_text a)
report_exact (malformed line) a e accepted = e accepted
report_exact (endplate s plates) a e accepted = endplate_shows s plates a (e accepted)
report_exact (blind_flange s plates) a e accepted = flange_shows s plates a (e accepted)
