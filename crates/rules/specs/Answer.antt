-- The answers of the two calculations, and document 01's numbers for each case of an answer.
use Rattle.std.specs.Prelude.{ℕ, cond, List, [], ◌∷◌, ◌++◌, ◌≡◌, eqb, Option, Some, None, Result, Ok, Err}
use Rattle.plates.specs.Plates.{smallest_serving}
use Rattle.plates.specs.declared.Plate.{Plate}
use Rattle.limits.specs.Cause.{number_of}
use Rattle.limits.specs.declared.cause.Cause.TheVariants.{NoPlate}
use Rattle.limits.specs.Causes.{first_cause}
use Rattle.limits.specs.Limits.{endplate_causes}
use Rattle.limits.specs.declared.EndplateSheet.{EndplateSheet}
use Rattle.limits.specs.declared.BlindFlangeSheet.{BlindFlangeSheet}
use Rattle.rules.specs.FlangeCauses.{blind_flange_causes}
use Rattle.rules.specs.Figures.{endplate_figures, blind_flange_figures}
use Rattle.rules.specs.Sizing.{Sizing, Endplate as Sizing-as-Endplate, BlindFlange as Sizing-as-BlindFlange}
use Rattle.rules.specs.Sizing.{Refused as Sizing-as-Refused}
use Rattle.rules.specs.declared.EndplateFigures.{EndplateFigures}
use Rattle.rules.specs.declared.BlindFlangeFigures.{BlindFlangeFigures}
use Rattle.rules.specs.declared.Size.{Size}
use Rattle.rules.specs.declared.Size.TheVariants.{Endplate as Size-as-Endplate, BlindFlange as Size-as-BlindFlange}
use Rattle.rules.specs.declared.Refusal.{Refusal}

-- ---- an answer: figures and plate, or a cause by its number, with its figure

pub data Answer : Type 0 where
  Endplate : EndplateFigures → Plate → Answer
  BlindFlange : BlindFlangeFigures → Plate → Answer
  Refused : ℕ → ℕ → Answer

-- what a calculation returns, in document 01's numbers
abbrev pub in_numbers : Result Size Refusal → Answer
in_numbers (Ok (Size-as-Endplate f plate)) = Endplate f plate
in_numbers (Ok (Size-as-BlindFlange f plate)) = BlindFlange f plate
in_numbers (Err r) = Refused (number_of r.cause) r.figure

-- a plate chosen for a total, or the refusal that none serves
abbrev pub taken : ℕ → Option Plate → Result Plate Refusal
taken total (Some plate) = Ok plate
taken total None = Err record { cause = NoPlate; figure = total }

-- ---- a part's size, before its plate is chosen; or the first cause that applies

abbrev pub refused_or : ℕ → Sizing → Sizing
refused_or cause sized = cond (eqb cause 0) sized (Sizing-as-Refused cause)

-- a part's size by these figures unless this cause refuses it; 0 is none
abbrev pub endplate_unless : ℕ → EndplateFigures → Sizing
endplate_unless cause f = refused_or cause (Sizing-as-Endplate f)

abbrev pub blind_flange_unless : ℕ → BlindFlangeFigures → Sizing
blind_flange_unless cause f = refused_or cause (Sizing-as-BlindFlange f)

unfoldable pub endplate_sizing : EndplateSheet → Sizing
endplate_sizing s = endplate_unless (first_cause (endplate_causes s)) (endplate_figures s)

unfoldable pub blind_flange_sizing : BlindFlangeSheet → Sizing
blind_flange_sizing s = blind_flange_unless (first_cause (blind_flange_causes s)) (blind_flange_figures s)

-- total; what is refused has none
abbrev pub total_of : Sizing → ℕ
total_of (Sizing-as-Endplate f) = f.total
total_of (Sizing-as-BlindFlange f) = f.total
total_of (Sizing-as-Refused cause) = 0

-- ---- the answer, with the plate chosen from a list

-- 14: no listed plate serves, with the total as its figure; every earlier cause has the figure 0
abbrev pub with_plate : Sizing → Option Plate → Answer
with_plate (Sizing-as-Endplate f) (Some plate) = Endplate f plate
with_plate (Sizing-as-Endplate f) None = Refused 14 f.total
with_plate (Sizing-as-BlindFlange f) (Some plate) = BlindFlange f plate
with_plate (Sizing-as-BlindFlange f) None = Refused 14 f.total
with_plate (Sizing-as-Refused cause) choice = Refused cause 0

abbrev pub from_plates : Sizing → List Plate → Answer
from_plates sizing plates = with_plate sizing (smallest_serving (total_of sizing) plates)

unfoldable pub endplate_answer : EndplateSheet → List Plate → Answer
endplate_answer s plates = from_plates (endplate_sizing s) plates

unfoldable pub blind_flange_answer : BlindFlangeSheet → List Plate → Answer
blind_flange_answer s plates = from_plates (blind_flange_sizing s) plates

-- an answer, chosen from a list, as it is where no plate is listed: what is accepted is refused with 14 and its total; what
-- is refused keeps its refusal
abbrev pub without_plate : Answer → Answer
without_plate (Endplate f plate) = Refused 14 f.total
without_plate (BlindFlange f plate) = Refused 14 f.total
without_plate (Refused cause figure) = Refused cause figure

-- ---- an answer in document 01's numbers

-- cause, 0 if none
abbrev pub cause_of : Answer → ℕ
cause_of (Endplate f plate) = 0
cause_of (BlindFlange f plate) = 0
cause_of (Refused cause figure) = cause

-- accepted: no cause is met. 15 is not among these causes, since it is about the lent space alone
abbrev pub Accepted : Answer → Type 0
Accepted answer = cause_of answer ≡ 0

-- the figure returned with the cause
abbrev pub figure_of : Answer → ℕ
figure_of (Endplate f plate) = 0
figure_of (BlindFlange f plate) = 0
figure_of (Refused cause figure) = figure

-- the figures of an endplate's report but for the plate: stress, need, total
abbrev pub endplate_list : EndplateFigures → List ℕ
endplate_list f = f.design_stress ∷ f.thickness ∷ f.total ∷ []

-- those of a blind flange's: stress, cold, g, b, wm1, wm2, w, need, edge, total
abbrev pub blind_flange_list : BlindFlangeFigures → List ℕ
blind_flange_list f =
    f.design_stress
    ∷ f.ambient_stress
    ∷ f.reaction_diameter
    ∷ f.effective_width
    ∷ f.operating_load
    ∷ f.seating_load
    ∷ f.flange_load
    ∷ f.thickness
    ∷ f.edge_thickness
    ∷ f.total
    ∷ []

-- the report's figures, in report order, the plate last: reports and C's figures give its thickness alone
abbrev pub report_of : Answer → List ℕ
report_of (Endplate f plate) = endplate_list f ++ plate.thickness ∷ []
report_of (BlindFlange f plate) = blind_flange_list f ++ plate.thickness ∷ []
report_of (Refused cause figure) = []
