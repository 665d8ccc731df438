-- Demand 3 of an answer is demand 3 of its figures at the places of need and edge. Assumes nothing.
use Prim.Native.Nat.{ℕ}
use mathlib.Core.Path.{◌≡◌}
use mathlib.Core.List.{List}
use Rattle.std.specs.Prelude.{Option, Some, None}
use Rattle.plates.specs.declared.Plate.{Plate}
use Rattle.rules.specs.Answer.{endplate_answer, blind_flange_answer, Accepted}
use Rattle.rules.specs.Exact.{EndplateThicknessExact, ThicknessExact, EdgeExact, EndplateExact, BlindFlangeExact}
use Rattle.limits.specs.declared.EndplateSheet.{EndplateSheet}
use Rattle.limits.specs.declared.BlindFlangeSheet.{BlindFlangeSheet}
use Rattle.limits.specs.declared.unbolted.UnboltedSheet.{UnboltedSheet}
use Rattle.limits.specs.declared.unbolted.FlangeBolts.{FlangeBolts}
use Rattle.rules.specs.Answer.{Answer}
use Rattle.rules.specs.Answer.{Endplate, BlindFlange, Refused}
use Rattle.rules.specs.BoltedAnswer.{BoltedAnswer, bolted_answer, BoltedExact}
use Rattle.capi.specs.Places.{figure_at, EndplateFigureExact, BlindFlangeFigureExact}
use Rattle.capi.specs.Places.{bolted_figure_at, BoltedFigureExact}
use Rattle.capi.specs.Places.{endplate_thickness_place, thickness_place, edge_place}

at_its_place :
    (s : EndplateSheet) (answer : Answer) →
    EndplateExact s answer →
    Accepted answer →
    EndplateThicknessExact s (figure_at answer endplate_thickness_place)
unfolding figure_at
at_its_place s (Endplate f plate) h z = h z
at_its_place s (BlindFlange f plate) h z = absurd (h z)
at_its_place s (Refused cause figure) h z = absurd (h z)

-- of the sheet s that was made of C's numbers, and the plates that were listed
pub endplate_placed :
    (plates : List Plate) {listed : List Plate} {made s : EndplateSheet} {answer : Answer} {r place : ℕ} →
    listed ≡ plates →
    made ≡ s →
    answer ≡ endplate_answer made listed →
    EndplateExact made answer →
    r ≡ figure_at answer place →
    let due = endplate_answer s plates in
    (r ≡ figure_at due place) × EndplateFigureExact s due place r
endplate_placed plates {s = s} l same q h e =
    let exact = rw same at h in
    rw (← (rw (same, l) at q)) (e, λ z p. rw (e, p) (at_its_place s _ exact z))

at_their_places :
    (s : BlindFlangeSheet) (answer : Answer) →
    BlindFlangeExact s answer →
    Accepted answer →
    ThicknessExact s (figure_at answer thickness_place) × EdgeExact s (figure_at answer edge_place)
unfolding figure_at
at_their_places s (Endplate f plate) h z = absurd (h z)
at_their_places s (BlindFlange f plate) h z = h z
at_their_places s (Refused cause figure) h z = absurd (h z)

pub flange_placed :
    (plates : List Plate) {listed : List Plate} {made s : BlindFlangeSheet} {answer : Answer} {r place : ℕ} →
    listed ≡ plates →
    made ≡ s →
    answer ≡ blind_flange_answer made listed →
    BlindFlangeExact made answer →
    r ≡ figure_at answer place →
    let due = blind_flange_answer s plates in
    (r ≡ figure_at due place) × BlindFlangeFigureExact s due place r
flange_placed plates {s = s} l same q h e =
    let exact = rw same at h in
    rw (← (rw (same, l) at q))
    (e, λ z. (λ p. rw (e, p) (at_their_places s _ exact z).0, λ p. rw (e, p) (at_their_places s _ exact z).1))

-- with bolts chosen, over these bolts
abbrev with : Answer → Option FlangeBolts → BoltedAnswer
with answer bolts = record { answer = answer; bolts = bolts }

at_bolted_places :
    (s : UnboltedSheet) (answer : Answer) (bolts : Option FlangeBolts) →
    BoltedExact s (with answer bolts) →
    (place : ℕ) →
    BoltedFigureExact s (with answer bolts) place (bolted_figure_at (with answer bolts) place)
unfolding bolted_figure_at
at_bolted_places s answer None h place z = absurd (h z)
at_bolted_places s (Endplate f plate) (Some b) h place z = absurd (h z)
at_bolted_places s (BlindFlange f plate) (Some b) h place z = λ z'. (λ p. rw p (h z).0, λ p. rw p (h z).1)
at_bolted_places s (Refused cause figure) (Some b) h place z = absurd (h z)

pub bolted_placed :
    (diameters areas : List ℕ) (plates : List Plate) (place : ℕ)
    {sizes roots : List ℕ} {listed : List Plate} {made s : UnboltedSheet} {a : BoltedAnswer} {r : ℕ} →
    sizes ≡ diameters →
    roots ≡ areas →
    listed ≡ plates →
    made ≡ s →
    a ≡ bolted_answer made sizes roots listed →
    BoltedExact made a →
    r ≡ bolted_figure_at a place →
    let due = bolted_answer s diameters areas plates in
    (r ≡ bolted_figure_at due place) × BoltedFigureExact s due place r
bolted_placed diameters areas plates place {s = s} {a = a} d t l same q h e =
    let exact = rw same at h in
    rw (← (rw (same, d, t, l) at q)) (e, rw e (at_bolted_places s a.answer a.bolts exact place))
