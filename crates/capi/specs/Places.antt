-- The figures of an answer by place, for C, and demand 3 of the figure that is returned.
use Rattle.std.specs.Prelude.{ℕ, List, ◌∷◌, ◌++◌, ◌≡◌, get_or, IsSomeAnd}
use Rattle.rules.specs.Answer.{cause_of, figure_of, report_of, Accepted}
use Rattle.rules.specs.Exact.{EndplateThicknessExact, ThicknessExact, EdgeExact}
use Rattle.limits.specs.declared.EndplateSheet.{EndplateSheet}
use Rattle.limits.specs.declared.BlindFlangeSheet.{BlindFlangeSheet}
use Rattle.limits.specs.Unbolted.{bolted}
use Rattle.limits.specs.declared.unbolted.UnboltedSheet.{UnboltedSheet}
use Rattle.rules.specs.Answer.{Answer}
use Rattle.rules.specs.BoltedAnswer.{BoltedAnswer, bolts_list}

-- 0 the cause, 1 its figure, from 2 on the report's figures
abbrev pub by_place : Answer → List ℕ
by_place answer = cause_of answer ∷ figure_of answer ∷ report_of answer

-- and with bolts chosen, after the report's figures, the bolt, its root area and the count; a refusal has none
abbrev pub bolted_by_place : BoltedAnswer → List ℕ
bolted_by_place a = by_place a.answer ++ bolts_list a.bolts

-- any other place 0
unfoldable pub figure_at : Answer → ℕ → ℕ
figure_at answer place = get_or (by_place answer) place 0

unfoldable pub bolted_figure_at : BoltedAnswer → ℕ → ℕ
bolted_figure_at a place = get_or (bolted_by_place a) place 0

-- ---- demand 3, of the figure r of a call that accepts what it is given

-- the place of an endplate's need
abbrev pub endplate_thickness_place : ℕ
endplate_thickness_place = 3

abbrev pub EndplateFigureExact : EndplateSheet → Answer → ℕ → ℕ → Type 0
EndplateFigureExact s answer place r = Accepted answer → place ≡ endplate_thickness_place → EndplateThicknessExact s r

-- the places of a blind flange's need and edge
abbrev pub thickness_place : ℕ
thickness_place = 9

abbrev pub edge_place : ℕ
edge_place = 10

abbrev pub BlindFlangeFigureExact : BlindFlangeSheet → Answer → ℕ → ℕ → Type 0
BlindFlangeFigureExact s answer place r =
    Accepted answer → (place ≡ thickness_place → ThicknessExact s r) × (place ≡ edge_place → EdgeExact s r)

-- over the bolts taken
abbrev pub BoltedFigureExact : UnboltedSheet → BoltedAnswer → ℕ → ℕ → Type 0
BoltedFigureExact s a place r =
    Accepted a.answer → IsSomeAnd a.bolts (λ b. BlindFlangeFigureExact (bolted s b) a.answer place r)
