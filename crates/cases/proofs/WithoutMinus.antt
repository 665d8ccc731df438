-- Mill minus tolerance (R-13) at the calls: a list of plates without a minus answers as it did, when a plate was its thickness
-- and no more. Assumes nothing.
use Rattle.std.proofs.Common.{◌≡◌, ℕ, cond, ◌&&◌, leb, ltb, List, [], ◌∷◌, map, refl, ap, ◌∙◌, arith}
use mathlib.Core.List.{foldl}
use Rattle.std.specs.Prelude.{Option, Some, None}
use Rattle.std.specs.Option.{option_map}
use Rattle.plates.specs.declared.Plate.{Plate}
use Rattle.plates.specs.Entries.{plates_in, numbers_in, lowest_first}
use Rattle.plates.specs.Plates.{better, smallest_serving, toleranced}
use Rattle.limits.specs.declared.EndplateSheet.{EndplateSheet}
use Rattle.limits.specs.declared.BlindFlangeSheet.{BlindFlangeSheet}
use Rattle.rules.specs.Sizing.{Sizing}
use Rattle.rules.specs.Answer.{Answer, total_of, with_plate, from_plates, endplate_sizing, blind_flange_sizing, endplate_answer, blind_flange_answer}

-- ---- the former choice, of plates that were a thickness and no more

abbrev former_better : ℕ → Option ℕ → ℕ → Option ℕ
former_better total None plate = cond (leb total plate) (Some plate) None
former_better total (Some chosen) plate = cond (leb total plate && ltb plate chosen) (Some plate) (Some chosen)

abbrev pub former_smallest_serving : ℕ → List ℕ → Option ℕ
former_smallest_serving total plates = foldl (former_better total) None plates

-- a former plate as it is now: a thickness, and a minus of 0
abbrev pub of_thickness : ℕ → Plate
of_thickness = toleranced 0

pub choice_kept : (total : ℕ) (ns : List ℕ) → smallest_serving total (map of_thickness ns) ≡ option_map of_thickness (former_smallest_serving total ns)
unfolding smallest_serving
choice_kept total ns = run ns None
  where
    one_more : (c : Option ℕ) (n : ℕ) → better total (option_map of_thickness c) (of_thickness n) ≡ option_map of_thickness (former_better total c n)
    one_more None n = grind arith
    one_more (Some chosen) n = grind arith

    run : (ns : List ℕ) (c : Option ℕ) →
        foldl (better total) (option_map of_thickness c) (map of_thickness ns) ≡ option_map of_thickness (foldl (former_better total) c ns)
    run [] c = refl
    run (n ∷ ns) c =
        ap (λ (o : Option Plate). foldl (better total) o (map of_thickness ns)) (one_more c n) ∙ run ns (former_better total c n)

-- ---- an answer by the former choice, of what is sized before it

abbrev pub former_from : Sizing → List ℕ → Answer
former_from sizing ns = with_plate sizing (option_map of_thickness (former_smallest_serving (total_of sizing) ns))

abbrev pub former_endplate_answer : EndplateSheet → List ℕ → Answer
former_endplate_answer s ns = former_from (endplate_sizing s) ns

abbrev pub former_blind_flange_answer : BlindFlangeSheet → List ℕ → Answer
former_blind_flange_answer s ns = former_from (blind_flange_sizing s) ns

-- a list of numbers with a 0 after each
abbrev pub zero_after_each : List ℕ → List ℕ
zero_after_each [] = []
zero_after_each (n ∷ ns) = n ∷ 0 ∷ zero_after_each ns

-- C's bytes, with four zeros after each four
abbrev pub zeros_after_each : List ℕ → List ℕ
zeros_after_each [] = []
zeros_after_each (a ∷ []) = []
zeros_after_each (a ∷ b ∷ []) = []
zeros_after_each (a ∷ b ∷ c ∷ []) = []
zeros_after_each (a ∷ b ∷ c ∷ d ∷ rest) = a ∷ b ∷ c ∷ d ∷ 0 ∷ 0 ∷ 0 ∷ 0 ∷ zeros_after_each rest

plates_are : (ns : List ℕ) → plates_in (zero_after_each ns) ≡ map of_thickness ns
unfolding plates_in
plates_are [] = refl
plates_are (n ∷ ns) = ap (λ (plates : List Plate). of_thickness n ∷ plates) (plates_are ns)

numbers_are : (bytes : List ℕ) → numbers_in (zeros_after_each bytes) ≡ zero_after_each (numbers_in bytes)
unfolding numbers_in
numbers_are [] = refl
numbers_are (a ∷ []) = refl
numbers_are (a ∷ b ∷ []) = refl
numbers_are (a ∷ b ∷ c ∷ []) = refl
numbers_are (a ∷ b ∷ c ∷ d ∷ rest) = ap (λ (ns : List ℕ). lowest_first a b c d ∷ 0 ∷ ns) (numbers_are rest)

-- ---- of either part

module _ (sizing : Sizing) where
  pub answer_kept : (ns : List ℕ) → from_plates sizing (map of_thickness ns) ≡ former_from sizing ns
  answer_kept ns = ap (with_plate sizing) (choice_kept (total_of sizing) ns)

  numbers_kept : (ns : List ℕ) → from_plates sizing (plates_in (zero_after_each ns)) ≡ former_from sizing ns
  numbers_kept ns = rw (plates_are ns) (answer_kept ns)

  bytes_kept :
      (bytes : List ℕ) →
      from_plates sizing (plates_in (numbers_in (zeros_after_each bytes))) ≡ former_from sizing (numbers_in bytes)
  bytes_kept bytes = rw (numbers_are bytes) (numbers_kept (numbers_in bytes))

-- ---- so the numeric calls, and C's

pub endplate_kept :
    (s : EndplateSheet) (ns : List ℕ) → endplate_answer s (plates_in (zero_after_each ns)) ≡ former_endplate_answer s ns
unfolding endplate_answer
endplate_kept s = numbers_kept (endplate_sizing s)

pub flange_kept :
    (s : BlindFlangeSheet) (ns : List ℕ) → blind_flange_answer s (plates_in (zero_after_each ns)) ≡ former_blind_flange_answer s ns
unfolding blind_flange_answer
flange_kept s = numbers_kept (blind_flange_sizing s)

pub endplate_bytes_kept :
    (s : EndplateSheet) (bytes : List ℕ) →
    endplate_answer s (plates_in (numbers_in (zeros_after_each bytes))) ≡ former_endplate_answer s (numbers_in bytes)
unfolding endplate_answer
endplate_bytes_kept s = bytes_kept (endplate_sizing s)

pub flange_bytes_kept :
    (s : BlindFlangeSheet) (bytes : List ℕ) →
    blind_flange_answer s (plates_in (numbers_in (zeros_after_each bytes))) ≡ former_blind_flange_answer s (numbers_in bytes)
unfolding blind_flange_answer
flange_bytes_kept s = bytes_kept (blind_flange_sizing s)
