-- What a summary counts: no plate is below its total; accepted is what meets no cause; accepted and refused add up to the
-- pieces; and refused is the sum of the numbers under each cause. Assumes nothing.
use Rattle.std.proofs.Common.{ℕ, ◌+◌, Bool, true, false, not, ◌&&◌, cond, eqb, ltb, T, List, [], ◌∷◌, ◌≡◌, refl, ◌∙◌, length, length-take, map, take, min, arith, eqb-true}
use Rattle.std.proofs.Math.Bool.{and-eq-true_iff}
use Rattle.std.specs.Prelude.{⊤}
use Rattle.std.specs.List.{count_by, list_all, sum_by}
use Rattle.std.proofs.lemmas.List.{length-map}
use Rattle.std.proofs.lemmas.List.Sums.{sum_by-cons}
use Rattle.limits.specs.Causes.{checking_order}
use Rattle.limits.specs.Laws.{among}
use Rattle.rules.specs.Answer.{Answer, Endplate, BlindFlange, Refused, cause_of}
use Rattle.rules.proofs.Laws.PlateAndCause.{PlateReaches, endplate_reached, flange_reached}
use Rattle.rules.proofs.Laws.PlateAndCause.{CauseInOrder, endplate_cause_in_order, flange_cause_in_order}
use Rattle.sheet.specs.Sheet.{Sheet, malformed, endplate, blind_flange, sheet_of, answered, answer_of}
use Rattle.batch.specs.Pieces.{pieces_of}
use Rattle.batch.specs.Book.{most_pieces}
use Rattle.batch.specs.Summary.{is_accepted, is_refused, is_refused_under, sheet_numbers}
use Rattle.batch.specs.Summary.{accepted, refused, refused_under, answers_for}

-- ---- the plate

sheet_reached : (s : Sheet) → PlateReaches (answered s)
sheet_reached (malformed line) = tt
sheet_reached (endplate s plates) = endplate_reached s plates
sheet_reached (blind_flange s plates) = flange_reached s plates

-- no plate is below its total: an excess is what it has above
pub reached : (text : List ℕ) → PlateReaches (answer_of text)
unfolding answer_of
reached text = sheet_reached (sheet_of text)

-- ---- the cause

-- the cause, where there is one, passes the test
abbrev pub CausePasses : (ℕ → Bool) → Answer → Type 0
CausePasses test (Endplate f plate) = ⊤
CausePasses test (BlindFlange f plate) = ⊤
CausePasses test (Refused cause figure) = test cause ≡ true

module _ (test : ℕ → Bool) where
  among_passes : (cause : ℕ) (ns : List ℕ) → list_all test ns ≡ true → T (among cause ns) → test cause ≡ true
  among_passes cause [] e m = absurd m
  among_passes cause (n ∷ ns) e m =
      let p = (and-eq-true_iff (test n) (list_all test ns)).0 e in
      by_number (eqb n cause) refl m p.0 (among_passes cause ns p.1)
    where
      by_number :
          (same : Bool) →
          eqb n cause ≡ same →
          T (cond same true (among cause ns)) →
          test n ≡ true →
          (T (among cause ns) → test cause ≡ true) →
          test cause ≡ true
      by_number true q m p rest = rw (← eqb-true n cause q) p
      by_number false q m p rest = rest m

  in_order_passes : (a : Answer) → list_all test checking_order ≡ true → CauseInOrder a → CausePasses test a
  in_order_passes (Endplate f plate) e c = tt
  in_order_passes (BlindFlange f plate) e c = tt
  in_order_passes (Refused cause figure) e c = among_passes cause checking_order e c

  sheet_passes : (s : Sheet) → test 1 ≡ true → list_all test checking_order ≡ true → CausePasses test (answered s)
  sheet_passes (malformed line) first e = first
  sheet_passes (endplate s plates) first e = in_order_passes _ e (endplate_cause_in_order s plates)
  sheet_passes (blind_flange s plates) first e = in_order_passes _ e (flange_cause_in_order s plates)

  text_passes : (text : List ℕ) → test 1 ≡ true → list_all test checking_order ≡ true → CausePasses test (answer_of text)
  unfolding answer_of
  text_passes text = sheet_passes (sheet_of text)

-- ---- accepted and refused

by_cause : (a : Answer) → CausePasses (λ cause. not (eqb cause 0)) a → is_accepted a ≡ eqb (cause_of a) 0
by_cause (Endplate f plate) p = refl
by_cause (BlindFlange f plate) p = refl
by_cause (Refused cause figure) p = by_test (eqb cause 0) p
  where
    by_test : (b : Bool) → not b ≡ true → false ≡ b
    by_test true e = e
    by_test false e = refl

-- what is accepted meets no cause, and what meets none is accepted
pub accepted_without_cause : (text : List ℕ) → is_accepted (answer_of text) ≡ eqb (cause_of (answer_of text)) 0
accepted_without_cause text = by_cause (answer_of text) (text_passes (λ cause. not (eqb cause 0)) text refl refl)

one_of_two : (a : Answer) → cond (is_accepted a) 1 0 + cond (is_refused a) 1 0 ≡ 1
one_of_two (Endplate f plate) = refl
one_of_two (BlindFlange f plate) = refl
one_of_two (Refused cause figure) = refl

-- the two, each counted by its own rule, add up
pub add_up : (answers : List Answer) → accepted answers + refused answers ≡ length answers
add_up [] = refl
add_up (a ∷ answers) =
    omega (
      arith,
      sum_by-cons (λ b. cond (is_accepted b) 1 0) a answers,
      sum_by-cons (λ b. cond (is_refused b) 1 0) a answers,
      one_of_two a,
      add_up answers,
    )

-- pieces: the smaller of 64 and their number
pub pieces_count : (book : List ℕ) → length (answers_for book) ≡ min most_pieces (length (pieces_of book))
unfolding answers_for
pieces_count book = length-map (take most_pieces (pieces_of book)) answer_of ∙ length-take most_pieces (pieces_of book)

-- so of a book
pub pieces_add_up :
    (book : List ℕ) →
    accepted (answers_for book) + refused (answers_for book) ≡ min most_pieces (length (pieces_of book))
pieces_add_up book = add_up (answers_for book) ∙ pieces_count book

-- ---- refused, and the numbers

-- the numbers listed are 1 and those in checking order, and no others: 15 and 16 are not of a sheet
pub listed_met : list_all (λ n. among n (1 ∷ checking_order)) sheet_numbers ≡ true
listed_met = refl

abbrev rising : List ℕ → Bool
rising [] = true
rising (n ∷ ns) = list_all (λ m. ltb n m) ns && rising ns

pub listed_rising : rising sheet_numbers ≡ true
listed_rising = refl

-- of the numbers that a sheet can meet one is that of its cause, where it has one
abbrev MetOnce : Answer → Type 0
MetOnce a = count_by (λ n. is_refused_under n a) sheet_numbers ≡ cond (is_refused a) 1 0

abbrev once : ℕ → Bool
once cause = eqb (count_by (λ n. eqb cause n) sheet_numbers) 1

passes_once : (a : Answer) → CausePasses once a → MetOnce a
passes_once (Endplate f plate) p = refl
passes_once (BlindFlange f plate) p = refl
passes_once (Refused cause figure) p = eqb-true _ 1 p

-- what one answer more adds under some numbers
more_under :
    (ns : List ℕ) (a : Answer) (answers : List Answer) →
    sum_by (refused_under (a ∷ answers)) ns ≡ count_by (λ n. is_refused_under n a) ns + sum_by (refused_under answers) ns
more_under [] a answers = refl
more_under (n ∷ ns) a answers =
    omega (
      arith,
      sum_by-cons (refused_under (a ∷ answers)) n ns,
      sum_by-cons (refused_under answers) n ns,
      sum_by-cons (λ k. cond (is_refused_under k a) 1 0) n ns,
      sum_by-cons (λ b. cond (is_refused_under n b) 1 0) a answers,
      more_under ns a answers,
    )

texts_under :
    (texts : List (List ℕ)) → sum_by (refused_under (map answer_of texts)) sheet_numbers ≡ refused (map answer_of texts)
texts_under [] = refl
texts_under (t ∷ texts) =
    omega (
      arith,
      more_under sheet_numbers (answer_of t) (map answer_of texts),
      passes_once (answer_of t) (text_passes once t refl refl),
      sum_by-cons (λ b. cond (is_refused b) 1 0) (answer_of t) (map answer_of texts),
      texts_under texts,
    )

-- refused is the sum of the numbers under each cause
pub under_each : (book : List ℕ) → sum_by (refused_under (answers_for book)) sheet_numbers ≡ refused (answers_for book)
unfolding answers_for
under_each book = texts_under (take most_pieces (pieces_of book))
