-- Pieces counted one after another, with the excess or the cause of each. Assumes nothing.
use Rattle.std.proofs.Common.{ℕ, ◌+◌, cond, eqb, List, [], ◌∷◌, ◌++◌, ◌≡◌, refl, sym, ◌∙◌, length, length-append, arith, true, false, append-nil}
use Rattle.std.specs.Prelude.{Some}
use Rattle.std.proofs.lemmas.List.Elements.{filter_map-append}
use Rattle.std.proofs.lemmas.List.Sums.{sum_by_push}
use Rattle.rules.specs.Answer.{Answer, Refused}
use Rattle.batch.specs.Lines.{times_met}
use Rattle.batch.specs.Summary.{is_accepted, is_refused, is_refused_under, excess_of, accepted, refused, refused_under, excesses}

-- of pieces with these answers: how many they are, the excesses of the accepted and the causes of the refused ones
pub record Tallied (answers : List Answer) (pieces : ℕ) (xs cs : List ℕ) : Type 0 where
  pub counted : pieces ≡ length answers
  pub above : xs ≡ excesses answers
  pub taken : length xs ≡ accepted answers
  pub refusals : length cs ≡ refused answers
  pub under : (n : ℕ) → times_met cs n ≡ refused_under answers n

pub tallied_none : Tallied [] 0 [] []
unfolding excesses
tallied_none = record { counted = refl; above = refl; taken = refl; refusals = refl; under = λ n. refl }

module _ {answers : List Answer} {pieces : ℕ} {xs cs : List ℕ} (t : Tallied answers pieces xs cs) where
  abbrev more : Answer → List Answer
  more answer = answers ++ answer ∷ []

  one_more : (answer : Answer) → pieces + 1 ≡ length (more answer)
  one_more answer = omega (arith, t.counted, length-append answers (answer ∷ []))

  -- one more of an accepted piece
  pub more_accepted : (x : ℕ) (answer : Answer) →
      excess_of answer ≡ Some x →
      is_accepted answer ≡ true →
      is_refused answer ≡ false →
      ((n : ℕ) → is_refused_under n answer ≡ false) →
      Tallied (more answer) (pieces + 1) (xs ++ x ∷ []) cs
  unfolding excesses
  more_accepted x answer e a r u =
      record {
        counted = one_more answer;
        above = rw (filter_map-append excess_of answers (answer ∷ []), e, ← t.above) refl;
        taken = rw (length-append xs (x ∷ []), sum_by_push (λ b. cond (is_accepted b) 1 0) answers answer, a, t.taken) refl;
        refusals = rw (sum_by_push (λ b. cond (is_refused b) 1 0) answers answer, r, t.refusals) (omega arith);
        under = λ n. rw (sum_by_push (λ b. cond (is_refused_under n b) 1 0) answers answer, u n, t.under n) (omega arith);
      }

  pub more_refused : (cause figure : ℕ) → Tallied (more (Refused cause figure)) (pieces + 1) xs (cs ++ cause ∷ [])
  unfolding excesses
  more_refused cause figure =
      let answer = Refused cause figure in
      record {
        counted = one_more answer;
        above = rw (filter_map-append excess_of answers (answer ∷ [])) (t.above ∙ sym (append-nil _));
        taken = rw (sum_by_push (λ b. cond (is_accepted b) 1 0) answers answer, t.taken) (omega arith);
        refusals = rw (length-append cs (cause ∷ []), sum_by_push (λ b. cond (is_refused b) 1 0) answers answer, t.refusals) refl;
        under = λ n. rw (
          sum_by_push (λ c. cond (eqb c n) 1 0) cs cause,
          sum_by_push (λ b. cond (is_refused_under n b) 1 0) answers answer,
          t.under n,
        ) refl;
      }
