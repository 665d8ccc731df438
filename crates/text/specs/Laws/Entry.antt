-- An entry without a colon is its number, with a minus of 0. Assumes nothing.
use Rattle.std.specs.Prelude.{ℕ, ◌+◌, ◌-◌, ◌*◌, Bool, true, false, cond, List, [], ◌∷◌, ◌≡◌, refl, eqb, length, Option, Some, None}
use Rattle.std.specs.Option.{option_map}
use Rattle.std.proofs.Common.{arith, take_all, le-ltb}
use Rattle.plates.specs.Plates.{toleranced}
use Rattle.text.specs.Ascii.{colon}
use Rattle.text.specs.Index.{index_of, index_after}
use Rattle.text.specs.Line.{before}
use Rattle.text.specs.Number.{is_digit, digits_after, well_formed, number_of}
use Rattle.text.specs.Plates.{plate_with, entry_of}
use Rattle.text.specs.Laws.Joined.{Lacks}

pub entry_alone : (v : List ℕ) → Lacks colon v → entry_of v ≡ option_map (toleranced 0) (number_of v)
unfolding entry_of before
entry_alone v l =
    rw (l, take_all (length v) v (omega arith), le-ltb (length v) (length v) (omega arith)) (by_number (number_of v))
  where
    by_number : (n : Option ℕ) → plate_with n (Some 0) ≡ option_map (toleranced 0) n
    by_number (Some n) = refl
    by_number None = refl

-- a number has no colon
digits_lack : (v : List ℕ) (n x : ℕ) → digits_after n v ≡ Some x → Lacks colon v
unfolding index_of index_after
digits_lack [] n x e = refl
digits_lack (b ∷ v) n x e = by_digit (is_digit b) refl e (digits_lack v (n * 10 + (b - 48)) x)
  where
    by_digit :
        (digit : Bool) →
        is_digit b ≡ digit →
        cond digit (digits_after (n * 10 + (b - 48)) v) None ≡ Some x →
        (digits_after (n * 10 + (b - 48)) v ≡ Some x → Lacks colon v) →
        Lacks colon (b ∷ v)
    by_digit true h e rest =
        let other : eqb b colon ≡ false = grind (arith, h) in
        rw other (omega (arith, rest e))
    by_digit false h e rest = cc

number_lacks : (v : List ℕ) (x : ℕ) → number_of v ≡ Some x → Lacks colon v
unfolding number_of
number_lacks v x e = by_form (well_formed v) e
  where
    by_form : (formed : Bool) → cond formed (digits_after 0 v) None ≡ Some x → Lacks colon v
    by_form true e = digits_lack v 0 x e
    by_form false e = cc

-- so an entry that is a number is looked at once
pub entry_number : (v : List ℕ) (x : ℕ) → number_of v ≡ Some x → entry_of v ≡ Some (toleranced 0 x)
entry_number v x e = rw (entry_alone v (number_lacks v x e), e)
