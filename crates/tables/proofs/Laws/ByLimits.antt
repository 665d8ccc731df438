-- Which line of a table a number reads, and which entry: one law over every table, for every number. Assumes nothing.
use Rattle.std.specs.Prelude.{ℕ, zero, suc, ◌≤◌, ◌<◌, ◌≡◌, List, [], ◌∷◌, T, leb, ltb, length, get_or}
use Rattle.std.proofs.Common.{arith, ap, leb→le}
use Rattle.std.proofs.lemmas.Bool.Decides.{nat_tests}
use Rattle.tables.specs.ByLimits.{first_not_below, last_not_above, rising, Reads, ReadsLast}
use Rattle.tables.specs.TableRule.{every, inside, both}

module _ (n : ℕ) where
  -- the limits below n stand before all others, since limits rise
  limit : (ls : List ℕ) → T (rising ls) → (j : ℕ) → j < length ls → ltb (get_or ls j 0) n ≡ ltb j (first_not_below n ls)
  limit [] r j h = grind arith
  limit (l ∷ ls) r zero h = grind (arith, nat_tests)
  limit (l ∷ ls) r (suc j) h =
      let p = both (every (leb l) ls) (rising ls) r in
      let later : l ≤ get_or ls j 0 = leb→le _ _ (inside (leb l) ls 0 p.0 j (omega (arith, h))) in
      grind (arith, nat_tests, later, limit ls p.1 j (omega (arith, h)))

  pub within : (ls : List ℕ) → first_not_below n ls ≤ length ls
  within [] = omega arith
  within (l ∷ ls) = grind (arith, nat_tests, within ls)

  -- every number reads the place that the definition says
  pub read : (ls : List ℕ) → T (rising ls) → Reads n ls (first_not_below n ls)
  read ls r = (within ls, limit ls r)

  -- and no other
  pub only : (ls : List ℕ) (i k : ℕ) → Reads n ls i → Reads n ls k → i ≡ k
  only ls i k a b = grind (arith, nat_tests, a.1 k, b.1 i)

  -- so the entry of the line that is read is the one that the definition gives, whatever the table
  pub entry_read :
      {A : Type 0} (ls : List ℕ) (entries : List A) (none : A) → T (rising ls) → (i : ℕ) → Reads n ls i →
      get_or entries (first_not_below n ls) none ≡ get_or entries i none
  entry_read ls entries none r i h = ap (λ (k : ℕ). get_or entries k none) (only ls _ i (read ls r) h)

-- minimums too: not above n is below n + 1
module _ (n : ℕ) (ls : List ℕ) (i : ℕ) where
  pub last_of : ReadsLast n ls i → Reads (suc n) ls i
  last_of h = (h.0, λ j inner. grind (arith, nat_tests, h.1 j inner))

  pub of_last : Reads (suc n) ls i → ReadsLast n ls i
  of_last h = (h.0, λ j inner. grind (arith, nat_tests, h.1 j inner))

pub read_last : (n : ℕ) (ls : List ℕ) → T (rising ls) → ReadsLast n ls (last_not_above n ls)
read_last n ls r = of_last n ls _ (read (suc n) ls r)

pub entry_read_last :
    (n : ℕ) {A : Type 0} (ls : List ℕ) (entries : List A) (none : A) → T (rising ls) → (i : ℕ) → ReadsLast n ls i →
    get_or entries (last_not_above n ls) none ≡ get_or entries i none
entry_read_last n ls entries none r i h = entry_read (suc n) ls entries none r i (last_of n ls i h)
