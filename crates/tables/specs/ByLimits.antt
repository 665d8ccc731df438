-- Reading a table by its limits, which rise: which of its lines, rows or columns, a number reads. One definition for Tables 1,
-- 13 and 14 of BS 853-2:1996.
use Rattle.std.specs.Prelude.{ℕ, zero, suc, Bool, true, ◌&&◌, cond, List, [], ◌∷◌, ◌≡◌, ◌<◌, ◌≤◌, leb, ltb, length, get_or}
use Rattle.std.specs.Prelude.{Option, Some, None}
use Rattle.tables.specs.TableRule.{every}

-- the place, from 0, of the first limit that is not below n; past the last where none is. Where limits are "not exceeding", this
-- is the line read, and 0 reads the first
abbrev pub first_not_below : ℕ → List ℕ → ℕ
first_not_below n [] = 0
first_not_below n (l ∷ ls) = cond (leb n l) 0 (suc (first_not_below n ls))

-- the place, from 1, of the last limit that is not above n, which is the one before the first not below n + 1; 0 where none is.
-- Where limits are minimums, this is the line read
abbrev pub last_not_above : ℕ → List ℕ → ℕ
last_not_above n limits = first_not_below (suc n) limits

-- ---- what the law says

-- no limit is above a later one
abbrev pub rising : List ℕ → Bool
rising [] = true
rising (l ∷ ls) = every (leb l) ls && rising ls

-- n reads the line at i, from 0: the limits before it are below n, and those from it on are not
abbrev pub Reads : ℕ → List ℕ → ℕ → Type 0
Reads n limits i = (i ≤ length limits) × ((j : ℕ) → j < length limits → ltb (get_or limits j 0) n ≡ ltb j i)

-- n reads the line at i, from 1, of minimums: those up to it are not above n, and those after it are; 0 where all are
abbrev pub ReadsLast : ℕ → List ℕ → ℕ → Type 0
ReadsLast n limits i = (i ≤ length limits) × ((j : ℕ) → j < length limits → leb (get_or limits j 0) n ≡ ltb j i)

-- ---- what the code hands back

-- a place from 0, None where it is none of so many lines
abbrev pub inside : ℕ → ℕ → Option ℕ
inside lines i = cond (ltb i lines) (Some i) None

-- a place from 1, with 0 for none, as one from 0
abbrev pub from_zero : ℕ → Option ℕ
from_zero zero = None
from_zero (suc i) = Some i
