-- The first cause in checking order, for callers: found part by part, one of those in the order, and what fails where there is
-- none. Nothing here asks the numbers to rise. Assumes nothing.
use Rattle.std.specs.Prelude.{◌≡◌, ◌≢◌, Bool, not, ◌||◌, ◌&&◌, ℕ, zero, suc, T, get_or}
use Rattle.std.proofs.Math.Path.{refl}
use Rattle.std.proofs.Common.{arith, sym, ap, subst, ◌∙◌, eqb-true, eq-eqb, T_not}
use Rattle.std.proofs.Math.Bool.{true, false, cond, or_assoc, or-false}
use mathlib.Mathlib.Data.Bool.Basic.{or-eq-false-eq-eq-false-and-eq-false}
use mathlib.Core.List.Memᴰ
use mathlib.Core.List.{List, [], ◌∷◌, ◌++◌, foldl, foldl-append, Memᴰ}
use Rattle.std.proofs.lemmas.Bool.{eqb-false}
use Rattle.std.proofs.Math.Dec.{eqb}
use Rattle.std.specs.Float.Ieee.Bits.{is_false}
use Rattle.tables.specs.TableRule.{every, both}
use Rattle.limits.specs.declared.cause.Cause.{Cause}
use Rattle.limits.specs.Cause.{number_of}
use Rattle.limits.specs.Causes.{Tests, any, Causes, tests_of, first_of, checking_order, first_cause}

-- a cause's number is not 0
abbrev pub numbered : ℕ → Bool
numbered number = not (eqb number 0)

-- ---- a cause and its number

-- no cause has the number that stands for none, and no two causes have one number
pub number_not_zero : (cause : Cause) → number_of cause ≢ 0
number_not_zero cause e = grind arith

pub named_by_number : (c d : Cause) → number_of c ≡ number_of d → c ≡ d
named_by_number c d e = grind arith

-- ---- tests one after another

from : (a : Bool) (ts : Tests) → foldl ◌||◌ a ts ≡ (a || any ts)
from a [] = sym (or-false a)
from a (t ∷ ts) = from (a || t) ts ∙ or_assoc a t (any ts) ∙ ap (λ (b : Bool). a || b) (sym (from t ts))

-- one holds if one of the first or one of the others does
pub any_append : (ss ts : Tests) → any (ss ++ ts) ≡ (any ss || any ts)
any_append ss ts = foldl-append ◌||◌ false ss ts ∙ from (any ss) ts

-- ---- part by part

-- of two parts of the order the first answers where one of its causes applies
pub in_turn :
    (ns ms : List ℕ) (cs : Causes) →
    T (every numbered ns) →
    first_of (ns ++ ms) cs ≡ cond (eqb (first_of ns cs) 0) (first_of ms cs) (first_of ns cs)
unfolding first_of
in_turn [] ms cs t = refl
in_turn (n ∷ ns) ms cs t =
    let p = both (numbered n) (every numbered ns) t in
    by_test (any (tests_of cs n)) (is_false (eqb n 0) p.0) (in_turn ns ms cs p.1)
  where
    by_test :
        (b : Bool) →
        eqb n 0 ≡ false →
        first_of (ns ++ ms) cs ≡ cond (eqb (first_of ns cs) 0) (first_of ms cs) (first_of ns cs) →
        cond b n (first_of (ns ++ ms) cs)
        ≡ cond (eqb (cond b n (first_of ns cs)) 0) (first_of ms cs) (cond b n (first_of ns cs))
    by_test true z r = rw z
    by_test false z r = r

-- where no cause of the whole applies, none of either part does
pub none_of_both :
    (ns ms : List ℕ) (cs : Causes) →
    T (every numbered ns) →
    first_of (ns ++ ms) cs ≡ 0 →
    (first_of ns cs ≡ 0) × (first_of ms cs ≡ 0)
none_of_both ns ms cs t e = by_test (eqb (first_of ns cs) 0) refl (sym (in_turn ns ms cs t) ∙ e)
  where
    by_test :
        (b : Bool) →
        eqb (first_of ns cs) 0 ≡ b →
        cond b (first_of ms cs) (first_of ns cs) ≡ 0 →
        (first_of ns cs ≡ 0) × (first_of ms cs ≡ 0)
    by_test true q z = (eqb-true _ _ q, z)
    by_test false q z = absurd (eqb-false _ _ q z)

-- a number that is not in a part is not answered there
pub not_among :
    (number : ℕ) (ns : List ℕ) (cs : Causes) →
    number ≢ 0 →
    T (every (λ n. not (eqb n number)) ns) →
    first_of ns cs ≢ number
unfolding first_of
not_among number [] cs h t e = h (sym e)
not_among number (n ∷ ns) cs h t e =
    let p = both (not (eqb n number)) (every (λ n. not (eqb n number)) ns) t in
    by_test (any (tests_of cs n)) (eqb-false n number (is_false _ p.0)) (not_among number ns cs h p.1) e
  where
    by_test :
        (b : Bool) → n ≢ number → first_of ns cs ≢ number → cond b n (first_of ns cs) ≡ number → ⊥
    by_test true a r e = a e
    by_test false a r e = r e

-- ---- where there is none

-- of tests none of which holds, each one fails
each : (b : Bool) (ts : Tests) → foldl ◌||◌ b ts ≡ false → (b ≡ false) × ((j : ℕ) → get_or ts j false ≡ false)
each b [] e = (e, λ j. refl)
each b (t ∷ ts) e =
    let rest = each (b || t) ts e in
    let p = (or-eq-false-eq-eq-false-and-eq-false b t).0 rest.0 in
    (p.0, at p.1 rest.1)
  where
    at : t ≡ false → ((j : ℕ) → get_or ts j false ≡ false) → (j : ℕ) → get_or (t ∷ ts) j false ≡ false
    at p r zero = p
    at p r (suc j) = r j

-- a number is one of a part
abbrev pub among : ℕ → List ℕ → Bool
among number [] = false
among number (n ∷ ns) = cond (eqb n number) true (among number ns)

none_applies :
    (ns : List ℕ) (cs : Causes) →
    T (every numbered ns) →
    first_of ns cs ≡ 0 →
    (number : ℕ) →
    T (among number ns) →
    any (tests_of cs number) ≡ false
unfolding first_of
none_applies [] cs t e number m = absurd m
none_applies (n ∷ ns) cs t e number m =
    let p = both (numbered n) (every numbered ns) t in
    by_test (any (tests_of cs n)) refl e p.0 (none_applies ns cs p.1)
  where
    by_number :
        (b : Bool) →
        eqb n number ≡ b →
        T (cond b true (among number ns)) →
        any (tests_of cs n) ≡ false →
        (T (among number ns) → any (tests_of cs number) ≡ false) →
        any (tests_of cs number) ≡ false
    by_number true q m f r = subst (λ (k : ℕ). any (tests_of cs k) ≡ false) (eqb-true n number q) f
    by_number false q m f r = r m

    by_test :
        (b : Bool) →
        any (tests_of cs n) ≡ b →
        cond b n (first_of ns cs) ≡ 0 →
        T (numbered n) →
        (first_of ns cs ≡ 0 → (number : ℕ) → T (among number ns) → any (tests_of cs number) ≡ false) →
        any (tests_of cs number) ≡ false
    by_test true f z k r = absurd (T_not (eqb n 0) k (rw z tt))
    by_test false f z k r = by_number (eqb n number) refl m f (r z number)

-- where no cause applies, each test of each fails: a cause is named by its number
pub cause_fails :
    (cs : Causes) →
    first_cause cs ≡ 0 →
    (number : ℕ) →
    T (among number checking_order) →
    (j : ℕ) →
    get_or (tests_of cs number) j false ≡ false
cause_fails cs e number m = (each false (tests_of cs number) (none_applies checking_order cs tt e number m)).1

-- ---- where there is one

-- what is the first of some numbers is one of them
pub first_among : (ns : List ℕ) (cs : Causes) → eqb (first_of ns cs) 0 ≡ false → T (among (first_of ns cs) ns)
unfolding first_of
first_among [] cs e = absurd (eqb-false 0 0 e refl)
first_among (n ∷ ns) cs e = by_test (any (tests_of cs n)) e (first_among ns cs)
  where
    itself : T (among n (n ∷ ns))
    itself = rw (eq-eqb n n refl) tt

    later : (k : ℕ) (same : Bool) → T (among k ns) → T (cond same true (among k ns))
    later k true m = tt
    later k false m = m

    by_test :
        (b : Bool) →
        eqb (cond b n (first_of ns cs)) 0 ≡ false →
        (eqb (first_of ns cs) 0 ≡ false → T (among (first_of ns cs) ns)) →
        T (among (cond b n (first_of ns cs)) (n ∷ ns))
    by_test true q rest = itself
    by_test false q rest = later (first_of ns cs) (eqb n (first_of ns cs)) (rest q)

-- ---- no row is passed over

-- a row's number is in checking order
abbrev pub checked : ℕ × Tests → Bool
checked c = among c.0 checking_order

-- of tests one after another none of which holds, none of the first and none of the others does
both_fail : (ss ts : Tests) → any (ss ++ ts) ≡ false → (any ss ≡ false) × (any ts ≡ false)
both_fail ss ts f = (or-eq-false-eq-eq-false-and-eq-false (any ss) (any ts)).0 (sym (any_append ss ts) ∙ f)

rest_fails : (b : Bool) (ss ts : Tests) → any (cond b (ss ++ ts) ts) ≡ false → any ts ≡ false
rest_fails true ss ts f = (both_fail ss ts f).1
rest_fails false ss ts f = f

at_its_row :
    (cs : Causes) (c : ℕ × Tests) → Memᴰ c cs → any (tests_of cs c.0) ≡ false → any c.1 ≡ false
at_its_row [] c m f = absurd (Memᴰ.not-nil m)
at_its_row (d ∷ cs) c (Memᴰ.head e) f = by_number (eqb d.0 c.0) refl f
  where
    by_number :
        (b : Bool) →
        eqb d.0 c.0 ≡ b →
        any (cond b (d.1 ++ tests_of cs c.0) (tests_of cs c.0)) ≡ false →
        any c.1 ≡ false
    by_number true q f = ap (λ (r : ℕ × Tests). any r.1) e ∙ (both_fail d.1 (tests_of cs c.0) f).0
    by_number false q f = absurd (eqb-false _ _ q (ap (λ (r : ℕ × Tests). r.0) (sym e)))
at_its_row (d ∷ cs) c (Memᴰ.tail m) f =
    at_its_row cs c m (rest_fails (eqb d.0 c.0) d.1 (tests_of cs c.0) f)

listed : (cs : Causes) (c : ℕ × Tests) → T (every checked cs) → Memᴰ c cs → T (checked c)
listed [] c t m = absurd (Memᴰ.not-nil m)
listed (d ∷ cs) c t (Memᴰ.head e) = rw e (both (checked d) (every checked cs) t).0
listed (d ∷ cs) c t (Memᴰ.tail m) = listed cs c (both (checked d) (every checked cs) t).1 m

-- where no cause is found, no row of the list applies
pub none_passed_over :
    (cs : Causes) →
    T (every checked cs) →
    first_cause cs ≡ 0 →
    (c : ℕ × Tests) →
    Memᴰ c cs →
    any c.1 ≡ false
none_passed_over cs t e c m =
    at_its_row cs c m (none_applies checking_order cs tt e c.0 (listed cs c t m))

-- ---- a number more

-- a number none of whose tests holds makes no difference where it stands in an order
pub number_idle :
    (number : ℕ) (ns ms : List ℕ) (cs : Causes) →
    any (tests_of cs number) ≡ false →
    first_of (ns ++ number ∷ ms) cs ≡ first_of (ns ++ ms) cs
unfolding first_of
number_idle number [] ms cs e = rw e
number_idle number (n ∷ ns) ms cs e = rw (number_idle number ns ms cs e)

-- ---- a row more

-- where the same numbers apply, the same one is the first
same_first :
    (ns : List ℕ) (cs ds : Causes) →
    ((n : ℕ) → any (tests_of cs n) ≡ any (tests_of ds n)) →
    first_of ns cs ≡ first_of ns ds
unfolding first_of
same_first [] cs ds e = refl
same_first (n ∷ ns) cs ds e = rw (e n, same_first ns cs ds e)

module _ (number : ℕ) (ts : Tests) (cs : Causes) where
  abbrev more : Causes
  more = (number, ts) ∷ cs

  -- what the row adds: its own tests, under its number
  pub row_tests : (n : ℕ) → any (tests_of more n) ≡ ((eqb number n && any ts) || any (tests_of cs n))
  row_tests n = by_number (eqb number n)
    where
      by_number :
          (b : Bool) →
          any (cond b (ts ++ tests_of cs n) (tests_of cs n)) ≡ ((b && any ts) || any (tests_of cs n))
      by_number true = any_append ts (tests_of cs n)
      by_number false = refl

  more_from : (ns : List ℕ) → first_of ns more ≢ number → first_of ns more ≡ first_of ns cs
  unfolding first_of
  more_from [] h = refl
  more_from (n ∷ ns) h =
      rw (row_tests n) (by_test (eqb number n) refl (any ts) (any (tests_of cs n)) (more_from ns) (rw (row_tests n) at h))
    where
      by_test :
          (b : Bool) →
          eqb number n ≡ b →
          (own others : Bool) →
          (first_of ns more ≢ number → first_of ns more ≡ first_of ns cs) →
          cond ((b && own) || others) n (first_of ns more) ≢ number →
          cond ((b && own) || others) n (first_of ns more) ≡ cond others n (first_of ns cs)
      by_test true q true others r h = absurd (h (sym (eqb-true number n q)))
      by_test true q false true r h = refl
      by_test true q false false r h = r h
      by_test false q own true r h = refl
      by_test false q own false r h = r h

  -- a row more refuses more under its number and nothing else: what that number does not answer is answered as without it
  pub row_more : first_cause more ≢ number → first_cause more ≡ first_cause cs
  row_more = more_from checking_order

  -- and nothing at all where its number applies without it wherever it would with it
  pub row_idle : (any ts ≡ true → any (tests_of cs number) ≡ true) → first_cause more ≡ first_cause cs
  row_idle h = same_first checking_order more cs (λ n. row_tests n ∙ by_number n (eqb number n) refl (any ts) refl)
    where
      by_number :
          (n : ℕ) (b : Bool) →
          eqb number n ≡ b →
          (own : Bool) →
          any ts ≡ own →
          ((b && own) || any (tests_of cs n)) ≡ any (tests_of cs n)
      by_number n true q true o = sym (subst (λ (k : ℕ). any (tests_of cs k) ≡ true) (eqb-true number n q) (h o))
      by_number n true q false o = refl
      by_number n false q own o = refl
