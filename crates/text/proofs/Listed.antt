-- A plate list, part by part. Assumes nothing.
use Rattle.std.proofs.Common.{ℕ, zero, suc, ◌+◌, ◌-◌, ◌≤◌, ◌<◌, Bool, true, false, cond, eqb, List, [], ◌∷◌, ◌++◌, ◌≡◌, refl, sym, ap, length, drop, get_or, arith, add-one, append_assoc, append-nil, drop-cons, drop_of_length-le, take_all, ltb-false, ltb-true}
use Rattle.std.specs.Prelude.{Option, Some, None}
use Rattle.std.specs.List.{slice_split, position_or_len}
use Rattle.std.proofs.lemmas.List.Elements.{All-from_get_or}
use Rattle.std.proofs.lemmas.List.Splits.{slice_split_first, slice_split_none}
use Rattle.std.proofs.lemmas.List.Sums.{fails_before_first}
use Rattle.plates.specs.declared.Plate.{Plate}
use Rattle.text.specs.Ascii.{comma}
use Rattle.text.specs.Index.{index_of}
use Rattle.text.specs.Line.{contains, before, after}
use Rattle.text.specs.Plates.{entry_of, plate_before, plates_listed}
use Rattle.text.proofs.Parts.{index_is}

abbrev pub is_comma : ℕ → Bool
is_comma b = eqb b comma

-- the first part, and those after it where there is a comma
parts_is : (t : List ℕ) → slice_split is_comma t ≡ before comma t ∷ cond (contains comma t) (slice_split is_comma (after comma t)) []
unfolding before after
parts_is t = go (contains comma t) refl
  where
    go : (found : Bool) → contains comma t ≡ found
        → slice_split is_comma t ≡ before comma t ∷ cond found (slice_split is_comma (after comma t)) []
    go true e =
        rw (index_is comma t)
        (slice_split_first is_comma t 0 (omega (arith, ltb-true _ _ e, index_is comma t)))
    go false e =
        let past : length t ≤ position_or_len is_comma t = omega (arith, ltb-false _ _ e, index_is comma t) in
        rw (take_all (index_of comma t) t (ltb-false _ _ e))
        (slice_split_none is_comma t (All-from_get_or (λ b. is_comma b ≡ false) t 0 (λ k h. fails_before_first is_comma t k 0 (omega arith))))

-- at most k parts, each an entry
abbrev pub entries_in : ℕ → List (List ℕ) → Option (List Plate)
entries_in k [] = Some []
entries_in zero (part ∷ parts) = None
entries_in (suc k) (part ∷ parts) = plate_before (entry_of part) (entries_in k parts)

pub plates_listed_is : (k : ℕ) (t : List ℕ) → plates_listed k t ≡ entries_in k (slice_split is_comma t)
unfolding plates_listed
plates_listed_is zero t = rw (parts_is t)
plates_listed_is (suc k) t = rw (parts_is t, plates_listed_is k (after comma t)) (ap (plate_before (entry_of (before comma t))) (go (contains comma t)))
  where
    go : (found : Bool) → let rest = slice_split is_comma (after comma t) in
        cond found (entries_in k rest) (Some []) ≡ entries_in k (cond found rest [])
    go true = refl
    go false = refl

-- a list read so far, before what the rest is read as
abbrev pub prepend_list : List Plate → Option (List Plate) → Option (List Plate)
prepend_list xs None = None
prepend_list xs (Some ys) = Some (xs ++ ys)

pub prepend_list_nothing : (o : Option (List Plate)) → o ≡ prepend_list [] o
prepend_list_nothing None = refl
prepend_list_nothing (Some ys) = refl

prepend_list_plate : (xs : List Plate) (x : Plate) (o : Option (List Plate))
    → prepend_list xs (plate_before (Some x) o) ≡ prepend_list (xs ++ x ∷ []) o
prepend_list_plate xs x None = refl
prepend_list_plate xs x (Some ys) = ap Some (sym (append_assoc xs (x ∷ []) ys))

-- the parts from the n-th on, with the part that is there
module _ (ps : List (List ℕ)) (n : ℕ) (part : List ℕ) (h : (n < length ps) × (part ≡ get_or ps n part)) where
  part_here : drop n ps ≡ part ∷ drop (n + 1) ps
  part_here = rw (drop-cons ps n part h.0, ← h.1, add-one)

  pub entries_full : (k : ℕ) → k ≡ 0 → entries_in k (drop n ps) ≡ None
  entries_full k e = rw (part_here, e)

  pub entries_malformed : (k : ℕ) → entry_of part ≡ None → entries_in k (drop n ps) ≡ None
  entries_malformed zero e = entries_full zero refl
  entries_malformed (suc k) e = rw (part_here, e)

  -- a plate more in the list, and the rest of the parts
  pub entries_more : (k : ℕ) (xs : List Plate) (x : Plate) → entry_of part ≡ Some x → n < k
      → prepend_list xs (entries_in (k - n) (drop n ps)) ≡ prepend_list (xs ++ x ∷ []) (entries_in (k - (n + 1)) (drop (n + 1) ps))
  entries_more k xs x e l =
      let one_more : k - n ≡ suc (k - (n + 1)) = omega arith in
      rw (part_here, one_more, e) (prepend_list_plate xs x (entries_in (k - (n + 1)) (drop (n + 1) ps)))

pub entries_end : (ps : List (List ℕ)) (n k : ℕ) (xs : List Plate) → n ≡ length ps → prepend_list xs (entries_in k (drop n ps)) ≡ Some xs
entries_end ps n k xs e = rw (drop_of_length-le ps {i = n} (omega arith), append-nil xs)
