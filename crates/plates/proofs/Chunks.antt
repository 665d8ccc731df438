-- Lists of numbers and of bytes in chunks of an entry have the plates, or the numbers, that are in the lists. Assumes nothing.
use Rattle.std.specs.Prelude.{ℕ, zero, suc, ◌+◌, ◌*◌, ◌≤◌, ◌<◌, ◌≡◌, refl, List, [], ◌∷◌, length, map}
use Rattle.std.specs.Simd.{first_chunks}
use Rattle.std.proofs.Common.{arith, ap}
use Rattle.plates.specs.declared.Plate.{Plate}
use Rattle.plates.specs.Entries.{plates_in, numbers_in, plate_in, number_in, plate_in_bytes}

pub pairs : (k : ℕ) (numbers : List ℕ) → 2 * k ≤ length numbers → length numbers < 2 * k + 2
    → map plate_in (first_chunks 2 k numbers) ≡ plates_in numbers
unfolding plates_in
pairs zero [] h e = refl
pairs zero (a ∷ []) h e = refl
pairs zero (a ∷ b ∷ rest) h e = absurd (omega arith)
pairs (suc k) [] h e = absurd (omega arith)
pairs (suc k) (a ∷ []) h e = absurd (omega arith)
pairs (suc k) (a ∷ b ∷ rest) h e = ap (λ (plates : List Plate). plate_in (a ∷ b ∷ []) ∷ plates) (pairs k rest (omega arith) (omega arith))

pub eights : (k : ℕ) (bytes : List ℕ) → 8 * k ≤ length bytes → length bytes < 8 * k + 8
    → map plate_in_bytes (first_chunks 8 k bytes) ≡ plates_in (numbers_in bytes)
unfolding plates_in numbers_in
eights zero [] h e = refl
eights zero (a ∷ []) h e = refl
eights zero (a ∷ b ∷ []) h e = refl
eights zero (a ∷ b ∷ c ∷ []) h e = refl
eights zero (a ∷ b ∷ c ∷ d ∷ []) h e = refl
eights zero (a ∷ b ∷ c ∷ d ∷ a' ∷ []) h e = refl
eights zero (a ∷ b ∷ c ∷ d ∷ a' ∷ b' ∷ []) h e = refl
eights zero (a ∷ b ∷ c ∷ d ∷ a' ∷ b' ∷ c' ∷ []) h e = refl
eights zero (a ∷ b ∷ c ∷ d ∷ a' ∷ b' ∷ c' ∷ d' ∷ rest) h e = absurd (omega arith)
eights (suc k) [] h e = absurd (omega arith)
eights (suc k) (a ∷ []) h e = absurd (omega arith)
eights (suc k) (a ∷ b ∷ []) h e = absurd (omega arith)
eights (suc k) (a ∷ b ∷ c ∷ []) h e = absurd (omega arith)
eights (suc k) (a ∷ b ∷ c ∷ d ∷ []) h e = absurd (omega arith)
eights (suc k) (a ∷ b ∷ c ∷ d ∷ a' ∷ []) h e = absurd (omega arith)
eights (suc k) (a ∷ b ∷ c ∷ d ∷ a' ∷ b' ∷ []) h e = absurd (omega arith)
eights (suc k) (a ∷ b ∷ c ∷ d ∷ a' ∷ b' ∷ c' ∷ []) h e = absurd (omega arith)
eights (suc k) (a ∷ b ∷ c ∷ d ∷ a' ∷ b' ∷ c' ∷ d' ∷ rest) h e =
    ap (λ (plates : List Plate). plate_in_bytes (a ∷ b ∷ c ∷ d ∷ a' ∷ b' ∷ c' ∷ d' ∷ []) ∷ plates)
    (eights k rest (omega arith) (omega arith))

pub fours : (k : ℕ) (bytes : List ℕ) → 4 * k ≤ length bytes → length bytes < 4 * k + 4
    → map number_in (first_chunks 4 k bytes) ≡ numbers_in bytes
unfolding numbers_in
fours zero [] h e = refl
fours zero (a ∷ []) h e = refl
fours zero (a ∷ b ∷ []) h e = refl
fours zero (a ∷ b ∷ c ∷ []) h e = refl
fours zero (a ∷ b ∷ c ∷ d ∷ rest) h e = absurd (omega arith)
fours (suc k) [] h e = absurd (omega arith)
fours (suc k) (a ∷ []) h e = absurd (omega arith)
fours (suc k) (a ∷ b ∷ []) h e = absurd (omega arith)
fours (suc k) (a ∷ b ∷ c ∷ []) h e = absurd (omega arith)
fours (suc k) (a ∷ b ∷ c ∷ d ∷ rest) h e =
    ap (λ (numbers : List ℕ). number_in (a ∷ b ∷ c ∷ d ∷ []) ∷ numbers) (fours k rest (omega arith) (omega arith))
