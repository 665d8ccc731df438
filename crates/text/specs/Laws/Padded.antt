-- An array that is filled with a list, number by number, for a caller that has such a one. Assumes nothing.
use Rattle.std.specs.Prelude.{ℕ, suc, ◌+◌, ◌-◌, ◌≤◌, ◌<◌, List, ◌∷◌, ◌≡◌, length, take, drop, set, get_or, replicate}
use Rattle.std.proofs.Common.{sym, ap, ◌∙◌, add-one, arith, take-append-drop, drop-cons, drop-set-lt, length-take-le}
use Rattle.text.specs.Padded.{padded}

-- past one number more the array is still 0
pub zeros_after : (places : ℕ) (l : List ℕ) (c x : ℕ) → c < places → length l ≡ places
    → drop c l ≡ replicate (places - c) 0 → drop (c + 1) (set l c x) ≡ replicate (places - (c + 1)) 0
zeros_after places l c x h e z =
    let k : places - c ≡ suc (places - (c + 1)) = omega arith in
    let p : get_or l c 0 ∷ drop (suc c) l ≡ replicate (suc (places - (c + 1))) 0 =
    sym (drop-cons l c 0 (omega arith)) ∙ z ∙ rw k in
    drop-set-lt (c + 1) l c x (omega arith) ∙ ap (λ (j : ℕ). drop j l) (add-one c) ∙ ap (drop 1) p

-- an array that is 0 past its first c places holds those
pub zeros_fill : (places : ℕ) (l : List ℕ) (c : ℕ) → c ≤ length l → drop c l ≡ replicate (places - c) 0
    → l ≡ padded places (take c l)
zeros_fill places l c h z = rw (length-take-le c l h, ← z) (sym (take-append-drop c l))
