-- A list held by an array of so many places: in the first ones, zeros after it.
use Rattle.std.specs.Prelude.{ℕ, ◌-◌, List, ◌++◌, length, replicate}

abbrev pub padded : ℕ → List ℕ → List ℕ
padded places xs = xs ++ replicate (places - length xs) 0
