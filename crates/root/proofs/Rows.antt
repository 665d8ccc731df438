-- The definitions compute: rows of 18 and more digits, by computation alone. Assumes nothing.
use mathlib.Core.Path.{◌≡◌, refl}
use mathlib.Core.List.{[], ◌∷◌, map}
use Rattle.root.specs.Root.{ceil_div, whole_root_by, least_root, least_root_over}

roots : map least_root (
    999999999999999999 ∷ 1000000000000000000 ∷ 1000000000000000001 ∷ 18446744065119617025 ∷ 18446744065119617026 ∷ []
    ) ≡ 1000000000 ∷ 1000000000 ∷ 1000000001 ∷ 4294967295 ∷ 4294967296 ∷ []
unfolding least_root whole_root_by
roots = refl

-- over 40 * 108: a square of 18 digits, and one more
over_factor : map (λ n. least_root_over n 4320) (622080000000000000 ∷ 622080000000000001 ∷ []) ≡ 12000000 ∷ 12000001 ∷ []
unfolding least_root_over least_root whole_root_by ceil_div
over_factor = refl
