-- Bolts (document 01, Blind flanges). Root area in tenths of mm², stresses in N/mm², loads in tenths of a newton.
use Rattle.std.specs.Prelude.{ℕ, ◌*◌, Bool, ◌&&◌, leb}

-- A: count times root
abbrev pub bolt_area : ℕ → ℕ → ℕ
bolt_area root count = count * root

-- the bolts carry: A·sb ≥ Wm1 and A·sa ≥ Wm2
unfoldable pub bolts_sufficient : ℕ → ℕ → ℕ → ℕ → ℕ → Bool
bolts_sufficient Wm1 Wm2 A sa sb = leb Wm1 (A * sb) && leb Wm2 (A * sa)
