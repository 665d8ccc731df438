-- Demand 3 of each accepted piece that is worked: of the report that results for it, in every space, under 15 too. That it
-- holds of the bytes in the space, where all reports fit, is a law (Laws).
use Rattle.std.specs.Prelude.{ℕ, List, All}
use Rattle.sheet.specs.Exact.{SheetExact}
use Rattle.batch.specs.Book.{worked}

abbrev pub BookExact : List ℕ → ℕ → Type 0
BookExact book limit = All SheetExact (worked book limit)
