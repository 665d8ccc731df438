-- Any line of a report, the need's and the edge's among them, is read back by its key. Assumes nothing.
use Rattle.std.specs.Prelude.{ℕ, Bool, true, not, ◌&&◌, ◌||◌, cond, List, [], ◌∷◌, ◌≡◌, refl, eqb}
use Prim.Native.String.{String}
use Rattle.std.proofs.Math.Bool.{and-eq-true_iff}
use Rattle.std.proofs.Common.{ap, ◌∙◌}
use Rattle.rules.specs.Answer.{Answer}
use Rattle.rules.specs.Answer.{Endplate, BlindFlange, Refused}
use Rattle.std.proofs.Common.{ap, ◌∙◌, arith}
use Rattle.text.specs.Index.{index_of, index_after}
use Rattle.text.specs.Ascii.{ascii, equals, line_feed}
use Rattle.text.specs.Line.{same}
use Rattle.report.specs.Printed.{printed_from, printed}
use Rattle.std.specs.Prelude.{Option, Some, None}
use Rattle.text.specs.Laws.Joined.{Lacks}
use Rattle.report.specs.Laws.RoundTrip.{printed_line}
use Rattle.report.specs.Report.{keys_of, report_numbers, number_lines, report_text}

-- the number beside the first key that is this one
abbrev pub number_beside : String → List String → List ℕ → Option ℕ
number_beside key [] ns = None
number_beside key (own ∷ keys) [] = None
number_beside key (own ∷ keys) (n ∷ ns) =
    let later = number_beside key keys ns in
    cond (same (ascii key) (ascii own)) (Some n) later

-- neither = nor LF is among the bytes of a key
abbrev pub plain : List ℕ → Bool
plain [] = true
plain (b ∷ key) = not (eqb b equals || eqb b line_feed) && plain key

abbrev pub all_plain : List String → Bool
all_plain [] = true
all_plain (key ∷ keys) = plain (ascii key) && all_plain keys

plain_lacks : (key : List ℕ) → plain key ≡ true → Lacks equals key × Lacks line_feed key
unfolding index_of index_after
plain_lacks [] p = (refl, refl)
plain_lacks (b ∷ key) p = grind (arith, plain_lacks key)

lines_shown : (key : String) (keys : List String) (ns : List ℕ) → plain (ascii key) ≡ true → all_plain keys ≡ true
    → printed key (number_lines keys ns) ≡ number_beside key keys ns
unfolding printed_from
lines_shown key [] ns p q = refl
lines_shown key (own ∷ keys) [] p q = refl
lines_shown key (own ∷ keys) (n ∷ ns) p q =
    let both = (and-eq-true_iff _ _).0 q in
    let l = plain_lacks (ascii own) both.0 in
    printed_line (ascii key) (ascii own) (number_lines keys ns) n (plain_lacks (ascii key) p).0 l.0 l.1
    ∙ ap (cond (same (ascii key) (ascii own)) (Some n)) (lines_shown key keys ns p both.1)

keys_plain : (answer : Answer) → all_plain (keys_of answer) ≡ true
keys_plain (Endplate f plate) = refl
keys_plain (BlindFlange f plate) = refl
keys_plain (Refused cause figure) = refl

pub report_shows : (key : String) (answer : Answer) → plain (ascii key) ≡ true
    → printed key (report_text answer) ≡ number_beside key (keys_of answer) (report_numbers answer)
unfolding report_text
report_shows key answer p = lines_shown key (keys_of answer) (report_numbers answer) p (keys_plain answer)
