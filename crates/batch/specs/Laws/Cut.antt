-- The pieces of a book joined are the book; between two of them a line ends and the next begins with the mark; none has such a
-- line after its first. Whatever pieces are so are the book's. Assumes nothing.
use Rattle.std.specs.Prelude.{ℕ, Bool, true, false, ◌&&◌, List, [], ◌∷◌, ◌++◌, ◌≡◌, refl, ⊤, eqb, length, drop, get_or, All}
use Rattle.std.specs.List.{concat}
use Rattle.std.proofs.Common.{sym, ap, ◌∙◌, arith, append-nil, length-append, eqb-true}
use Rattle.std.proofs.lemmas.Bool.{false≢true}
use Rattle.std.proofs.lemmas.List.Elements.{All-nil, All-cons, All-head, All-tail}
use Rattle.text.specs.Ascii.{line_feed}
use Rattle.text.specs.Index.{index_of, index_after}
use Rattle.text.specs.Line.{begins}
use Rattle.text.specs.Laws.Joined.{Lacks, lacks_cons}
use Rattle.batch.specs.Pieces.{mark, cut_after, byte_before, pieces_of}

-- no line but the first begins with the mark
abbrev pub NoCutWithin : List ℕ → Type 0
NoCutWithin t = (front rest : List ℕ) → t ≡ front ++ line_feed ∷ rest → begins mark rest ≡ false

-- t ends in an LF
abbrev pub EndsLine : List ℕ → Type 0
EndsLine t = (front : List ℕ) × (t ≡ front ++ line_feed ∷ [])

-- there is a piece; each but the last ends a line, and each but the first begins with the mark
abbrev pub CutByLines : List (List ℕ) → Type 0
CutByLines [] = ⊥
CutByLines (p ∷ []) = ⊤
CutByLines (p ∷ (q ∷ ps)) = EndsLine p × (begins mark q ≡ true) × CutByLines (q ∷ ps)

-- ---- the pieces joined

joined_byte : (cut : Bool) (x : ℕ) (ps : List (List ℕ)) → concat (byte_before cut x ps) ≡ x ∷ concat ps
joined_byte true x ps = refl
joined_byte false x [] = refl
joined_byte false x (p ∷ ps) = refl

pub joined : (book : List ℕ) → concat (pieces_of book) ≡ book
unfolding pieces_of
joined [] = refl
joined (x ∷ rest) = joined_byte (cut_after x rest) x (pieces_of rest) ∙ ap (λ t. x ∷ t) (joined rest)

-- ---- no cut within a piece

begins_more : (s t rest : List ℕ) → begins s t ≡ true → begins s (t ++ rest) ≡ true
begins_more [] t rest e = refl
begins_more (b ∷ s) [] rest e = absurd (false≢true e)
begins_more (b ∷ s) (x ∷ t) rest e = by_byte (eqb x b) e (begins_more s t rest)
  where
    by_byte :
        (same : Bool) →
        (same && begins s t) ≡ true →
        (begins s t ≡ true → begins s (t ++ rest) ≡ true) →
        (same && begins s (t ++ rest)) ≡ true
    by_byte true h later = later h
    by_byte false h later = absurd (false≢true h)

-- a piece with a byte before it
none_within_more :
    (x : ℕ) (p rest : List ℕ) →
    cut_after x (p ++ rest) ≡ false →
    NoCutWithin p →
    NoCutWithin (x ∷ p)
none_within_more x p rest e w [] after h = by_mark (begins mark p) refl
  where
    same : p ≡ after
    same = ap (drop 1) h

    by_mark : (b : Bool) → begins mark p ≡ b → begins mark after ≡ false
    by_mark false m = rw (← same) m
    by_mark true m = absurd (false≢true (sym e ∙ rw (ap (λ l. get_or l 0 0) h, begins_more mark p rest m) refl))
none_within_more x p rest e w (y ∷ front) after h = w front after (ap (drop 1) h)

none_within_a_byte : (x : ℕ) → NoCutWithin (x ∷ [])
none_within_a_byte x [] after h = rw (← ap (drop 1) h) refl
none_within_a_byte x (y ∷ front) after h = absurd (omega (arith, ap length h, length-append front (line_feed ∷ after)))

none_within_nothing : NoCutWithin []
none_within_nothing front after h = absurd (omega (arith, ap length h, length-append front (line_feed ∷ after)))

none_within_before :
    (cut : Bool) (x : ℕ) (rest : List ℕ) (ps : List (List ℕ)) →
    cut_after x rest ≡ cut →
    concat ps ≡ rest →
    All NoCutWithin ps →
    All NoCutWithin (byte_before cut x ps)
none_within_before true x rest ps e j w = All-cons NoCutWithin (x ∷ []) ps (none_within_a_byte x) w
none_within_before false x rest [] e j w = All-cons NoCutWithin (x ∷ []) [] (none_within_a_byte x) w
none_within_before false x rest (p ∷ ps) e j w =
    let here = none_within_more x p (concat ps) (rw j e) (All-head NoCutWithin p ps w) in
    All-cons NoCutWithin (x ∷ p) ps here (All-tail NoCutWithin p ps w)

pub no_cut_within : (book : List ℕ) → All NoCutWithin (pieces_of book)
unfolding pieces_of
no_cut_within [] = All-cons NoCutWithin [] [] none_within_nothing (All-nil NoCutWithin)
no_cut_within (x ∷ rest) = none_within_before (cut_after x rest) x rest (pieces_of rest) refl (joined rest) (no_cut_within rest)

-- ---- a cut between two pieces

mark_lacks : Lacks line_feed mark
unfolding index_of index_after
mark_lacks = refl

abbrev first : List (List ℕ) → List ℕ
first ps = get_or ps 0 []

first_byte : (x : ℕ) (ps : List (List ℕ)) → first (byte_before false x ps) ≡ x ∷ first ps
first_byte x [] = refl
first_byte x (p ∷ ps) = refl

-- the first piece begins with what the book begins with, up to an LF
first_begins : (s book : List ℕ) → Lacks line_feed s → begins s book ≡ true → begins s (first (pieces_of book)) ≡ true
unfolding pieces_of
first_begins [] book l e = refl
first_begins (b ∷ s) [] l e = absurd (false≢true e)
first_begins (b ∷ s) (x ∷ rest) l e =
    by_byte (eqb x b) refl e (lacks_cons line_feed b s l) (first_begins s rest)
  where
    by_byte :
        (same : Bool) →
        eqb x b ≡ same →
        (same && begins s rest) ≡ true →
        (eqb b line_feed ≡ false) × Lacks line_feed s →
        (Lacks line_feed s → begins s rest ≡ true → begins s (first (pieces_of rest)) ≡ true) →
        begins (b ∷ s) (first (byte_before (cut_after x rest) x (pieces_of rest))) ≡ true
    by_byte true h q k later =
        let other : eqb x line_feed ≡ false = rw (eqb-true x b h) k.0 in
        rw (other, first_byte x (pieces_of rest), h) (later k.1 q)
    by_byte false h q k later = absurd (false≢true q)

both : (a b : Bool) → (a && b) ≡ true → (a ≡ true) × (b ≡ true)
both true b e = (refl, e)
both false b e = absurd (false≢true e)

cut_before :
    (cut : Bool) (x : ℕ) (rest : List ℕ) (ps : List (List ℕ)) →
    cut_after x rest ≡ cut →
    pieces_of rest ≡ ps →
    CutByLines ps →
    CutByLines (byte_before cut x ps)
cut_before cut x rest [] e h c = absurd c
cut_before true x rest (q ∷ ps) e h c =
    let ends = both (eqb x line_feed) (begins mark rest) e in
    let begun = first_begins mark rest mark_lacks ends.1 in
    (([], ap (λ y. y ∷ []) (eqb-true x line_feed ends.0)), rw h at begun, c)
cut_before false x rest (p ∷ []) e h c = tt
cut_before false x rest (p ∷ (q ∷ ps)) e h c = ((x ∷ c.0.0, ap (λ t. x ∷ t) c.0.1), c.1, c.2)

pub cut_by_lines : (book : List ℕ) → CutByLines (pieces_of book)
unfolding pieces_of
cut_by_lines [] = tt
cut_by_lines (x ∷ rest) = cut_before (cut_after x rest) x rest (pieces_of rest) refl refl (cut_by_lines rest)

-- ---- and such pieces are the book's

none_within_rest : (x : ℕ) (p : List ℕ) → NoCutWithin (x ∷ p) → NoCutWithin p
none_within_rest x p w front rest h = w (x ∷ front) rest (ap (λ t. x ∷ t) h)

-- where no line begins with the mark after this byte, there is no cut after it
not_after : (x : ℕ) (rest : List ℕ) → (x ≡ line_feed → begins mark rest ≡ false) → cut_after x rest ≡ false
not_after x rest n = by_byte (eqb x line_feed) refl
  where
    by_byte : (ends : Bool) → eqb x line_feed ≡ ends → (ends && begins mark rest) ≡ false
    by_byte true e = n (eqb-true x line_feed e)
    by_byte false e = refl

one_piece : (p : List ℕ) → NoCutWithin p → pieces_of p ≡ p ∷ []
unfolding pieces_of
one_piece [] w = refl
one_piece (x ∷ p) w =
    rw (not_after x p (λ e. w [] p (ap (λ y. y ∷ p) e)))
    (ap (byte_before false x) (one_piece p (none_within_rest x p w)))

-- what begins with s, which has no LF, does so up to its first LF
up_to_line : (s front rest : List ℕ) → Lacks line_feed s
    → begins s ((front ++ line_feed ∷ []) ++ rest) ≡ begins s (front ++ line_feed ∷ [])
up_to_line [] front rest l = refl
up_to_line (b ∷ s) [] rest l = grind (arith, lacks_cons line_feed b s l)
up_to_line (b ∷ s) (x ∷ front) rest l = grind (arith, up_to_line s front rest (lacks_cons line_feed b s l).1)

piece_before : (front rest : List ℕ) → begins mark rest ≡ true → NoCutWithin (front ++ line_feed ∷ [])
    → pieces_of ((front ++ line_feed ∷ []) ++ rest) ≡ (front ++ line_feed ∷ []) ∷ pieces_of rest
unfolding pieces_of
piece_before [] rest e w = rw e refl
piece_before (x ∷ front) rest e w =
    let line = front ++ line_feed ∷ [] in
    let none : cut_after x (line ++ rest) ≡ false =
    not_after x (line ++ rest) (λ h. up_to_line mark front rest mark_lacks ∙ w [] line (ap (λ y. y ∷ line) h)) in
    rw none (ap (byte_before false x) (piece_before front rest e (none_within_rest x line w)))

pub pieces_fixed : (ps : List (List ℕ)) → CutByLines ps → All NoCutWithin ps → pieces_of (concat ps) ≡ ps
pieces_fixed [] c w = absurd c
pieces_fixed (p ∷ []) c w = rw (append-nil p) (one_piece p (All-head NoCutWithin p [] w))
pieces_fixed (p ∷ (q ∷ ps)) c w =
    let line = c.0.0 ++ line_feed ∷ [] in
    let rest = concat (q ∷ ps) in
    let first_none : NoCutWithin line = rw (← c.0.1) (All-head NoCutWithin p (q ∷ ps) w) in
    let others = pieces_fixed (q ∷ ps) c.2 (All-tail NoCutWithin p (q ∷ ps) w) in
    rw c.0.1
    (piece_before c.0.0 rest (begins_more mark q (concat ps) c.1) first_none ∙ ap (λ l. line ∷ l) others)
