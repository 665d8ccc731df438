-- A line by itself, whatever follows it in the text. Assumes nothing.
use Rattle.std.proofs.Common.{◌≡◌, ℕ, zero, suc, ◌+◌, ◌-◌, ◌<◌, Bool, true, false, not, ◌&&◌, ◌||◌, T, eqb, List, [], ◌∷◌, ◌++◌, length, get_or, take, drop, sym, refl, ap, ◌∙◌, subst, arith, length-append, ltb-true, lt-ltb, ne_eqb, eqb-true}
use mathlib.Core.Bool.{false≢true, and-false, and-eq-true_iff}
use native.Mathlib.Nat.{sub-zero}
use borrow.Author.Tests.{eqb-false}
use lib.Seq.{take-append_seam, drop-append-add}
use Rattle.text.specs.Index.{index_of, index_after}
use Rattle.text.specs.Ascii.{ascii, equals, line_feed}
use Rattle.text.specs.Line.{begins, contains, is_line, value_of, before, after}
use Rattle.text.specs.Laws.Joined.{Lacks, lacks_cons, index_append}
use Rattle.std.specs.Prelude.{Option, Some, None}
use Rattle.lines.specs.Fields.{Field, line_of}
use Rattle.sheet.specs.Sheet.{is_part}

-- a key without LF
abbrev pub without_lf : Field → Bool
without_lf field = eqb (index_of line_feed field.0) (length field.0)

-- keys that differ before either ends
abbrev pub differs : List ℕ → List ℕ → Bool
differs [] other = false
differs (b ∷ key) [] = false
differs (b ∷ key) (x ∷ other) = not (eqb x b) || differs key other

-- a text that begins with one of them does not begin with the other
pub begins_other : (key other t : List ℕ) → T (differs key other) → begins other t ≡ true → begins key t ≡ false
begins_other [] other t d e = absurd d
begins_other (b ∷ key) [] t d e = absurd d
begins_other (b ∷ key) (x ∷ other) [] d e = refl
begins_other (b ∷ key) (x ∷ other) (y ∷ t) d e =
    let h = (and-eq-true_iff (eqb y x) (begins other t)).0 e in
    by_first (eqb y b) (ap (λ (z : ℕ). eqb z b) (sym (eqb-true y x h.0))) d (λ d'. begins_other key other t d' h.1)
  where
    by_first :
        (same : Bool) →
        eqb x b ≡ same →
        T (not (eqb x b) || differs key other) →
        (T (differs key other) → begins key t ≡ false) →
        (same && begins key t) ≡ false
    by_first true q d later = later (rw q at d)
    by_first false q d later = refl

-- a line that shows a number is a line of its key
abbrev IsValue : Option ℕ → Type 0
IsValue (Some x) = Unit
IsValue None = ⊥

pub is_line_lem :
    (key : List ℕ) (reader : List ℕ → Option ℕ) (t : List ℕ) (x : ℕ) → line_of key reader t ≡ Some x → is_line key t ≡ true
unfolding line_of
is_line_lem key reader t x e = by_test (is_line key t) refl
  where
    by_test : (b : Bool) → is_line key t ≡ b → is_line key t ≡ true
    by_test true h = h
    by_test false h = absurd (subst IsValue (sym (rw h at e)) tt)

-- a line begins with its key
pub key_begins : (key t : List ℕ) → is_line key t ≡ true → begins key t ≡ true
key_begins key t e =
    let is-equals = eqb (get_or t (length key) 0) equals in
    let both = ((and-eq-true_iff (begins key t && is-equals) (contains line_feed t)).0 e).0 in
    ((and-eq-true_iff (begins key t) is-equals).0 both).0

-- a line has an LF
pub lf_found : (key t : List ℕ) → is_line key t ≡ true → index_of line_feed t < length t
lf_found key t e = by_test (begins key t && eqb (get_or t (length key) 0) equals) (contains line_feed t) refl e
  where
    by_test : (a b : Bool) → contains line_feed t ≡ b → (a && b) ≡ true → index_of line_feed t < length t
    by_test a true q e = ltb-true (index_of line_feed t) (length t) q
    by_test a false q e = absurd (false≢true (sym (and-false a) ∙ e))

-- what stands before the first LF has none, and LF and the rest follow it
pub lacks_before : (t : List ℕ) → Lacks line_feed (before line_feed t)
unfolding before index_of index_after
lacks_before [] = refl
lacks_before (x ∷ t) = by_first (eqb x line_feed) refl (lacks_before t)
  where
    by_first :
        (b : Bool) →
        eqb x line_feed ≡ b →
        Lacks line_feed (take (index_of line_feed t) t) →
        Lacks line_feed (take (index_after b (index_of line_feed t)) (x ∷ t))
    by_first true q l = refl
    by_first false q l = rw q (ap suc l)

pub apart : (t : List ℕ) → index_of line_feed t < length t → t ≡ before line_feed t ++ line_feed ∷ after line_feed t
unfolding before after index_of index_after
apart [] h = absurd (omega (arith, h))
apart (x ∷ t) h = by_first (eqb x line_feed) refl h (apart t)
  where
    by_first :
        (b : Bool) →
        eqb x line_feed ≡ b →
        let i = index_after b (index_of line_feed t) in
        i < suc (length t) →
        (index_of line_feed t < length t →
        t ≡ take (index_of line_feed t) t ++ line_feed ∷ drop (index_of line_feed t + 1) t) →
        x ∷ t ≡ take i (x ∷ t) ++ line_feed ∷ drop (i + 1) (x ∷ t)
    by_first true q h r = ap (λ (y : ℕ). y ∷ t) (eqb-true x line_feed q)
    by_first false q h r =
        let i = index_of line_feed t in
        let one_more : suc (i + 1) ≡ suc i + 1 = omega arith in
        ap (λ (rest : List ℕ). x ∷ rest) (r (omega (arith, h)))
        ∙ ap (λ (n : ℕ). x ∷ (take i t ++ line_feed ∷ drop n (x ∷ t))) one_more

-- from a place on, what stands before the rest
middle : (n : ℕ) (u rest : List ℕ) → take (length u - n) (drop n (u ++ rest)) ≡ drop n u
middle zero u rest = rw (sub-zero (length u)) (take-append_seam u rest)
middle (suc n) [] rest = let none : 0 - suc n ≡ 0 = omega arith in ap (λ (k : ℕ). take k (drop (suc n) rest)) none
middle (suc n) (x ∷ u) rest =
    let one_less : length (x ∷ u) - suc n ≡ length u - n = omega arith in
    ap (λ (k : ℕ). take k (drop n (u ++ rest))) one_less ∙ middle n u rest

-- the key and the = after it
key_same :
    (key u rest other : List ℕ) →
    Lacks line_feed key →
    let t = u ++ line_feed ∷ rest in
    let t' = u ++ line_feed ∷ other in
    (begins key t && eqb (get_or t (length key) 0) equals) ≡ (begins key t' && eqb (get_or t' (length key) 0) equals)
key_same [] [] rest other l = refl
key_same [] (x ∷ u) rest other l = refl
key_same (b ∷ key) [] rest other l =
    let other_byte = eqb-false b line_feed (lacks_cons line_feed b key l).0 in
    rw (ne_eqb line_feed b (λ e. other_byte (sym e)))
key_same (b ∷ key) (x ∷ u) rest other l = by_first (eqb x b) (key_same key u rest other (lacks_cons line_feed b key l).1)
  where
    by_first :
        (same : Bool) →
        let t = u ++ line_feed ∷ rest in
        let t' = u ++ line_feed ∷ other in
        (begins key t && eqb (get_or t (length key) 0) equals) ≡ (begins key t' && eqb (get_or t' (length key) 0) equals) →
        (same && begins key t && eqb (get_or t (length key) 0) equals)
        ≡ (same && begins key t' && eqb (get_or t' (length key) 0) equals)
    by_first true e = e
    by_first false e = refl

-- a line is u and its LF: where it ends, whether it has a key, and its value depend on u alone
module _ (u : List ℕ) (l : Lacks line_feed u) where
  ends : (rest : List ℕ) → index_of line_feed (u ++ line_feed ∷ rest) ≡ length u
  unfolding index_of index_after
  ends rest = omega (arith, index_append line_feed u (line_feed ∷ rest) l)

  pub after_line : (rest : List ℕ) → after line_feed (u ++ line_feed ∷ rest) ≡ rest
  unfolding after
  after_line rest = rw (ends rest) (drop-append-add u (line_feed ∷ rest) 1)

  pub ended : (rest : List ℕ) → contains line_feed (u ++ line_feed ∷ rest) ≡ true
  ended rest =
      let t = u ++ line_feed ∷ rest in
      lt-ltb (index_of line_feed t) (length t) (omega (arith, ends rest, length-append u (line_feed ∷ rest)))

  pub value_line : (key rest : List ℕ) → value_of key (u ++ line_feed ∷ rest) ≡ drop (length key + 1) u
  unfolding value_of
  value_line key rest = rw (ends rest) (middle (length key + 1) u (line_feed ∷ rest))

  module _ (key rest other : List ℕ) (k : Lacks line_feed key) where
    pub is_same : is_line key (u ++ line_feed ∷ rest) ≡ is_line key (u ++ line_feed ∷ other)
    is_same = rw (key_same key u rest other k, ended rest, ended other)

    pub value_same : value_of key (u ++ line_feed ∷ rest) ≡ value_of key (u ++ line_feed ∷ other)
    value_same = value_line key rest ∙ sym (value_line key other)

    pub line_same :
        (reader : List ℕ → Option ℕ) →
        line_of key reader (u ++ line_feed ∷ rest) ≡ line_of key reader (u ++ line_feed ∷ other)
    unfolding line_of
    line_same reader = rw (is_same, value_same)

-- whether a text begins with part= and this word
pub part_same :
    (word u rest other : List ℕ) → Lacks line_feed u → is_part word (u ++ line_feed ∷ rest) ≡ is_part word (u ++ line_feed ∷ other)
unfolding index_of index_after
part_same word u rest other l =
    let key = ascii "part" in
    rw (is_same u l key rest other refl, value_same u l key rest other refl)
