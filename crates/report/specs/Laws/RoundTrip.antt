-- A line that shows a number is read back as that number, whatever follows it. Assumes nothing.
use Rattle.std.specs.Prelude.{ℕ, ◌+◌, ◌-◌, Bool, true, false, cond, ◌&&◌, List, [], ◌∷◌, ◌++◌, ◌≡◌, refl, eqb, length, get_or}
use Rattle.std.proofs.Common.{sym, ◌∙◌, arith, ne_eqb, length-append, append_assoc}
use Rattle.std.proofs.lemmas.Bool.{false≢true}
use Rattle.std.proofs.Math.Bool.{and-true}
use Rattle.std.proofs.Math.Seq.{drop-append_seam, take-append_seam}
use Rattle.text.specs.Index.{index_of, index_after}
use Rattle.text.specs.Ascii.{equals, line_feed}
use Rattle.text.specs.Line.{contains, begins, same, is_line, value_of}
use Rattle.report.specs.Decimal.{decimal, number_line}
use Rattle.report.specs.Printed.{whole_number, printed_from}
use Rattle.std.specs.Prelude.{Some}
use Rattle.text.specs.Laws.Joined.{Lacks, lacks_cons, index_append}
use Rattle.report.specs.Laws.Spelled.{decimal_reads, decimal-some, decimal_line}

module _ (key rest : List ℕ) (n : ℕ) (k : Lacks line_feed key) where
  abbrev start : List ℕ
  start = key ++ equals ∷ []

  abbrev tail : List ℕ
  tail = decimal n ++ (line_feed ∷ rest)

  -- the line as its start, its digits and the rest
  apart : number_line key n ++ rest ≡ start ++ tail
  unfolding number_line
  apart = simp append_assoc

  start-length : length start ≡ length key + 1
  start-length = length-append key (equals ∷ [])

  start_lacks : Lacks line_feed start
  unfolding index_of index_after
  start_lacks = index_append line_feed key (equals ∷ []) k ∙ sym start-length

  line_end : index_of line_feed (start ++ tail) ≡ length key + 1 + length (decimal n)
  unfolding index_of index_after
  line_end =
      omega (
        arith,
        start-length,
        index_append line_feed start tail start_lacks,
        index_append line_feed (decimal n) (line_feed ∷ rest) (decimal_line n),
      )

  line_ended : contains line_feed (start ++ tail) ≡ true
  line_ended = grind (arith, line_end, length-append)

  line_number : whole_number (value_of key (number_line key n ++ rest)) ≡ Some n
  unfolding value_of
  line_number =
      let size : index_of line_feed (start ++ tail) - length start ≡ length (decimal n) = omega (
        arith,
        line_end,
        start-length,
      ) in
      rw (
        apart,
        ← start-length,
        size,
        drop-append_seam start tail,
        take-append_seam (decimal n) (line_feed ∷ rest),
        ne_eqb (length (decimal n)) 0 (λ e. omega (arith, decimal-some n)),
      )
      (decimal_reads n)

  -- what stands before its LF
  abbrev body : List ℕ
  body = start ++ decimal n

  body_lacks : Lacks line_feed body
  body_lacks =
      omega (
        arith,
        index_append line_feed start (decimal n) start_lacks,
        start-length,
        decimal_line n,
        length-append start (decimal n),
      )

-- ---- whose line it is

-- up to the =, a line has this key if its own is the same; neither key has an = in it
key_told : (key own r : List ℕ) → Lacks equals key → Lacks equals own
    → (begins key (own ++ equals ∷ r) && eqb (get_or (own ++ equals ∷ r) (length key) 0) equals) ≡ same key own
key_told [] [] r k o = refl
key_told [] (b ∷ own) r k o = grind (arith, lacks_cons equals b own o)
key_told (a ∷ key) [] r k o = grind (arith, lacks_cons equals a key k)
key_told (a ∷ key) (b ∷ own) r k o = grind (arith, key_told key own r, lacks_cons equals a key k, lacks_cons equals b own o)

-- a line that begins here and has the key is the one that is read
here : (key t : List ℕ) → is_line key t ≡ true → printed_from true key t ≡ whole_number (value_of key t)
unfolding printed_from
here [] [] e = absurd (false≢true e)
here (a ∷ key) [] e = absurd (false≢true e)
here key (b ∷ t) e = rw e

-- the rest of a line is passed over, with its LF, and so is a line that is not of the key
passed_rest : (key rest s : List ℕ) → Lacks line_feed s → printed_from false key (s ++ line_feed ∷ rest) ≡ printed_from true key rest
unfolding printed_from
passed_rest key rest [] k = refl
passed_rest key rest (b ∷ s) k = grind (arith, lacks_cons line_feed b s k, passed_rest key rest s)

passed : (key rest s : List ℕ) → Lacks line_feed s → is_line key (s ++ line_feed ∷ rest) ≡ false
    → printed_from true key (s ++ line_feed ∷ rest) ≡ printed_from true key rest
unfolding printed_from
passed key rest [] k e = rw e
passed key rest (b ∷ s) k e = grind (arith, e, lacks_cons line_feed b s k, passed_rest key rest s)

-- keys of one length have one value
same_value : (key own t : List ℕ) → same key own ≡ true → value_of key t ≡ value_of own t
unfolding value_of
same_value key own t e = grind (arith, e)

module _ (key own rest : List ℕ) (n : ℕ) (k : Lacks equals key) (o : Lacks equals own) (l : Lacks line_feed own) where
  line_is : is_line key (number_line own n ++ rest) ≡ same key own
  line_is =
      rw (apart own rest n l, line_ended own rest n l, and-true, append_assoc own (equals ∷ []) (tail own rest n l))
      (key_told key own (tail own rest n l) k o)

  -- the line of this key shows n; any other is passed over
  pub printed_line : printed_from true key (number_line own n ++ rest)
      ≡ cond (same key own) (Some n) (printed_from true key rest)
  printed_line = go (same key own) refl
    where
      ended : number_line own n ++ rest ≡ body own rest n l ++ line_feed ∷ rest
      ended = apart own rest n l ∙ sym (append_assoc (start own rest n l) (decimal n) (line_feed ∷ rest))

      go : (t : Bool) → same key own ≡ t
          → printed_from true key (number_line own n ++ rest) ≡ cond t (Some n) (printed_from true key rest)
      go true e =
          here key (number_line own n ++ rest) (line_is ∙ e)
          ∙ rw (same_value key own (number_line own n ++ rest) e) (line_number own rest n l)
      go false e =
          rw ended (passed key rest (body own rest n l) (body_lacks own rest n l) (rw (← ended) (line_is ∙ e)))
