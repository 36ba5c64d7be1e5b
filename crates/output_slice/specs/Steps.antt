-- The results of the steps of the counted search, and their numbers of reads.
use Rattle.std.specs.Prelude.{codes, ◌≡◌, ◌≢◌, ℕ, ◌+◌, ◌-◌, ◌*◌, ◌<◌, ◌≤◌, ◌⊎◌, List, length, slice_index, All, Option, MatchOption, IfSome}
use Rattle.std.specs.Char.{encode_utf8, IsScalar}
use Rattle.std.specs.Str.{encode_utf8_all}
use Rattle.bstr.specs.Text.{part}
use Rattle.bstr.specs.Find.{OccursAt, IsFirst}
use Rattle.output_slice.specs.Head.{IsDigit, IsLineStart, IsName, IsTail, IsHead}
use Rattle.output_slice.specs.Slices.{IsBreak}

-- The byte x is not in b from i up to j.
abbrev pub NoByteBetween : ℕ → List ℕ → ℕ → ℕ → Type 0
NoByteBetween x b i j = (k : ℕ) → i ≤ k → k < j → slice_index b k ≢ x

-- There is no line feed in b from i up to j.
abbrev pub NoFeedBetween : List ℕ → ℕ → ℕ → Type 0
NoFeedBetween = NoByteBetween 10

-- There is no quote in b from i up to j.
abbrev pub NoQuoteBetween : List ℕ → ℕ → ℕ → Type 0
NoQuoteBetween = NoByteBetween 39

-- There is no quote and no line feed in b from i up to j.
abbrev pub ArePlain : List ℕ → ℕ → ℕ → Type 0
ArePlain b i j = (k : ℕ) → i ≤ k → k < j → (slice_index b k ≢ 39) × (slice_index b k ≢ 10)

-- Each byte of b from i up to j is a line feed or a carriage return.
abbrev pub AreBreaks : List ℕ → ℕ → ℕ → Type 0
AreBreaks b i j = (k : ℕ) → i ≤ k → k < j → IsBreak (slice_index b k)

-- The byte is ASCII white space.
abbrev pub IsSpace : ℕ → Type 0
IsSpace x = ((9 ≤ x) × (x ≤ 13)) ⊎ (x ≡ 32)

-- Each byte of b from i up to j is ASCII white space.
abbrev pub AreSpaces : List ℕ → ℕ → ℕ → Type 0
AreSpaces b i j = (k : ℕ) → i ≤ k → k < j → IsSpace (slice_index b k)

-- `end` is after a line feed that is not before `at`, or is the end of the bytes.
abbrev pub IsLineEnd : List ℕ → ℕ → ℕ → Type 0
IsLineEnd b at end = end < length b → (at < end) × (slice_index b (end - 1) ≡ 10)

-- `found` is the first offset of a quote at or after `from`.
abbrev pub IsNextQuote : List ℕ → ℕ → Option ℕ → Type 0
IsNextQuote b from found = IsFirst (λ k. slice_index b k ≡ 39) from (length b) found

-- One read for each byte from `from` on, up to and including the quote that is found, or up to the end.
abbrev pub QuoteReads : List ℕ → ℕ → ℕ → ℕ → Option ℕ → Type 0
QuoteReads b from old new found = MatchOption found (new + from ≡ old + length b) (λ q. new + from ≡ old + (q + 1))

-- The count did not fall. If an end was found, each byte from `from` up to it was read.
abbrev pub ReadsAll : ℕ → ℕ → ℕ → Option ℕ → Type 0
ReadsAll from old new found = (old ≤ new) × IfSome found (λ e. old + e ≤ new + from)

-- `thread ` is right before the quote, at a line start that is not before `place`.
abbrev pub IsOpened : List ℕ → ℕ → ℕ → Type 0
IsOpened b place quote = (place + 7 ≤ quote) × IsLineStart b (quote - 7) × OccursAt b (codes "thread ") (quote - 7)

-- The first k bytes of the text are in b at `at`.
pub record AgreesFor (b text : List ℕ) (at k : ℕ) : Type 0 where
  pub short : k ≤ length text
  pub reads : (j : ℕ) → j < k → slice_index b (at + j) ≡ slice_index text j
  pub fits : at + k ≤ length b

-- `found` is the end of the text in b if the text is at `at`, and otherwise `None`.
abbrev pub IsTextEnd : List ℕ → List ℕ → ℕ → Option ℕ → Type 0
IsTextEnd b text at found = MatchOption found (¬ OccursAt b text at) (λ e. OccursAt b text at × (e ≡ at + length text))

-- At most one read for each byte of the text, up to and including the first that differs.
abbrev pub TextReads : List ℕ → List ℕ → ℕ → ℕ → ℕ → Option ℕ → Type 0
TextReads b text at old new found = MatchOption found
    ((k : ℕ) × (k < length text) × AgreesFor b text at k × (new ≤ old + k + 1))
    (λ e. new ≤ old + length text)

-- The character c is in b at `at` and ends at or before `stop`.
pub record IsCharAt (b : List ℕ) (at stop c : ℕ) : Type 0 where
  pub scalar : IsScalar c
  pub stands : OccursAt b (encode_utf8 c) at
  pub ends : at + length (encode_utf8 c) ≤ stop

-- `found` is the character in b at `at` that ends at or before `stop`, with its size in bytes.
abbrev pub IsSizedChar : List ℕ → ℕ → ℕ → Option (ℕ × ℕ) → Type 0
IsSizedChar b at stop found = MatchOption found ((c : ℕ) → ¬ IsCharAt b at stop c)
    (λ r. IsCharAt b at stop r.0 × (r.1 ≡ length (encode_utf8 r.0)) × (0 < r.1))

-- One read for each byte of the character that is found. If none is found, at most one read for each byte up to `stop`.
abbrev pub CharReads : ℕ → ℕ → ℕ → ℕ → Option (ℕ × ℕ) → Type 0
CharReads at stop old new found = MatchOption found ((old ≤ new) × (new + at ≤ old + stop)) (λ r. new ≡ old + r.1)

-- If the byte at `to` is ASCII, it and the bytes before it from `from` on are read at most once each.
abbrev pub ReadsAsciiEnd : List ℕ → ℕ → ℕ → ℕ → ℕ → Type 0
ReadsAsciiEnd b from to old new = slice_index b to < 128 → new + from ≤ old + to + 1

-- There is no digit in b at `at`.
abbrev pub NoDigitAt : List ℕ → ℕ → Type 0
NoDigitAt b at = (c : ℕ) → IsCharAt b at (length b) c → IsDigit c → ⊥

-- The bytes from `from` to `to` are zero or more digits.
pub record AreDigits (b : List ℕ) (from to : ℕ) : Type 0 where
  pub chars : List ℕ
  pub digits : All (λ c. IsScalar c × IsDigit c) chars
  pub stands : OccursAt b (encode_utf8_all chars) from
  pub ends : to ≡ from + length (encode_utf8_all chars)

-- The bytes from `from` to `to` are zero or more digits, and there is no digit at `to`.
pub record IsDigitRun (b : List ℕ) (from to : ℕ) : Type 0 where
  pub digits : AreDigits b from to
  pub stops : NoDigitAt b to

-- `found` is the end of the tail that begins at `at`, or `None` if no tail begins there.
abbrev pub IsTailEnd : List ℕ → ℕ → Option ℕ → Type 0
IsTailEnd b at found = MatchOption found ((e : ℕ) → e ≤ length b → ¬ IsTail (part at e b)) (λ e. (e ≤ length b) × IsTail (part at e b))

-- The reads of a tail went up to an offset on the line of `at`, and not past the end that was found. There is no quote
-- before that offset.
pub record ReadsUpTo (b : List ℕ) (at old new : ℕ) (found : Option ℕ) : Type 0 where
  pub last : ℕ
  pub low : at ≤ last
  pub high : last ≤ length b
  pub plain : ArePlain b at last
  pub far : new + at ≤ old + last + 5
  pub near : new + 2 * at ≤ old + 2 * last + 2
  pub before : IfSome found (λ e. (last ≤ e) × (at + 13 ≤ last) × (new + at ≤ old + last + 1))

-- Few reads: those of a tail from `at` up to `last` that may be incomplete, or those of a whole tail and of a name of this
-- size.
abbrev pub FewReads : ℕ → ℕ → ℕ → ℕ → ℕ → Type 0
FewReads name at last old new = ((new + at ≤ old + last + 5) × (new + 2 * at ≤ old + 2 * last + 2))
    ⊎ ((at + 13 ≤ last) × (new + at ≤ old + last + name + 1))

-- `found` is the end of the head whose name is between the quotes at `quote` and `close`.
abbrev pub IsNamedHeadEnd : List ℕ → ℕ → ℕ → Option ℕ → Type 0
IsNamedHeadEnd b quote close found = MatchOption found
    ((e : ℕ) → e ≤ length b → IsName (part (quote + 1) close b) → ¬ IsTail (part (close + 1) e b))
    (λ e. (e ≤ length b) × IsName (part (quote + 1) close b) × IsTail (part (close + 1) e b))

-- `found` is the end of the head whose name begins after `quote`, if the head starts at or after `place`.
abbrev pub IsOpenedHeadEnd : List ℕ → ℕ → ℕ → Option ℕ → Type 0
IsOpenedHeadEnd b place quote found = MatchOption found
    ((s e : ℕ) → place ≤ s → s + 7 ≡ quote → ¬ IsHead b s e)
    (λ e. (place + 7 ≤ quote) × IsHead b (quote - 7) e)

-- The reads went up to an offset on the line of `close`, and not past the end that was found. There is no quote between
-- `close` and that offset.
pub record HeadReadsTo (b : List ℕ) (quote old new close : ℕ) (found : Option ℕ) : Type 0 where
  pub last : ℕ
  pub low : close < last
  pub high : last ≤ length b
  pub plain : ArePlain b (close + 1) last
  pub few : FewReads (close - (quote + 1)) (close + 1) last old new
  pub before : IfSome found (λ e. (last ≤ e) × (close + 14 ≤ last))

-- The same with eight more reads before the quote if there is a next quote, and no read if there is none.
abbrev pub HeadReads : List ℕ → ℕ → ℕ → ℕ → Option ℕ → Option ℕ → Type 0
HeadReads b quote old new close found = MatchOption close (new ≡ old) (λ c. HeadReadsTo b quote (old + 8) new c found)
