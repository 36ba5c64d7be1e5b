-- The grammar of a head, which is the front of a panic message at a line start. Offsets count bytes from 0.
use Rattle.std.specs.Prelude.{◌≡◌, ◌≢◌, ℕ, ◌+◌, ◌-◌, ◌<◌, ◌≤◌, ◌⊎◌, List, ◌++◌, length, slice_index, codes, IsTrue, All}
use Rattle.std.specs.Char.{IsScalar}
use Rattle.std.specs.Str.{IsUtf8, encode_utf8_all}
use Rattle.bstr.specs.Text.{part}
use Rattle.bstr.specs.Find.{OccursAt}
use Rattle.unicode.specs.Perl.{is_digit_char}

-- The offset s is 0, or the byte before it is a line feed.
abbrev pub IsLineStart : List ℕ → ℕ → Type 0
IsLineStart b s = 0 < s → slice_index b (s - 1) ≡ 10

-- The character is one of `0` to `9`, or a decimal digit of Unicode outside ASCII.
abbrev pub IsDigit : ℕ → Type 0
IsDigit c = ((48 ≤ c) × (c ≤ 57)) ⊎ ((128 ≤ c) × IsTrue (is_digit_char c))

-- The text is not empty, is UTF-8 and has no quote.
pub record IsName (text : List ℕ) : Type 0 where
  pub some : 0 < length text
  pub utf8 : IsUtf8 text
  pub no_quote : All (λ x. x ≢ 39) text

-- The text is one or more digits.
abbrev pub IsNumber : List ℕ → Type 0
IsNumber text = (cs : List ℕ) × (0 < length cs) × All (λ c. IsScalar c × IsDigit c) cs × (text ≡ encode_utf8_all cs)

-- The text is ` panicked at `, or a number in parentheses and then ` panicked at `.
abbrev pub IsTail : List ℕ → Type 0
IsTail text = (text ≡ codes " panicked at ")
    ⊎ ((number : List ℕ) × IsNumber number × (text ≡ codes " (" ++ (number ++ codes ") panicked at ")))

-- The bytes from s up to e are a head: `thread '` at a line start, then a name, a quote and a tail.
pub record IsHead (b : List ℕ) (s e : ℕ) : Type 0 where
  pub line_start : IsLineStart b s
  pub opening : OccursAt b (codes "thread '") s
  pub quote : ℕ
  pub name : IsName (part (s + 8) quote b)
  pub closing : slice_index b quote ≡ 39
  pub tail : IsTail (part (quote + 1) e b)
  pub ends : e ≤ length b
