-- The time that a line gives.
use Rattle.std.specs.Prelude.{◌≡◌, ◌<◌, ◌≤◌, ◌*◌, ◌/◌, ◌^◌, ◌==◌, ◌||◌, ℕ, ◌+◌, List, codes, not, drop, length, Bool, Some}
use Rattle.std.specs.Char.{is_ascii_digit}
use Rattle.std.specs.List.{AllPass, after_first, before_first, position_or_len}
use Rattle.std.specs.Str.Parse.{digits_value}
use Rattle.bstr.specs.Find.{FindsLastNeedle}

-- a byte that may be in a number: a digit, a point, a sign or the letter of an exponent
abbrev pub is_of_number : ℕ → Bool
is_of_number b = is_ascii_digit b || (b == 46 || (b == 45 || (b == 43 || (b == 101 || b == 69))))

-- a text without the spaces at its front
abbrev pub without_spaces : List ℕ → List ℕ
without_spaces text = drop (position_or_len (λ b. not (b == 32)) text) text

-- the number at the front of a text, after spaces
abbrev pub number_text : List ℕ → List ℕ
number_text text = before_first (λ b. not (is_of_number b)) (without_spaces text)

-- each byte is a digit
abbrev pub AreDigits : List ℕ → Type 0
AreDigits text = AllPass is_ascii_digit text

-- the digits before the point of a number
abbrev pub whole_part : List ℕ → List ℕ
whole_part number = before_first (λ b. b == 46) number

-- the digits after the point of a number
abbrev pub fraction_part : List ℕ → List ℕ
fraction_part number = after_first (λ b. b == 46) number

-- a number of seconds: one to nine digits, and perhaps a point and further digits
pub record IsSeconds (number : List ℕ) : Type 0 where
  pub some : 0 < length (whole_part number)
  pub few : length (whole_part number) ≤ 9
  pub whole : AreDigits (whole_part number)
  pub fraction : AreDigits (fraction_part number)
  -- a point has digits after it
  pub after_point : length (whole_part number) < length number → 0 < length (fraction_part number)

-- the microseconds of a number of seconds, rounded down
abbrev pub microseconds : List ℕ → ℕ
microseconds number =
    digits_value 10 (whole_part number) * 1000000
    + digits_value 10 (fraction_part number) * 1000000 / 10 ^ length (fraction_part number)

-- the name of the member that holds the time, as the line has it
abbrev pub time_key : List ℕ
time_key = codes "\"exec_time\":"

-- the line gives this number of microseconds after the last `"exec_time":`
abbrev pub GivesTime : List ℕ → ℕ → Type 0
GivesTime line micros = (at : ℕ) × FindsLastNeedle line time_key (Some at)
    × IsSeconds (number_text (drop (at + 12) line)) × (micros ≡ microseconds (number_text (drop (at + 12) line)))
