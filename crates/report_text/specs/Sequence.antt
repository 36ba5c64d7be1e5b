-- Sequences that set styles, links, and the text without them.
use Rattle.std.specs.Prelude.{◌≡◌, ◌&&◌, ◌||◌, ◌==◌, ◌⊎◌, ◌+◌, ◌/◌, ◌%◌, ℕ, Bool, true, List, [], ◌∷◌, ◌++◌, codes, nat_lt, if◌then◌else◌}
use Rattle.std.specs.List.{All, flat_map, list_all}
use Rattle.report_text.specs.Line.{is_inline, is_letter, is_shown, is_within}
use Rattle.report_text.specs.declared.sequence.Style.{Style}
use Rattle.report_text.specs.declared.sequence.Style.TheVariants.{Reset, Bold, Dim, Red, Green, Yellow, BoldRed, BoldGreen, BoldYellow}

-- the parameters of the sequence that sets a style
abbrev pub style_digits : Style → List ℕ
style_digits Reset = codes "0"
style_digits Bold = codes "1"
style_digits Dim = codes "2"
style_digits Red = codes "31"
style_digits Green = codes "32"
style_digits Yellow = codes "33"
style_digits BoldRed = codes "1;31"
style_digits BoldGreen = codes "1;32"
style_digits BoldYellow = codes "1;33"

-- the sequence of characters that sets a style
abbrev pub style_text : Style → List ℕ
style_text style = 27 ∷ 91 ∷ (style_digits style ++ 109 ∷ [])

-- a character of the parameters of such a sequence: a digit or a semicolon
abbrev pub is_parameter : ℕ → Bool
is_parameter c = is_within 48 57 c || c == 59

-- the number of characters up to the end of a sequence whose parameters come, or 0
abbrev pub parameters_len : List ℕ → ℕ
parameters_len [] = 0
parameters_len (c ∷ cs) = if c == 109 then 1 else (if is_parameter c && nat_lt 0 (parameters_len cs) then parameters_len cs + 1 else 0)

-- the number of characters of the rest of a sequence that sets styles, after ESC, or 0 if there is none
abbrev pub style_len : List ℕ → ℕ
style_len [] = 0
style_len (c ∷ cs) = if c == 91 && nat_lt 0 (parameters_len cs) then parameters_len cs + 1 else 0

-- a byte that is not encoded in the target of a link
abbrev pub is_unreserved : ℕ → Bool
is_unreserved b = (is_letter b || is_within 48 57 b) || (is_within 45 47 b || (b == 95 || (b == 126 || b == 58)))

-- the code of a hexadecimal digit, in upper case
abbrev pub hex_digit : ℕ → ℕ
hex_digit d = if nat_lt d 10 then 48 + d else 55 + d

-- a byte of the target of a link, percent-encoded
abbrev pub target_byte : ℕ → List ℕ
target_byte b = if is_unreserved b then b ∷ [] else 37 ∷ hex_digit (b / 16) ∷ hex_digit (b % 16) ∷ []

-- the target of a link, percent-encoded
abbrev pub target_text : List ℕ → List ℕ
target_text [] = []
target_text (b ∷ bs) = target_byte b ++ target_text bs

-- where a link begins, or with no target, where it ends
abbrev pub link_mark : List ℕ → List ℕ
link_mark target = 27 ∷ (codes "]8;;" ++ (target ++ 27 ∷ 92 ∷ []))

-- a sequence of characters that sets styles
pub record IsStyle (piece : List ℕ) : Type 0 where
  pub parameters : List ℕ
  pub is : piece ≡ 27 ∷ 91 ∷ (parameters ++ 109 ∷ [])
  pub are : list_all is_parameter parameters ≡ true

-- a character of an encoded target
abbrev pub is_encoded_target : ℕ → Bool
is_encoded_target c = is_unreserved c || c == 37

-- a whole link: its target, its label, and its end
pub record IsLink (piece : List ℕ) : Type 0 where
  pub target : List ℕ
  pub label : List ℕ
  pub is : piece ≡ link_mark target ++ (label ++ link_mark [])
  pub encoded : list_all is_encoded_target target ≡ true
  pub in_line : list_all is_inline label ≡ true

-- a character that is shown, a sequence that sets styles, or a link
abbrev pub IsPiece : List ℕ → Type 0
IsPiece piece = ((c : ℕ) × (piece ≡ c ∷ []) × (is_shown c ≡ true)) ⊎ (IsStyle piece ⊎ IsLink piece)

-- no control characters but tab, line feed and those of whole sequences and links
pub record IsClean (text : List ℕ) : Type 0 where
  pub pieces : List (List ℕ)
  pub is : text ≡ flat_map (λ piece. piece) pieces
  pub each : All IsPiece pieces

-- which part of a sequence comes next: none, what follows ESC, a style, a link, or the last character of one
pub data Part : Type 0 where
  Outside : Part
  Begun : Part
  InStyle : Part
  InLink : Part
  Ending : Part

-- a text without its sequences
abbrev pub visible_from : Part → List ℕ → List ℕ
visible_from part [] = []
visible_from Outside (c ∷ cs) = if c == 27 then visible_from Begun cs else c ∷ visible_from Outside cs
visible_from Begun (c ∷ cs) = if c == 93 then visible_from InLink cs else visible_from InStyle cs
visible_from InStyle (c ∷ cs) = if c == 109 then visible_from Outside cs else visible_from InStyle cs
visible_from InLink (c ∷ cs) = if c == 27 then visible_from Ending cs else visible_from InLink cs
visible_from Ending (c ∷ cs) = visible_from Outside cs

-- a text without its sequences
abbrev pub visible : List ℕ → List ℕ
visible text = visible_from Outside text
