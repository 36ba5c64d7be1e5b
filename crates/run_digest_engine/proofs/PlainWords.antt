-- Words of plain bytes, their join and their division.
use Rattle.std.proofs.Common.{◌≡◌, ℕ, ◌<◌, List, [], ◌∷◌, Bool, true, false, not, refl, ap, ◌∙◌, arith, ltb-true}
use Rattle.std.specs.Prelude.{◌==◌, ◌&&◌, All, nat_lt}
use Rattle.std.specs.List.{join_with_byte, list_all, slice_split}
use Rattle.std.specs.Str.{IsUtf8}
use Rattle.std.proofs.lemmas.Bool.{and_parts}
use Rattle.std.proofs.lemmas.Bool.Decides.{nat_tests}
use Rattle.std.proofs.lemmas.List.Elements.{All-cons, All-nil, All-weaker}
use Rattle.std.proofs.lemmas.List.Folds.{list_all-append}
use Rattle.std.proofs.lemmas.List.Splits.{slice_split_at, slice_split_none}
use Rattle.std.proofs.lemmas.List.Sums.{AllPass-from_list_all, list_all-from_AllPass}
use Rattle.std.proofs.lemmas.Str.{IsUtf8-from_ascii}
use Rattle.std.proofs.lemmas.Str.Ascii.{IsAscii-from_all}

-- an ASCII byte other than a space
abbrev pub is_plain : ℕ → Bool
is_plain b = nat_lt b 128 && not (b == 32)

-- and other than a comma
abbrev pub is_letter : ℕ → Bool
is_letter b = is_plain b && not (b == 44)

-- each byte of each word passes the test
abbrev pub Pass : (ℕ → Bool) → List (List ℕ) → Type 0
Pass p [] = Unit {0}
Pass p (word ∷ words) = (list_all p word ≡ true) × Pass p words

-- a byte that does not pass does not occur
lacks : (p : ℕ → Bool) (c : ℕ) (word : List ℕ) → p c ≡ false → list_all p word ≡ true → All (λ b. (b == c) ≡ false) word
lacks p c [] fails all = All-nil (λ b. (b == c) ≡ false)
lacks p c (b ∷ bs) fails all =
    let both = and_parts (p b) (list_all p bs) all in
    All-cons (λ x. (x == c) ≡ false) b bs (grind (arith, nat_tests, both.0)) (lacks p c bs fails both.1)

-- joined words are divided into the same words
pub cut_joined : (p : ℕ → Bool) (c : ℕ) (word : List ℕ) (words : List (List ℕ)) → p c ≡ false → Pass p (word ∷ words)
    → slice_split (λ b. b == c) (join_with_byte c (word ∷ words)) ≡ word ∷ words
cut_joined p c word [] fails pass = slice_split_none (λ b. b == c) word (lacks p c word fails pass.0)
cut_joined p c word (next ∷ words) fails pass =
    slice_split_at (λ b. b == c) word c (join_with_byte c (next ∷ words)) (lacks p c word fails pass.0) (grind (arith, nat_tests))
    ∙ ap (λ ws. word ∷ ws) (cut_joined p c next words fails pass.1)

-- joined words pass, if the byte between them does
pub join_passes : (p : ℕ → Bool) (c : ℕ) (words : List (List ℕ)) → p c ≡ true → Pass p words → list_all p (join_with_byte c words) ≡ true
join_passes p c [] between pass = refl
join_passes p c (word ∷ []) between pass = pass.0
join_passes p c (word ∷ next ∷ words) between pass =
    list_all-append p word (c ∷ join_with_byte c (next ∷ words)) ∙ rw (pass.0, between, join_passes p c (next ∷ words) between pass.1) refl

-- bytes that pass a test pass a weaker one
weaker : (p q : ℕ → Bool) → ((b : ℕ) → p b ≡ true → q b ≡ true) → (word : List ℕ) → list_all p word ≡ true → list_all q word ≡ true
weaker p q implied word all =
    list_all-from_AllPass q word (All-weaker (λ b. p b ≡ true) (λ b. q b ≡ true) implied word (AllPass-from_list_all p word all))

pub weaker_words : (p q : ℕ → Bool) → ((b : ℕ) → p b ≡ true → q b ≡ true) → (words : List (List ℕ)) → Pass p words → Pass q words
weaker_words p q implied [] pass = tt
weaker_words p q implied (word ∷ words) pass = (weaker p q implied word pass.0, weaker_words p q implied words pass.1)

-- plain words with spaces between them are text
pub joined_is_text : (words : List (List ℕ)) → Pass is_plain words → IsUtf8 (join_with_byte 32 words)
joined_is_text words pass =
    let line : List ℕ = join_with_byte 32 words in
    let is_ascii : ℕ → Bool = λ b. nat_lt b 128 in
    let ascii : Pass is_ascii words = weaker_words is_plain is_ascii (λ b e. (and_parts (is_ascii b) (not (b == 32)) e).0) words pass in
    let passes = AllPass-from_list_all is_ascii line (join_passes is_ascii 32 words refl ascii) in
    IsUtf8-from_ascii line (IsAscii-from_all line (All-weaker (λ b. is_ascii b ≡ true) (λ b. b < 128) (λ b e. ltb-true b 128 e) line passes))
