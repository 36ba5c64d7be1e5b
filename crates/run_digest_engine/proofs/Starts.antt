-- The start of a run, read from its words: its numbers and its reason.
use Rattle.std.proofs.Common.{◌≡◌, ℕ, ◌+◌, ◌-◌, ◌*◌, ◌^◌, ◌<◌, ◌≤◌, Bool, List, [], ◌∷◌, length, map, true, refl, ap, sym, ◌∙◌, arith, add-mul, mul_assoc, ◌++◌, drop, subst, append_assoc, inl, inr}
use Rattle.std.specs.Prelude.{All, fold, nat_lt, nat_le, ◌&&◌, Some, codes, None, Option, option_and_then}
use Rattle.std.specs.Char.{is_ascii_digit}
use Rattle.std.specs.List.{list_all, join_with_byte}
use Rattle.std.proofs.Math.Nat.{pow-suc}
use Rattle.std.proofs.lemmas.Bool.{and_parts}
use Rattle.std.proofs.lemmas.Bool.Decides.{nat_tests}
use Rattle.std.proofs.lemmas.List.{length-map, append_cancel_left}
use Rattle.std.proofs.lemmas.List.Elements.{All-cons, All-head, All-nil, All-tail}
use Rattle.std.proofs.lemmas.Option.{cond_some}
use Rattle.std.specs.Str.{IsUtf8, bytes_eq}
use Rattle.std.proofs.lemmas.List.Splits.{join_with_byte-slice_split}
use Rattle.std.proofs.lemmas.Slice.Eq.{bytes_eq-Decides}
use Rattle.run_digest_engine.specs.Number.{SpellsNumber, digits_value}
use Rattle.run_digest_engine.specs.Reader.{number_of, value_of_digits, reason_of, reasons, start_fields, start_of_words, words_of}
use Rattle.run_digest_engine.proofs.Exact.{Reads, reads-by, reads-then, reads_all, reads_one, reads_only, chosen, reason_found, reason_passes, table_reads}
use Rattle.run_digest_engine.proofs.PlainWords.{is_plain, Pass, cut_joined, joined_is_text}
use Rattle.run_events_results.specs.declared.results.CancelReason.{CancelReason}
use Rattle.run_events_stats.specs.declared.stats.RunStart.{RunStart}
use Rattle.run_digest_engine.specs.Spelling.{SpellsStart, reason_word}

-- the byte of a digit
abbrev byte_of : ℕ → ℕ
byte_of d = 48 + d

-- reading on from a value
value_from : (digits : List ℕ) (a : ℕ) → fold (λ n b. 10 * n + (b - 48)) a (map byte_of digits) ≡ a * 10 ^ length digits + digits_value digits
value_from [] a = omega arith
value_from (d ∷ ds) a =
    let p : ℕ = 10 ^ length ds in
    let back : 48 + d - 48 ≡ d = omega arith in
    value_from ds (10 * a + (48 + d - 48)) ∙ ap (λ x. (10 * a + x) * p + digits_value ds) back
    ∙ omega (arith, add-mul (10 * a) d p, mul_assoc 10 a p, ap (λ x. a * x) (pow-suc 10 (length ds)), mul_assoc a p 10)

-- a test that each digit passes
digits_by : (p : ℕ → Bool) → ((d : ℕ) → d < 10 → p (48 + d) ≡ true) → (digits : List ℕ) → All (λ d. d < 10) digits → list_all p (map byte_of digits) ≡ true
digits_by p passes [] each = refl
digits_by p passes (d ∷ ds) each = rw (passes d (All-head (λ x. x < 10) d ds each), digits_by p passes ds (All-tail (λ x. x < 10) d ds each)) refl

-- digits are read as their value
number_read : (text : List ℕ) (n : ℕ) → SpellsNumber text n → number_of text ≡ Some n
unfolding number_of
number_read text n s =
    let count : length text ≡ length s.digits = ap length s.written ∙ length-map s.digits byte_of in
    let value : value_of_digits text ≡ n = ap value_of_digits s.written ∙ value_from s.digits 0 ∙ omega (arith, s.value) in
    let digits : list_all is_ascii_digit text ≡ true = ap (list_all is_ascii_digit) s.written
    ∙ digits_by is_ascii_digit (λ d small. grind arith) s.digits s.each in
    grind (arith, nat_tests, s.some, s.few, s.limit)

-- the digits of a text
digits_in : (text : List ℕ) → list_all is_ascii_digit text ≡ true → (digits : List ℕ) × All (λ d. d < 10) digits × (text ≡ map byte_of digits)
digits_in [] e = ([], All-nil (λ d. d < 10), refl)
digits_in (b ∷ bs) e =
    let both = and_parts (is_ascii_digit b) (list_all is_ascii_digit bs) e in
    let digit : (b ≡ 48 + (b - 48)) × (b - 48 < 10) = grind (arith, both.0) in
    let rest = digits_in bs both.1 in
    ((b - 48) ∷ rest.0, All-cons (λ d. d < 10) (b - 48) rest.0 digit.1 rest.1, cc (digit.0, rest.2))

-- the tests of a number
number_tests : (text : List ℕ)
    → (nat_lt 0 (length text) && (nat_le (length text) 7 && (list_all is_ascii_digit text && nat_le (value_of_digits text) 1000000))) ≡ true
    → (0 < length text) × (length text ≤ 7) × (list_all is_ascii_digit text ≡ true) × (value_of_digits text ≤ 1000000)
number_tests text e = grind (arith, nat_tests)

-- a number that is read is spelled
number_spelled : (text : List ℕ) (n : ℕ) → number_of text ≡ Some n → SpellsNumber text n
unfolding number_of
number_spelled text n e =
    let passes = nat_lt 0 (length text) && (nat_le (length text) 7 && (list_all is_ascii_digit text && nat_le (value_of_digits text) 1000000)) in
    let held = cond_some passes (value_of_digits text) n e in
    let tests = number_tests text held.0 in
    let made = digits_in text tests.2 in
    let count : length text ≡ length made.0 = ap length made.2 ∙ length-map made.0 byte_of in
    record {
      digits = made.0;
      each = made.1;
      written = made.2;
      some = omega (arith, count, tests.0);
      few = omega (arith, count, tests.1);
      value = sym held.1 ∙ ap value_of_digits made.2 ∙ value_from made.0 0 ∙ omega arith;
      limit = omega (arith, tests.3, held.1);
    }

-- the number that is spelled is read
pub number_reads : (text : List ℕ) → Reads (SpellsNumber text) (number_of text)
number_reads text = reads-by (SpellsNumber text) (number_of text) (number_read text) (number_spelled text)

-- and its text is plain
pub digits_pass : (text : List ℕ) (n : ℕ) → SpellsNumber text n → list_all is_plain text ≡ true
digits_pass text n s = ap (list_all is_plain) s.written ∙ digits_by is_plain (λ d small. grind arith) s.digits s.each

-- the words are the two numbers and the word for the reason of this start
abbrev pub Fields : List (List ℕ) → RunStart → Type 0
Fields (tests ∷ scripts ∷ why ∷ []) start =
    SpellsNumber tests start.initial_run_count × SpellsNumber scripts start.setup_scripts_initial_count
    × (why ≡ reason_word start.cancel_reason) × (start.skipped ≡ 0)
Fields _ start = ⊥

pub fields_read : (words : List (List ℕ)) → Reads (Fields words) (start_fields words)
unfolding start_fields reason_of
fields_read (tests ∷ scripts ∷ why ∷ []) =
    let P : RunStart → Type 0 = Fields (tests ∷ scripts ∷ why ∷ []) in
    let begun : ℕ → ℕ → ℕ → Option CancelReason → RunStart = λ t s n r.
    record { initial_run_count = t; setup_scripts_initial_count = s; skipped = n; cancel_reason = r } in
    let R : Option CancelReason → Type 0 = λ r. why ≡ reason_word r in
    let last : ℕ → ℕ → Option RunStart = λ t s. option_and_then (λ r. Some (begun t s 0 r)) (reason_of why) in
    reads-then (SpellsNumber tests) P (λ t. option_and_then (last t) (number_of scripts)) (number_of tests) (number_reads tests)
    (λ start f. (start.initial_run_count, f.0)) (λ t is_t only_t.
    reads-then (SpellsNumber scripts) P (last t) (number_of scripts) (number_reads scripts)
    (λ start f. (start.setup_scripts_initial_count, f.1)) (λ s is_s only_s.
    reads-then R P (λ r. Some (begun t s 0 r)) (reason_of why)
    (table_reads reason_word reasons why reason_found) (λ start f. (start.cancel_reason, f.2)) (λ r is_r only_r. (
      (is_t, is_s, is_r, refl),
      λ start f.
          ap (λ x. begun x start.setup_scripts_initial_count start.skipped start.cancel_reason) (only_t start.initial_run_count f.0)
          ∙ ap (λ x. begun t x start.skipped start.cancel_reason) (only_s start.setup_scripts_initial_count f.1)
          ∙ ap (λ x. begun t s x start.cancel_reason) f.3
          ∙ ap (λ x. begun t s 0 x) (only_r start.cancel_reason f.2),
    ))))
fields_read _ = λ start no. no

-- the words after the keyword of a start
abbrev pub field_words : (keyword line : List ℕ) (start : RunStart) → SpellsStart keyword line start → List (List ℕ)
field_words keyword line start s = s.tests ∷ s.scripts ∷ reason_word start.cancel_reason ∷ []

pub fields_pass : (keyword line : List ℕ) (start : RunStart) (s : SpellsStart keyword line start) → Pass is_plain (field_words keyword line start s)
fields_pass keyword line start s = (digits_pass s.tests _ s.tests_number, (digits_pass s.scripts _ s.scripts_number, (reason_passes start.cancel_reason, tt)))

-- a start is a keyword and those words, with spaces between them
pub start_joined : (keyword line : List ℕ) (start : RunStart) (s : SpellsStart keyword line start)
    → line ≡ keyword ++ 32 ∷ join_with_byte 32 (field_words keyword line start s)
start_joined keyword line start s = s.written ∙ simp append_assoc

-- a line whose words are a keyword and the fields of a start spells it
pub start_spelled : (keyword line : List ℕ) (words : List (List ℕ)) (start : RunStart)
    → words_of line ≡ keyword ∷ words → Fields words start → SpellsStart keyword line start
start_spelled keyword line (tests ∷ scripts ∷ why ∷ []) start cut f = record {
  tests = tests;
  scripts = scripts;
  written = sym (join_with_byte-slice_split 32 line) ∙ ap (join_with_byte 32) cut
      ∙ ap (λ w. keyword ++ 32 ∷ (tests ++ 32 ∷ (scripts ++ 32 ∷ w))) f.2
      ∙ simp append_assoc;
  tests_number = f.0;
  scripts_number = f.1;
  none_skipped = f.3;
}
start_spelled keyword line _ start cut f = absurd f

-- line 1, from its words
first_inverse : (words : List (List ℕ)) (start : RunStart) → start_of_words words ≡ Some start
    → (fields : List (List ℕ)) × (words ≡ codes "run" ∷ fields) × Fields fields start
unfolding start_of_words
first_inverse [] start e = absurd cc
first_inverse (first ∷ words) start e =
    elim (chosen (bytes_eq first (codes "run")) (start_fields words) None (Some start) e) [
      | inl held ↦ (words, ap (λ k. k ∷ words) ((bytes_eq-Decides first (codes "run")).0 held.0), reads_only (Fields words) _ start (fields_read words) held.1)
      | inr none ↦ absurd cc
    ]

-- the start that line 1 spells is read from it
pub first_reads : (line : List ℕ) → Reads (SpellsStart (codes "run") line) (start_of_words (words_of line))
unfolding start_of_words
first_reads line =
    reads-by (SpellsStart (codes "run") line) (start_of_words (words_of line))
    (λ start s.
    let fields : List (List ℕ) = field_words (codes "run") line start s in
    let cut = cut_joined is_plain 32 (codes "run") fields refl (refl, fields_pass (codes "run") line start s) in
    ap start_of_words (ap words_of (start_joined (codes "run") line start s) ∙ cut)
    ∙ reads_all (Fields fields) _ start (fields_read fields) (s.tests_number, s.scripts_number, refl, s.none_skipped))
    (λ start e. let words = first_inverse (words_of line) start e in start_spelled (codes "run") line words.0 start words.1 words.2)

-- a line spells at most one start for each keyword
pub one_start : (keyword line : List ℕ) (a b : RunStart) → SpellsStart keyword line a → SpellsStart keyword line b → a ≡ b
one_start keyword line a b first second =
    let words : List (List ℕ) = field_words keyword line a first in
    let others : List (List ℕ) = field_words keyword line b second in
    let whole = sym (start_joined keyword line a first) ∙ start_joined keyword line b second in
    let same : join_with_byte 32 words ≡ join_with_byte 32 others =
    ap (drop 1) (append_cancel_left keyword (32 ∷ join_with_byte 32 words) (32 ∷ join_with_byte 32 others) whole) in
    let cut : others ≡ words =
    sym (cut_joined is_plain 32 second.tests (second.scripts ∷ reason_word b.cancel_reason ∷ []) refl (fields_pass keyword line b second))
    ∙ ap words_of (sym same)
    ∙ cut_joined is_plain 32 first.tests (first.scripts ∷ reason_word a.cancel_reason ∷ []) refl (fields_pass keyword line a first) in
    reads_one (Fields words) (start_fields words) a b (fields_read words) (first.tests_number, first.scripts_number, refl, first.none_skipped)
    (subst (λ (ws : List (List ℕ)). Fields ws b) cut (second.tests_number, second.scripts_number, refl, second.none_skipped))

-- line 1 is text if it spells a start
pub first_is_text : (line : List ℕ) (start : RunStart) → SpellsStart (codes "run") line start → IsUtf8 line
first_is_text line start s =
    subst IsUtf8 (sym (start_joined (codes "run") line start s))
    (joined_is_text (codes "run" ∷ field_words (codes "run") line start s) (refl, fields_pass (codes "run") line start s))
