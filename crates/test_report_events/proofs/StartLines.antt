-- What a line says that starts a test, as the harness or nextest write it.
use Rattle.std.proofs.Common.{◌≡◌, ◌≢◌, ◌∙◌, ◌++◌, ◌<◌, ℕ, Bool, Bor, IfSome, MatchOption, true, List, [], ◌∷◌, Option, Some, None, ap, arith, codes, inl, inr, ltb-true, option_and_then, refl, subst, sym}
use Rattle.std.specs.List.{AllPass, list_all}
use Rattle.std.specs.Prelude.{nat_lt}
use Rattle.std.specs.Str.{IsUtf8}
use Rattle.std.proofs.lemmas.Bool.{false≢true}
use Rattle.std.proofs.lemmas.Bool.Decides.{nat_tests}
use Rattle.std.proofs.lemmas.List.Elements.{All-head, All-tail, All-weaker}
use Rattle.std.proofs.lemmas.List.Sums.{AllPass-from_list_all}
use Rattle.std.proofs.lemmas.Str.{IsUtf8-append, IsUtf8-from_ascii}
use Rattle.std.proofs.lemmas.Str.Ascii.{IsAscii-from_all}
use Rattle.json.proofs.OnLiterals.{json_on_literals}
use Rattle.json.proofs.Printed.Strings.{content-escape, escape_byte_plain, lex-escape}
use Rattle.json.specs.Json.{if_last, value}
use Rattle.json.specs.Lex.{Lexeme, between, colon, comma, fresh, in_string, lex, punctuate, string_token, token}
use Rattle.json.specs.Print.{escape}
use Rattle.json.specs.Text.{content, plain}
use Rattle.json.specs.Token.{Token}
use Rattle.serde_json.proofs.OnLiterals.{serde_json_on_literals}
use Rattle.serde_json.specs.Data.{Data, no_members, object, put, string}
use Rattle.serde_json.specs.Read.{max_depth, of_json, read}
use Rattle.test_report_events.specs.Event.{TestStarts}
use Rattle.test_report_events.specs.Line.{HoldsEvent}
use Rattle.test_report_events.specs.Started.{IsStartOf, harness_line, is_plain, nextest_line}

-- a line with this start, and this end after it
pub between-ends : (line start rest end : List ℕ) (r : Option (Bor (List ℕ))) → line ≡ start ++ rest
    → MatchOption r ((front : List ℕ) → rest ≢ front ++ end) (λ x. rest ≡ x.now ++ end) → IfSome r (λ bytes. line ≡ start ++ (bytes.now ++ end))
between-ends line start rest end None is ends = tt
between-ends line start rest end (Some x) is ends = is ∙ ap (λ bytes. start ++ bytes) ends

-- the object of the line
abbrev started : List ℕ → Data
started name =
    object (put (codes "name") (string name) (put (codes "event") (string (codes "started")) (put (codes "type") (string (codes "test")) no_members)))

-- the lexemes of the line, up to those after the opening quote of the name
abbrev lexemes : Option (List ℕ) → List Lexeme → List Lexeme
lexemes name rest =
    token Token.begin_object
    ∷ token (Token.string (codes "type")) ∷ colon ∷ token (Token.string (codes "test")) ∷ comma
    ∷ token (Token.string (codes "event")) ∷ colon ∷ token (Token.string (codes "started")) ∷ comma
    ∷ token (Token.string (codes "name")) ∷ colon ∷ token (string_token name) ∷ rest

-- a name without escapes is its own escape
escape-plain : (name : List ℕ) → AllPass is_plain name → escape name ≡ name
escape-plain [] h = refl
escape-plain (c ∷ name) h =
    let here = All-head (λ b. is_plain b ≡ true) c name h in
    let one = escape_byte_plain c (λ e. grind (arith, nat_tests)) (λ e. grind (arith, nat_tests)) (grind (arith, nat_tests)) in
    ap (λ bytes. bytes ++ escape name) one ∙ ap (λ rest. c ∷ rest) (escape-plain name (All-tail (λ b. is_plain b ≡ true) c name h))

-- a name without escapes is read up to its closing quote
lexemes-plain : (name rest : List ℕ) → AllPass is_plain name
    → lexemes (content plain (name ++ (34 ∷ rest))) (lex in_string (name ++ (34 ∷ rest))) ≡ lexemes (Some name) (lex between rest)
lexemes-plain name rest h =
    let same = ap (λ bytes. bytes ++ (34 ∷ rest)) (sym (escape-plain name h)) in
    ap (λ x. lexemes x (lex in_string (name ++ (34 ∷ rest)))) (ap (content plain) same ∙ content-escape name rest)
    ∙ ap (lexemes (Some name)) (ap (lex in_string) same ∙ lex-escape name rest)

lexed-harness : (name : List ℕ) → lex between (harness_line name) ≡ lexemes (content plain (name ++ codes "\" }")) (lex in_string (name ++ codes "\" }"))
unfolding json_on_literals
lexed-harness name = refl

lexed-nextest : (name : List ℕ) → lex between (nextest_line name) ≡ lexemes (content plain (name ++ codes "\"}")) (lex in_string (name ++ codes "\"}"))
unfolding json_on_literals
lexed-nextest name = refl

-- a text with these lexemes is the object
read-lexemes : (text name : List ℕ) → lex between text ≡ lexemes (Some name) (token Token.end_object ∷ []) → read text ≡ Some (started name)
unfolding serde_json_on_literals
read-lexemes text name h =
    ap (λ ls. option_and_then of_json (option_and_then (λ p. if_last p.0 p.1) (value max_depth (punctuate fresh ls)))) h

harness-read : (name : List ℕ) → AllPass is_plain name → read (harness_line name) ≡ Some (started name)
unfolding lex
harness-read name h = read-lexemes (harness_line name) name (lexed-harness name ∙ lexemes-plain name (codes " }") h)

nextest-read : (name : List ℕ) → AllPass is_plain name → read (nextest_line name) ≡ Some (started name)
unfolding lex
nextest-read name h = read-lexemes (nextest_line name) name (lexed-nextest name ∙ lexemes-plain name (codes "}") h)

-- the object says that the test starts
object-says : (line name : List ℕ) → IsUtf8 line → read line ≡ Some (started name) → HoldsEvent line 0 (TestStarts name)
unfolding serde_json_on_literals
object-says line name utf8 is = (started name, inl (refl, (utf8, is)), (None, (λ micros has. false≢true has.0), (refl, refl, refl)))

-- a text of ASCII bytes, on both sides of a name
abbrev is_ascii : ℕ → Bool
is_ascii b = nat_lt b 128

ascii-utf8 : (bytes : List ℕ) → list_all is_ascii bytes ≡ true → IsUtf8 bytes
ascii-utf8 bytes h =
    IsUtf8-from_ascii bytes
    (IsAscii-from_all bytes (All-weaker (λ b. is_ascii b ≡ true) (λ b. b < 128) (λ b e. ltb-true b 128 e) bytes (AllPass-from_list_all is_ascii bytes h)))

between-utf8 : (start name end : List ℕ) → list_all is_ascii start ≡ true → IsUtf8 name → list_all is_ascii end ≡ true → IsUtf8 (start ++ (name ++ end))
between-utf8 start name end a b c = IsUtf8-append start (name ++ end) (ascii-utf8 start a) (IsUtf8-append name end b (ascii-utf8 end c))

harness-utf8 : (name : List ℕ) → IsUtf8 name → IsUtf8 (harness_line name)
harness-utf8 name utf8 = between-utf8 (codes "{ \"type\": \"test\", \"event\": \"started\", \"name\": \"") name (codes "\" }") refl utf8 refl

nextest-utf8 : (name : List ℕ) → IsUtf8 name → IsUtf8 (nextest_line name)
nextest-utf8 name utf8 = between-utf8 (codes "{\"type\":\"test\",\"event\":\"started\",\"name\":\"") name (codes "\"}") refl utf8 refl

pub start-says : (line name : List ℕ) → IsStartOf line name → AllPass is_plain name → IsUtf8 name → HoldsEvent line 0 (TestStarts name)
start-says line name (inl is) h utf8 =
    subst (λ text. HoldsEvent text 0 (TestStarts name)) (sym is) (object-says (harness_line name) name (harness-utf8 name utf8) (harness-read name h))
start-says line name (inr is) h utf8 =
    subst (λ text. HoldsEvent text 0 (TestStarts name)) (sym is) (object-says (nextest_line name) name (nextest-utf8 name utf8) (nextest-read name h))
