-- One more character, and texts that are joined.
use Rattle.std.proofs.Common.{◌≡◌, ◌∙◌, ◌<◌, ◌+◌, ◌/◌, ◌%◌, ◌&&◌, ◌||◌, ◌==◌, refl, sym, subst, ap, arith, ℕ, zero, suc, Bool, true, false, true≢false, not, List, [], ◌∷◌, ◌++◌, codes, nat_lt, if◌then◌else◌}
use Rattle.std.proofs.lemmas.Bool.{and_parts}
use Rattle.std.proofs.lemmas.Bool.Decides.{nat_tests}
use Rattle.std.proofs.lemmas.List.Elements.{All-cons, All-nil, Contains-append_right}
use Rattle.std.proofs.lemmas.List.Folds.{list_all-append}
use Rattle.std.proofs.lemmas.Str.{chars-IsAscii}
use Rattle.std.proofs.lemmas.Str.Ascii.{IsAscii-from_all}
use Rattle.std.specs.Char.{is_whitespace}
use Rattle.std.specs.Fmt.{digit_glyph, digits, digits_onto}
use Rattle.std.specs.List.{All, Contains, list_all}
use Rattle.std.specs.Str.{chars}
use Rattle.report_text.specs.Command.{commands, line_rest}
use Rattle.report_text.specs.Line.{escape, front_after, front_run, is_colon, is_command, is_hashes, is_letter, is_marker, is_shown, mark_after, mark_run}
use Rattle.report_text.specs.declared.line.Front.{Front}
use Rattle.report_text.specs.declared.line.Front.TheVariants.{White, Colon, Inside, Command}
use Rattle.report_text.specs.declared.line.Mark.{Mark}
use Rattle.report_text.specs.declared.line.Mark.TheVariants.{Nothing, Hash, Hashes, Marker}

-- tests
pub both-true : (a b : Bool) → a ≡ true → b ≡ true → (a && b) ≡ true
both-true a b e f = rw (e, f)

pub and-false : (a b : Bool) → b ≡ false → (a && b) ≡ false
and-false true b e = e
and-false false b e = refl

pub or-parts : (a b : Bool) → (a || b) ≡ false → (a ≡ false) × (b ≡ false)
or-parts true b e = absurd (true≢false e)
or-parts false b e = (refl, e)

pub not-true : (b : Bool) → not b ≡ true → b ≡ false
not-true true e = absurd (true≢false (sym e))
not-true false e = refl

pub if-false : {X : Type 0} (b : Bool) (x y : X) → not b ≡ true → (if b then x else y) ≡ y
if-false true x y h = absurd (true≢false (sym h))
if-false false x y h = refl

and-not : (a b : Bool) → not a ≡ true → not (a && b) ≡ true
and-not true b h = absurd (true≢false (sym h))
and-not false b h = refl

pub all-both : (p : ℕ → Bool) (xs ys : List ℕ) → list_all p xs ≡ true → list_all p ys ≡ true → list_all p (xs ++ ys) ≡ true
all-both p xs ys a b = list_all-append p xs ys ∙ rw (a, b)

pub all-weaker : (p q : ℕ → Bool) → ((c : ℕ) → p c ≡ true → q c ≡ true) → (cs : List ℕ) → list_all p cs ≡ true → list_all q cs ≡ true
all-weaker p q f [] h = refl
all-weaker p q f (c ∷ cs) h = let parts = and_parts (p c) (list_all p cs) h in both-true _ _ (f c parts.0) (all-weaker p q f cs parts.1)

pub all-below : (p : ℕ → Bool) → ((c : ℕ) → p c ≡ true → c < 128) → (cs : List ℕ) → list_all p cs ≡ true → All (λ b. b < 128) cs
all-below p f [] h = All-nil (λ b. b < 128)
all-below p f (c ∷ cs) h = let parts = and_parts (p c) (list_all p cs) h in All-cons (λ b. b < 128) c cs (f c parts.0) (all-below p f cs parts.1)

-- texts that are joined
pub front_run-append : (t : Bool) (s : Front) (xs ys : List ℕ) → front_run t s (xs ++ ys) ≡ front_run t (front_run t s xs) ys
front_run-append t s [] ys = refl
front_run-append t s (x ∷ xs) ys = front_run-append t (front_after t s x) xs ys

pub mark_run-append : (t : Bool) (s : Mark) (xs ys : List ℕ) → mark_run t s (xs ++ ys) ≡ mark_run t (mark_run t s xs) ys
mark_run-append t s [] ys = refl
mark_run-append t s (x ∷ xs) ys = mark_run-append t (mark_after t s x) xs ys

rest-same : (xs ys : List ℕ) → is_command (front_run false Command xs) ≡ false → line_rest (xs ++ ys) ≡ line_rest xs
rest-same [] ys e = absurd (true≢false e)
rest-same (x ∷ xs) ys e =
    elim (x == 10) as (λ b. is_command (front_run false (if b then White else Command) xs) ≡ false
    → (if b then [] else x ∷ line_rest (xs ++ ys)) ≡ (if b then [] else x ∷ line_rest xs)) [
      | true ↦ λ e. refl
      | false ↦ λ e. ap (λ l. x ∷ l) (rest-same xs ys e)
    ] e

begun : (s : Front) (c : ℕ) → (is_colon s && c == 58) ≡ true → front_after false s c ≡ Command
begun White c e = absurd (true≢false (sym e))
begun Colon c e = let is : c ≡ 58 = grind (arith, nat_tests, e) in subst (λ x. front_after false Colon x ≡ Command) (sym is) refl
begun Inside c e = absurd (true≢false (sym e))
begun Command c e = absurd (true≢false (sym e))

pub commands-append : (s : Front) (xs ys : List ℕ) → is_command (front_run false s xs) ≡ false
    → commands s (xs ++ ys) ≡ commands s xs ++ commands (front_run false s xs) ys
commands-append s [] ys e = refl
commands-append s (x ∷ xs) ys e =
    let next = front_after false s x in
    let more = commands-append next xs ys e in
    elim (is_colon s && x == 58) as (λ b. (is_colon s && x == 58) ≡ b
    → (if b then line_rest (xs ++ ys) ∷ commands next (xs ++ ys) else commands next (xs ++ ys))
    ≡ (if b then line_rest xs ∷ commands next xs else commands next xs) ++ commands (front_run false s (x ∷ xs)) ys) [
      | true ↦ λ h. ap (λ l. l ∷ commands next (xs ++ ys)) (rest-same xs ys (subst (λ (f : Front). is_command (front_run false f xs) ≡ false) (begun s x h) e))
          ∙ ap (λ l. line_rest xs ∷ l) more
      | false ↦ λ h. more
    ] refl

pub later-commands : (s : Front) (xs ys line : List ℕ) → Contains (commands (front_run false s xs) ys) line → Contains (commands s (xs ++ ys)) line
later-commands s [] ys line h = h
later-commands s (x ∷ xs) ys line h =
    let next = front_after false s x in
    let more = later-commands next xs ys line h in
    elim (is_colon s && x == 58) as (λ b. Contains (if b then line_rest (xs ++ ys) ∷ commands next (xs ++ ys)
    else commands next (xs ++ ys)) line) [
      | true ↦ Contains-append_right (line_rest (xs ++ ys) ∷ []) (commands next (xs ++ ys)) line more
      | false ↦ more
    ]

-- a step to what no text has
if-front : (b : Bool) (x y : Front) → (b ≡ true → is_command x ≡ false) → (b ≡ false → is_command y ≡ false) → is_command (if b then x else y) ≡ false
if-front true x y h k = h refl
if-front false x y h k = k refl

pub front-step : (t : Bool) (s : Front) (c : ℕ) → is_command s ≡ false → (is_colon s && c == 58) ≡ false → is_command (front_after t s c) ≡ false
front-step t White c e h =
    if-front (c == 10) _ _ (λ _. refl) (λ _. if-front (is_whitespace c) _ _ (λ _. refl) (λ _. if-front (c == 58 && not t) _ _ (λ _. refl) (λ _. refl)))
front-step t Colon c e h = if-front (c == 10) _ _ (λ _. refl) (λ _. if-front (c == 58) _ _ (λ k. absurd (true≢false (sym k ∙ h))) (λ _. refl))
front-step t Inside c e h = if-front (c == 10) _ _ (λ _. refl) (λ _. refl)
front-step t Command c e h = absurd (true≢false e)

if-mark : (b : Bool) (x y : Mark) → (b ≡ true → is_marker x ≡ false) → (b ≡ false → is_marker y ≡ false) → is_marker (if b then x else y) ≡ false
if-mark true x y h k = h refl
if-mark false x y h k = k refl

pub mark-step : (t : Bool) (s : Mark) (c : ℕ) → is_marker s ≡ false → (is_hashes s && c == 91) ≡ false → is_marker (mark_after t s c) ≡ false
mark-step t Nothing c e h = if-mark (c == 35 && not t) _ _ (λ _. refl) (λ _. refl)
mark-step t Hash c e h = if-mark (c == 35) _ _ (λ _. refl) (λ _. refl)
mark-step t Hashes c e h = if-mark (c == 91) _ _ (λ k. absurd (true≢false (sym k ∙ h))) (λ _. if-mark (c == 35 || is_letter c) _ _ (λ _. refl) (λ _. refl))
mark-step t Marker c e h = absurd (true≢false e)

-- characters after which a line goes on, and no marker begins
abbrev pub is_quiet : ℕ → Bool
is_quiet c = not (c == 10) && not (c == 35)

pub quiet-front : (t : Bool) (cs : List ℕ) → list_all is_quiet cs ≡ true → front_run t Inside cs ≡ Inside
quiet-front t [] h = refl
quiet-front t (c ∷ cs) h =
    let parts = and_parts (is_quiet c) (list_all is_quiet cs) h in
    let test = and_parts (not (c == 10)) (not (c == 35)) parts.0 in
    ap (λ s. front_run t s cs) (if-false (c == 10) White Inside test.0) ∙ quiet-front t cs parts.1

pub quiet-mark : (t : Bool) (cs : List ℕ) → list_all is_quiet cs ≡ true → mark_run t Nothing cs ≡ Nothing
quiet-mark t [] h = refl
quiet-mark t (c ∷ cs) h =
    let parts = and_parts (is_quiet c) (list_all is_quiet cs) h in
    let test = and_parts (not (c == 10)) (not (c == 35)) parts.0 in
    ap (λ s. mark_run t s cs) (if-false (c == 35 && not t) Hash Nothing (and-not (c == 35) (not t) test.1)) ∙ quiet-mark t cs parts.1

pub quiet-commands : (cs : List ℕ) → list_all is_quiet cs ≡ true → commands Inside cs ≡ []
quiet-commands [] h = refl
quiet-commands (c ∷ cs) h =
    let parts = and_parts (is_quiet c) (list_all is_quiet cs) h in
    let test = and_parts (not (c == 10)) (not (c == 35)) parts.0 in
    ap (λ s. commands s cs) (if-false (c == 10) White Inside test.0) ∙ quiet-commands cs parts.1

pub slash-front : (t : Bool) (s : Front) → is_command s ≡ false → front_after t s 92 ≡ Inside
slash-front t White e = refl
slash-front t Colon e = refl
slash-front t Inside e = refl
slash-front t Command e = absurd (true≢false e)

pub slash-mark : (t : Bool) (m : Mark) → is_marker m ≡ false → mark_after t m 92 ≡ Nothing
slash-mark t Nothing e = refl
slash-mark t Hash e = refl
slash-mark t Hashes e = refl
slash-mark t Marker e = absurd (true≢false e)

-- escapes
abbrev pub is_calm : ℕ → Bool
is_calm c = (nat_lt 91 c && nat_lt c 127) || (nat_lt 47 c && nat_lt c 58)

glyph : (d : ℕ) → d < 17 → is_calm (digit_glyph false d) ≡ true
glyph d h =
    elim (nat_lt d 10) as (λ b. nat_lt d 10 ≡ b → is_calm (if b then 48 + d else 87 + d) ≡ true) [
      | true ↦ λ e. grind (arith, nat_tests, e)
      | false ↦ λ e. grind (arith, nat_tests, e)
    ] refl

calm-digits : (k n : ℕ) (acc : List ℕ) → list_all is_calm acc ≡ true → list_all is_calm (digits_onto k 16 false n acc) ≡ true
calm-digits zero n acc h = h
calm-digits (suc k) n acc h =
    let longer = digit_glyph false (n % 16) ∷ acc in
    let more = both-true _ _ (glyph (n % 16) (omega arith)) h in
    elim (n / 16 == 0) as (λ b. list_all is_calm (if b then longer else digits_onto k 16 false (n / 16) longer) ≡ true)
    [ true ↦ more | false ↦ calm-digits k (n / 16) longer more ]

pub calm-escape : (c : ℕ) → list_all is_calm (escape c) ≡ true
unfolding escape digits
calm-escape c = all-both is_calm (codes "\\u{") (digits 16 false c ++ codes "}") refl (all-both is_calm (digits 16 false c) (codes "}") (calm-digits 64 c
    [] refl) refl)

pub calm-char : (c : ℕ) → is_calm c ≡ true → (c < 128) × (is_quiet c ≡ true) × (is_shown c ≡ true)
calm-char c h =
    let low : 47 < c = grind (arith, nat_tests, h) in
    let high : c < 127 = grind (arith, nat_tests, h) in
    (omega arith, grind (arith, nat_tests), grind (arith, nat_tests))

pub chars-calm : (cs : List ℕ) → list_all is_calm cs ≡ true → chars cs ≡ cs
chars-calm cs h = chars-IsAscii cs (IsAscii-from_all cs (all-below is_calm (λ c e. (calm-char c e).0) cs h))
