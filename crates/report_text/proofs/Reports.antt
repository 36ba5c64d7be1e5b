-- What a call leaves of a report.
use Rattle.std.proofs.Common.{◌≡◌, ◌∙◌, ◌<◌, ◌/◌, ◌%◌, ◌+◌, ◌&&◌, ◌||◌, ◌==◌, Fits, w8, get_or, refl, sym, subst, ap, arith, ℕ, suc, Bool, true, false, List, [], ◌∷◌, ◌++◌, append_assoc, length, nat_lt, if◌then◌else◌}
use Rattle.std.proofs.lemmas.Bool.Decides.{nat_tests}
use Rattle.std.proofs.lemmas.Str.{chars-nil}
use Rattle.std.specs.List.{list_all}
use Rattle.std.specs.Str.{chars}
use Rattle.report_text.specs.Command.{command, command_line, commands}
use Rattle.report_text.specs.Line.{front_run, is_hashes, line_after, line_end, line_start, starts_line}
use Rattle.report_text.specs.Safe.{EndsBlank, Kept, KeepsCommands, Safe}
use Rattle.report_text.specs.Sequence.{IsStyle, hex_digit, is_encoded_target, is_unreserved, link_mark, style_digits, style_text, target_byte, target_text, visible}
use Rattle.report_text.specs.Shown.{Adds, Appends, Noted, Report, ends, escapes, pushed}
use Rattle.report_text.specs.declared.command.Kind.{Kind}
use Rattle.report_text.specs.declared.command.Property.{Property}
use Rattle.report_text.specs.declared.line.Front.{Front}
use Rattle.report_text.specs.declared.line.Front.TheVariants.{White, Colon, Inside, Command}
use Rattle.report_text.specs.declared.line.Line.{Line}
use Rattle.report_text.specs.declared.line.Mark.{Mark}
use Rattle.report_text.specs.declared.shown.Rules.{Rules}
use Rattle.report_text.specs.declared.sequence.Style.{Style}
use Rattle.report_text.specs.declared.sequence.Style.TheVariants.{Reset, Bold, Dim, Red, Green, Yellow, BoldRed, BoldGreen, BoldYellow}
use Rattle.report_text.proofs.Commands.{grows-command, word-chars}
use Rattle.report_text.proofs.Absence.{safe, safe-nil}
use Rattle.report_text.proofs.Pushing.{inline-pushed, one_line_rules, writes-text}
use Rattle.report_text.proofs.Steps.{all-both, and-false, both-true}
use Rattle.report_text.proofs.Writing.{IsReady, Writes, grows, kept-nil, writes-char, writes-link, writes-nothing}

abbrev pub report : Noted → Bool → Report
report n t = record { text = n.text; failed = n.failed; for_terminal = t }

-- a new report
pub kept-new : (t : Bool) (n : Noted) {l : Line} → n.text ≡ [] → l ≡ line_start → Kept t n.text l
kept-new t n {l} p q = subst (λ x. Kept t x l) (sym p) (subst (Kept t []) (sym q) (kept-nil t))

pub report-new : (t : Bool) {n : Noted} → n ≡ record { text = []; failed = false } → report n t ≡ record { text = []; failed = false; for_terminal = t }
report-new t {n} p = ap (λ (x : Noted). report x t) p

-- what is read is safe
pub safe-read : (t : Bool) (n : Noted) (l : Line) (bytes : List ℕ) → (n.failed ≡ false → Kept t n.text l) → chars bytes ≡ n.text → (n.failed ≡ true → bytes
    ≡ [])
    → Safe t (chars bytes)
safe-read t n l bytes kept is lost =
    elim n.failed as (λ b. n.failed ≡ b → Safe t (chars bytes)) [
      | true ↦ λ e. subst (Safe t) (sym (ap chars (lost e) ∙ chars-nil)) (safe-nil t)
      | false ↦ λ e. subst (Safe t) (sym is) (safe (kept e))
    ] refl

-- one call
abbrev pub text_rules : Bool → Bool → Bool → Rules
text_rules t one_line colours = record { for_terminal = t; one_line = one_line; keeps_colours = colours }

pub appends-as : {a b : Report} {xs : List ℕ} (ys : List ℕ) → Appends a b xs → (a.failed ≡ false → xs ≡ ys) → Appends a b ys
appends-as {a} {b} {xs} ys p is = record {
  same_terminal = p.same_terminal;
  text = λ e. let q = p.text e in (q.0, q.1 ∙ ap (λ l. a.text ++ l) (is q.0));
}

pub appends-both : {a b c : Report} {xs ys : List ℕ} → Appends a b xs → Appends b c ys → Appends a c (xs ++ ys)
appends-both {a} {b} {c} {xs} {ys} p q = record {
  same_terminal = q.same_terminal ∙ p.same_terminal;
  text = λ e. let second = q.text e in let first = p.text second.0 in
      (first.0, second.1 ∙ (ap (λ t. t ++ ys) first.1 ∙ append_assoc a.text xs ys));
}

pub keeps-both : (a : Report) {b c : Report} {ys : List ℕ} → KeepsCommands a b → Appends b c ys → KeepsCommands b c → KeepsCommands a c
keeps-both a {b} {c} {ys} p q r = λ t e. r t e ∙ p (sym q.same_terminal ∙ t) (q.text e).0

pub record Step (t : Bool) (old new : Noted) (m : Line) (w : List ℕ) : Type 0 where
  pub kept : new.failed ≡ false → Kept t new.text m
  pub text : Appends (report old t) (report new t) w
  pub same : KeepsCommands (report old t) (report new t)

pub step : (t : Bool) (old new : Noted) (l m : Line) (w : List ℕ) → (old.failed ≡ false → Kept t old.text l) → Adds old new w
    → (IsReady l → Writes t l w m) → Step t old new m w
step t old new l m w kept adds writes =
    let grown = λ (e : new.failed ≡ false). grows (kept (adds e).0) (writes ((kept (adds e).0).no_command, (kept (adds e).0).no_marker)) in
    record {
      kept = λ e. subst (λ x. Kept t x m) (sym (adds e).1) (grown e).kept;
      text = record { same_terminal = refl; text = adds };
      same = λ f e. ap (λ x. commands White (visible x)) (adds e).1 ∙ (grown e).same f;
    }

pub push-step : (t one_line colours : Bool) (old new : Noted) (l : Line) (cs : List ℕ) → (old.failed ≡ false → Kept t old.text l)
    → Adds old new (pushed (text_rules t one_line colours) l 0 cs)
    → Step t old new (ends (text_rules t one_line colours) l 0 cs) (pushed (text_rules t one_line colours) l 0 cs)
push-step t one_line colours old new l cs kept adds =
    let r = text_rules t one_line colours in
    step t old new l (ends r l 0 cs) (pushed r l 0 cs) kept adds (λ ready. writes-text r l cs ready)

-- a style
pub is-style : (style : Style) → IsStyle (style_text style)
is-style Reset = record { parameters = style_digits Reset; is = refl; are = refl }
is-style Bold = record { parameters = style_digits Bold; is = refl; are = refl }
is-style Dim = record { parameters = style_digits Dim; is = refl; are = refl }
is-style Red = record { parameters = style_digits Red; is = refl; are = refl }
is-style Green = record { parameters = style_digits Green; is = refl; are = refl }
is-style Yellow = record { parameters = style_digits Yellow; is = refl; are = refl }
is-style BoldRed = record { parameters = style_digits BoldRed; is = refl; are = refl }
is-style BoldGreen = record { parameters = style_digits BoldGreen; is = refl; are = refl }
is-style BoldYellow = record { parameters = style_digits BoldYellow; is = refl; are = refl }

pub chars-style : (style : Style) → chars (style_text style) ≡ style_text style
chars-style Reset = word-chars (style_text Reset) refl
chars-style Bold = word-chars (style_text Bold) refl
chars-style Dim = word-chars (style_text Dim) refl
chars-style Red = word-chars (style_text Red) refl
chars-style Green = word-chars (style_text Green) refl
chars-style Yellow = word-chars (style_text Yellow) refl
chars-style BoldRed = word-chars (style_text BoldRed) refl
chars-style BoldGreen = word-chars (style_text BoldGreen) refl
chars-style BoldYellow = word-chars (style_text BoldYellow) refl

-- the target of a link
hex : (d : ℕ) → d < 16 → is_encoded_target (hex_digit d) ≡ true
hex d h =
    elim (nat_lt d 10) as (λ b. nat_lt d 10 ≡ b → is_encoded_target (if b then 48 + d else 55 + d) ≡ true) [
      | true ↦ λ e. grind (arith, nat_tests, e)
      | false ↦ λ e. grind (arith, nat_tests, e)
    ] refl

encoded-byte : (b : ℕ) → b < 256 → list_all is_encoded_target (target_byte b) ≡ true
encoded-byte b h =
    elim (is_unreserved b) as (λ u. is_unreserved b ≡ u → list_all is_encoded_target (if u then b ∷ [] else 37 ∷ hex_digit (b / 16) ∷ hex_digit (b % 16) ∷
    []) ≡ true) [
      | true ↦ λ e. ap (λ u. (u || b == 37) && true) e
      | false ↦ λ e. both-true _ _ (hex (b / 16) (omega (arith, h))) (both-true _ _ (hex (b % 16) (omega arith)) refl)
    ] refl

pub encoded-target : (bs : List ℕ) → ((i : ℕ) → Fits w8 (get_or bs i 0)) → list_all is_encoded_target (target_text bs) ≡ true
encoded-target [] f = refl
encoded-target (b ∷ bs) f = all-both is_encoded_target (target_byte b) (target_text bs) (encoded-byte b (f 0).fits) (encoded-target bs (λ i. f (suc i)))

pub writes-whole-link : (t : Bool) (l : Line) (target label : List ℕ) → ((i : ℕ) → Fits w8 (get_or target i 0)) → IsReady l
    → Writes t l (link_mark (target_text target) ++ (pushed (one_line_rules t) l 0 label ++ link_mark [])) (ends (one_line_rules t) l 0 label)
writes-whole-link t l target label f ready =
    writes-link (target_text target) (pushed (one_line_rules t) l 0 label) (encoded-target target f) (inline-pushed t l label) (writes-text (one_line_rules
    t) l label ready)

-- the end of a line
abbrev after-end : Bool → Line → List ℕ → Line
after-end t l end = if length end == 0 then l else line_after t l 10

abbrev pub ended : Bool → Line → List ℕ → Line
ended t l text = after-end t l (line_end l.front text)

abbrev state : Front → Mark → Line
state front mark = record { front = front; mark = mark }

feed : (t : Bool) (front : Front) (mark : Mark) → IsReady (state front mark) → escapes false (state front mark) 10 ≡ false
    → Writes t (state front mark) (10 ∷ []) (line_after t (state front mark) 10)
feed t front mark ready e = writes-char t false (state front mark) 10 ready e

end-blank : (t b : Bool) (mark : Mark) → IsReady (state White mark)
    → Writes t (state White mark) (if b then [] else 10 ∷ []) (after-end t (state White mark) (if b then [] else 10 ∷ []))
end-blank t true mark ready = writes-nothing t (state White mark) ready
end-blank t false mark ready = feed t White mark ready (rw (and-false (is_hashes mark) (10 == 91) refl) refl)

end-at : (t : Bool) (front : Front) (mark : Mark) (text : List ℕ) → IsReady (state front mark)
    → Writes t (state front mark) (line_end front text) (ended t (state front mark) text)
end-at t White mark text ready = end-blank t (starts_line text) mark ready
end-at t Colon mark text ready = feed t Colon mark ready (rw (and-false (is_hashes mark) (10 == 91) refl) refl)
end-at t Inside mark text ready = feed t Inside mark ready (rw (and-false (is_hashes mark) (10 == 91) refl) refl)
end-at t Command mark text ready = feed t Command mark ready (rw (and-false (is_hashes mark) (10 == 91) refl) refl)

pub writes-end : (t : Bool) (l : Line) (text : List ℕ) → IsReady l → Writes t l (line_end l.front text) (ended t l text)
writes-end t l text ready = end-at t l.front l.mark text ready

-- after it, the line has white space alone
ended-blank : (t b : Bool) (mark : Mark) → (after-end t (state White mark) (if b then [] else 10 ∷ [])).front ≡ White
ended-blank t true mark = refl
ended-blank t false mark = refl

ended-at : (t : Bool) (front : Front) (mark : Mark) (text : List ℕ) → (ended t (state front mark) text).front ≡ White
ended-at t White mark text = ended-blank t (starts_line text) mark
ended-at t Colon mark text = refl
ended-at t Inside mark text = refl
ended-at t Command mark text = refl

pub ends-blank : (t : Bool) (text old : List ℕ) (l : Line) → Kept t text (ended t l old) → t ≡ false → EndsBlank text
ends-blank t text old l k e =
    subst (λ b. front_run b White (visible text) ≡ White) e (ap (λ (x : Line). x.front) (sym k.line_is) ∙ ended-at t l.front l.mark old)

-- a command
pub record CommandStep (t : Bool) (old new : Noted) (w line : List ℕ) : Type 0 where
  pub kept : new.failed ≡ false → Kept t new.text line_start
  pub text : Appends (report old t) (report new t) w
  pub one : t ≡ false → new.failed ≡ false → commands White (visible new.text) ≡ commands White (visible old.text) ++ line ∷ []

pub command-step : (t : Bool) (old new : Noted) (l : Line) (kind : Kind) (ps : List Property) (message : List ℕ) → (old.failed ≡ false → Kept t old.text l)
    → Adds old new (line_end l.front old.text ++ command_line kind ps message)
    → CommandStep t old new (line_end l.front old.text ++ command_line kind ps message) (command kind ps message)
command-step t old new l kind ps message kept adds =
    let grown = λ (e : new.failed ≡ false). grows-command t old.text l kind ps message (kept (adds e).0) in
    record {
      kept = λ e. subst (λ x. Kept t x line_start) (sym (adds e).1) (grown e).kept;
      text = record { same_terminal = refl; text = adds };
      one = λ f e. ap (λ x. commands White (visible x)) (adds e).1 ∙ (grown e).one f;
    }
