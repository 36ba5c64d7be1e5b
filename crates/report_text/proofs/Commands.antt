-- The line of a command.
use Rattle.std.proofs.Common.{◌≡◌, ◌∙◌, ◌<◌, ◌+◌, ◌&&◌, ◌==◌, add-one, drop, drop-cons, get_or, length, refl, sym, subst, ap, arith, ℕ, Bool, true, false, true≢false, not, List, [], ◌∷◌, ◌++◌, append_assoc, codes, nat_lt, if◌then◌else◌}
use Rattle.std.proofs.lemmas.Bool.{and_parts}
use Rattle.std.proofs.lemmas.Bool.Decides.{nat_tests}
use Rattle.std.proofs.lemmas.List.Elements.{All-append, All-cons, All-nil}
use Rattle.std.proofs.lemmas.Str.{chars-IsAscii}
use Rattle.std.proofs.lemmas.Str.Ascii.{IsAscii-from_all}
use Rattle.std.specs.List.{All, list_all}
use Rattle.std.specs.Str.{chars}
use Rattle.report_text.specs.Command.{IsCommand, command, command_line, commands, encoded, encoded_char, is_encoded, kind_name, line_rest, mark_encoded, properties_text, property_name, property_text, replacement}
use Rattle.report_text.specs.Line.{escape, front_run, is_command, is_hashes, is_marker, is_shown, line_end, line_start, mark_after, starts_line, mark_run}
use Rattle.report_text.specs.Safe.{Kept}
use Rattle.report_text.specs.Sequence.{visible}
use Rattle.report_text.specs.declared.command.Kind.{Kind}
use Rattle.report_text.specs.declared.command.Kind.TheVariants.{Error, Warning, Notice}
use Rattle.report_text.specs.declared.command.Property.{Property}
use Rattle.report_text.specs.declared.command.PropertyName.{PropertyName}
use Rattle.report_text.specs.declared.command.PropertyName.TheVariants.{File, Line, Column, Title}
use Rattle.report_text.specs.declared.line.Front.{Front}
use Rattle.report_text.specs.declared.line.Front.TheVariants.{White, Colon, Inside, Command}
use Rattle.report_text.specs.declared.line.Line.{Line as LineState}
use Rattle.report_text.specs.declared.line.Mark.{Mark}
use Rattle.report_text.specs.declared.line.Mark.TheVariants.{Nothing, Hash, Hashes, Marker}
use Rattle.report_text.proofs.Steps.{all-below, all-both, all-weaker, and-false, both-true, calm-char, calm-escape, chars-calm, commands-append, front_run-append, if-false, is_calm, is_quiet, mark-step, mark_run-append, not-true, or-parts, quiet-mark, slash-mark}
use Rattle.report_text.proofs.Visible.{clean-both, clean-shown, shown-visible, shown-whole, whole-both}

-- a character that is shown and ends no line
abbrev pub is_inline : ℕ → Bool
is_inline c = is_shown c && not (c == 10)

-- a part of a line, after which no marker stands if none stood before
pub record IsPart (mark : Mark) (part : List ℕ) : Type 0 where
  pub in_line : list_all is_inline part ≡ true
  pub no_marker : is_marker (mark_run false mark part) ≡ false

pub part-both : {mark : Mark} {xs ys : List ℕ} → IsPart mark xs → IsPart (mark_run false mark xs) ys → IsPart mark (xs ++ ys)
part-both {mark} {xs} {ys} a b = record {
  in_line = all-both is_inline xs ys a.in_line b.in_line;
  no_marker = ap is_marker (mark_run-append false mark xs ys) ∙ b.no_marker;
}

-- words without brackets
abbrev is_word : ℕ → Bool
is_word c = is_inline c && not (c == 91)

word-mark : (mark : Mark) (cs : List ℕ) → is_marker mark ≡ false → list_all is_word cs ≡ true → is_marker (mark_run false mark cs) ≡ false
word-mark mark [] e h = e
word-mark mark (c ∷ cs) e h =
    let parts = and_parts (is_word c) (list_all is_word cs) h in
    let tests = and_parts (is_inline c) (not (c == 91)) parts.0 in
    word-mark (mark_after false mark c) cs (mark-step false mark c e (and-false (is_hashes mark) (c == 91) (not-true (c == 91) tests.1))) parts.1

pub word : (mark : Mark) (cs : List ℕ) → is_marker mark ≡ false → list_all is_word cs ≡ true → IsPart mark cs
word mark cs e h = record {
  in_line = all-weaker is_word is_inline (λ c e. (and_parts (is_inline c) (not (c == 91)) e).0) cs h;
  no_marker = word-mark mark cs e h;
}

-- replacements
record IsReplacement (cs : List ℕ) : Type 0 where
  pub in_line : list_all is_inline cs ≡ true
  pub nothing : (m : Mark) → is_marker m ≡ false → mark_run false m cs ≡ Nothing
  pub as_bytes : chars cs ≡ cs

percent-mark : (m : Mark) → is_marker m ≡ false → mark_after false m 37 ≡ Nothing
percent-mark Nothing e = refl
percent-mark Hash e = refl
percent-mark Hashes e = refl
percent-mark Marker e = absurd (true≢false e)

below-ascii : (c : ℕ) → nat_lt c 128 ≡ true → c < 128
below-ascii c e = grind (arith, nat_tests, e)

ascii-chars : (cs : List ℕ) → list_all (λ c. nat_lt c 128) cs ≡ true → chars cs ≡ cs
ascii-chars cs h = chars-IsAscii cs (IsAscii-from_all cs (all-below (λ c. nat_lt c 128) below-ascii cs h))

percent : (cs : List ℕ) → list_all is_inline (37 ∷ cs) ≡ true → mark_run false Nothing cs ≡ Nothing → list_all (λ c. nat_lt c 128) (37 ∷ cs) ≡ true →
    IsReplacement (37 ∷ cs)
percent cs inline mark low = record {
  in_line = inline;
  nothing = λ m e. ap (λ n. mark_run false n cs) (percent-mark m e) ∙ mark;
  as_bytes = ascii-chars (37 ∷ cs) low;
}

calm-inline : (c : ℕ) → is_calm c ≡ true → is_inline c ≡ true
calm-inline c h = let facts = calm-char c h in both-true _ _ facts.2 ((and_parts (not (c == 10)) (not (c == 35)) facts.1).0)

slash-replaces : (cs : List ℕ) → list_all is_calm cs ≡ true → chars (92 ∷ cs) ≡ 92 ∷ cs → IsReplacement (92 ∷ cs)
slash-replaces cs h e = record {
  in_line = all-weaker is_calm is_inline calm-inline (92 ∷ cs) h;
  nothing = λ m k. ap (λ n. mark_run false n cs) (slash-mark false m k) ∙ quiet-mark false cs (all-weaker is_calm is_quiet (λ c e. (calm-char c e).1) cs h);
  as_bytes = e;
}

escape-replaces : (c : ℕ) → IsReplacement (escape c)
unfolding escape
escape-replaces c = slash-replaces _ (calm-escape c) (chars-calm _ (calm-escape c))

replaces-if : (b : Bool) {xs ys : List ℕ} → IsReplacement xs → IsReplacement ys → IsReplacement (if b then xs else ys)
replaces-if true h k = h
replaces-if false h k = k

replaces : (c : ℕ) → IsReplacement (replacement c)
replaces c =
    replaces-if (c == 37) (percent (codes "25") refl refl refl) (replaces-if (c == 13) (percent (codes "0D") refl refl refl)
    (replaces-if (c == 10) (percent (codes "0A") refl refl refl) (replaces-if (c == 58) (percent (codes "3A") refl refl refl)
    (replaces-if (c == 44) (percent (codes "2C") refl refl refl) (escape-replaces c)))))

-- encoded texts
pub part-char : (in_property : Bool) (mark : Mark) (c : ℕ) → is_marker mark ≡ false
    → IsPart mark (encoded_char in_property mark c) × (mark_run false mark (encoded_char in_property mark c) ≡ mark_encoded in_property mark c)
part-char in_property mark c e =
    let r = replaces c in
    elim (is_encoded in_property mark c) as (λ b. is_encoded in_property mark c ≡ b → IsPart mark (if b then replacement c else c ∷ [])
    × (mark_run false mark (if b then replacement c else c ∷ []) ≡ (if b then Nothing else mark_after false mark c))) [
      | true ↦ λ h. (record { in_line = r.in_line; no_marker = ap is_marker (r.nothing mark e) }, r.nothing mark e)
      | false ↦ λ h.
          let tests = or-parts _ _ h in
          let ends = or-parts _ _ tests.0 in
          let breaks = or-parts _ _ ends.1 in
          let others = or-parts _ _ ((or-parts _ _ tests.1).1) in
          (record { in_line = both-true _ _ (both-true _ _ (ap not others.0) (ap not breaks.1)) refl; no_marker = mark-step false mark c e others.1 }, refl)
    ] refl

pub part-encoded : (in_property : Bool) (mark : Mark) (cs : List ℕ) → is_marker mark ≡ false → IsPart mark (encoded in_property mark cs)
part-encoded in_property mark [] e = record { in_line = refl; no_marker = e }
part-encoded in_property mark (c ∷ cs) e =
    let first = part-char in_property mark c e in
    let next = ap is_marker (sym first.1) ∙ first.0.no_marker in
    part-both first.0 (subst (λ m. IsPart m (encoded in_property (mark_encoded in_property mark c) cs)) (sym first.1)
    (part-encoded in_property (mark_encoded in_property mark c) cs next))

-- commands
pub part-kind : (kind : Kind) → IsPart Nothing (kind_name kind)
part-kind Error = word Nothing (codes "error") refl refl
part-kind Warning = word Nothing (codes "warning") refl refl
part-kind Notice = word Nothing (codes "notice") refl refl

part-name : (mark : Mark) (name : PropertyName) → is_marker mark ≡ false → IsPart mark (property_name name)
part-name mark File e = word mark (codes "file") e refl
part-name mark Line e = word mark (codes "line") e refl
part-name mark Column e = word mark (codes "col") e refl
part-name mark Title e = word mark (codes "title") e refl

equals-mark : (m : Mark) → is_marker m ≡ false → mark_run false m (codes "=") ≡ Nothing
equals-mark Nothing e = refl
equals-mark Hash e = refl
equals-mark Hashes e = refl
equals-mark Marker e = absurd (true≢false e)

colons-mark : (m : Mark) → is_marker m ≡ false → mark_run false m (codes "::") ≡ Nothing
colons-mark Nothing e = refl
colons-mark Hash e = refl
colons-mark Hashes e = refl
colons-mark Marker e = absurd (true≢false e)

-- an encoded text after a word that ends what may become a marker
part-after : (mark : Mark) (sign : List ℕ) (in_property : Bool) (cs : List ℕ) → IsPart mark sign → mark_run false mark sign ≡ Nothing
    → IsPart mark (sign ++ encoded in_property Nothing cs)
part-after mark sign in_property cs part e = part-both part (subst (λ m. IsPart m (encoded in_property Nothing cs)) (sym e) (part-encoded in_property
    Nothing cs refl))

part-property : (mark : Mark) (p : Property) → is_marker mark ≡ false → IsPart mark (property_text p)
part-property mark p e =
    let name = part-name mark p.name e in
    part-both name (part-after _ (codes "=") true (chars p.value.now) (word _ (codes "=") name.no_marker refl) (equals-mark _ name.no_marker))

separator : (mark : Mark) (first : Bool) → is_marker mark ≡ false → IsPart mark ((if first then 32 else 44) ∷ [])
separator mark true e = word mark (32 ∷ []) e refl
separator mark false e = word mark (44 ∷ []) e refl

part-properties : (ps : List Property) (first : Bool) (mark : Mark) → is_marker mark ≡ false → IsPart mark (properties_text first ps)
part-properties [] first mark e = record { in_line = refl; no_marker = e }
part-properties (p ∷ ps) first mark e =
    let sign = separator mark first e in
    let property = part-property _ p sign.no_marker in
    part-both sign (part-both property (part-properties ps false (mark_run false (mark_run false mark ((if first then 32 else 44) ∷ [])) (property_text p))
    property.no_marker))

pub part-command : (kind : Kind) (ps : List Property) (message : List ℕ) → IsPart Nothing (command kind ps message)
part-command kind ps message =
    let name = part-kind kind in
    let properties = part-properties ps true _ name.no_marker in
    part-both name (part-both properties (part-after _ (codes "::") false message (word _ (codes "::") properties.no_marker refl) (colons-mark _
    properties.no_marker)))

-- a whole line
line-end-mark : (m : Mark) → is_marker m ≡ false → mark_after false m 10 ≡ Nothing
line-end-mark Nothing e = refl
line-end-mark Hash e = refl
line-end-mark Hashes e = refl
line-end-mark Marker e = absurd (true≢false e)

line-rest : (cs : List ℕ) → list_all is_inline cs ≡ true → line_rest (cs ++ 10 ∷ []) ≡ cs
line-rest [] h = refl
line-rest (c ∷ cs) h =
    let parts = and_parts (is_inline c) (list_all is_inline cs) h in
    let test = (and_parts (is_shown c) (not (c == 10)) parts.0).1 in
    if-false (c == 10) [] _ test ∙ ap (λ l. c ∷ l) (line-rest cs parts.1)

line-front : (cs : List ℕ) → list_all is_inline cs ≡ true → front_run false Command (cs ++ 10 ∷ []) ≡ White
line-front [] h = refl
line-front (c ∷ cs) h =
    let parts = and_parts (is_inline c) (list_all is_inline cs) h in
    let test = (and_parts (is_shown c) (not (c == 10)) parts.0).1 in
    ap (λ s. front_run false s (cs ++ 10 ∷ [])) (if-false (c == 10) White Command test) ∙ line-front cs parts.1

line-commands : (cs : List ℕ) → list_all is_inline cs ≡ true → commands Command (cs ++ 10 ∷ []) ≡ []
line-commands [] h = refl
line-commands (c ∷ cs) h =
    let parts = and_parts (is_inline c) (list_all is_inline cs) h in
    let test = (and_parts (is_shown c) (not (c == 10)) parts.0).1 in
    ap (λ s. commands s (cs ++ 10 ∷ [])) (if-false (c == 10) White Command test) ∙ line-commands cs parts.1

inline-shown : (c : ℕ) → is_inline c ≡ true → is_shown c ≡ true
inline-shown c h = (and_parts (is_shown c) (not (c == 10)) h).0

-- a text with one more command
pub record GrowsBy (t : Bool) (old new line : List ℕ) : Type 0 where
  pub kept : Kept t new line_start
  pub one : t ≡ false → commands White (visible new) ≡ commands White (visible old) ++ line ∷ []

terminal-mark : (cs : List ℕ) → mark_run true Nothing cs ≡ Nothing
terminal-mark [] = refl
terminal-mark (c ∷ cs) = ap (λ (b : Bool). mark_run true (if b then Hash else Nothing) cs) (and-false (c == 35) false refl) ∙ terminal-mark cs

colons-mark-on : (t : Bool) (m : Mark) → is_marker m ≡ false → mark_run t m (codes "::") ≡ Nothing
colons-mark-on t Nothing e = refl
colons-mark-on t Hash e = refl
colons-mark-on t Hashes e = refl
colons-mark-on t Marker e = absurd (true≢false e)

line-mark : (t : Bool) (line : List ℕ) → IsPart Nothing line → mark_run t Nothing (line ++ 10 ∷ []) ≡ Nothing
line-mark true line part = terminal-mark (line ++ 10 ∷ [])
line-mark false line part = mark_run-append false Nothing line (10 ∷ []) ∙ line-end-mark (mark_run false Nothing line) part.no_marker

line-is : {l : LineState} {f : Front} {m : Mark} → l.front ≡ f → l.mark ≡ m → l ≡ record { front = f; mark = m }
line-is p q = λ i. record { front = p i; mark = q i }

-- a line of a command after a text, and after a line feed if a line has begun
grows-line : (t : Bool) (old : List ℕ) (l : LineState) (start line : List ℕ) → Kept t old l → list_all is_shown start ≡ true
    → front_run false l.front start ≡ White → commands l.front start ≡ [] → is_marker (mark_run t l.mark start) ≡ false → IsPart Nothing line → IsCommand line
    → GrowsBy t old (old ++ (start ++ 58 ∷ 58 ∷ (line ++ 10 ∷ []))) line
grows-line t old l start line k start-shown white none silent part is =
    let body = 58 ∷ 58 ∷ (line ++ 10 ∷ []) in
    let added = start ++ body in
    let shown-line : list_all is_shown (line ++ 10 ∷ []) ≡ true = all-both is_shown line (10 ∷ []) (all-weaker is_inline is_shown inline-shown line
    part.in_line) refl in
    let shown : list_all is_shown added ≡ true = all-both is_shown start body start-shown shown-line in
    let seen = shown-visible added shown in
    let front = ap (λ (x : LineState). x.front) k.line_is in
    let mark = ap (λ (x : LineState). x.mark) k.line_is in
    let whole = k.whole added ∙ ap (λ v. visible old ++ v) seen in
    let last : front_run t l.front added ≡ White =
    front_run-append t l.front start body ∙ front_run-append t (front_run t l.front start) (58 ∷ 58 ∷ line) (10 ∷ []) in
    let quiet : mark_run t l.mark added ≡ Nothing =
    mark_run-append t l.mark start body ∙ (ap (λ m. mark_run t m (line ++ 10 ∷ [])) (colons-mark-on t (mark_run t l.mark start) silent) ∙ line-mark t line
    part) in
    let One : Type 0 = t ≡ false → commands White (visible (old ++ added)) ≡ commands White (visible old) ++ line ∷ [] in
    let one : One = λ e.
    let same = front ∙ ap (λ b. front_run b White (visible old)) e in
    let read : commands White body ≡ line ∷ [] =
    ap (λ x. x ∷ commands Command (line ++ 10 ∷ [])) (line-rest line part.in_line) ∙ ap (λ x. line ∷ x) (line-commands line part.in_line) in
    let rest : commands l.front added ≡ line ∷ [] =
    commands-append l.front start body (ap is_command white) ∙ (ap (λ x. x ++ commands (front_run false l.front start) body) none ∙ (ap (λ f. commands f
    body) white ∙ read)) in
    ap (commands White) whole
    ∙ (commands-append White (visible old) added (subst (λ (f : Front). is_command f ≡ false) same k.no_command)
    ∙ ap (λ x. commands White (visible old) ++ x) (subst (λ f. commands f added ≡ line ∷ []) same rest)) in
    record {
      kept = record {
        line_is = line-is
            (sym (ap (front_run t White) whole ∙ (front_run-append t White (visible old) added ∙ (ap (λ f. front_run t f added) (sym front) ∙ last))))
            (sym (ap (mark_run t Nothing) whole ∙ (mark_run-append t Nothing (visible old) added ∙ (ap (λ m. mark_run t m added) (sym mark) ∙ quiet))));
        no_command = refl;
        no_marker = refl;
        clean = clean-both k.clean (clean-shown added shown);
        whole = whole-both old added k.whole (shown-whole added shown);
        each = λ e. subst (All IsCommand) (sym (one e))
            (All-append IsCommand (commands White (visible old)) (line ∷ []) (k.each e) (All-cons IsCommand line [] is (All-nil IsCommand)));
      };
      one = one;
    }

is-command : (kind : Kind) (ps : List Property) (message : List ℕ) → IsCommand (command kind ps message)
is-command kind ps message = record { kind = kind; properties = properties_text true ps; message = encoded false Nothing message; is = refl }

record Starts (t : Bool) (l : LineState) (start : List ℕ) : Type 0 where
  pub shown : list_all is_shown start ≡ true
  pub white : front_run false l.front start ≡ White
  pub none : commands l.front start ≡ []
  pub silent : is_marker (mark_run t l.mark start) ≡ false

end-mark : (t : Bool) (m : Mark) → is_marker m ≡ false → is_marker (mark_after t m 10) ≡ false
end-mark t Nothing e = refl
end-mark t Hash e = refl
end-mark t Hashes e = refl
end-mark t Marker e = absurd (true≢false e)

abbrev state : Front → Mark → LineState
state front mark = record { front = front; mark = mark }

starts-blank : (t b : Bool) (mark : Mark) → is_marker mark ≡ false → Starts t (state White mark) (if b then [] else 10 ∷ [])
starts-blank t true mark e = record { shown = refl; white = refl; none = refl; silent = e }
starts-blank t false mark e = record { shown = refl; white = refl; none = refl; silent = end-mark t mark e }

starts : (t : Bool) (front : Front) (mark : Mark) (text : List ℕ) → is_marker mark ≡ false → Starts t (state front mark) (line_end front text)
starts t White mark text e = starts-blank t (starts_line text) mark e
starts t Colon mark text e = record { shown = refl; white = refl; none = refl; silent = end-mark t mark e }
starts t Inside mark text e = record { shown = refl; white = refl; none = refl; silent = end-mark t mark e }
starts t Command mark text e = record { shown = refl; white = refl; none = refl; silent = end-mark t mark e }

pub grows-command : (t : Bool) (old : List ℕ) (l : LineState) (kind : Kind) (ps : List Property) (message : List ℕ) → Kept t old l
    → GrowsBy t old (old ++ (line_end l.front old ++ command_line kind ps message)) (command kind ps message)
grows-command t old l kind ps message k =
    let s = starts t l.front l.mark old k.no_marker in
    grows-line t old l (line_end l.front old) (command kind ps message) k s.shown s.white s.none s.silent (part-command kind ps message) (is-command kind
    ps message)

-- words
pub word-chars : (cs : List ℕ) → list_all (λ c. nat_lt c 128) cs ≡ true → chars cs ≡ cs
word-chars cs h = ascii-chars cs h

pub chars-kind : (kind : Kind) → chars (kind_name kind) ≡ kind_name kind
chars-kind Error = ascii-chars (codes "error") refl
chars-kind Warning = ascii-chars (codes "warning") refl
chars-kind Notice = ascii-chars (codes "notice") refl

pub chars-name : (name : PropertyName) → chars (property_name name) ≡ property_name name
chars-name File = ascii-chars (codes "file") refl
chars-name Line = ascii-chars (codes "line") refl
chars-name Column = ascii-chars (codes "col") refl
chars-name Title = ascii-chars (codes "title") refl

pub end-is : (front : Front) (text : List ℕ) → (front ≡ White → ⊥) → line_end front text ≡ 10 ∷ []
end-is White text h = absurd (h refl)
end-is Colon text h = refl
end-is Inside text h = refl
end-is Command text h = refl

joined : (t s p r : List ℕ) → ((t ++ s) ++ p) ++ r ≡ t ++ (s ++ (p ++ r))
joined t s p r = simp append_assoc

pub next-property : (props : List Property) (i : ℕ) (d : Property) (first : Bool) (t u v all : List ℕ) → i < length props
    → u ≡ t ++ (if first then 32 else 44) ∷ [] → v ≡ u ++ property_text (get_or props i d) → t ++ properties_text first (drop i props) ≡ all
    → v ++ properties_text false (drop (i + 1) props) ≡ all
next-property props i d first t u v all h p q e =
    let rest = drop (i + 1) props in
    let cut : drop i props ≡ get_or props i d ∷ drop (i + 1) props = rw (add-one, drop-cons props i d) refl in
    let sign = (if first then 32 else 44) ∷ [] in
    let piece = property_text (get_or props i d) in
    let more = properties_text false rest in
    ap (λ l. l ++ more) (q ∙ ap (λ l. l ++ piece) p) ∙ (joined t sign piece more ∙ (ap (λ l. t ++ properties_text first l) (sym cut) ∙ e))
