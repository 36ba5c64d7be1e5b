-- What is written of a text of any origin.
use Rattle.std.proofs.Common.{◌≡◌, ◌∙◌, ◌<◌, ◌≤◌, ◌&&◌, ◌||◌, ◌==◌, refl, sym, subst, ap, arith, ℕ, zero, suc, Bool, true, false, true≢false, not, List, [], ◌∷◌, ◌++◌, append_assoc, drop, length, length-append, nat_lt, take, if◌then◌else◌, ◌-◌}
use Rattle.std.proofs.lemmas.Bool.{and_parts}
use Rattle.std.proofs.lemmas.Bool.Decides.{nat_tests}
use Rattle.std.proofs.lemmas.List.{take-append-drop}
use Rattle.std.proofs.lemmas.Str.{IsCharBoundary-from_take, IsUtf8-from_ascii, chars-IsAscii}
use Rattle.std.proofs.lemmas.Str.Ascii.{IsAscii-from_all}
use Rattle.std.specs.List.{list_all}
use Rattle.std.specs.Str.{IsAscii, IsCharBoundary, IsUtf8, chars}
use Rattle.report_text.specs.Line.{escape, is_colon, is_hashes, is_hidden, is_inline, is_shown, line_after, line_inside}
use Rattle.report_text.specs.Sequence.{IsStyle}
use Rattle.report_text.specs.Shown.{ends, escapes, has_kept, is_free, is_plain, kept_len, next, pushed, stays, written}
use Rattle.report_text.specs.declared.line.Front.{Front}
use Rattle.report_text.specs.declared.line.Front.TheVariants.{White, Colon, Inside, Command}
use Rattle.report_text.specs.declared.line.Line.{Line}
use Rattle.report_text.specs.declared.line.Mark.{Mark}
use Rattle.report_text.specs.declared.line.Mark.TheVariants.{Nothing, Hash, Hashes, Marker}
use Rattle.report_text.specs.declared.shown.Rules.{Rules}
use Rattle.report_text.proofs.Characters.{ascii-chars}
use Rattle.report_text.proofs.Steps.{all-below, all-both, all-weaker, and-false, both-true, calm-char, calm-escape, is_calm, not-true, or-parts}
use Rattle.report_text.proofs.Styles.{Cut, found-kept}
use Rattle.report_text.proofs.Writing.{IsReady, Writes, writes-both, writes-next, writes-nothing, writes-style}

-- one step of the folds
if-true : {X : Type 0} (b : Bool) (x y : X) → b ≡ true → (if b then x else y) ≡ x
if-true true x y h = refl
if-true false x y h = absurd (true≢false (sym h))

if-not : {X : Type 0} (b : Bool) (x y : X) → b ≡ false → (if b then x else y) ≡ y
if-not true x y h = absurd (true≢false h)
if-not false x y h = refl

-- a character that begins no sequence that is kept
pub pushed-char : (r : Rules) (l : Line) (c : ℕ) (cs : List ℕ) → kept_len r c cs ≡ 0 → pushed r l 0 (c ∷ cs) ≡ written r l c ++ pushed r (next r l c) 0 cs
pushed-char r l c cs e = if-not (nat_lt 0 (kept_len r c cs)) _ _ (ap (nat_lt 0) e)

pub ends-char : (r : Rules) (l : Line) (c : ℕ) (cs : List ℕ) → kept_len r c cs ≡ 0 → ends r l 0 (c ∷ cs) ≡ ends r (next r l c) 0 cs
ends-char r l c cs e = if-not (nat_lt 0 (kept_len r c cs)) _ _ (ap (nat_lt 0) e)

pub has-char : (r : Rules) (c : ℕ) (cs : List ℕ) → kept_len r c cs ≡ 0 → has_kept r (c ∷ cs) ≡ has_kept r cs
has-char r c cs e = ap (λ n. nat_lt 0 n || has_kept r cs) e

-- a sequence that is kept
pushed-run : (r : Rules) (l : Line) (run cs : List ℕ) → pushed r l (length run) (run ++ cs) ≡ run ++ pushed r l 0 cs
pushed-run r l [] cs = refl
pushed-run r l (c ∷ run) cs = ap (λ k. c ∷ k) (pushed-run r l run cs)

ends-run : (r : Rules) (l : Line) (run cs : List ℕ) → ends r l (length run) (run ++ cs) ≡ ends r l 0 cs
ends-run r l [] cs = refl
ends-run r l (c ∷ run) cs = ends-run r l run cs

pub pushed-kept : (r : Rules) (l : Line) (c n : ℕ) (run cs : List ℕ) → n ≡ kept_len r c (run ++ cs) → 0 < n → length run ≡ n
    → pushed r l 0 (c ∷ (run ++ cs)) ≡ c ∷ (run ++ pushed r l 0 cs)
pushed-kept r l c n run cs e h size =
    let test : nat_lt 0 (kept_len r c (run ++ cs)) ≡ true = grind (arith, nat_tests) in
    if-true (nat_lt 0 (kept_len r c (run ++ cs))) _ _ test
    ∙ (ap (λ k. c ∷ pushed r l k (run ++ cs)) (sym (size ∙ e)) ∙ ap (λ k. c ∷ k) (pushed-run r l run cs))

pub ends-kept : (r : Rules) (l : Line) (c n : ℕ) (run cs : List ℕ) → n ≡ kept_len r c (run ++ cs) → 0 < n → length run ≡ n
    → ends r l 0 (c ∷ (run ++ cs)) ≡ ends r l 0 cs
ends-kept r l c n run cs e h size =
    let test : nat_lt 0 (kept_len r c (run ++ cs)) ≡ true = grind (arith, nat_tests) in
    if-true (nat_lt 0 (kept_len r c (run ++ cs))) _ _ test
    ∙ (ap (λ k. ends r l k (run ++ cs)) (sym (size ∙ e)) ∙ ends-run r l run cs)

pub has-one : (b : Bool) (r : Rules) (c n : ℕ) (cs : List ℕ) → n ≡ kept_len r c cs → 0 < n → (b || has_kept r (c ∷ cs)) ≡ true
has-one true r c n cs e h = refl
has-one false r c n cs e h =
    let test : nat_lt 0 (kept_len r c cs) ≡ true = grind (arith, nat_tests) in
    ap (λ b. b || has_kept r cs) test

pub or-none : (b : Bool) → (b || false) ≡ b
or-none true = refl
or-none false = refl

-- runs of bytes after which the line is as before
record Stays (r : Rules) (l : Line) (b : ℕ) : Type 0 where
  pub low : nat_lt b 128 ≡ true
  pub as_it_is : written r l b ≡ b ∷ []
  pub same : next r l b ≡ l
  pub no_escape : (b == 27) ≡ false

plain-char : (one_line : Bool) (b : ℕ) → is_plain b ≡ true
    → (nat_lt b 128 ≡ true) × (not (b == 10) ≡ true) × (not (b == 35) ≡ true) × (escapes one_line line_inside b ≡ false) × ((b == 27) ≡ false)
plain-char one_line b h =
    let low : 31 < b = grind (arith, nat_tests, h) in
    let high : b < 127 = grind (arith, nat_tests, h) in
    let lines : (b == 9 || b == 10) ≡ false = grind (arith, nat_tests) in
    let shown : is_hidden b ≡ false = grind (arith, nat_tests) in (
      grind (arith, nat_tests),
      grind (arith, nat_tests),
      grind (arith, nat_tests, h),
      rw (lines, and-false one_line false refl, shown) refl,
      grind (
        arith,
        nat_tests,
      ),
    )

as-written : (r : Rules) (l : Line) (b : ℕ) → escapes r.one_line l b ≡ false → written r l b ≡ b ∷ []
as-written r l b e = if-not (escapes r.one_line l b) _ _ e

as-next : (r : Rules) (l : Line) (b : ℕ) → escapes r.one_line l b ≡ false → next r l b ≡ line_after r.for_terminal l b
as-next r l b e = if-not (escapes r.one_line l b) _ _ e

abbrev line : Front → Mark → Line
line front mark = record { front = front; mark = mark }

line-is : {f g : Front} {m n : Mark} → f ≡ g → m ≡ n → line f m ≡ line g n
line-is p q = λ i. line (p i) (q i)

no-kept : (r : Rules) (b : ℕ) (cs : List ℕ) → (b == 27) ≡ false → kept_len r b cs ≡ 0
no-kept r b cs e = if-not (r.keeps_colours && b == 27) _ _ (and-false r.keeps_colours (b == 27) e)

stays-space : (r : Rules) → Stays r (line White Nothing) 32
stays-space r =
    let e : escapes r.one_line (line White Nothing) 32 ≡ false = rw (and-false r.one_line false refl) refl in
    record { low = refl; as_it_is = as-written r (line White Nothing) 32 e; same = as-next r (line White Nothing) 32 e; no_escape = refl }

stays-inside : (r : Rules) (b : ℕ) → is_plain b ≡ true → Stays r (line Inside Nothing) b
stays-inside r b h =
    let facts = plain-char r.one_line b h in
    record {
      low = facts.0;
      as_it_is = as-written r (line Inside Nothing) b facts.3;
      same = as-next r (line Inside Nothing) b facts.3
          ∙ line-is (if-not (b == 10) White Inside (not-true (b == 10) facts.1))
          (if-not (b == 35 && not r.for_terminal) Hash Nothing (ap (λ (d : Bool). d && not r.for_terminal) (not-true (b == 35) facts.2)));
      no_escape = facts.4;
    }

stays-at : (r : Rules) (front : Front) (mark : Mark) (b : ℕ) → stays (line front mark) b ≡ true → Stays r (line front mark) b
stays-at r White Nothing b h = let is : b ≡ 32 = grind (arith, nat_tests, h) in subst (Stays r (line White Nothing)) (sym is) (stays-space r)
stays-at r Inside Nothing b h = stays-inside r b h
stays-at r Colon Nothing b h = absurd (true≢false (sym h))
stays-at r Command Nothing b h = absurd (true≢false (sym h))
stays-at r front Hash b h = absurd (true≢false (sym h))
stays-at r front Hashes b h = absurd (true≢false (sym h))
stays-at r front Marker b h = absurd (true≢false (sym h))

pub record Run (r : Rules) (l : Line) (run cs : List ℕ) : Type 0 where
  pub pushed_is : run ++ pushed r l 0 cs ≡ pushed r l 0 (run ++ cs)
  pub ends_is : ends r l 0 cs ≡ ends r l 0 (run ++ cs)
  pub has_is : has_kept r cs ≡ has_kept r (run ++ cs)

pub stays-run : (r : Rules) (l : Line) (run cs : List ℕ) → list_all (stays l) run ≡ true → Run r l run cs
stays-run r l [] cs h = record { pushed_is = refl; ends_is = refl; has_is = refl }
stays-run r l (b ∷ run) cs h =
    let parts = and_parts (stays l b) (list_all (stays l) run) h in
    let s = stays-at r l.front l.mark b parts.0 in
    let more = stays-run r l run cs parts.1 in
    let none = no-kept r b (run ++ cs) s.no_escape in
    record {
      pushed_is = ap (λ k. b ∷ k) more.pushed_is
          ∙ (ap (λ w. w ++ pushed r l 0 (run ++ cs)) (sym s.as_it_is)
          ∙ (ap (λ k. written r l b ++ pushed r k 0 (run ++ cs)) (sym s.same) ∙ sym (pushed-char r l b (run ++ cs) none)));
      ends_is = more.ends_is ∙ (ap (λ k. ends r k 0 (run ++ cs)) (sym s.same) ∙ sym (ends-char r l b (run ++ cs) none));
      has_is = more.has_is ∙ sym (has-char r b (run ++ cs) none);
    }

pub stays-low : (r : Rules) (l : Line) (run : List ℕ) → list_all (stays l) run ≡ true → list_all (λ c. nat_lt c 128) run ≡ true
stays-low r l run h = all-weaker (stays l) (λ c. nat_lt c 128) (λ c e. (stays-at r l.front l.mark c e).low) run h

-- a run at the front of the bytes of a text
pub record Front-run (r : Rules) (l : Line) (text : List ℕ) (n : ℕ) : Type 0 where
  pub boundary : IsCharBoundary text n
  pub as_chars : chars (take n text) ≡ take n text
  pub pushed_is : take n text ++ pushed r l 0 (chars (drop n text)) ≡ pushed r l 0 (chars text)
  pub ends_is : ends r l 0 (chars (drop n text)) ≡ ends r l 0 (chars text)
  pub has_is : has_kept r (chars (drop n text)) ≡ has_kept r (chars text)

low-ascii : (run : List ℕ) → list_all (λ c. nat_lt c 128) run ≡ true → IsAscii run
low-ascii run h = IsAscii-from_all run (all-below (λ c. nat_lt c 128) (λ c e. grind (arith, nat_tests, e)) run h)

pub front-run : (r : Rules) (l : Line) (text : List ℕ) (n : ℕ) → IsUtf8 text → n ≤ length text → list_all (stays l) (take n text) ≡ true → Front-run r l text n
front-run r l text n utf8 le h =
    let low = stays-low r l (take n text) h in
    let ascii = low-ascii (take n text) low in
    let run = stays-run r l (take n text) (chars (drop n text)) h in
    let whole = sym (ascii-chars (take n text) (drop n text) low) ∙ ap chars (take-append-drop n text) in
    record {
      boundary = IsCharBoundary-from_take text n utf8 le (IsUtf8-from_ascii (take n text) ascii);
      as_chars = chars-IsAscii (take n text) ascii;
      pushed_is = run.pushed_is ∙ ap (pushed r l 0) whole;
      ends_is = run.ends_is ∙ ap (ends r l 0) whole;
      has_is = run.has_is ∙ ap (has_kept r) whole;
    }

-- a range from the front on
pub range-front : (n : ℕ) (xs part : List ℕ) → part ≡ take (n - 0) xs → part ≡ take n xs
range-front n xs part is = grind arith

-- one step of the loop that writes
pub text-char : (r : Rules) (l m : Line) (c n : ℕ) (tail t u v run rest : List ℕ) → m ≡ next r l c → kept_len r c (chars tail) ≡ 0
    → u ≡ t ++ written r l c → v ≡ u ++ chars run → run ≡ take n tail → rest ≡ drop n tail → Front-run r m tail n
    → v ++ pushed r m 0 (chars rest) ≡ t ++ pushed r l 0 (c ∷ chars tail)
text-char r l m c n tail t u v run rest is none p q cut left k =
    let more = pushed r m 0 (chars (drop n tail)) in
    let all = pushed r m 0 (chars tail) in
    ap (λ x. x ++ pushed r m 0 (chars rest)) (q ∙ ap (λ x. u ++ chars x) cut)
    ∙ (ap (λ x. (u ++ chars (take n tail)) ++ pushed r m 0 (chars x)) left
    ∙ (ap (λ x. (u ++ x) ++ more) k.as_chars
    ∙ (append_assoc u (take n tail) more
    ∙ (ap (λ x. u ++ x) k.pushed_is
    ∙ (ap (λ x. x ++ all) p
    ∙ (append_assoc t (written r l c) all
    ∙ (ap (λ x. t ++ (written r l c ++ pushed r x 0 (chars tail))) is ∙ ap (λ x. t ++ x) (sym (pushed-char r l c (chars tail) none)))))))))

pub text-kept : (r : Rules) (l : Line) (c n : ℕ) (tail t u v run rest : List ℕ) → n ≡ kept_len r c (chars tail) → 0 < n
    → u ≡ t ++ c ∷ [] → v ≡ u ++ chars run → run ≡ take n tail → rest ≡ drop n tail → Cut tail n
    → v ++ pushed r l 0 (chars rest) ≡ t ++ pushed r l 0 (c ∷ chars tail)
text-kept r l c n tail t u v run rest e some p q cut left k =
    let cs = chars (drop n tail) in
    let more = pushed r l 0 cs in
    ap (λ x. x ++ pushed r l 0 (chars rest)) (q ∙ ap (λ x. u ++ chars x) cut)
    ∙ (ap (λ x. (u ++ chars (take n tail)) ++ pushed r l 0 (chars x)) left
    ∙ (ap (λ x. (u ++ x) ++ more) k.as_chars
    ∙ (append_assoc u (take n tail) more
    ∙ (ap (λ x. x ++ (take n tail ++ more)) p
    ∙ (append_assoc t (c ∷ []) (take n tail ++ more)
    ∙ (ap (λ x. t ++ x) (sym (pushed-kept r l c n (take n tail) cs (e ∙ ap (kept_len r c) k.is) some k.long))
    ∙ ap (λ x. t ++ pushed r l 0 (c ∷ x)) (sym k.is)))))))

-- what is written is clean and has no commands
pub writes-pushed : (k : ℕ) (r : Rules) (l : Line) (cs : List ℕ) → length cs ≤ k → IsReady l → Writes r.for_terminal l (pushed r l 0 cs) (ends r l 0 cs)
writes-pushed k r l [] h ready = writes-nothing r.for_terminal l ready
writes-pushed zero r l (c ∷ cs) h ready = absurd (omega (arith, h))
writes-pushed (suc k) r l (c ∷ cs) h ready =
    let Goal : Bool → Type 0 = λ b. nat_lt 0 (kept_len r c cs) ≡ b → Writes r.for_terminal l
    (if b then c ∷ pushed r l (kept_len r c cs) cs else written r l c ++ pushed r (next r l c) 0 cs)
    (if b then ends r l (kept_len r c cs) cs else ends r (next r l c) 0 cs) in
    let char : Goal false = λ e.
    let w = writes-next r l c ready in
    writes-both w (writes-pushed k r (next r l c) cs (omega (arith, h)) w.ready) in
    let kept : Goal true = λ e.
    let both = found-kept r c cs e in
    let f = both.1 in
    let style = writes-style r.for_terminal l (c ∷ f.run) ready (subst (λ x. IsStyle (x ∷ f.run)) (sym both.0) f.style) in
    let less : length f.rest ≤ k = omega (arith, h, length-append f.run f.rest, ap length f.is) in
    let rest = writes-both style (writes-pushed k r l f.rest less ready) in
    let cut = ap (pushed r l (kept_len r c cs)) f.is ∙ (ap (λ n. pushed r l n (f.run ++ f.rest)) (sym f.long) ∙ pushed-run r l f.run f.rest) in
    let end = ap (ends r l (kept_len r c cs)) f.is ∙ (ap (λ n. ends r l n (f.run ++ f.rest)) (sym f.long) ∙ ends-run r l f.run f.rest) in
    subst (λ t. Writes r.for_terminal l (c ∷ t) (ends r l (kept_len r c cs) cs)) (sym cut)
    (subst (Writes r.for_terminal l (c ∷ (f.run ++ pushed r l 0 f.rest))) (sym end) rest) in
    elim (nat_lt 0 (kept_len r c cs)) as Goal [ true ↦ kept | false ↦ char ] refl

pub writes-text : (r : Rules) (l : Line) (cs : List ℕ) → IsReady l → Writes r.for_terminal l (pushed r l 0 cs) (ends r l 0 cs)
writes-text r l cs ready = writes-pushed (length cs) r l cs (omega arith) ready

-- a text of one line
abbrev pub one_line_rules : Bool → Rules
one_line_rules terminal = record { for_terminal = terminal; one_line = true; keeps_colours = false }

calm-inline : (c : ℕ) → is_calm c ≡ true → is_inline c ≡ true
calm-inline c h =
    let facts = calm-char c h in
    let low : 47 < c = grind (arith, nat_tests, h) in
    let other : not (c == 9 || c == 10) ≡ true = grind (arith, nat_tests) in
    both-true _ _ facts.2 other

inline-written : (t : Bool) (l : Line) (c : ℕ) → list_all is_inline (written (one_line_rules t) l c) ≡ true
inline-written t l c =
    elim (escapes true l c) as (λ b. escapes true l c ≡ b → list_all is_inline (if b then escape c else c ∷ []) ≡ true) [
      | true ↦ λ e. all-weaker is_calm is_inline calm-inline (escape c) (calm-escape c)
      | false ↦ λ e.
          let parts = or-parts _ _ e in
          let hidden = or-parts _ _ parts.1 in
          both-true _ _ (both-true _ _ (ap not hidden.0) (ap not parts.0)) refl
    ] refl

pub inline-pushed : (t : Bool) (l : Line) (cs : List ℕ) → list_all is_inline (pushed (one_line_rules t) l 0 cs) ≡ true
inline-pushed t l [] = refl
inline-pushed t l (c ∷ cs) =
    let r = one_line_rules t in
    ap (list_all is_inline) (pushed-char r l c cs refl)
    ∙ all-both is_inline (written r l c) (pushed r (next r l c) 0 cs) (inline-written t l c) (inline-pushed t (next r l c) cs)

-- free characters
free-escapes : (one_line : Bool) (l : Line) (c : ℕ) → is_free one_line c ≡ true → escapes one_line l c ≡ false
free-escapes one_line l c h =
    let a = and_parts (is_shown c) _ h in
    let b = and_parts (not (one_line && (c == 9 || c == 10))) _ a.1 in
    let d = and_parts (not (c == 58)) (not (c == 91)) b.1 in
    let lines = not-true (one_line && (c == 9 || c == 10)) b.0 in
    let hidden = not-true (is_hidden c) a.0 in
    let colon = and-false (is_colon l.front) (c == 58) (not-true (c == 58) d.0) in
    let bracket = and-false (is_hashes l.mark) (c == 91) (not-true (c == 91) d.1) in
    rw (lines, hidden, colon, bracket) refl

abbrev pub plain_rules : Bool → Bool → Rules
plain_rules terminal one_line = record { for_terminal = terminal; one_line = one_line; keeps_colours = false }

pub pushed-free : (t one_line : Bool) (l : Line) (cs : List ℕ) → list_all (is_free one_line) cs ≡ true → pushed (plain_rules t one_line) l 0 cs ≡ cs
pushed-free t one_line l [] h = refl
pushed-free t one_line l (c ∷ cs) h =
    let r = plain_rules t one_line in
    let parts = and_parts (is_free one_line c) (list_all (is_free one_line) cs) h in
    pushed-char r l c cs refl
    ∙ (ap (λ w. w ++ pushed r (next r l c) 0 cs) (as-written r l c (free-escapes one_line l c parts.0))
    ∙ ap (λ k. c ∷ k) (pushed-free t one_line (next r l c) cs parts.1))
