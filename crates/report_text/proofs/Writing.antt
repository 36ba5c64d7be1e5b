-- What may be written after a line.
use Rattle.std.proofs.Common.{◌≡◌, ◌∙◌, ◌&&◌, ◌==◌, inl, inr, refl, sym, subst, ap, ℕ, Bool, true, false, not, List, [], ◌∷◌, ◌++◌, append-nil, if◌then◌else◌}
use Rattle.std.proofs.lemmas.List.Elements.{All-nil}
use Rattle.std.specs.List.{All, list_all}
use Rattle.report_text.specs.Command.{IsCommand, commands, line_rest}
use Rattle.report_text.specs.Line.{escape, front_after, front_run, is_colon, is_command, is_inline, is_marker, is_shown, line_after, line_inside, line_start, mark_run}
use Rattle.report_text.specs.Safe.{Kept}
use Rattle.report_text.specs.Sequence.{IsClean, IsStyle, is_encoded_target, link_mark, visible}
use Rattle.report_text.specs.Shown.{escapes, next, written}
use Rattle.report_text.specs.declared.line.Front.{Front}
use Rattle.report_text.specs.declared.line.Front.TheVariants.{White, Inside}
use Rattle.report_text.specs.declared.line.Line.{Line}
use Rattle.report_text.specs.declared.line.Mark.{Mark}
use Rattle.report_text.specs.declared.line.Mark.TheVariants.{Nothing}
use Rattle.report_text.specs.declared.shown.Rules.{Rules}
use Rattle.report_text.proofs.Steps.{all-weaker, and-false, calm-char, calm-escape, commands-append, front-step, front_run-append, is_calm, is_quiet, mark-step, mark_run-append, or-parts, quiet-commands, quiet-front, quiet-mark, slash-front, slash-mark}
use Rattle.report_text.proofs.Visible.{IsWhole, clean-both, clean-nil, clean-piece, clean-shown, shown-visible, shown-whole, unseen-link, unseen-style, whole-both}

-- nothing that was written is a command or a marker yet
abbrev pub IsReady : Line → Type 0
IsReady l = (is_command l.front ≡ false) × (is_marker l.mark ≡ false)

-- a text that is clean and has no commands after a line, and the line after it
pub record Writes (t : Bool) (l : Line) (text : List ℕ) (end : Line) : Type 0 where
  pub clean : IsClean text
  pub whole : IsWhole text
  pub front : end.front ≡ front_run t l.front (visible text)
  pub mark : end.mark ≡ mark_run t l.mark (visible text)
  pub ready : IsReady end
  pub none : t ≡ false → commands l.front (visible text) ≡ []

seen : {t : Bool} {l end : Line} (text v : List ℕ) → IsClean text → IsWhole text → visible text ≡ v → end.front ≡ front_run t l.front v
    → end.mark ≡ mark_run t l.mark v → IsReady end → (t ≡ false → commands l.front v ≡ []) → Writes t l text end
seen {t} {l} {end} text v clean whole is f m ready none = record {
  clean = clean;
  whole = whole;
  front = f ∙ ap (front_run t l.front) (sym is);
  mark = m ∙ ap (mark_run t l.mark) (sym is);
  ready = ready;
  none = λ e. ap (commands l.front) is ∙ none e;
}

pub writes-nothing : (t : Bool) (l : Line) → IsReady l → Writes t l [] l
writes-nothing t l ready = record { clean = clean-nil; whole = λ more. refl; front = refl; mark = refl; ready = ready; none = λ e. refl }

pub writes-both : {t : Bool} {l m n : Line} {xs ys : List ℕ} → Writes t l xs m → Writes t m ys n → Writes t l (xs ++ ys) n
writes-both {t} {l} {m} {n} {xs} {ys} a b = record {
  clean = clean-both a.clean b.clean;
  whole = whole-both xs ys a.whole b.whole;
  front = b.front ∙ (ap (λ f. front_run t f (visible ys)) a.front
      ∙ (sym (front_run-append t l.front (visible xs) (visible ys)) ∙ ap (front_run t l.front) (sym (a.whole ys))));
  mark = b.mark ∙ (ap (λ f. mark_run t f (visible ys)) a.mark
      ∙ (sym (mark_run-append t l.mark (visible xs) (visible ys)) ∙ ap (mark_run t l.mark) (sym (a.whole ys))));
  ready = b.ready;
  none = λ e.
      let is = a.front ∙ ap (λ b. front_run b l.front (visible xs)) e in
      ap (commands l.front) (a.whole ys)
      ∙ (commands-append l.front (visible xs) (visible ys) (subst (λ (f : Front). is_command f ≡ false) is a.ready.0)
      ∙ (ap (λ k. k ++ commands (front_run false l.front (visible xs)) (visible ys)) (a.none e)
      ∙ subst (λ f. commands f (visible ys) ≡ []) is (b.none e)));
}

no-command : (s : Front) (c : ℕ) → (is_colon s && c == 58) ≡ false → commands s (c ∷ []) ≡ []
no-command s c e = rw e

pub writes-char : (t one_line : Bool) (l : Line) (c : ℕ) → IsReady l → escapes one_line l c ≡ false → Writes t l (c ∷ []) (line_after t l c)
writes-char t one_line l c ready e =
    let parts = or-parts _ _ ((or-parts _ _ e).1) in
    let ends = or-parts _ _ parts.1 in
    let shown : list_all is_shown (c ∷ []) ≡ true = ap (λ b. not b && true) parts.0 in
    let text = c ∷ [] in
    seen text text (clean-shown text shown) (shown-whole text shown) (shown-visible text shown) refl refl
    (front-step t l.front c ready.0 ends.0, mark-step t l.mark c ready.1 ends.1) (λ _. no-command l.front c ends.0)

slash-commands : (s : Front) (cs : List ℕ) → front_after false s 92 ≡ Inside → list_all is_quiet cs ≡ true → commands s (92 ∷ cs) ≡ []
slash-commands s cs first h =
    ap (λ (b : Bool). if b then line_rest cs ∷ commands (front_after false s 92) cs else commands (front_after false s 92) cs) (and-false (is_colon s) (92
    == 58) refl)
    ∙ (ap (λ f. commands f cs) first ∙ quiet-commands cs h)

writes-slash : (t : Bool) (l : Line) (cs : List ℕ) → IsReady l → list_all is_calm (92 ∷ cs) ≡ true → Writes t l (92 ∷ cs) line_inside
writes-slash t l cs ready h =
    let shown = all-weaker is_calm is_shown (λ c e. (calm-char c e).2) (92 ∷ cs) h in
    let quiet = all-weaker is_calm is_quiet (λ c e. (calm-char c e).1) cs h in
    let text = 92 ∷ cs in
    seen text text (clean-shown text shown) (shown-whole text shown) (shown-visible text shown)
    (sym (ap (λ f. front_run t f cs) (slash-front t l.front ready.0) ∙ quiet-front t cs quiet))
    (sym (ap (λ m. mark_run t m cs) (slash-mark t l.mark ready.1) ∙ quiet-mark t cs quiet))
    (refl, refl) (λ _. slash-commands l.front cs (slash-front false l.front ready.0) quiet)

pub writes-escape : (t : Bool) (l : Line) (c : ℕ) → IsReady l → Writes t l (escape c) line_inside
unfolding escape
writes-escape t l c ready = writes-slash t l _ ready (calm-escape c)

pub writes-next : (r : Rules) (l : Line) (c : ℕ) → IsReady l → Writes r.for_terminal l (written r l c) (next r l c)
writes-next r l c ready =
    elim (escapes r.one_line l c) as (λ b. escapes r.one_line l c ≡ b
    → Writes r.for_terminal l (if b then escape c else c ∷ []) (if b then line_inside else line_after r.for_terminal l c)) [
      | true ↦ λ e. writes-escape r.for_terminal l c ready
      | false ↦ λ e. writes-char r.for_terminal r.one_line l c ready e
    ] refl

pub writes-style : (t : Bool) (l : Line) (piece : List ℕ) → IsReady l → IsStyle piece → Writes t l piece l
writes-style t l piece ready s =
    let hidden = unseen-style s.parameters s.are in
    let whole = subst IsWhole (sym s.is) hidden.whole in
    seen piece [] (clean-piece piece (inr (inl s))) whole (ap visible s.is ∙ hidden.none) refl refl ready (λ _. refl)

pub writes-link : {t : Bool} {l end : Line} (target label : List ℕ) → list_all is_encoded_target target ≡ true → list_all is_inline label ≡ true
    → Writes t l label end → Writes t l (link_mark target ++ (label ++ link_mark [])) end
writes-link {t} {l} {end} target label encoded inline w =
    let start = unseen-link target encoded in
    let stop = unseen-link [] refl in
    let tail = label ++ link_mark [] in
    let whole = whole-both (link_mark target) tail start.whole (whole-both label (link_mark []) w.whole stop.whole) in
    let is = start.whole tail ∙ (ap (λ k. k ++ visible tail) start.none
    ∙ (w.whole (link_mark []) ∙ (ap (λ k. visible label ++ k) stop.none ∙ append-nil (visible label)))) in
    seen (link_mark target ++ tail) (visible label)
    (clean-piece _ (inr (inr (record { target = target; label = label; is = refl; encoded = encoded; in_line = inline }))))
    whole is w.front w.mark w.ready w.none

-- a report with more, which has no commands
line-is : {l : Line} {f : Front} {m : Mark} → l.front ≡ f → l.mark ≡ m → l ≡ record { front = f; mark = m }
line-is p q = λ i. record { front = p i; mark = q i }

pub record Grows (t : Bool) (old new : List ℕ) (end : Line) : Type 0 where
  pub kept : Kept t new end
  pub same : t ≡ false → commands White (visible new) ≡ commands White (visible old)

pub grows : {t : Bool} {old text : List ℕ} {l end : Line} → Kept t old l → Writes t l text end → Grows t old (old ++ text) end
grows {t} {old} {text} {l} {end} k w =
    let front = ap (λ (x : Line). x.front) k.line_is in
    let mark = ap (λ (x : Line). x.mark) k.line_is in
    let Same : Type 0 = t ≡ false → commands White (visible (old ++ text)) ≡ commands White (visible old) in
    let same : Same = λ e.
    let is = front ∙ ap (λ b. front_run b White (visible old)) e in
    ap (commands White) (k.whole text)
    ∙ (commands-append White (visible old) (visible text) (subst (λ (f : Front). is_command f ≡ false) is k.no_command)
    ∙ (ap (λ m. commands White (visible old) ++ m) (subst (λ f. commands f (visible text) ≡ []) is (w.none e)) ∙ append-nil (commands White (visible old)))) in
    record {
      kept = record {
        line_is = line-is
            (w.front ∙ (ap (λ f. front_run t f (visible text)) front
            ∙ (sym (front_run-append t White (visible old) (visible text)) ∙ ap (front_run t White) (sym (k.whole text)))))
            (w.mark ∙ (ap (λ f. mark_run t f (visible text)) mark
            ∙ (sym (mark_run-append t Nothing (visible old) (visible text)) ∙ ap (mark_run t Nothing) (sym (k.whole text)))));
        no_command = w.ready.0;
        no_marker = w.ready.1;
        clean = clean-both k.clean w.clean;
        whole = whole-both old text k.whole w.whole;
        each = λ e. subst (All IsCommand) (sym (same e)) (k.each e);
      };
      same = same;
    }

pub kept-nil : (t : Bool) → Kept t [] line_start
kept-nil t = record {
  line_is = refl;
  no_command = refl;
  no_marker = refl;
  clean = clean-nil;
  whole = λ more. refl;
  each = λ e. All-nil IsCommand;
}
