-- What a safe text has nowhere.
use Rattle.std.proofs.Common.{◌≡◌, ◌∙◌, ◌==◌, arith, inl, inr, refl, sym, subst, ap, ℕ, Bool, true, false, true≢false, List, [], ◌∷◌, ◌++◌, codes, if◌then◌else◌}
use Rattle.std.proofs.lemmas.Bool.{and_parts}
use Rattle.std.specs.Char.{is_whitespace}
use Rattle.std.specs.List.{Contains, list_all}
use Rattle.report_text.specs.Command.{commands, line_rest}
use Rattle.report_text.specs.Line.{front_run, is_marker, mark_run}
use Rattle.report_text.specs.Safe.{Absent, AllAmong, EndsLine, Kept, Safe}
use Rattle.report_text.specs.Sequence.{visible}
use Rattle.report_text.specs.declared.line.Front.{Front}
use Rattle.report_text.specs.declared.line.Front.TheVariants.{White}
use Rattle.report_text.specs.declared.line.Line.{Line}
use Rattle.report_text.specs.declared.line.Mark.{Mark}
use Rattle.report_text.specs.declared.line.Mark.TheVariants.{Nothing, Hash, Hashes, Marker}
use Rattle.report_text.proofs.Steps.{front_run-append, later-commands, mark_run-append}
use Rattle.report_text.proofs.Writing.{kept-nil}

at-line : (before : List ℕ) → EndsLine before → front_run false White before ≡ White
at-line before h = elim h [
  | inl e ↦ ap (front_run false White) e
  | inr w ↦ ap (front_run false White) w.1 ∙ front_run-append false White w.0 (10 ∷ [])
]

if-white : (b d : Bool) (y : Front) → d ≡ true → (if b then White else (if d then White else y)) ≡ White
if-white true d y e = refl
if-white false d y e = rw e

at-white : (white : List ℕ) → list_all is_whitespace white ≡ true → front_run false White white ≡ White
at-white [] h = refl
at-white (c ∷ cs) h =
    let parts = and_parts (is_whitespace c) (list_all is_whitespace cs) h in
    ap (λ s. front_run false s cs) (if-white (c == 10) (is_whitespace c) _ parts.0) ∙ at-white cs parts.1

pub all-among : (text : List ℕ) → AllAmong (commands White text) text
all-among text before white after ends all is =
    let third : Contains (commands White (58 ∷ 58 ∷ after)) (line_rest after) = (0, omega arith, refl) in
    let second = later-commands White white (58 ∷ 58 ∷ after) (line_rest after) (rw (at-white white all) third) in
    let first = later-commands White before (white ++ 58 ∷ 58 ∷ after) (line_rest after) (rw (at-line before ends) second) in
    subst (λ t. Contains (commands White t) (line_rest after)) (sym is) first

marker-stays : (cs : List ℕ) → mark_run false Marker cs ≡ Marker
marker-stays [] = refl
marker-stays (c ∷ cs) = marker-stays cs

pub absent : (text word : List ℕ) → ((s : Mark) → mark_run false s word ≡ Marker) → is_marker (mark_run false Nothing text) ≡ false → Absent word text
absent text word marks none before after is =
    let run : mark_run false Nothing text ≡ Marker =
    ap (mark_run false Nothing) is ∙ (mark_run-append false Nothing before (word ++ after)
    ∙ (mark_run-append false (mark_run false Nothing before) word after
    ∙ (ap (λ s. mark_run false s after) (marks (mark_run false Nothing before)) ∙ marker-stays after))) in
    true≢false (ap is_marker (sym run) ∙ none)

github : (s : Mark) → mark_run false s (codes "##[") ≡ Marker
github Nothing = refl
github Hash = refl
github Hashes = refl
github Marker = refl

azure : (s : Mark) → mark_run false s (codes "##vso[") ≡ Marker
azure Nothing = refl
azure Hash = refl
azure Hashes = refl
azure Marker = refl

teamcity : (s : Mark) → mark_run false s (codes "##teamcity[") ≡ Marker
teamcity Nothing = refl
teamcity Hash = refl
teamcity Hashes = refl
teamcity Marker = refl

pub safe : {t : Bool} {text : List ℕ} {l : Line} → Kept t text l → Safe t text
safe {t} {text} {l} k =
    let v = visible text in
    let silent = λ (e : t ≡ false). subst (λ b. is_marker (mark_run b Nothing v) ≡ false) e (ap (λ (x : Line). is_marker x.mark) (sym k.line_is) ∙
    k.no_marker) in
    record {
      clean = k.clean;
      quiet = λ e. record {
        all_among = all-among v;
        each = k.each e;
        no_github_marker = absent v (codes "##[") github (silent e);
        no_azure_marker = absent v (codes "##vso[") azure (silent e);
        no_teamcity_marker = absent v (codes "##teamcity[") teamcity (silent e);
      };
    }

pub safe-nil : (t : Bool) → Safe t []
safe-nil t = safe (kept-nil t)
