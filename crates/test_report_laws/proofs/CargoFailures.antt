-- Failures of cargo while no suite is open.
use Rattle.std.proofs.Common.{◌≡◌, ◌∙◌, ◌≤◌, ◌<◌, ◌+◌, ◌++◌, ◌∷◌, [], ℕ, List, Bool, true, false, Option, Some, None, ap, arith, length, refl, subst, sym}
use Rattle.std.specs.List.{count_by, sum_by}
use Rattle.std.specs.Option.{option_map_or}
use Rattle.std.specs.Prelude.{◌==◌, ◌&&◌, not}
use Rattle.std.proofs.lemmas.Bool.{cond_both, ltb-true}
use Rattle.std.proofs.lemmas.List.Sums.{sum_by-append}
use Rattle.test_report_events.specs.Event.{AllEndEarly, CargoFails, CommandOver, CommandStarts, Cancels, DamagedLine, EventView, HeadingLine, Prints, ProgramContradicts}
use Rattle.test_report_events.specs.declared.event.CargoFailure.{CargoFailure}
use Rattle.test_report_events.specs.declared.event.CargoFailure.TheVariants.{Build, Tests, Run}
use Rattle.test_report_run_notes.specs.Note.{CargoSays, CargoView, Contradicts, NoteView}
use Rattle.test_report_laws.proofs.Aside.{aside-early, aside-told}
use Rattle.test_report_laws.proofs.CargoReports.{if_some, none-reported, only-settled_at, ready, whole}
use Rattle.test_report_laws.proofs.CauseCounts.{Bound, bound-after, bound-ready, held-known}
use Rattle.test_report_laws.proofs.FileEnds.{end-parts, reported_run}
use Rattle.test_report_laws.proofs.LineParts.{line-weighs, rest-weighs}
use Rattle.test_report_laws.proofs.OverRuns.{up-to-line}
use Rattle.test_report_laws.proofs.RunCauses.{causes-of, weight}
use Rattle.test_report_laws.specs.Run.{CargoFailureShows}
use Rattle.test_report_laws.specs.Whole.{IsLineOf, all_notes, notes_of, run_after, run_after_files, run_at_end}
use Rattle.test_report_run.specs.Events.{is_after_report, is_event}
use Rattle.test_report_run.specs.Others.{after_failure}
use Rattle.test_report_run.specs.Suite.{SuiteState}
use Rattle.test_report_run.specs.FileEnd.{after_file, file_notes, held_told}
use Rattle.test_report_run.specs.Over.{nothing_known}
use Rattle.test_report_run.specs.Run.{RunSettings, RunState, Step, after, cargo_contradicts, cargo_fails, early_end, is_cause, is_explained, notes_at, report_told, run_start, settled, settled_at, step, told, with_report}

-- a command that has started is known up to the end of the file
of-settled : (r : RunState) (e : EventView) → (ready r e).of_command ≡ r.of_command
of-settled r e = ap (λ (x : RunState). x.of_command) (only-settled_at r e).run_is

of-told : (r : RunState) (e : EventView) → (told r e).run.of_command ≡ false → r.of_command ≡ false
of-told r (HeadingLine name path) h = h
of-told r (CargoFails f line plain) h = cond_both (cargo_contradicts r f) (with_report r plain) r
    (λ (x : RunState). (record x { others = after_failure r.others }).of_command ≡ false → r.of_command ≡ false) (λ _ h. h) (λ _ h. h) h
of-told r (Prints line plain) h = h
of-told r (DamagedLine text) h = h
of-told r (CommandStarts names) h = absurd (cc)
of-told r (Cancels why) h = h
of-told r (CommandOver end) h = h
of-told r (AllEndEarly end) h = sym (ap (λ (x : RunState). x.of_command) (aside-early (early_end r end) r)) ∙ h
of-told r (ProgramContradicts fault) h = h
of-told r e h = sym (ap (λ (x : RunState). x.of_command) (aside-told r e refl)) ∙ h

of-after : (r : RunState) (e : EventView) → (after r e).of_command ≡ (told (ready r e) e).run.of_command
of-after r (Prints line plain) = refl
of-after r e = refl

of-line : (r : RunState) (e : EventView) → (after r e).of_command ≡ false → r.of_command ≡ false
of-line r e h = sym (of-settled r e) ∙ of-told (ready r e) e (sym (of-after r e) ∙ h)

of-rest : (r : RunState) (rest : List EventView) → (run_after r rest).of_command ≡ false → r.of_command ≡ false
of-rest r [] h = h
of-rest r (e ∷ rest) h = of-line r e (of-rest (after r e) rest h)

-- without a command no failure of cargo waits for its end
abbrev NoneHeld : RunState → Type 0
NoneHeld r = r.of_command ≡ false → r.held ≡ []

held-settled : (r : RunState) (heard : Bool) → NoneHeld r → NoneHeld (settled r heard).run
held-settled r heard i = by-report r.reported
  where
    by-report : (o : Option CargoView) → NoneHeld (option_map_or (report_told r heard) o (step r [])).run
    by-report None = i
    by-report (Some report) = cond_both r.of_command (step (record r { reported = None; held = r.held ++ whole r heard report ∷ [] }) [])
        (step (record r { reported = None }) (Contradicts (CargoSays (whole r heard report)) ∷ [])) (λ (t : Step). NoneHeld t.run)
        (λ some none. absurd (cc)) (λ _. i)

held-ready : (r : RunState) (e : EventView) → NoneHeld r → NoneHeld (ready r e)
held-ready r e i = cond_both (is_after_report e) (settled r (is_event e)) (step r []) (λ (t : Step). NoneHeld t.run)
    (λ _. held-settled r (is_event e) i) (λ _. i)

held-told : (r : RunState) (e : EventView) → (told r e).run.held ≡ r.held
held-told r (HeadingLine name path) = refl
held-told r (CargoFails f line plain) = cond_both (cargo_contradicts r f) (with_report r plain) r
    (λ (x : RunState). (record x { others = after_failure r.others }).held ≡ r.held) (λ _. refl) (λ _. refl)
held-told r (Prints line plain) = refl
held-told r (DamagedLine text) = refl
held-told r (CommandStarts names) = refl
held-told r (Cancels why) = refl
held-told r (CommandOver end) = refl
held-told r (AllEndEarly end) = ap (λ (x : RunState). x.held) (aside-early (early_end r end) r)
held-told r (ProgramContradicts fault) = refl
held-told r e = ap (λ (x : RunState). x.held) (aside-told r e refl)

held-after : (r : RunState) (e : EventView) → (after r e).held ≡ (told (ready r e) e).run.held
held-after r (Prints line plain) = refl
held-after r e = refl

held-line : (r : RunState) (e : EventView) → NoneHeld r → NoneHeld (after r e)
held-line r e i none =
    held-after r e ∙ (held-told (ready r e) e ∙ held-ready r e i (of-told (ready r e) e (sym (of-after r e) ∙ none)))

held-end : (r : RunState) → (after_file r).held ≡ []
held-end r = ap (λ (x : RunState). x.held) (aside-early nothing_known (reported_run r)) ∙ held-known (settled r false).run

none-held : (settings : RunSettings) (files : List (List EventView)) (events : List EventView)
    → NoneHeld (run_after (run_after_files (run_start settings) files) events)
none-held settings = up-to-line (λ n notes r. NoneHeld r) (λ n notes r. NoneHeld r) (λ e. 0) (λ n notes r i. i) (λ n notes r e i. held-line r e i)
    (λ n notes r i none. held-end r) settings (λ none. refl)

-- the last failure of cargo becomes known, or is still not known
abbrev last_waits : RunState → ℕ
last_waits r = if_some r.reported

settled-shows : (r : RunState) (heard : Bool) → r.of_command ≡ false → last_waits r ≤ sum_by weight (settled r heard).notes
settled-shows r heard none = by-report r.reported
  where
    by-report : (o : Option CargoView)
        → if_some o ≤ sum_by weight (option_map_or (report_told r heard) o (step r [])).notes
    by-report None = omega arith
    by-report (Some report) = cond_both r.of_command (step (record r { reported = None; held = r.held ++ whole r heard report ∷ [] }) [])
        (step (record r { reported = None }) (Contradicts (CargoSays (whole r heard report)) ∷ [])) (λ (t : Step). 1 ≤ sum_by weight t.notes)
        (λ some. absurd (cc)) (λ _. omega arith)

ready-shows : (r : RunState) (e : EventView) → r.of_command ≡ false → last_waits r ≤ sum_by weight (settled_at r e).notes + last_waits (ready r e)
ready-shows r e none = cond_both (is_after_report e) (settled r (is_event e)) (step r [])
    (λ (t : Step). last_waits r ≤ sum_by weight t.notes + last_waits t.run)
    (λ _. omega (arith, settled-shows r (is_event e) none)) (λ _. omega arith)

told-waits : (r : RunState) (e : EventView) → last_waits (ready r e) ≤ last_waits (told (ready r e) e).run
told-waits r (HeadingLine name path) = omega arith
told-waits r (CargoFails f line plain) =
    omega (arith, ap if_some (none-reported r false))
told-waits r (Prints line plain) = omega arith
told-waits r (DamagedLine text) = omega arith
told-waits r (CommandStarts names) = omega arith
told-waits r (Cancels why) = omega arith
told-waits r (CommandOver end) = omega arith
told-waits r (AllEndEarly end) = omega (arith, ap last_waits (aside-early (early_end r end) r))
told-waits r (ProgramContradicts fault) = omega arith
told-waits r e = omega (arith, ap last_waits (aside-told (ready r e) e refl))

after-waits : (r : RunState) (e : EventView) → last_waits (after r e) ≡ last_waits (told (ready r e) e).run
after-waits r (Prints line plain) = refl
after-waits r e = refl

line-shows : (r : RunState) (e : EventView) → r.of_command ≡ false → last_waits r ≤ sum_by weight (notes_at r e) + last_waits (after r e)
line-shows r e none = omega (
  arith,
  ready-shows r e none,
  told-waits r e,
  after-waits r e,
  sum_by-append weight (settled_at r e).notes (told (ready r e) e).notes,
)

rest-shows : (r : RunState) (rest : List EventView) → (run_after r rest).of_command ≡ false
    → last_waits r ≤ sum_by weight (notes_of r rest) + sum_by weight (file_notes (run_after r rest))
rest-shows r [] none =
    let first = settled r false in
    omega (arith, settled-shows r false none, sum_by-append weight first.notes (held_told first.run).notes, end-parts weight r)
rest-shows r (e ∷ rest) none = omega (
  arith,
  line-shows r e (of-rest r (e ∷ rest) none),
  rest-shows (after r e) rest none,
  sum_by-append weight (notes_at r e) (notes_of (after r e) rest),
)

-- a failure of cargo is explained only if there is a failed test or a contradiction
some-cause : (r : RunState) (f : CargoFailure) → is_explained r f ≡ true → 0 < r.causes
some-cause r Build h = absurd (cc)
some-cause r Tests h = omega (arith, ltb-true r.causes_at_cargo r.causes h)
some-cause r Run h = omega (arith, ltb-true r.causes_at_file r.causes h)

-- so if it does not wait, something did
not-both : (none explained : Bool) → none ≡ true → (none && not explained) ≡ false → explained ≡ true
not-both true true h k = refl
not-both true false h k = absurd (cc)
not-both false explained h k = absurd (cc)

cargo-waits : (r : RunState) (f : CargoFailure) (line : List ℕ) → r.suites ≡ [] → 0 < last_waits (cargo_fails r f line) + r.causes
cargo-waits r f line none =
    let empty : (length r.suites == 0) ≡ true = ap (λ (suites : List SuiteState). length suites == 0) none in
    cond_both (cargo_contradicts r f) (with_report r line) r
    (λ (x : RunState). 0 < last_waits (record x { others = after_failure r.others }) + r.causes) (λ _. omega arith)
    (λ quiet. omega (arith, some-cause r f (not-both (length r.suites == 0) (is_explained r f) empty quiet)))

module _ (settings : RunSettings) (files : List (List EventView)) (r : RunState) (f : CargoFailure) (line plain : List ℕ)
    (at : IsLineOf settings files r (CargoFails f line plain)) (none : r.suites ≡ []) (never : (run_at_end at).of_command ≡ false) where
  abbrev e : EventView
  e = CargoFails f line plain

  abbrev known : List NoteView
  known = all_notes settings at.before ++ notes_of (run_after_files (run_start settings) at.before) at.lines

  nothing-held : length (ready r e).held ≡ 0
  nothing-held =
      let before : NoneHeld r = subst NoneHeld (sym at.run_is) (none-held settings at.before at.lines) in
      ap (λ (held : List CargoView). length held) (held-ready r e before (of-settled r e ∙ of-rest r (e ∷ at.rest) never))

  pub some-shown : 0 < count_by is_cause (all_notes settings files)
  some-shown =
      let now = ready r e in
      let bound : Bound known r = subst (Bound known) (sym at.run_is) (bound-after settings at.before at.lines) in
      let suites : now.suites ≡ [] = ap (λ (x : RunState). x.suites) (only-settled_at r e).run_is ∙ none in
      let lines = notes_of (run_after_files (run_start settings) at.before) at.lines in
      omega (
        arith,
        cargo-waits now f plain suites,
        after-waits r e,
        rest-shows (after r e) at.rest never,
        rest-weighs weight settings files r e at,
        bound-ready known r e bound,
        ap if_some (none-reported r false),
        nothing-held,
        line-weighs weight settings files r e at,
        sum_by-append weight known (settled_at r e).notes,
        sum_by-append weight (settled_at r e).notes (told now e).notes,
        sum_by-append weight (all_notes settings at.before) lines,
        sum_by-append weight (all_notes settings at.before) (lines ++ notes_at r e),
        sum_by-append weight lines (notes_at r e),
      )

pub cargo-shows : CargoFailureShows
cargo-shows settings files r f line plain at none never = omega
    (arith, some-shown settings files r f line plain at none never, causes-of (all_notes settings files))
