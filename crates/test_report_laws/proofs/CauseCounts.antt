-- No more causes are counted in a run than failed tests and contradictions are known, and failures of cargo wait.
use Rattle.std.proofs.Common.{◌≡◌, ◌∙◌, ◌≤◌, ◌+◌, ◌++◌, ℕ, List, [], cond, false, ap, arith, length, refl}
use Rattle.std.specs.List.{count_by, sum_by}
use Rattle.std.specs.Prelude.{◌-◌}
use Rattle.std.proofs.lemmas.Bool.{cond_both}
use Rattle.std.proofs.lemmas.List.Sums.{sum_by-append, sum_by-le-sum_by}
use Rattle.test_report_events.specs.Event.{AllEndEarly, CargoFails, CommandOver, CommandStarts, Cancels, DamagedLine, EventView, HeadingLine, Prints, ProgramContradicts}
use Rattle.test_report_run_notes.specs.Note.{CargoView, Contradicts, NoteView, TestIs, ended_well, is_new_contradiction}
use Rattle.test_report_laws.proofs.Aside.{aside-early, aside-told}
use Rattle.test_report_laws.proofs.CargoReports.{Counted, counted-cargo, counted-settled_at, counted-told, if_some, none-reported, only-settled_at, only-told, ready, report_notes, reports-none, waiting}
use Rattle.test_report_laws.proofs.FileEnds.{counted_run, end-parts, reported_run, suites_over}
use Rattle.test_report_laws.proofs.OverRuns.{up-to-line}
use Rattle.test_report_laws.proofs.RunCauses.{weight}
use Rattle.test_report_laws.proofs.Sums.{one-most}
use Rattle.test_report_laws.specs.Whole.{all_notes, notes_of, run_after, run_after_files}
use Rattle.test_report_run.specs.Over.{nothing_known}
use Rattle.test_report_run.specs.FileEnd.{after_file, command_notes, file_notes, held_reports, held_told, no_event_notes, reports_told}
use Rattle.test_report_run.specs.Run.{RunSettings, RunState, Step, after, early_end, is_cause, is_new_cause, notes_at, run_start, settled, settled_at, step, told}

-- a note that counts when it becomes known
abbrev new : NoteView → ℕ
new note = cond (is_new_cause note) 1 0

new-weighs : (note : NoteView) → new note ≤ weight note
new-weighs (TestIs t) = grind arith
new-weighs (Contradicts d) = one-most (is_new_contradiction d)
new-weighs note = omega arith

new-low : (notes : List NoteView) → sum_by new notes ≤ sum_by weight notes
new-low notes = sum_by-le-sum_by new weight notes new-weighs

-- the causes of a run of which these notes are known
abbrev pub Bound : List NoteView → RunState → Type 0
Bound notes r = r.causes ≤ count_by is_cause notes + waiting r

-- what a line makes known by itself
counted-own : (r : RunState) (e : EventView) → Counted (ready r e) (told (ready r e) e) 0
counted-own r (CargoFails f line plain) = counted-cargo (settled r false).run f plain (none-reported r false)
counted-own r (HeadingLine name path) = λ known low. omega (arith, low)
counted-own r (Prints line plain) = λ known low. omega (arith, low)
counted-own r (DamagedLine text) = λ known low. omega (arith, low)
counted-own r (CommandStarts names) = λ known low. omega (arith, low)
counted-own r (Cancels why) = λ known low. omega (arith, low)
counted-own r (CommandOver end) = λ known low. omega (arith, low)
counted-own r (AllEndEarly end) =
    let same = aside-early (early_end r end) r in
    λ known low. omega (arith, low, ap (λ (x : RunState). x.causes) same, ap (λ (x : RunState). waiting x) same)
counted-own r (ProgramContradicts fault) = λ known low. omega (arith, low)
counted-own r e =
    let same = aside-told (ready r e) e refl in
    λ known low. omega (arith, low, ap (λ (x : RunState). x.causes) same, ap (λ (x : RunState). waiting x) same)

after-causes : (r : RunState) (e : EventView) → (after r e).causes ≡ (told (ready r e) e).run.causes + sum_by new (notes_at r e)
after-causes r (Prints line plain) = refl
after-causes r e = refl

after-waiting : (r : RunState) (e : EventView) → waiting (after r e) ≡ waiting (told (ready r e) e).run
after-waiting r (Prints line plain) = refl
after-waiting r e = refl

pub bound-ready : (notes : List NoteView) (r : RunState) (e : EventView) → Bound notes r → Bound (notes ++ (settled_at r e).notes) (ready r e)
bound-ready notes r e i = omega (
  arith,
  counted-settled_at weight (λ report. refl) r e (sum_by weight notes) i,
  sum_by-append weight notes (settled_at r e).notes,
)

bound-line : (notes : List NoteView) (r : RunState) (e : EventView) → Bound notes r → Bound (notes ++ notes_at r e) (after r e)
bound-line notes r e i =
    let before = (settled_at r e).notes in
    let own = (told (ready r e) e).notes in
    omega (
      arith,
      counted-own r e (sum_by weight (notes ++ before)) (bound-ready notes r e i),
      after-causes r e,
      after-waiting r e,
      reports-none (only-settled_at r e) new (λ report. refl),
      new-low own,
      sum_by-append new before own,
      sum_by-append weight before own,
      sum_by-append weight notes before,
      sum_by-append weight notes (notes_at r e),
    )

-- the end of a file
pub bound-told : (notes : List NoteView) (r : RunState) → Bound notes r → Bound (notes ++ (reports_told r).notes) (reported_run r)
bound-told notes r i =
    omega (arith, counted-told weight (λ report. refl) r (sum_by weight notes) i, sum_by-append weight notes (reports_told r).notes)

pub held-known : (r : RunState) → (held_told r).run.held ≡ []
held-known r = cond_both (ended_well r.command) (step (record r { held = []; causes = r.causes - length r.held }) [])
    (step (record r { held = [] }) (report_notes (held_reports r))) (λ (t : Step). t.run.held ≡ []) (λ _. refl) (λ _. refl)

held-reported : (r : RunState) → (held_told r).run.reported ≡ r.reported
held-reported r = cond_both (ended_well r.command) (step (record r { held = []; causes = r.causes - length r.held }) [])
    (step (record r { held = [] }) (report_notes (held_reports r))) (λ (t : Step). t.run.reported ≡ r.reported) (λ _. refl) (λ _. refl)

pub none-waits : (r : RunState) → waiting (reported_run r) ≡ 0
none-waits r =
    let first = (settled r false).run in
    omega (
      arith,
      ap if_some (held-reported first ∙ none-reported r false),
      ap (λ (held : List CargoView). length held) (held-known first),
    )

-- when suites are over and nothing becomes known at the end of the file, the causes are those before
pub quiet-causes : (r : RunState) → (counted_run r).causes ≤ (suites_over r).run.causes + sum_by weight (file_notes r)
quiet-causes r = omega (
  arith,
  reports-none (only-told r) new (λ report. refl),
  new-low (suites_over r).notes,
  new-low (no_event_notes (suites_over r).run),
  sum_by-append new (reports_told r).notes ((suites_over r).notes ++ no_event_notes (suites_over r).run),
  sum_by-append new (suites_over r).notes (no_event_notes (suites_over r).run),
  end-parts weight r,
)

bound-end : (notes : List NoteView) (r : RunState) → Bound notes r → Bound (notes ++ file_notes r) (after_file r)
bound-end notes r i =
    let over = (suites_over r).run in
    let same = aside-early nothing_known (reported_run r) in
    let told = reports-none (only-told r) new (λ report. refl) in
    omega (
      arith,
      bound-told notes r i,
      none-waits r,
      ap (λ (x : RunState). x.causes) same,
      ap (λ (x : RunState). waiting x) same,
      told,
      new-low (suites_over r).notes,
      new-low (no_event_notes over),
      new-low (command_notes (counted_run r)),
      end-parts new r,
      end-parts weight r,
      sum_by-append weight notes (reports_told r).notes,
      sum_by-append weight notes (file_notes r),
    )

-- up to any line
pub bound-after : (settings : RunSettings) (files : List (List EventView)) (events : List EventView)
    → Bound (all_notes settings files ++ notes_of (run_after_files (run_start settings) files) events)
    (run_after (run_after_files (run_start settings) files) events)
bound-after settings = up-to-line (λ n. Bound) (λ n. Bound) (λ e. 0) (λ n notes r i. i) (λ n notes r e i. bound-line notes r e i)
    (λ n notes r i. bound-end notes r i) settings (omega arith)
