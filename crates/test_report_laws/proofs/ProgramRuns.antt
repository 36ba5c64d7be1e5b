-- A whole run of programs is a run of files of events.
use Rattle.std.proofs.Common.{◌≡◌, ◌∙◌, ℕ, List, [], ◌∷◌, ◌++◌, ◌+◌, ◌<◌, Option, ap, append_assoc, arith, cond, refl, subst, sym, true}
use Rattle.std.specs.Prelude.{unwrap_or}
use Rattle.std.specs.List.{sum_by}
use Rattle.std.proofs.lemmas.List.Sums.{fold-append, sum_by-append, sum_by-cons}
use Rattle.test_report_events.specs.Event.{CommandView, EventView}
use Rattle.test_report_run.proofs.Lines.{notes-append}
use Rattle.test_report_run.specs.FileEnd.{after_file, end_of, file_notes}
use Rattle.test_report_run.specs.Run.{RunSettings, RunState, after, is_cause, run_start}
use Rattle.test_report_run_notes.specs.Note.{NoteView}
use Rattle.test_report_programs.specs.Lines.{ProgramsState, file_told, line_told, programs_start}
use Rattle.test_report_laws.proofs.Outcomes.{outcome-means}
use Rattle.test_report_laws.proofs.ProgramEvents.{file-ends-are, lines-are}
use Rattle.test_report_laws.proofs.ProgramFiles.{end-shows}
use Rattle.test_report_laws.proofs.RunCauses.{causes-of}
use Rattle.test_report_laws.specs.Programs.{AreEvents, AreFiles, EndsFile, FailedEndFails, FileOf, IsBad, LineOf, RunsAreFiles, causes_in, end_line, failed_in_lines, files_told, lines_told, whole_file_told, whole_run_told}
use Rattle.test_report_laws.specs.Run.{IsClean, failed_lines_in, says_failed}
use Rattle.test_report_laws.specs.Whole.{all_notes, notes_of, notes_of_file, notes_of_files, run_after, run_after_files}

abbrev says : EventView → ℕ
says e = cond (says_failed e) 1 0

abbrev line_failed : LineOf → ℕ
line_failed l = failed_lines_in l.events

abbrev file_failed : FileOf → ℕ
file_failed f = failed_in_lines f.lines

-- events, and then others
both : (r r1 r2 : RunState) (n1 n2 : List NoteView) (a b : ℕ) → AreEvents r r1 n1 a → AreEvents r1 r2 n2 b → AreEvents r r2 (n1 ++ n2) (a + b)
both r r1 r2 n1 n2 a b x y = record {
  events = x.events ++ y.events;
  run_is = y.run_is ∙ ap (λ s. run_after s y.events) x.run_is ∙ sym (fold-append after r x.events y.events);
  notes_are = ap (λ ns. ns ++ n2) x.notes_are ∙ ap (λ ns. notes_of r x.events ++ ns) (y.notes_are ∙ ap (λ s. notes_of s y.events) x.run_is)
      ∙ sym (notes-append r x.events y.events);
  failed_lines = omega (arith, x.failed_lines, y.failed_lines, sum_by-append says x.events y.events);
}

-- lines are events
lines-follow : (s : ProgramsState) (lines : List LineOf)
    → let t = lines_told s lines in AreEvents s.run t.state.run t.notes (failed_in_lines lines)
lines-follow s [] = record { events = []; run_is = refl; notes_are = refl; failed_lines = refl }
lines-follow s (l ∷ lines) =
    let t = line_told s l.events l.program in
    let rest = lines_told t.state lines in
    let sum : failed_lines_in l.events + failed_in_lines lines ≡ failed_in_lines (l ∷ lines) = sym (sum_by-cons line_failed l lines) in
    subst (λ (n : ℕ). AreEvents s.run rest.state.run (t.notes ++ rest.notes) n) sum
    (both s.run t.state.run rest.state.run t.notes rest.notes (failed_lines_in l.events) (failed_in_lines lines) (lines-are s l.events l.program)
    (lines-follow t.state lines))

-- events, and then the end of the file
and-end : (r r1 r2 : RunState) (n1 n2 : List NoteView) (a : ℕ) → AreEvents r r1 n1 a → EndsFile r1 r2 n2 0 → EndsFile r r2 (n1 ++ n2) a
and-end r r1 r2 n1 n2 a x y =
    let all = both r r1 (run_after r1 y.events) n1 (notes_of r1 y.events) a 0 x
    (record { events = y.events; run_is = refl; notes_are = refl; failed_lines = y.failed_lines }) in
    let end = file_notes (run_after r1 y.events) in
    record {
      events = all.events;
      run_is = y.run_is ∙ ap after_file all.run_is;
      notes_are = ap (λ ns. n1 ++ ns) y.notes_are ∙ sym (append_assoc n1 (notes_of r1 y.events) end) ∙ ap (λ ns. ns ++ end) all.notes_are
          ∙ ap (λ s. notes_of r all.events ++ file_notes s) all.run_is;
      failed_lines = omega (arith, all.failed_lines);
    }

files-follow : (s : ProgramsState) (lines : List LineOf) (command : Option CommandView)
    → let t = whole_file_told s lines command in EndsFile s.run t.state.run t.notes (failed_in_lines lines)
files-follow s lines command =
    let t = lines_told s lines in
    let end = file_told t.state command in
    and-end s.run t.state.run end.state.run t.notes end.notes (failed_in_lines lines) (lines-follow s lines) (file-ends-are t.state command)

-- a file, and then others
more-files : (r r1 r2 : RunState) (n1 n2 : List NoteView) (a b : ℕ) → EndsFile r r1 n1 a → AreFiles r1 r2 n2 b → AreFiles r r2 (n1 ++ n2) (a + b)
more-files r r1 r2 n1 n2 a b x y = record {
  files = x.events ∷ y.files;
  run_is = y.run_is ∙ ap (λ s. run_after_files s y.files) x.run_is;
  notes_are = ap (λ ns. ns ++ n2) x.notes_are ∙ ap (λ ns. notes_of_file r x.events ++ ns) (y.notes_are ∙ ap (λ s. notes_of_files s y.files) x.run_is);
  failed_lines = omega (arith, x.failed_lines, y.failed_lines, sum_by-cons (λ file. failed_lines_in file) x.events y.files);
}

pub runs-are : RunsAreFiles
runs-are s [] = record { files = []; run_is = refl; notes_are = refl; failed_lines = refl }
runs-are s (f ∷ files) =
    let t = whole_file_told s f.lines f.command in
    let rest = files_told t.state files in
    let sum : failed_in_lines f.lines + sum_by file_failed files ≡ sum_by file_failed (f ∷ files) = sym (sum_by-cons file_failed f files) in
    subst (λ (n : ℕ). AreFiles s.run rest.state.run (t.notes ++ rest.notes) n) sum
    (more-files s.run t.state.run rest.state.run t.notes rest.notes (failed_in_lines f.lines) (sum_by file_failed files)
    (files-follow s f.lines f.command) (runs-are t.state files))

-- between files nothing is kept but the run
starts-file : (r : RunState) (files : List FileOf)
    → let t = files_told (programs_start r) files in t.state ≡ programs_start t.state.run
starts-file r [] = refl
starts-file r (f ∷ files) = starts-file (whole_file_told (programs_start r) f.lines f.command).state.run files

-- a file that makes a cause known, among others
among : (s : ProgramsState) (before after : List FileOf) (f : FileOf)
    → 0 < causes_in (whole_file_told (files_told s before).state f.lines f.command).notes → 0 < causes_in (files_told s (before ++ f ∷ after)).notes
among s [] after f k =
    let t = whole_file_told s f.lines f.command in
    omega (arith, sum_by-append (λ n. cond (is_cause n) 1 0) t.notes (files_told t.state after).notes)
among s (x ∷ before) after f k =
    let t = whole_file_told s x.lines x.command in
    omega (
      arith,
      sum_by-append (λ n. cond (is_cause n) 1 0) t.notes (files_told t.state (before ++ f ∷ after)).notes,
      among t.state before after f k,
    )

unclean : (settings : RunSettings) (files : List (List EventView)) (notes : List NoteView) → notes ≡ all_notes settings files → 0 < causes_in notes
    → IsClean (all_notes settings files) → ⊥
unclean settings files notes is some clean =
    let more : 0 < causes_in (all_notes settings files) = subst (λ (ns : List NoteView). 0 < causes_in ns) is some in
    omega (arith, clean.none_failed, clean.none_contradict, causes-of (all_notes settings files))

pub end-fails : FailedEndFails
end-fails settings before after first rest end stderr command counts bad =
    let start = programs_start (run_start settings) in
    let file : FileOf = record { lines = first ++ end_line end stderr ∷ rest; command = command } in
    let s = (files_told start before).state in
    let is : s ≡ programs_start s.run = starts-file (run_start settings) before in
    let counted : unwrap_or (lines_told (programs_start s.run) first).state.counts true ≡ true =
    subst (λ (x : ProgramsState). unwrap_or (lines_told x first).state.counts true ≡ true) is counts in
    let badly : IsBad (lines_told (programs_start s.run) first).state end =
    subst (λ (x : ProgramsState). IsBad (lines_told x first).state end) is bad in
    let shown : 0 < causes_in (whole_file_told s file.lines command).notes =
    subst (λ (x : ProgramsState). 0 < causes_in (whole_file_told x file.lines command).notes) (sym is)
    (end-shows s.run first rest end stderr command counted badly) in
    let t = whole_run_told settings (before ++ file ∷ after) in
    let all = runs-are start (before ++ file ∷ after) in
    let some : 0 < causes_in t.notes = among start before after file shown in
    let means = outcome-means settings all.files in (
      (λ h. unclean settings all.files t.notes all.notes_are some (means.success.0 (sym (ap (λ r. (end_of r).outcome) all.run_is) ∙ h)).0),
      (λ h. unclean settings all.files t.notes all.notes_are some (means.no_tests.0 (sym (ap (λ r. (end_of r).outcome) all.run_is) ∙ h)).0),
    )
