-- Where failures of cargo are appended.
use Rattle.std.proofs.Common.{◌≡◌, ◌++◌, map}
use Rattle.test_report_run_notes.specs.Note.{CargoSays, Contradicts, cargo_view, note_view}
use Rattle.test_report_run.specs.FileEnd.{at_end}
use Rattle.test_report_run.proofs.run.command.push_reports.Given as goal

abbrev pub invariant-loop-report : goal.invariant-loop-report
invariant-loop-report l =
    let reports = map (at_end l.fn.has_event) (map cargo_view l.yielded) in
    map note_view l.notes.items ≡ map note_view l.fn.notes.items ++ map (λ report. Contradicts (CargoSays report)) reports
