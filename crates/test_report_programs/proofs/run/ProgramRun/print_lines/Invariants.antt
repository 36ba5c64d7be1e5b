-- Where the lines of a text are printed.
use Rattle.std.proofs.Common.{◌≡◌, map}
use Rattle.test_report_run_notes.specs.Note.{note_view}
use Rattle.test_report_programs.specs.Lines.{all_told, printed, programs_state, step}
use Rattle.test_report_programs.proofs.run.ProgramRun.print_lines.Given as goal

abbrev pub invariant-loop-line : goal.invariant-loop-line
invariant-loop-line l =
    step (programs_state l.self) (map note_view l.notes.items)
    ≡ all_told (step (programs_state l.fn.self) (map note_view l.fn.notes.items)) (map printed (map (λ x. x.now) l.yielded))
