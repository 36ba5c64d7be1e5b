-- All that is open ends early, and the end of the program is judged.
use Rattle.std.proofs.Common.{◌∙◌, Option, ap, map, option_and_then, option_map, refl, sym}
use Rattle.std.proofs.lemmas.Result.{on_ok_weaker}
use Rattle.std.specs.Option.{option_map_or}
use Rattle.test_report_events.specs.Event.{AllEndEarly, ProgramContradicts}
use Rattle.test_report_run.specs.Over.{early_view}
use Rattle.test_report_run.specs.Run.{run_state}
use Rattle.test_report_run_notes.specs.Note.{fault_view, note_view}
use Rattle.test_report_run_notes.specs.declared.note.ProgramFault.{ProgramFault}
use Rattle.test_report_programs.specs.Lines.{ProgramsStep, fault_of, lost_fault, program_state, programs_state, step, told_if, without_program}
use Rattle.test_report_programs.proofs.Steps.{ended-early, seen-program, told-by}
use Rattle.test_report_programs.proofs.run.ProgramRun.end_early.Goals as goal

pub returns-in-Some : goal.returns-in-Some
returns-in-Some c =
    let rule = option_map_or fault_of c.args.end.end lost_fault in
    let e = AllEndEarly (early_view c.args.end) in
    let run = run_state c.on_all_ended_early.new.self in
    let start = step (programs_state c.args.self.now) (map note_view c.args.notes.now.items) in
    let after = step (record (programs_state c.args.self.now) { program = option_map program_state c.keep.new.program; run = run })
    (map note_view c.keep.new.notes.items) in
    let judge : Option ProgramFault → ProgramsStep = λ fault.
    told_if (without_program after) (option_map ProgramContradicts (option_map fault_view fault)) in
    let ended = told-by start run e _ _ _ _ refl c.in_ok-told.ensures.tells c.in_ok-told.ensures.takes c.keep.ensures.keeps c.in_ok-keep.ensures.tells in
    let fault = c.in_ok-fault.ensures ∙ ap (option_and_then rule) (seen-program c.as_ref.result c.keep.new.program c.as_ref.ensures.value) in
    on_ok_weaker c.tell_fault.result (λ tells. ended-early rule start after _ e _ ended fault (tells ∙ ap judge (sym c.in-Some.is))) c.tell_fault.ensures

pub returns-in-None : goal.returns-in-None
returns-in-None c =
    let rule = option_map_or fault_of c.args.end.end lost_fault in
    let e = AllEndEarly (early_view c.args.end) in
    let run = run_state c.on_all_ended_early.new.self in
    let start = step (programs_state c.args.self.now) (map note_view c.args.notes.now.items) in
    let after = step (record (programs_state c.args.self.now) { program = option_map program_state c.keep.new.program; run = run })
    (map note_view c.keep.new.notes.items) in
    let judge : Option ProgramFault → ProgramsStep = λ fault.
    told_if (without_program after) (option_map ProgramContradicts (option_map fault_view fault)) in
    let ended = told-by start run e _ _ _ _ refl c.in_ok-told.ensures.tells c.in_ok-told.ensures.takes c.keep.ensures.keeps c.in_ok-keep.ensures.tells in
    let fault = c.in_ok-fault.ensures ∙ ap (option_and_then rule) (seen-program c.as_ref.result c.keep.new.program c.as_ref.ensures.value) in
    ended-early rule start after _ e _ ended fault (ap judge (sym c.in-None.is))
