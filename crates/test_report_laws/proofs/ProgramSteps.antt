-- What holds of a run of programs at each of its steps.
use Rattle.std.proofs.Common.{◌≡◌, ℕ, List, [], ◌∷◌, Bool, true, false, Option, None, Some, cond, map, option_and_then, option_map, refl}
use Rattle.std.specs.Prelude.{is_none, is_some}
use Rattle.std.specs.Str.Lines.{lines}
use Rattle.run_events_results.specs.declared.results.CancelReason.{CancelReason}
use Rattle.test_report_events.specs.Event.{AllEndEarly, Cancels, CommandOver, EndsUnstarted, EventView, HeadingLine, ProgramContradicts, ProgramFaultView}
use Rattle.test_report_events.specs.Program.{CommandBegins, CommandEnds, CommandIsCancelled, ProgramEnds, ProgramLineView, ProgramStartView, ProgramStarts}
use Rattle.test_report_programs.specs.Lines.{OverView, ProgramView, ProgramsStep, all_told, command_of, command_over, done, ended, ends_again, fault_of, is_zero, known_end, lost_fault, may_be_cancelled, new_program, printed, program_lost, program_over, program_told, settled, started, told, told_if, told_program, unknown_end, without_program}
use Rattle.test_report_events.specs.declared.program.ProgramEnd.{ProgramEnd}
use Rattle.test_report_laws.specs.Run.{says_failed}

-- another program runs
abbrev pub with_program : Option ProgramView → ProgramsStep → ProgramsStep
with_program p t = record t { state = record (t.state) { program = p } }

-- another end was put off
abbrev pub with_over : Option OverView → ProgramsStep → ProgramsStep
with_over o t = record t { state = record (t.state) { over = o } }

-- what an event keeps that does not say that a test failed, and what a change of the program keeps
module _ (P : ProgramsStep → Type 0)
    (quiet : (t : ProgramsStep) (e : EventView) → says_failed e ≡ false → P t → P (told t e))
    (stops : (t : ProgramsStep) → P t → P (without_program t))
    (starts : (t : ProgramsStep) (p : ProgramStartView) → P t → P (with_program (Some (new_program p)) t))
    (puts : (t : ProgramsStep) (o : Option OverView) → P t → P (with_over o t))
    (dones : (t : ProgramsStep) → P t → P (done t)) where
  prints-keep : (t : ProgramsStep) (texts : List (List ℕ)) → P t → P (all_told t (map printed texts))
  prints-keep t [] l = l
  prints-keep t (x ∷ texts) l = prints-keep (told t (printed x)) texts (quiet t (printed x) refl l)

  -- one of two steps
  pub either-keeps : (b : Bool) (x y : ProgramsStep) → P x → P y → P (cond b x y)
  either-keeps true x y l m = l
  either-keeps false x y l m = m

  fault-keeps : (fault : Option ProgramFaultView) (t : ProgramsStep) → P t → P (told_if t (option_map ProgramContradicts fault))
  fault-keeps None t l = l
  fault-keeps (Some fault) t l = quiet t (ProgramContradicts fault) refl l

  cancel-keeps : (reason : Option CancelReason) (t : ProgramsStep) → P t → P (told_if t (option_map Cancels reason))
  cancel-keeps None t l = l
  cancel-keeps (Some reason) t l = quiet t (Cancels reason) refl l

  -- before the end of a program that is over is judged
  pub ends-keep : (o : OverView) (t : ProgramsStep) → P t → P (told (all_told t (map printed (lines o.stderr))) (AllEndEarly (known_end o)))
  ends-keep o t l =
      quiet (all_told t (map printed (lines o.stderr))) (AllEndEarly (known_end o)) refl (prints-keep t (lines o.stderr) l)

  pub over-keeps : (o : OverView) (t : ProgramsStep) → P t → P (program_over o t)
  over-keeps o t l =
      let last = told (all_told t (map printed (lines o.stderr))) (AllEndEarly (known_end o)) in
      let fault = option_and_then (fault_of o.end) last.state.program in
      stops (told_if last (option_map ProgramContradicts fault)) (fault-keeps fault last (ends-keep o t l))

  pub lost-keeps : (t : ProgramsStep) → P t → P (program_lost t)
  lost-keeps t l =
      let last = told t (AllEndEarly unknown_end) in
      let fault = option_and_then lost_fault last.state.program in
      let all = told_if last (option_map ProgramContradicts fault) in
      either-keeps (is_some t.state.program) (without_program all) t
      (stops all (fault-keeps fault last (quiet t (AllEndEarly unknown_end) refl l))) l

  settled-by : (over : Option OverView) (t : ProgramsStep) → P t → P (with_over over t) → P (settled (with_over over t))
  settled-by None t l m = m
  settled-by (Some o) t l m = over-keeps o (with_over None t) (puts t None l)

  pub settled-keeps : (t : ProgramsStep) → P t → P (settled t)
  settled-keeps t l = settled-by t.state.over t l l

  pub ended-keeps : (o : OverView) (t : ProgramsStep) → P t → P (ended o t)
  ended-keeps o t l =
      let stray = told t (ProgramContradicts (EndsUnstarted o.end)) in
      let put = with_over (Some o) t in
      either-keeps (is_none t.state.program) (cond (is_zero o.end) t stray) (cond (may_be_cancelled o.end) put (program_over o t))
      (either-keeps (is_zero o.end) t stray l (quiet t (ProgramContradicts (EndsUnstarted o.end)) refl l))
      (either-keeps (may_be_cancelled o.end) put (program_over o t) (puts t (Some o) l) (over-keeps o t l))

  pub started-keeps : (p : ProgramStartView) (t : ProgramsStep) → P t → P (started p t)
  started-keeps p t l =
      starts (told (program_lost t) (HeadingLine p.name p.path)) p (quiet (program_lost t) (HeadingLine p.name p.path) refl (lost-keeps t l))

  pub command-keeps : (end : Option ProgramEnd) (error : Option (List ℕ)) (t : ProgramsStep) → P t → P (command_over end error t)
  command-keeps end error t l =
      let over = CommandOver (command_of end error) in
      either-keeps (ends_again t.state end) t (done (told t over)) l (dones (told t over) (quiet t over refl l))

  program-keeps : (line : ProgramLineView) (t : ProgramsStep) → P t → P (program_told line t)
  program-keeps (ProgramStarts p) t l = started-keeps p (settled t) (settled-keeps t l)
  program-keeps (ProgramEnds None stderr) t l = lost-keeps (settled t) (settled-keeps t l)
  program-keeps (ProgramEnds (Some end) stderr) t l = ended-keeps (record { end = end; stderr = stderr }) (settled t) (settled-keeps t l)
  program-keeps CommandBegins t l = settled-keeps t l
  program-keeps (CommandIsCancelled reason) t l = settled-keeps (told_if t (option_map Cancels reason)) (cancel-keeps reason t l)
  program-keeps (CommandEnds end error reason) t l =
      let cancelled = told_if t (option_map Cancels reason) in
      command-keeps end error (program_lost (settled cancelled))
      (lost-keeps (settled cancelled) (settled-keeps cancelled (cancel-keeps reason t l)))

  pub line-keeps : (counts : Bool) (line : Option ProgramLineView) (t : ProgramsStep) → P t → P (told_program counts line t)
  line-keeps false line t l = l
  line-keeps true None t l = l
  line-keeps true (Some line) t l = program-keeps line t l
