-- The lines of a run with programs are events of a run.
use Rattle.std.proofs.Common.{◌≡◌, ◌∙◌, ℕ, List, [], ◌∷◌, ◌++◌, ◌+◌, Bool, true, false, Option, None, Some, ap, append-nil, append_assoc, arith, cond, refl, sym}
use Rattle.std.specs.Prelude.{◌&&◌, filter, is_none, is_some, unwrap_or}
use Rattle.std.proofs.lemmas.List.Sums.{sum_by-append, sum_by-cons}
use Rattle.test_report_events.specs.Event.{CommandOver, CommandView, EventView, IsCutOff, ProgramContradicts, TestEnds}
use Rattle.test_report_events.specs.Program.{ProgramLineView}
use Rattle.test_report_run_notes.specs.Note.{NoteView}
use Rattle.test_report_run.specs.FileEnd.{after_file, file_notes, with_command}
use Rattle.test_report_run.specs.Run.{RunState, after, notes_at, notes_of, run_after}
use Rattle.test_report_programs.specs.Lines.{ProgramsState, ProgramsStep, all_told, at_line, closed, events_taken, is_counted, program_lost, same, settled, settled_if, told, told_program}
use Rattle.test_report_laws.proofs.ProgramSteps.{either-keeps, line-keeps, lost-keeps, settled-keeps}
use Rattle.test_report_laws.specs.Programs.{AreEvents, ClosesAreEvents, FileEndsAreEvents, LinesAreEvents}
use Rattle.test_report_laws.specs.Run.{failed_lines_in, says_failed}

-- as many events that say that a test failed lead from a run to what a step keeps and makes known
abbrev Leads : RunState → ℕ → ProgramsStep → Type 0
Leads r n t = AreEvents r t.state.run t.notes n

-- whether an event says so, as a number
abbrev says : EventView → ℕ
says e = cond (says_failed e) 1 0

-- notes of events, and of one more
notes-more : (r : RunState) (events : List EventView) (e : EventView) → notes_of r events ++ notes_at (run_after r events) e ≡ notes_of r (events ++ e ∷ [])
notes-more r [] e = sym (append-nil (notes_at r e))
notes-more r (x ∷ events) e =
    append_assoc (notes_at r x) (notes_of (after r x) events) (notes_at (run_after (after r x) events) e)
    ∙ ap (λ ns. notes_at r x ++ ns) (notes-more (after r x) events e)

run-more : (r : RunState) (events : List EventView) (e : EventView) → after (run_after r events) e ≡ run_after r (events ++ e ∷ [])
run-more r [] e = refl
run-more r (x ∷ events) e = run-more (after r x) events e

-- one more event
one-more : (r run : RunState) (notes : List NoteView) (n : ℕ) (e : EventView) → AreEvents r run notes n
    → AreEvents r (after run e) (notes ++ notes_at run e) (n + says e)
one-more r run notes n e l = record {
  events = l.events ++ e ∷ [];
  run_is = ap (λ x. after x e) l.run_is ∙ run-more r l.events e;
  notes_are = ap (λ ns. ns ++ notes_at run e) l.notes_are ∙ ap (λ x. notes_of r l.events ++ notes_at x e) l.run_is ∙ notes-more r l.events e;
  failed_lines = omega (arith, l.failed_lines, sum_by-append says l.events (e ∷ []), sum_by-cons says e []);
}

-- another number, which is the same
counted : (r run : RunState) (notes : List NoteView) (n m : ℕ) → n ≡ m → AreEvents r run notes n → AreEvents r run notes m
counted r run notes n m h l = record { events = l.events; run_is = l.run_is; notes_are = l.notes_are; failed_lines = l.failed_lines ∙ h }

leads-told : (r : RunState) (n : ℕ) (t : ProgramsStep) (e : EventView) → Leads r n t → Leads r (n + says e) (told t e)
unfolding told
leads-told r n t e l = one-more r t.state.run t.notes n e l

-- an event that does not say that a test failed
leads-quiet : (r : RunState) (n : ℕ) (t : ProgramsStep) (e : EventView) → says_failed e ≡ false → Leads r n t → Leads r n (told t e)
leads-quiet r n t e quiet l =
    let none : says e ≡ 0 = ap {B = ℕ} (λ b. cond b 1 0) quiet in
    counted r (told t e).state.run (told t e).notes (n + says e) n (omega (arith, none)) (leads-told r n t e l)

leads-all : (r : RunState) (n : ℕ) (t : ProgramsStep) (events : List EventView) → Leads r n t → Leads r (n + failed_lines_in events) (all_told t events)
leads-all r n t [] l = counted r t.state.run t.notes n (n + 0) (omega arith) l
leads-all r n t (e ∷ events) l =
    let more = all_told (told t e) events in
    let sum : n + says e + failed_lines_in events ≡ n + failed_lines_in (e ∷ events) = omega (arith, sum_by-cons says e events) in
    counted r more.state.run more.notes (n + says e + failed_lines_in events) (n + failed_lines_in (e ∷ events)) sum
    (leads-all r (n + says e) (told t e) events (leads-told r n t e l))

-- the steps of a run of programs
leads-either : (r : RunState) (n : ℕ) (b : Bool) (x y : ProgramsStep) → Leads r n x → Leads r n y → Leads r n (cond b x y)
leads-either r n = either-keeps (Leads r n) (leads-quiet r n) (λ t l. l) (λ t p l. l) (λ t o l. l) (λ t l. l)

leads-lost : (r : RunState) (n : ℕ) (t : ProgramsStep) → Leads r n t → Leads r n (program_lost t)
leads-lost r n = lost-keeps (Leads r n) (leads-quiet r n) (λ t l. l) (λ t p l. l) (λ t o l. l) (λ t l. l)

leads-settled : (r : RunState) (n : ℕ) (t : ProgramsStep) → Leads r n t → Leads r n (settled t)
leads-settled r n = settled-keeps (Leads r n) (leads-quiet r n) (λ t l. l) (λ t p l. l) (λ t o l. l) (λ t l. l)

leads-line : (r : RunState) (n : ℕ) (counts : Bool) (line : Option ProgramLineView) (t : ProgramsStep) → Leads r n t
    → Leads r n (told_program counts line t)
leads-line r n = line-keeps (Leads r n) (leads-quiet r n) (λ t l. l) (λ t p l. l) (λ t o l. l) (λ t l. l)

-- events that do not count do not say that a test failed
says-uncounted : (e : EventView) → is_counted e ≡ false → says e ≡ 0
says-uncounted (TestEnds e) un = absurd (cc)
says-uncounted e un = refl

says-filter : (b : Bool) (e : EventView) (events : List EventView) → is_counted e ≡ b
    → failed_lines_in (cond b (e ∷ events) events) ≡ says e + failed_lines_in events
says-filter true e events is = sum_by-cons says e events
says-filter false e events is = omega (arith, says-uncounted e is)

failed-filter : (events : List EventView) → failed_lines_in (filter is_counted events) ≡ failed_lines_in events
failed-filter [] = refl
failed-filter (e ∷ events) =
    omega (arith, says-filter (is_counted e) e (filter is_counted events) refl, sum_by-cons says e events, failed-filter events)

failed-taken : (counts : Bool) (events : List EventView) → failed_lines_in (events_taken counts events) ≡ failed_lines_in events
failed-taken true events = failed-filter events
failed-taken false events = refl

-- nothing happened yet
leads-none : (s : ProgramsState) → Leads s.run 0 (same s)
leads-none s = record { events = []; run_is = refl; notes_are = refl; failed_lines = refl }

-- a line
pub lines-are : LinesAreEvents
lines-are s events line =
    let r = s.run in
    let counts = unwrap_or s.counts (is_some line) in
    let begun = same (at_line s line) in
    let due = counts && is_none line in
    let ready = settled_if due begun in
    let all = all_told ready (events_taken counts events) in
    let first : Leads r 0 ready = leads-either r 0 due (settled begun) begun (leads-settled r 0 begun (leads-none s)) (leads-none s) in
    let then : Leads r (failed_lines_in events) all =
    counted r all.state.run all.notes (0 + failed_lines_in (events_taken counts events)) (failed_lines_in events)
    (omega (arith, failed-taken counts events)) (leads-all r 0 ready (events_taken counts events) first) in
    leads-line r (failed_lines_in events) counts line all then

-- what happens before the end of a file
pub closes-are : ClosesAreEvents
closes-are s =
    let r = s.run in
    let t = program_lost (settled (same s)) in
    let cut = told t (ProgramContradicts IsCutOff) in
    let last : Leads r 0 t = leads-lost r 0 (settled (same s)) (leads-settled r 0 (same s) (leads-none s)) in
    leads-either r 0 (unwrap_or s.counts false) (cond t.state.is_done t cut) (same s)
    (leads-either r 0 t.state.is_done t cut last (leads-quiet r 0 t (ProgramContradicts IsCutOff) refl last)) (leads-none s)

-- the command ends, if it is known how
with-end : (r run : RunState) (notes : List NoteView) (command : Option CommandView) → AreEvents r run notes 0
    → AreEvents r (with_command run command) notes 0
with-end r run notes None l = l
with-end r run notes (Some end) l =
    let more = one-more r run notes 0 (CommandOver end) l in
    record { events = more.events; run_is = more.run_is; notes_are = sym (append-nil notes) ∙ more.notes_are; failed_lines = more.failed_lines }

-- the end of a file
pub file-ends-are : FileEndsAreEvents
file-ends-are s command =
    let t = closed s in
    let run = with_command t.state.run command in
    let all = with-end s.run t.state.run t.notes command (closes-are s) in
    record {
      events = all.events;
      run_is = ap after_file all.run_is;
      notes_are = ap (λ ns. ns ++ file_notes run) all.notes_are ∙ ap (λ x. notes_of s.run all.events ++ file_notes x) all.run_is;
      failed_lines = all.failed_lines;
    }
