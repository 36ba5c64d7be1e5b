-- A file in which a program fails has a cause.
use Rattle.std.proofs.Common.{◌≡◌, ◌∙◌, ℕ, List, [], ◌∷◌, ◌++◌, ◌<◌, ◌⊎◌, inl, inr, Bool, true, false, Option, None, Some, ap, append-nil, append_assoc, arith, cond, option_map, refl, subst, sym}
use Rattle.std.specs.Prelude.{◌&&◌, ◌||◌, is_none, is_some, unwrap_or}
use Rattle.std.proofs.lemmas.List.Sums.{sum_by-append}
use Rattle.run_events_results.specs.declared.results.CancelReason.{CancelReason}
use Rattle.test_report_events.specs.Event.{Cancels, CommandView, EndsUnstarted, EventView, IsCutOff, ProgramContradicts}
use Rattle.test_report_events.specs.Program.{CommandBegins, CommandEnds, CommandIsCancelled, ProgramEnds, ProgramLineView, ProgramStartView, ProgramStarts}
use Rattle.test_report_events.specs.declared.program.ProgramEnd.{ProgramEnd}
use Rattle.test_report_events.specs.declared.program.ProgramEnd.TheVariants.{Signal, Status}
use Rattle.std.specs.Ordering.{int_eq}
use Rattle.std.proofs.lemmas.Bool.Decides.{Decides-int_eq}
use Rattle.std.specs.Prelude.{ℤ, pos}
use Rattle.std.specs.Option.{option_map_or}
use Rattle.test_report_run_notes.specs.Note.{NoteView}
use Rattle.test_report_run.specs.FileEnd.{file_notes, with_command}
use Rattle.test_report_run.specs.Run.{is_cause, notes_at}
use Rattle.test_report_programs.specs.Lines.{OverView, ProgramView, ProgramsState, ProgramsStep, all_told, closed, ended, events_taken, file_told, is_start, is_zero, line_told, may_be_cancelled, program_lost, program_over, program_told, programs_start, same, settled, settled_if, started, told, told_if, told_program, with_notes}
use Rattle.test_report_laws.proofs.ProgramCauses.{Known, known-settled, known-told, lines-keep, program-shows-after, unstarted-shows}
use Rattle.test_report_laws.proofs.ProgramSteps.{command-keeps, either-keeps, ended-keeps, lost-keeps, settled-keeps, started-keeps, with_over}
use Rattle.test_report_laws.specs.Programs.{FailedEndShows, IsBad, IsKnown, LineOf, causes_in, end_line, lines_told, whole_file_told}
use Rattle.test_report_laws.specs.Run.{says_failed}

abbrev weight : NoteView → ℕ
weight n = cond (is_cause n) 1 0

-- a cause is known
abbrev Shows : List NoteView → ProgramsStep → Type 0
Shows past t = 0 < causes_in (past ++ t.notes)

shows-told : (past : List NoteView) (t : ProgramsStep) (e : EventView) → Shows past t → Shows past (told t e)
unfolding told
shows-told past t e k =
    let notes = notes_at t.state.run e in
    omega (arith, sum_by-append weight past t.notes, sum_by-append weight past (t.notes ++ notes), sum_by-append weight t.notes notes)

shows-all : (past : List NoteView) (t : ProgramsStep) (events : List EventView) → Shows past t → Shows past (all_told t events)
shows-all past t [] k = k
shows-all past t (e ∷ events) k = shows-all past (told t e) events (shows-told past t e k)

shows-lost : (past : List NoteView) (t : ProgramsStep) → Shows past t → Shows past (program_lost t)
shows-lost past = lost-keeps (Shows past) (λ t e q. shows-told past t e) (λ t l. l) (λ t p l. l) (λ t o l. l) (λ t l. l)

shows-ended : (past : List NoteView) (o : OverView) (t : ProgramsStep) → Shows past t → Shows past (ended o t)
shows-ended past = ended-keeps (Shows past) (λ t e q. shows-told past t e) (λ t l. l) (λ t p l. l) (λ t o l. l) (λ t l. l)

shows-started : (past : List NoteView) (p : ProgramStartView) (t : ProgramsStep) → Shows past t → Shows past (started p t)
shows-started past = started-keeps (Shows past) (λ t e q. shows-told past t e) (λ t l. l) (λ t p l. l) (λ t o l. l) (λ t l. l)

-- a program waits whose end, which was put off, is not status 0
record Waits (past : List NoteView) (t : ProgramsStep) : Type 0 where
  program : ProgramView
  over : OverView
  runs : t.state.program ≡ Some program
  ends : t.state.over ≡ Some over
  bad : is_zero over.end ≡ false
  counts : t.state.counts ≡ Some true
  known : IsKnown (past ++ t.notes) t.state.program

waits-told : (past : List NoteView) (t : ProgramsStep) (e : EventView) → Waits past t → Waits past (told t e)
unfolding told
waits-told past t e w = record {
  program = with_notes (is_start e) (notes_at t.state.run e) w.program;
  over = w.over;
  runs = ap (option_map (with_notes (is_start e) (notes_at t.state.run e))) w.runs;
  ends = w.ends;
  bad = w.bad;
  counts = w.counts;
  known = known-told past t e w.known;
}

waits-all : (past : List NoteView) (t : ProgramsStep) (events : List EventView) → Waits past t → Waits past (all_told t events)
waits-all past t [] k = k
waits-all past t (e ∷ events) k = waits-all past (told t e) events (waits-told past t e k)

waits-cancel : (past : List NoteView) (t : ProgramsStep) (reason : Option CancelReason) → Waits past t → Waits past (told_if t (option_map Cancels reason))
waits-cancel past t None k = k
waits-cancel past t (Some reason) k = waits-told past t (Cancels reason) k

not-well : (zero ran : Bool) → zero ≡ false → (zero && ran) ≡ false
not-well zero ran h = ap (λ b. b && ran) h

settled-over : (past : List NoteView) (t : ProgramsStep) (over : Option OverView) (o : OverView) → over ≡ Some o
    → Shows past (program_over o (with_over None t))
    → Shows past (settled (with_over over t))
settled-over past t over o is shows = subst (λ (x : Option OverView). Shows past (settled (with_over x t))) (sym is) shows

-- when it is settled, a cause is known
waits-settled : (past : List NoteView) (t : ProgramsStep) → Waits past t → Shows past (settled t)
waits-settled past t w =
    settled-over past t t.state.over w.over w.ends
    (program-shows-after past (with_over None t) w.over w.program w.known w.runs
    (not-well (is_zero w.over.end) (w.program.ran || w.program.may_be_empty) w.bad))

waits-program : (past : List NoteView) (line : ProgramLineView) (t : ProgramsStep) → Waits past t → Shows past (program_told line t)
waits-program past (ProgramStarts p) t w = shows-started past p (settled t) (waits-settled past t w)
waits-program past (ProgramEnds None stderr) t w = shows-lost past (settled t) (waits-settled past t w)
waits-program past (ProgramEnds (Some end) stderr) t w = shows-ended past (record { end = end; stderr = stderr }) (settled t) (waits-settled past t w)
waits-program past CommandBegins t w = waits-settled past t w
waits-program past (CommandIsCancelled reason) t w = waits-settled past (told_if t (option_map Cancels reason)) (waits-cancel past t reason w)
waits-program past (CommandEnds end error reason) t w =
    let cancelled = told_if t (option_map Cancels reason) in
    command-keeps (Shows past) (λ t e q. shows-told past t e) (λ t l. l) (λ t p l. l) (λ t o l. l) (λ t l. l) end error (program_lost (settled cancelled))
    (shows-lost past (settled cancelled) (waits-settled past cancelled (waits-cancel past t reason w)))

-- the next line settles it
waits-counted : (past : List NoteView) (begun : ProgramsStep) (events : List EventView) (line : Option ProgramLineView) → Waits past begun
    → Shows past (told_program true line (all_told (settled_if (true && is_none line) begun) (events_taken true events)))
waits-counted past begun events None w = shows-all past (settled begun) (events_taken true events) (waits-settled past begun w)
waits-counted past begun events (Some line) w =
    waits-program past line (all_told begun (events_taken true events)) (waits-all past begun (events_taken true events) w)

waits-line : (past : List NoteView) (s : ProgramsState) (events : List EventView) (line : Option ProgramLineView) → Waits past (same s)
    → Shows past (line_told s events line)
waits-line past s events line w =
    let is : unwrap_or s.counts (is_some line) ≡ true = ap (λ (c : Option Bool). unwrap_or c (is_some line)) w.counts in
    subst (λ (b : Bool). Shows past (told_program b line
    (all_told (settled_if (b && is_none line) (same (record s { counts = Some b }))) (events_taken b events)))) (sym is)
    (waits-counted past (same (record s { counts = Some true })) events line
    (record { program = w.program; over = w.over; runs = w.runs; ends = w.ends; bad = w.bad; counts = refl; known = w.known }))

waits-closed : (past : List NoteView) (s : ProgramsState) → Waits past (same s) → Shows past (closed s)
waits-closed past s w =
    let t = program_lost (settled (same s)) in
    let cut = told t (ProgramContradicts IsCutOff) in
    let last : Shows past t = shows-lost past (settled (same s)) (waits-settled past (same s) w) in
    let is : unwrap_or s.counts false ≡ true = ap (λ (c : Option Bool). unwrap_or c false) w.counts in
    subst (λ (b : Bool). Shows past (cond b (cond t.state.is_done t cut) (same s))) (sym is)
    (either-keeps (Shows past) (λ t e q. shows-told past t e) (λ t l. l) (λ t p l. l) (λ t o l. l) (λ t l. l) t.state.is_done t cut last
    (shows-told past t (ProgramContradicts IsCutOff) last))

-- a cause is known, or a program waits
abbrev Due : List NoteView → ProgramsState → Type 0
Due past s = (0 < causes_in past) ⊎ Waits past (same s)

more-shows : (past notes : List NoteView) → 0 < causes_in past → 0 < causes_in (past ++ notes)
more-shows past notes k = omega (arith, sum_by-append weight past notes)

due-line : (past : List NoteView) (s : ProgramsState) (events : List EventView) (line : Option ProgramLineView) → Due past s
    → Shows past (line_told s events line)
due-line past s events line (inl k) = more-shows past (line_told s events line).notes k
due-line past s events line (inr w) = waits-line past s events line w

due-closed : (past : List NoteView) (s : ProgramsState) → Due past s → Shows past (closed s)
due-closed past s (inl k) = more-shows past (closed s).notes k
due-closed past s (inr w) = waits-closed past s w

-- the rest of the file
due-rest : (past : List NoteView) (s : ProgramsState) (lines : List LineOf) (command : Option CommandView) → Due past s
    → 0 < causes_in (past ++ (whole_file_told s lines command).notes)
due-rest past s [] command d =
    let t = closed s in
    let notes = file_notes (with_command t.state.run command) in
    subst (λ (ns : List NoteView). 0 < causes_in ns) (append_assoc past t.notes notes) (more-shows (past ++ t.notes) notes (due-closed past s d))
due-rest past s (l ∷ lines) command d =
    let t = line_told s l.events l.program in
    let rest = lines_told t.state lines in
    let end = file_told rest.state command in
    subst (λ (ns : List NoteView). 0 < causes_in ns)
    (append_assoc past t.notes (rest.notes ++ end.notes) ∙ ap (λ ns. past ++ ns) (sym (append_assoc t.notes rest.notes end.notes)))
    (due-rest (past ++ t.notes) t.state lines command (inl (due-line past s l.events l.program d)))

-- lines, and others
lines-both : (past : List NoteView) (s : ProgramsState) (first rest : List LineOf) (command : Option CommandView)
    → IsKnown past s.program
    → ((known : List NoteView) → IsKnown known (lines_told s first).state.program
    → 0 < causes_in (known ++ (whole_file_told (lines_told s first).state rest command).notes))
    → 0 < causes_in (past ++ (whole_file_told s (first ++ rest) command).notes)
lines-both past s [] rest command k then = then past k
lines-both past s (l ∷ first) rest command k then =
    let t = line_told s l.events l.program in
    let more = lines_told t.state (first ++ rest) in
    let end = file_told more.state command in
    subst (λ (ns : List NoteView). 0 < causes_in ns)
    (append_assoc past t.notes (more.notes ++ end.notes) ∙ ap (λ ns. past ++ ns) (sym (append_assoc t.notes more.notes end.notes)))
    (lines-both (past ++ t.notes) t.state first rest command (lines-keep past s l.events l.program k) then)

-- the line itself
by-cancel : (past : List NoteView) (o : OverView) (p : ProgramView) (t : ProgramsStep) (later : Bool) → t.state.program ≡ Some p → t.state.counts ≡ Some true
    → Known past t → is_zero o.end ≡ false
    → Due (past ++ (cond later (with_over (Some o) t) (program_over o t)).notes) (cond later (with_over (Some o) t) (program_over o t)).state
by-cancel past o p t true is counts known bad = inr (record {
  program = p;
  over = o;
  runs = is;
  ends = refl;
  bad = bad;
  counts = counts;
  known = subst (λ (ns : List NoteView). IsKnown ns t.state.program) (sym (append-nil (past ++ t.notes))) known;
})
by-cancel past o p t false is counts known bad =
    inl (program-shows-after past t o p known is (not-well (is_zero o.end) (p.ran || p.may_be_empty) bad))

ended-due : (past : List NoteView) (o : OverView) (t : ProgramsStep) (program : Option ProgramView) → t.state.program ≡ program → t.state.counts ≡ Some true
    → Known past t → is_zero o.end ≡ false → let u = ended o t in Due (past ++ u.notes) u.state
ended-due past o t None is counts known bad =
    let u = ended o t in
    inl (omega (arith, sum_by-append weight past u.notes, unstarted-shows t o is bad))
ended-due past o t (Some p) is counts known bad =
    let stray = cond (is_zero o.end) t (told t (ProgramContradicts (EndsUnstarted o.end))) in
    let put = with_over (Some o) t in
    let Goal = λ (u : ProgramsStep). Due (past ++ u.notes) u.state in
    let at : Goal (cond (may_be_cancelled o.end) put (program_over o t)) = by-cancel past o p t (may_be_cancelled o.end) is counts known bad in
    subst (λ (x : Option ProgramView). Goal (cond (is_none x) stray (cond (may_be_cancelled o.end) put (program_over o t)))) (sym is) at

counts-told : (t : ProgramsStep) (e : EventView) → says_failed e ≡ false → t.state.counts ≡ Some true → (told t e).state.counts ≡ Some true
unfolding told
counts-told t e q l = l

counts-kept : (t : ProgramsStep) → t.state.counts ≡ Some true → (settled t).state.counts ≡ Some true
counts-kept =
    settled-keeps (λ t. t.state.counts ≡ Some true) counts-told (λ t l. l) (λ t p l. l) (λ t o l. l) (λ t l. l)

end-due : (past : List NoteView) (s : ProgramsState) (end : ProgramEnd) (stderr : List ℕ) → IsKnown past s.program → unwrap_or s.counts true ≡ true
    → is_zero end ≡ false → let u = line_told s [] (Some (ProgramEnds (Some end) stderr)) in Due (past ++ u.notes) u.state
end-due past s end stderr known counts bad =
    let o : OverView = record { end = end; stderr = stderr } in
    let begun = same (record s { counts = Some true }) in
    let x = settled begun in
    let first : Known past begun = subst (λ (ns : List NoteView). IsKnown ns s.program) (sym (append-nil past)) known in
    let all : Due (past ++ (ended o x).notes) (ended o x).state =
    ended-due past o x x.state.program refl (counts-kept begun refl) (known-settled past begun first) bad in
    let line : Option ProgramLineView = Some (ProgramEnds (Some end) stderr) in
    subst (λ (b : Bool). let u = told_program b line (all_told (settled_if (b && false) (same (record s { counts = Some b }))) (events_taken b [])) in
    Due (past ++ u.notes) u.state) (sym counts) all

same-code : (code : ℤ) → int_eq code (pos 0) ≡ true → code ≡ pos 0
same-code code h = (Decides-int_eq code (pos 0)).0 h

-- a program that ran nothing
not-cancelled : (end : ProgramEnd) → is_zero end ≡ true → may_be_cancelled end ≡ false
not-cancelled (Signal number) h = absurd (cc)
not-cancelled (Status code) h = ap (λ (c : ℤ). int_eq c (pos 130) || int_eq c (pos 143)) (same-code code h)

none-and : (zero ran : Bool) → ran ≡ false → (zero && ran) ≡ false
none-and true ran h = h
none-and false ran h = refl

empty-shows : (past : List NoteView) (o : OverView) (p : ProgramView) (t : ProgramsStep) → Known past t → t.state.program ≡ Some p → t.state.over ≡ None
    → (p.ran || p.may_be_empty) ≡ false → may_be_cancelled o.end ≡ false → Shows past (ended o (settled t))
empty-shows past o p t known runs settles empty now =
    let stray = cond (is_zero o.end) t (told t (ProgramContradicts (EndsUnstarted o.end))) in
    let put = with_over (Some o) t in
    let over : Shows past (program_over o t) =
    program-shows-after past t o p known runs (none-and (is_zero o.end) (p.ran || p.may_be_empty) empty) in
    let a : Shows past (cond (may_be_cancelled o.end) put (program_over o t)) =
    subst (λ (b : Bool). Shows past (cond b put (program_over o t))) (sym now) over in
    let b : Shows past (ended o t) =
    subst (λ (x : Option ProgramView). Shows past (cond (is_none x) stray (cond (may_be_cancelled o.end) put (program_over o t)))) (sym runs) a in
    subst (λ (x : Option OverView). Shows past (ended o (option_map_or (λ q. program_over q (with_over None t)) x t))) (sym settles) b

bad-due : (past : List NoteView) (s : ProgramsState) (end : ProgramEnd) (stderr : List ℕ) (zero : Bool) → is_zero end ≡ zero → IsKnown past s.program
    → unwrap_or s.counts true ≡ true → IsBad s end → let u = line_told s [] (Some (ProgramEnds (Some end) stderr)) in Due (past ++ u.notes) u.state
bad-due past s end stderr false zero known counts bad = end-due past s end stderr known counts zero
bad-due past s end stderr true zero known counts (inl bad) = end-due past s end stderr known counts bad
bad-due past s end stderr true zero known counts (inr bad) =
    let begun = same (record s { counts = Some true }) in
    let first : Known past begun = subst (λ (ns : List NoteView). IsKnown ns s.program) (sym (append-nil past)) known in
    let line : Option ProgramLineView = Some (ProgramEnds (Some end) stderr) in
    let shows = empty-shows past (record { end = end; stderr = stderr }) bad.0 begun first bad.1 bad.2 bad.3 (not-cancelled end zero) in
    subst (λ (b : Bool). let u = told_program b line (all_told (settled_if (b && false) (same (record s { counts = Some b }))) (events_taken b [])) in
    Due (past ++ u.notes) u.state) (sym counts) (inl shows)

pub end-shows : FailedEndShows
end-shows run first rest end stderr command counts bad =
    lines-both [] (programs_start run) first (end_line end stderr ∷ rest) command tt (λ known k.
    let s = (lines_told (programs_start run) first).state in
    let t = line_told s [] (Some (ProgramEnds (Some end) stderr)) in
    let more = lines_told t.state rest in
    let last = file_told more.state command in
    subst (λ (ns : List NoteView). 0 < causes_in ns)
    (append_assoc known t.notes (more.notes ++ last.notes) ∙ ap (λ ns. known ++ ns) (sym (append_assoc t.notes more.notes last.notes)))
    (due-rest (known ++ t.notes) t.state rest command (bad-due known s end stderr (is_zero end) refl k counts bad)))
