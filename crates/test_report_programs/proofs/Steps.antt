-- The steps of a run of programs, one after the other.
use Rattle.std.proofs.Common.{◌≡◌, ◌∙◌, ◌++◌, ◌∷◌, [], Bool, Bor, List, None, Option, Some, ap, append-nil, cond, false, map, not, option_and_then, option_map, refl, sym, true, ℕ}
use Rattle.std.specs.Prelude.{◌&&◌, ◌||◌, is_none, is_some, unwrap_or}
use Rattle.std.proofs.lemmas.List.{map-append}
use Rattle.std.proofs.lemmas.List.Elements.{filter-append}
use Rattle.std.specs.Option.{option_map_or}
use Rattle.std.specs.Str.Lines.{lines}
use Rattle.run_events_results.specs.declared.results.CancelReason.{CancelReason}
use Rattle.test_report_events.specs.Event.{AllEndEarly, Cancels, CommandOver, CommandView, EarlyEndView, EndsUnstarted, EventView, IsCutOff, ProgramContradicts, ProgramFaultView}
use Rattle.test_report_events.specs.Program.{CommandEnds, CommandIsCancelled, ProgramLineView}
use Rattle.test_report_events.specs.declared.program.ProgramEnd.{ProgramEnd}
use Rattle.test_report_run_notes.specs.Note.{NoteView}
use Rattle.test_report_run.specs.FileEnd.{after_file, file_notes, with_command}
use Rattle.test_report_run.specs.Run.{RunState, after, notes_at}
use Rattle.test_report_programs.specs.Lines.{OverView, ProgramView, ProgramsState, ProgramsStep, all_told, closed, command_of, command_over, done, ended, ends_again, events_taken, fault_of, file_told, is_counted, is_start, is_zero, judged, kept, known_end, line_told, lost_fault, may_be_cancelled, printed, program_lost, program_over, program_state, program_told, programs_start, same, settled, settled_if, step, told, told_if, told_program, unknown_end, with_notes, with_run, without_program}
use Rattle.test_report_programs.specs.declared.program.Program.{Program}

-- an event of the run, by what the run does
pub told-by : (t : ProgramsStep) (run : RunState) (e : EventView) (starts : Bool) (told-notes notes : List NoteView) (program : Option ProgramView)
    → starts ≡ is_start e → told-notes ≡ notes_at t.state.run e → run ≡ after t.state.run e
    → program ≡ option_map (with_notes starts told-notes) t.state.program → notes ≡ t.notes ++ told-notes
    → step (record (t.state) { program = program; run = run }) notes ≡ told t e
unfolding told
told-by t run e starts told-notes notes program start known next keeps tells =
    (λ i. step (record (t.state) { program = keeps i; run = run }) (tells i))
    ∙ ap (λ b. kept b told-notes (with_run run t)) start
    ∙ ap (λ ns. kept (is_start e) ns (with_run run t)) known
    ∙ ap (λ r. kept (is_start e) (notes_at t.state.run e) (with_run r t)) next

-- all that is open ends early, and the program that ran is forgotten
forgotten : (t : ProgramsStep) (e : Option EventView) → told_if (without_program t) e ≡ without_program (told_if t e)
unfolding told
forgotten t None = refl
forgotten t (Some e) = refl

pub ended-early : (rule : ProgramView → Option ProgramFaultView) (t0 t1 t2 : ProgramsStep) (e : EventView) (fault : Option ProgramFaultView) → t1 ≡ told t0 e
    → fault ≡ option_and_then rule t1.state.program → t2 ≡ told_if (without_program t1) (option_map ProgramContradicts fault)
    → t2 ≡ without_program (judged rule (told t0 e))
ended-early rule t0 t1 t2 e fault ended wrong tells =
    tells
    ∙ forgotten t1 (option_map ProgramContradicts fault)
    ∙ ap (λ f. without_program (told_if t1 (option_map ProgramContradicts f))) wrong
    ∙ ap (λ t. without_program (judged rule t)) ended

-- a value is there, or none is, just where one is that it is made of
pub seen-some : {A B : Type 0} (f : A → B) (o : Option A) → is_some o ≡ is_some (option_map f o)
seen-some f None = refl
seen-some f (Some a) = refl

pub seen-none : {A B : Type 0} (f : A → B) (o : Option A) (none b : Bool) → is_some o ≡ not none → none ≡ b → is_none (option_map f o) ≡ b
seen-none f None true b is same = same
seen-none f None false b is same = cc
seen-none f (Some a) true b is same = cc
seen-none f (Some a) false b is same = same

some-by-none : {A : Type 0} (o : Option A) (none : Bool) → is_none o ≡ none → is_some o ≡ not none
some-by-none None none is = ap not is
some-by-none (Some a) none is = ap not is

-- an end that was put off
pub settled-some : (t : ProgramsStep) (o : OverView) (stderr : List ℕ) (left : Option OverView) → stderr ≡ o.stderr → Some o ≡ t.state.over → left ≡ None
    → program_over (record { end = o.end; stderr = stderr }) (record t { state = record (t.state) { over = left } }) ≡ settled t
settled-some t o stderr left text is none =
    ap (λ s. program_over (record { end = o.end; stderr = s }) (record t { state = record (t.state) { over = left } })) text
    ∙ ap (λ l. program_over o (record t { state = record (t.state) { over = l } })) none
    ∙ ap (λ x. option_map_or (λ p. program_over p (record t { state = record (t.state) { over = None } })) x t) is

-- no line says how the program ended
pub lost-none : (t0 t1 : ProgramsStep) → is_none t1.state.program ≡ true → t1 ≡ settled t0 → t1 ≡ program_lost (settled t0)
lost-none t0 t1 none settles =
    sym (ap (λ b. cond b (without_program (judged lost_fault (told t1 (AllEndEarly unknown_end)))) t1) (some-by-none t1.state.program true none))
    ∙ ap program_lost settles

pub lost-some : (t0 t1 t2 : ProgramsStep) (end : EarlyEndView) → is_none t1.state.program ≡ false → t1 ≡ settled t0 → end ≡ unknown_end
    → t2 ≡ without_program (judged (option_map_or fault_of end.end lost_fault) (told t1 (AllEndEarly end))) → t2 ≡ program_lost (settled t0)
lost-some t0 t1 t2 end runs settles unknown over =
    over
    ∙ ap (λ e. without_program (judged (option_map_or fault_of e.end lost_fault) (told t1 (AllEndEarly e)))) unknown
    ∙ sym (ap (λ b. cond b (without_program (judged lost_fault (told t1 (AllEndEarly unknown_end)))) t1) (some-by-none t1.state.program false runs))
    ∙ ap program_lost settles

-- a line of a program or of the command, which is seen so
pub line-is : (t next : ProgramsStep) (line seen : ProgramLineView) → line ≡ seen → next ≡ program_told seen t → next ≡ program_told line t
line-is t next line seen is tells = tells ∙ sym (ap (λ l. program_told l t) is)

pub cancels-is : (t cancelled next : ProgramsStep) (line : ProgramLineView) (reason : Option CancelReason) → line ≡ CommandIsCancelled reason
    → cancelled ≡ told_if t (option_map Cancels reason) → next ≡ settled cancelled → next ≡ program_told line t
cancels-is t cancelled next line reason is cancels settles = settles ∙ (ap settled cancels ∙ sym (ap (λ l. program_told l t) is))

-- a program that runs ended
abbrev put-off : OverView → ProgramsStep → ProgramsStep
put-off o t = record t { state = record (t.state) { over = Some o } }

abbrev running-ended : OverView → ProgramsStep → ProgramsStep
running-ended o t = cond (may_be_cancelled o.end) (put-off o t) (program_over o t)

-- a program ended, after an end that was put off
pub ended-zero : (o : OverView) (t0 t1 : ProgramsStep) → t1 ≡ settled t0 → is_none t1.state.program ≡ true → is_zero o.end ≡ true → t1 ≡ ended o (settled t0)
ended-zero o t0 t1 settles none zero =
    sym (ap (λ b. cond b (cond (is_zero o.end) t1 (told t1 (ProgramContradicts (EndsUnstarted o.end)))) (running-ended o t1)) none
    ∙ ap (λ b. cond b t1 (told t1 (ProgramContradicts (EndsUnstarted o.end)))) zero)
    ∙ ap (ended o) settles

pub ended-unstarted : (o : OverView) (t0 t1 t2 : ProgramsStep) → t1 ≡ settled t0 → is_none t1.state.program ≡ true → is_zero o.end ≡ false
    → t2 ≡ told t1 (ProgramContradicts (EndsUnstarted o.end)) → t2 ≡ ended o (settled t0)
ended-unstarted o t0 t1 t2 settles none zero tells =
    tells
    ∙ sym (ap (λ b. cond b (cond (is_zero o.end) t1 (told t1 (ProgramContradicts (EndsUnstarted o.end)))) (running-ended o t1)) none
    ∙ ap (λ b. cond b t1 (told t1 (ProgramContradicts (EndsUnstarted o.end)))) zero)
    ∙ ap (ended o) settles

ended-running : (o : OverView) (t0 t1 : ProgramsStep) → t1 ≡ settled t0 → is_none t1.state.program ≡ false → running-ended o t1 ≡ ended o (settled t0)
ended-running o t0 t1 settles some =
    sym (ap (λ b. cond b (cond (is_zero o.end) t1 (told t1 (ProgramContradicts (EndsUnstarted o.end)))) (running-ended o t1)) some) ∙ ap (ended o) settles

pub ended-put_off : (o p : OverView) (t0 t1 : ProgramsStep) → t1 ≡ settled t0 → is_none t1.state.program ≡ false → may_be_cancelled o.end ≡ true
    → p ≡ o → put-off p t1 ≡ ended o (settled t0)
ended-put_off o p t0 t1 settles some may same =
    ap (λ x. put-off x t1) same ∙ (sym (ap (λ b. cond b (put-off o t1) (program_over o t1)) may) ∙ ended-running o t0 t1 settles some)

pub ended-over : (o : OverView) (t0 t1 t2 : ProgramsStep) → t1 ≡ settled t0 → is_none t1.state.program ≡ false → may_be_cancelled o.end ≡ false
    → t2 ≡ program_over o t1 → t2 ≡ ended o (settled t0)
ended-over o t0 t1 t2 settles some may over =
    over ∙ (sym (ap (λ b. cond b (put-off o t1) (program_over o t1)) may) ∙ ended-running o t0 t1 settles some)

-- the program is over
pub over-steps : (o : OverView) (t0 t1 t2 : ProgramsStep) (end : EarlyEndView) → t1 ≡ all_told t0 (map printed (lines o.stderr)) → end ≡ known_end o
    → t2 ≡ without_program (judged (option_map_or fault_of end.end lost_fault) (told t1 (AllEndEarly end))) → t2 ≡ program_over o t0
over-steps o t0 t1 t2 end prints known over =
    over
    ∙ ap (λ e. without_program (judged (option_map_or fault_of e.end lost_fault) (told t1 (AllEndEarly e)))) known
    ∙ ap (λ t. without_program (judged (fault_of o.end) (told t (AllEndEarly (known_end o))))) prints

-- one more event
pub told-more : (t : ProgramsStep) (events : List EventView) (e : EventView) → all_told t (events ++ e ∷ []) ≡ told (all_told t events) e
told-more t [] e = refl
told-more t (x ∷ events) e = told-more (told t x) events e

-- one more line of a text
pub printed-more : (start t next : ProgramsStep) (texts : List (Bor (List ℕ))) (text : Bor (List ℕ))
    → t ≡ all_told start (map printed (map (λ x. x.now) texts)) → next ≡ told t (printed text.now)
    → next ≡ all_told start (map printed (map (λ x. x.now) (texts ++ text ∷ [])))
printed-more start t next texts text so-far prints =
    prints
    ∙ ap (λ u. told u (printed text.now)) so-far
    ∙ sym (ap (λ (lines : List (List ℕ)). all_told start (map printed lines)) (map-append (λ (x : Bor (List ℕ)). x.now) texts (text ∷ []))
    ∙ ap (all_told start) (map-append printed (map (λ (x : Bor (List ℕ)). x.now) texts) (text.now ∷ []))
    ∙ told-more start (map printed (map (λ (x : Bor (List ℕ)). x.now) texts)) (printed text.now))

-- events of two lists
pub told-both : (t : ProgramsStep) (first then : List EventView) → all_told t (first ++ then) ≡ all_told (all_told t first) then
told-both t [] then = refl
told-both t (x ∷ first) then = told-both (told t x) first then

same-bool : (b : Bool) → (b || false) ≡ b
same-bool true = refl
same-bool false = refl

-- what starts nothing and makes nothing known changes nothing
same-program : (p : Option ProgramView) → option_map (with_notes false []) p ≡ p
same-program None = refl
same-program (Some p) = λ i. Some record {
  name = p.name;
  may_be_empty = p.may_be_empty;
  ran = same-bool p.ran i;
  failed = same-bool p.failed i;
  broke = same-bool p.broke i;
}

-- an event that starts nothing and makes nothing known
pub told-quiet : (t : ProgramsStep) (e : EventView) (run : RunState) → is_start e ≡ false → notes_at t.state.run e ≡ [] → run ≡ after t.state.run e
    → with_run run t ≡ told t e
told-quiet t e run still silent next =
    told-by t run e false [] t.notes t.state.program (sym still) (sym silent) next (sym (same-program t.state.program)) (sym (append-nil t.notes))

-- what comes before the end of the command
before-over : (t0 t1 t2 : ProgramsStep) (end : Option ProgramEnd) (error : Option (List ℕ)) (reason : Option CancelReason)
    → t1 ≡ told_if t0 (option_map Cancels reason) → t2 ≡ program_lost (settled t1) → command_over end error t2 ≡ program_told (CommandEnds end error reason) t0
before-over t0 t1 t2 end error reason cancelled lost = ap (command_over end error) (lost ∙ ap (λ t. program_lost (settled t)) cancelled)

-- the command ended before, and says nothing more
pub command-again : (t0 t1 t2 : ProgramsStep) (end : Option ProgramEnd) (error : Option (List ℕ)) (reason : Option CancelReason)
    → t1 ≡ told_if t0 (option_map Cancels reason) → t2 ≡ program_lost (settled t1) → ends_again t2.state end ≡ true
    → t2 ≡ program_told (CommandEnds end error reason) t0
command-again t0 t1 t2 end error reason cancelled lost is =
    sym (ap (λ b. cond b t2 (done (told t2 (CommandOver (command_of end error))))) is) ∙ before-over t0 t1 t2 end error reason cancelled lost

-- the command ends
pub command-ends : (t0 t1 t2 : ProgramsStep) (run : RunState) (end : Option ProgramEnd) (error : Option (List ℕ)) (reason : Option CancelReason)
    (view : CommandView) → t1 ≡ told_if t0 (option_map Cancels reason) → t2 ≡ program_lost (settled t1) → ends_again t2.state end ≡ false
    → view ≡ command_of end error → run ≡ after t2.state.run (CommandOver view)
    → done (with_run run t2) ≡ program_told (CommandEnds end error reason) t0
command-ends t0 t1 t2 run end error reason view cancelled lost is ends next =
    ap done (told-quiet t2 (CommandOver view) run refl refl next)
    ∙ ap (λ v. done (told t2 (CommandOver v))) ends
    ∙ sym (ap (λ b. cond b t2 (done (told t2 (CommandOver (command_of end error))))) is)
    ∙ before-over t0 t1 t2 end error reason cancelled lost

-- before the end of a file, in which lines of programs do not count, in which the command ended, or in which no line says so
abbrev cut-off : ProgramsStep → ProgramsStep
cut-off t = cond t.state.is_done t (told t (ProgramContradicts IsCutOff))

abbrev closed-by : Bool → ProgramsState → ProgramsStep
closed-by counts s = cond counts (cut-off (program_lost (settled (same s)))) (same s)

pub closed-uncounted : (s : ProgramsState) → unwrap_or s.counts false ≡ false → same s ≡ closed s
closed-uncounted s is = sym (ap (λ n. closed-by n s) is)

pub closed-done : (s : ProgramsState) (t : ProgramsStep) → unwrap_or s.counts false ≡ true → t ≡ program_lost (settled (same s)) → t.state.is_done ≡ true
    → t ≡ closed s
closed-done s t is lost over =
    sym (ap (λ b. cond b t (told t (ProgramContradicts IsCutOff))) over) ∙ (ap cut-off lost ∙ sym (ap (λ n. closed-by n s) is))

pub closed-cut : (s : ProgramsState) (t t2 : ProgramsStep) → unwrap_or s.counts false ≡ true → t ≡ program_lost (settled (same s)) → t.state.is_done ≡ false
    → t2 ≡ told t (ProgramContradicts IsCutOff) → t2 ≡ closed s
closed-cut s t t2 is lost still tells =
    tells
    ∙ (sym (ap (λ b. cond b t (told t (ProgramContradicts IsCutOff))) still) ∙ (ap cut-off lost ∙ sym (ap (λ n. closed-by n s) is)))

-- the end of a file
pub file-over : (s0 s2 : ProgramsState) (t1 : ProgramsStep) (run : RunState) (notes all : List NoteView) (command : Option CommandView) → t1 ≡ closed s0
    → notes ≡ file_notes (with_command t1.state.run command) → run ≡ after_file (with_command t1.state.run command) → s2 ≡ programs_start run
    → all ≡ t1.notes ++ notes → step s2 all ≡ file_told s0 command
file-over s0 s2 t1 run notes all command closes known next begins told =
    ap (λ ns. step s2 ns) (told ∙ ap (λ ns. t1.notes ++ ns) known)
    ∙ ap (λ s. step s (t1.notes ++ file_notes (with_command t1.state.run command))) (begins ∙ ap programs_start next)
    ∙ ap (λ t. step (programs_start (after_file (with_command t.state.run command))) (t.notes ++ file_notes (with_command t.state.run command))) closes

-- the three parts of the events of a line
taken-both : (counts : Bool) (a b : List EventView) → events_taken counts (a ++ b) ≡ events_taken counts a ++ events_taken counts b
taken-both true a b = filter-append is_counted a b
taken-both false a b = refl

pub three-taken : (t t1 t2 t3 : ProgramsStep) (counts : Bool) (a b c : List EventView) → t1 ≡ all_told t (events_taken counts a)
    → t2 ≡ all_told t1 (events_taken counts b) → t3 ≡ all_told t2 (events_taken counts c) → t3 ≡ all_told t (events_taken counts (a ++ (b ++ c)))
three-taken t t1 t2 t3 counts a b c first second third =
    third
    ∙ ap (λ x. all_told x (events_taken counts c)) second
    ∙ ap (λ x. all_told (all_told x (events_taken counts b)) (events_taken counts c)) first
    ∙ sym (ap (all_told t) (taken-both counts a (b ++ c)) ∙ told-both t (events_taken counts a) (events_taken counts (b ++ c))
    ∙ ap (all_told (all_told t (events_taken counts a))) (taken-both counts b c)
    ∙ told-both (all_told t (events_taken counts a)) (events_taken counts b) (events_taken counts c))

-- the program that is lent
pub seen-program : (seen : Option (Bor Program)) (kept : Option Program) → option_map (λ x. x.now) seen ≡ kept
    → option_map (λ x. program_state x.now) seen ≡ option_map program_state kept
seen-program None kept is = ap (option_map program_state) is
seen-program (Some x) kept is = ap (option_map program_state) is

-- a line
pub line-steps : (s : ProgramsState) (events : List EventView) (line : Option ProgramLineView) (counts : Bool) (notes : List NoteView) (t : ProgramsStep)
    → counts ≡ unwrap_or s.counts (is_some line) → notes ≡ []
    → t ≡ told_program counts line
    (all_told (settled_if (counts && is_none line) (step (record s { counts = Some counts }) notes)) (events_taken counts events)) → t ≡ line_told s events line
line-steps s events line counts notes t count none takes =
    takes
    ∙ ap (λ ns. told_program counts line
    (all_told (settled_if (counts && is_none line) (step (record s { counts = Some counts }) ns)) (events_taken counts events))) none
    ∙ ap (λ n. told_program n line (all_told (settled_if (n && is_none line) (same (record s { counts = Some n }))) (events_taken n events))) count

-- a line, where lines of programs do not count, of a program or of the command, or of neither
module _ (t : ProgramsStep) (counts : Bool) (events : List EventView) (line : Option ProgramLineView) where
  abbrev Taken : ProgramsStep
  Taken = told_program counts line (all_told (settled_if (counts && is_none line) t) (events_taken counts events))

  pub line-uncounted : (t1 : ProgramsStep) → counts ≡ false → t1 ≡ all_told t (events_taken counts events) → t1 ≡ Taken
  line-uncounted t1 is takes =
      takes
      ∙ sym (ap (λ n. told_program n line (all_told (settled_if (n && is_none line) t) (events_taken counts events))) is)

  pub line-of-program : (t1 t2 : ProgramsStep) (p : ProgramLineView) → counts ≡ true → Some p ≡ line → t1 ≡ all_told t (events_taken counts events)
      → t2 ≡ program_told p t1 → t2 ≡ Taken
  line-of-program t1 t2 p is seen takes tells =
      tells
      ∙ ap (program_told p) takes
      ∙ sym (ap (λ n. told_program n (Some p) (all_told (settled_if (n && false) t) (events_taken counts events))) is)
      ∙ ap (λ l. told_program counts l (all_told (settled_if (counts && is_none l) t) (events_taken counts events))) seen

  pub line-of-none : (t1 t2 : ProgramsStep) → counts ≡ true → None ≡ line → t1 ≡ settled t → t2 ≡ all_told t1 (events_taken counts events) → t2 ≡ Taken
  line-of-none t1 t2 is seen settles takes =
      takes
      ∙ ap (λ u. all_told u (events_taken counts events)) settles
      ∙ sym (ap (λ n. told_program n None (all_told (settled_if (n && true) t) (events_taken counts events))) is)
      ∙ ap (λ l. told_program counts l (all_told (settled_if (counts && is_none l) t) (events_taken counts events))) seen
