-- A program that did not do well has a cause.
use Rattle.std.proofs.Common.{◌≡◌, ◌∙◌, ℕ, List, [], ◌∷◌, ◌++◌, ◌<◌, ◌⊎◌, inl, inr, Bool, true, false, Option, None, Some, ap, append-nil, append_assoc, arith, cond, map, option_and_then, option_map, refl, subst, sym}
use Rattle.std.specs.Prelude.{◌&&◌, ◌||◌, is_none, is_some, pos, unwrap_or}
use Rattle.std.specs.List.{list_any}
use Rattle.std.specs.Ordering.{int_eq}
use Rattle.std.specs.Str.Lines.{lines}
use Rattle.std.proofs.lemmas.List.Sums.{sum_by-append, sum_by-cons}
use Rattle.test_report_events.specs.Event.{AllEndEarly, EndsUnexplained, EndsUnstarted, EventView, ProgramContradicts, ProgramFaultView, RunsNoTest}
use Rattle.test_report_events.specs.Program.{ProgramLineView, ProgramStartView}
use Rattle.test_report_events.specs.declared.program.ProgramEnd.{ProgramEnd}
use Rattle.test_report_events.specs.declared.program.ProgramEnd.TheVariants.{Signal, Status}
use Rattle.test_report_run_notes.specs.Note.{Contradicts, Fails, NoteView, OfProgram, OutcomeView, TestIs}
use Rattle.test_report_run.specs.Run.{has_failed, is_cause, notes_at, unless_cancelled}
use Rattle.test_report_programs.specs.Lines.{OverView, ProgramView, ProgramsStep, all_told, at_line, ended, events_taken, explains, fault_of, is_break, is_crash, is_start, is_zero, known_end, may_be_cancelled, new_program, printed, program_over, same, settled, settled_if, told, told_if, told_program, with_notes}
use Rattle.test_report_laws.proofs.ProgramSteps.{either-keeps, line-keeps, settled-keeps, with_over, with_program}
use Rattle.test_report_laws.specs.Programs.{FailedProgramShows, IsKnown, LinesKeepKnown, UnstartedProgramShows, causes_in, ended_well}
use Rattle.test_report_laws.specs.Run.{says_failed}

-- one if the note is a cause
abbrev weight : NoteView → ℕ
weight n = cond (is_cause n) 1 0

either-true : (a b : Bool) → (a || b) ≡ true → (a ≡ true) ⊎ (b ≡ true)
either-true true b h = inl refl
either-true false b h = inr h

last-true : (a : Bool) → (a || true) ≡ true
last-true true = refl
last-true false = refl

same-or : (a : Bool) → (a || false) ≡ a
same-or true = refl
same-or false = refl

-- one of two is true
some-true : (which a b : Bool) → cond which a b ≡ true → (a || b) ≡ true
some-true true a b h = ap (λ x. x || b) h
some-true false a b h = ap (λ x. a || x) h ∙ last-true a

-- a note that passes a test of causes is one
any-counts : (test : NoteView → Bool) → ((n : NoteView) → test n ≡ true → is_cause n ≡ true) → (notes : List NoteView) → list_any test notes ≡ true
    → 0 < causes_in notes
any-counts test causes [] h = absurd (cc)
any-counts test causes (n ∷ notes) h =
    elim (either-true (test n) (list_any test notes) h) [
      | inl a ↦ omega (arith, sum_by-cons weight n notes, ap {B = ℕ} (λ b. cond b 1 0) (causes n a))
      | inr b ↦ omega (arith, sum_by-cons weight n notes, any-counts test causes notes b)
    ]

-- a crash and an early end are causes
break-outcome : (t : OutcomeView) → is_crash t ≡ true → has_failed t ≡ true
break-outcome (Fails f) h = refl
break-outcome t h = absurd (cc)

break-cause : (n : NoteView) → is_break n ≡ true → is_cause n ≡ true
break-cause (TestIs t) h = ap (λ b. b || false) (break-outcome t.outcome h)
break-cause (Contradicts d) h = refl
break-cause n h = absurd (cc)

-- an event keeps it known
notes-keep : (known notes : List NoteView) (starts : Bool) (p : ProgramView) → ((p.failed || p.broke) ≡ true → 0 < causes_in known)
    → ((p.failed || list_any is_cause notes) || (p.broke || list_any is_break notes)) ≡ true → 0 < causes_in (known ++ notes)
notes-keep known notes starts p before h =
    let both = sum_by-append weight known notes in
    elim (either-true (p.failed || list_any is_cause notes) (p.broke || list_any is_break notes) h) [
      | inl a ↦ elim (either-true p.failed (list_any is_cause notes) a) [
        | inl f ↦ omega (arith, both, before (ap (λ b. b || p.broke) f))
        | inr c ↦ omega (arith, both, any-counts is_cause (λ n i. i) notes c)
      ]
      | inr b ↦ elim (either-true p.broke (list_any is_break notes) b) [
        | inl f ↦ omega (arith, both, before (ap (λ b. p.failed || b) f ∙ last-true p.failed))
        | inr c ↦ omega (arith, both, any-counts is_break break-cause notes c)
      ]
    ]

known-more : (known notes : List NoteView) (starts : Bool) (program : Option ProgramView) → IsKnown known program
    → IsKnown (known ++ notes) (option_map (with_notes starts notes) program)
known-more known notes starts None k = tt
known-more known notes starts (Some p) k = notes-keep known notes starts p k

-- of a step after other notes
abbrev pub Known : List NoteView → ProgramsStep → Type 0
Known past t = IsKnown (past ++ t.notes) t.state.program

pub known-told : (past : List NoteView) (t : ProgramsStep) (e : EventView) → Known past t → Known past (told t e)
unfolding told
known-told past t e k =
    let notes = notes_at t.state.run e in
    subst (λ (ns : List NoteView). IsKnown ns (option_map (with_notes (is_start e) notes) t.state.program)) (append_assoc past t.notes notes)
    (known-more (past ++ t.notes) notes (is_start e) t.state.program k)

known-all : (past : List NoteView) (t : ProgramsStep) (events : List EventView) → Known past t → Known past (all_told t events)
known-all past t [] k = k
known-all past t (e ∷ events) k = known-all past (told t e) events (known-told past t e k)

-- what a step keeps known
known-quiet : (past : List NoteView) (t : ProgramsStep) (e : EventView) → says_failed e ≡ false → Known past t → Known past (told t e)
known-quiet past t e q = known-told past t e

known-started : (past : List NoteView) (t : ProgramsStep) (p : ProgramStartView) → Known past t → Known past (with_program (Some (new_program p)) t)
known-started past t p k = λ h. absurd (cc)

known-either : (past : List NoteView) (b : Bool) (x y : ProgramsStep) → Known past x → Known past y → Known past (cond b x y)
known-either past = either-keeps (Known past) (known-quiet past) (λ t k. tt) (known-started past) (λ t o k. k) (λ t k. k)

pub known-settled : (past : List NoteView) (t : ProgramsStep) → Known past t → Known past (settled t)
known-settled past = settled-keeps (Known past) (known-quiet past) (λ t k. tt) (known-started past) (λ t o k. k) (λ t k. k)

known-line : (past : List NoteView) (counts : Bool) (line : Option ProgramLineView) (t : ProgramsStep) → Known past t
    → Known past (told_program counts line t)
known-line past = line-keeps (Known past) (known-quiet past) (λ t k. tt) (known-started past) (λ t o k. k) (λ t k. k)

pub lines-keep : LinesKeepKnown
lines-keep past s events line k =
    let counts = unwrap_or s.counts (is_some line) in
    let begun = same (at_line s line) in
    let due = counts && is_none line in
    let ready = settled_if due begun in
    let first : Known past begun = subst (λ (ns : List NoteView). IsKnown ns s.program) (sym (append-nil past)) k in
    known-line past counts line (all_told ready (events_taken counts events))
    (known-all past ready (events_taken counts events) (known-either past due (settled begun) begun (known-settled past begun first) first))

-- a fault is a contradiction
fault-counts : (t : ProgramsStep) (fault : ProgramFaultView) → 0 < causes_in (told t (ProgramContradicts fault)).notes
unfolding told
fault-counts t fault =
    let d = Contradicts (unless_cancelled t.state.run (OfProgram fault)) in
    omega (arith, sum_by-append weight t.notes (d ∷ []), sum_by-cons weight d [])

pub unstarted-shows : UnstartedProgramShows
unstarted-shows t o none bad =
    let stray = told t (ProgramContradicts (EndsUnstarted o.end)) in
    let is : ended o t ≡ stray =
    ap (λ b. cond b (cond (is_zero o.end) t stray) (cond (may_be_cancelled o.end) (with_over (Some o) t) (program_over o t)))
    (ap (λ (p : Option ProgramView). is_none p) none)
    ∙ ap (λ b. cond b t stray) bad in
    subst (λ (x : ProgramsStep). 0 < causes_in x.notes) (sym is) (fault-counts t (EndsUnstarted o.end))

-- what explains an end is known
explained : (end : ProgramEnd) (p : ProgramView) → explains p end ≡ true → (p.failed || p.broke) ≡ true
explained (Status code) p h = some-true (int_eq code (pos 101)) p.failed p.broke h
explained (Signal number) p h = ap (λ b. p.failed || b) h ∙ last-true p.failed

fault-after : (past : List NoteView) (t : ProgramsStep) (fault : ProgramFaultView) → 0 < causes_in (past ++ (told t (ProgramContradicts fault)).notes)
fault-after past t fault =
    let notes = (told t (ProgramContradicts fault)).notes in
    omega (arith, sum_by-append weight past notes, fault-counts t fault)

judged-shows : (past : List NoteView) (zero ran explains : Bool) (x y : ProgramFaultView) (t : ProgramsStep) → (zero && ran) ≡ false
    → (explains ≡ true → 0 < causes_in (past ++ t.notes))
    → 0 < causes_in (past ++ (told_if t (option_map ProgramContradicts (cond zero (cond ran None (Some x)) (cond explains None (Some y))))).notes)
judged-shows past true true explains x y t bad known = absurd (cc)
judged-shows past true false explains x y t bad known = fault-after past t x
judged-shows past false ran true x y t bad known = known refl
judged-shows past false ran false x y t bad known = fault-after past t y

-- a program that is not known to have run more
record RunsOn (ran may : Bool) (t : ProgramsStep) : Type 0 where
  now : ProgramView
  is : t.state.program ≡ Some now
  ran_is : now.ran ≡ ran
  may_is : now.may_be_empty ≡ may

runs-more : (starts ran may : Bool) (notes : List NoteView) (t : ProgramsStep) → starts ≡ false → RunsOn ran may t
    → RunsOn ran may (with_program (option_map (with_notes starts notes) t.state.program) t)
runs-more starts ran may notes t still r = record {
  now = with_notes starts notes r.now;
  is = ap (option_map (with_notes starts notes)) r.is;
  ran_is = ap (λ b. r.now.ran || b) still ∙ same-or r.now.ran ∙ r.ran_is;
  may_is = r.may_is;
}

runs-told : (ran may : Bool) (t : ProgramsStep) (e : EventView) → is_start e ≡ false → RunsOn ran may t → RunsOn ran may (told t e)
unfolding told
runs-told ran may t e still r =
    let more = runs-more (is_start e) ran may (notes_at t.state.run e) t still r in
    record { now = more.now; is = more.is; ran_is = more.ran_is; may_is = more.may_is }

runs-prints : (ran may : Bool) (t : ProgramsStep) (texts : List (List ℕ)) → RunsOn ran may t → RunsOn ran may (all_told t (map printed texts))
runs-prints ran may t [] r = r
runs-prints ran may t (x ∷ texts) r = runs-prints ran may (told t (printed x)) texts (runs-told ran may t (printed x) refl r)

last-shows : (past : List NoteView) (end : ProgramEnd) (last : ProgramsStep) (program : Option ProgramView) (p : ProgramView)
    → IsKnown (past ++ last.notes) program → program ≡ Some p → ended_well end p ≡ false
    → 0 < causes_in (past ++ (told_if last (option_map ProgramContradicts (option_and_then (fault_of end) program))).notes)
last-shows past end last program p known is bad =
    let at : IsKnown (past ++ last.notes) (Some p) = subst (λ (o : Option ProgramView). IsKnown (past ++ last.notes) o) is known in
    subst (λ (o : Option ProgramView). 0 < causes_in (past ++ (told_if last (option_map ProgramContradicts (option_and_then (fault_of end) o))).notes)) (sym is)
    (judged-shows past (is_zero end) (p.ran || p.may_be_empty) (explains p end) (RunsNoTest p.name) (EndsUnexplained p.name end) last bad
    (λ h. at (explained end p h)))

-- the program is over, after other notes
pub program-shows-after : (past : List NoteView) (t : ProgramsStep) (o : OverView) (p : ProgramView) → Known past t → t.state.program ≡ Some p
    → ended_well o.end p ≡ false → 0 < causes_in (past ++ (program_over o t).notes)
program-shows-after past t o p known is bad =
    let prints = all_told t (map printed (lines o.stderr)) in
    let last = told prints (AllEndEarly (known_end o)) in
    let kept : Known past last = known-told past prints (AllEndEarly (known_end o)) (known-all past t (map printed (lines o.stderr)) known) in
    let runs : RunsOn p.ran p.may_be_empty last =
    runs-told p.ran p.may_be_empty prints (AllEndEarly (known_end o)) refl
    (runs-prints p.ran p.may_be_empty t (lines o.stderr) (record { now = p; is = is; ran_is = refl; may_is = refl })) in
    let same : ended_well o.end runs.now ≡ ended_well o.end p =
    ap (λ b. is_zero o.end && (b || runs.now.may_be_empty)) runs.ran_is ∙ ap (λ b. is_zero o.end && (p.ran || b)) runs.may_is in
    last-shows past o.end last last.state.program runs.now kept runs.is (same ∙ bad)

pub program-shows : FailedProgramShows
program-shows = program-shows-after []
