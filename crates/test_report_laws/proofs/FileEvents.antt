-- A file of a run in which nothing is wrong has an event of a harness, or is the output of a command that ended with status 0.
use Rattle.std.proofs.Common.{◌≡◌, ◌≢◌, ◌∙◌, ℕ, List, [], ◌∷◌, ◌++◌, ◌<◌, Bool, true, false, Option, Some, None, IfSome, ap, arith, cond, inl, inr, refl, subst, sym}
use Rattle.std.specs.List.{count_by, sum_by}
use Rattle.std.specs.Option.{option_map_or}
use Rattle.std.specs.Prelude.{◌==◌, ◌&&◌, ◌||◌, if◌then◌else◌, nat_lt, not}
use Rattle.std.proofs.lemmas.Bool.{cases_lt, eqb-true}
use Rattle.std.proofs.lemmas.Bool.Decides.{nat_tests}
use Rattle.std.proofs.lemmas.List.Sums.{sum_by-append, sum_by-cons}
use Rattle.test_report_events.specs.Event.{AllEndEarly, BySignal, CargoFails, CommandOver, CommandStarts, Cancels, CommandView, DamagedLine, EventView, HeadingLine, NotStarted, OtherLine, Prints, ProgramContradicts, SuiteEnds, SuiteStarts, TestEnds, TestIsSlow, TestStarts, WithError, WithStatus}
use Rattle.test_report_run_notes.specs.Note.{CommandFails, Contradicts, HasNoEvent, ended_well, was_not_started}
use Rattle.test_report_laws.proofs.Aside.{aside-early}
use Rattle.test_report_laws.proofs.CargoReports.{only-cargo, only-settled_at, only-told, ready}
use Rattle.test_report_laws.proofs.CauseCounts.{Bound, bound-after, bound-told, none-waits, quiet-causes}
use Rattle.test_report_laws.proofs.FileEnds.{counted_run, end-parts, reported_run, suites_over}
use Rattle.test_report_laws.proofs.LineParts.{file-weighs}
use Rattle.test_report_laws.proofs.Outcomes.{outcome-means}
use Rattle.test_report_laws.proofs.RunCauses.{causes-of, weight}
use Rattle.test_report_laws.specs.Run.{CommandEndShows, IsClean, NoEventShows, events_in}
use Rattle.test_report_run.specs.Events.{is_event}
use Rattle.test_report_laws.specs.Whole.{IsFileEndOf, all_notes, notes_of, run_after, run_after_file, run_after_files}
use Rattle.test_report_run.specs.FileEnd.{command_fails, file_name, file_notes, reports_told}
use Rattle.test_report_run.specs.Over.{nothing_known}
use Rattle.test_report_run.specs.Run.{RunSettings, RunState, after, early_end, is_cause, run_start, told, unless_cancelled}

-- lines that are no events of a harness
none-told : (r : RunState) (e : EventView) → is_event e ≡ false → (told r e).run.has_event ≡ r.has_event
none-told r (SuiteStarts key count) other = absurd (cc)
none-told r (SuiteEnds e) other = absurd (cc)
none-told r (TestStarts name) other = absurd (cc)
none-told r (TestEnds e) other = absurd (cc)
none-told r (TestIsSlow name) other = absurd (cc)
none-told r OtherLine other = absurd (cc)
none-told r (HeadingLine name path) other = refl
none-told r (CargoFails f line plain) other = ap (λ (x : RunState). x.has_event) (only-cargo r f plain).run_is
none-told r (Prints line plain) other = refl
none-told r (DamagedLine text) other = refl
none-told r (CommandStarts names) other = refl
none-told r (Cancels why) other = refl
none-told r (CommandOver end) other = refl
none-told r (AllEndEarly end) other = ap (λ (x : RunState). x.has_event) (aside-early (early_end r end) r)
none-told r (ProgramContradicts fault) other = refl

none-after : (r : RunState) (e : EventView) → is_event e ≡ false → (after r e).has_event ≡ (told (ready r e) e).run.has_event
none-after r (SuiteStarts key count) other = absurd (cc)
none-after r (SuiteEnds e) other = absurd (cc)
none-after r (TestStarts name) other = absurd (cc)
none-after r (TestEnds e) other = absurd (cc)
none-after r (TestIsSlow name) other = absurd (cc)
none-after r OtherLine other = absurd (cc)
none-after r e other = refl

still-none : (r : RunState) (e : EventView) → is_event e ≡ false → r.has_event ≡ false → (after r e).has_event ≡ false
still-none r e other none =
    none-after r e other ∙ (none-told (ready r e) e other ∙ (ap (λ (x : RunState). x.has_event) (only-settled_at r e).run_is ∙ none))

is-other : (b : Bool) → ◌≡◌ {A = ℕ} (cond b 1 0) 0 → b ≡ false
is-other true h = absurd (cc)
is-other false h = refl

none-in : (r : RunState) (file : List EventView) → events_in file ≡ 0 → r.has_event ≡ false → (run_after r file).has_event ≡ false
none-in r [] none is = is
none-in r (e ∷ file) none is =
    let parts = sum_by-cons (λ x. cond (is_event x) 1 0) e file in
    none-in (after r e) file (omega (arith, none, parts)) (still-none r e (is-other (is_event e) (omega (arith, none, parts))) is)

-- and each file begins without one
none-between : (r : RunState) (files : List (List EventView)) → r.has_event ≡ false → (run_after_files r files).has_event ≡ false
none-between r [] is = is
none-between r (file ∷ files) is = none-between (run_after_file r file) files refl

-- there is a contradiction if a file has no event, no failed test and no other contradiction
one-if-silent : (has : Bool) (before now : ℕ) (command : Option CommandView) (file : Option (List ℕ)) → has ≡ false → now ≡ 0 → command ≡ None
    → sum_by weight (if not has && (not (nat_lt before now) && not (ended_well command || was_not_started command))
    then Contradicts (HasNoEvent file) ∷ [] else []) ≡ 1
one-if-silent has before now None file none zero is = grind (arith, nat_tests, none, zero)
one-if-silent has before now (Some end) file none zero is = absurd (cc)

silent-cause : (r : RunState) → r.has_event ≡ false → r.command ≡ None → (reported_run r).causes ≡ 0 → 0 < count_by is_cause (file_notes r)
silent-cause r none alone zero =
    let over = (suites_over r).run in
    let told = (only-told r).run_is in
    let same = aside-early nothing_known (reported_run r) in
    let one = one-if-silent over.has_event over.causes_at_file over.causes over.command (file_name over)
    (ap (λ (x : RunState). x.has_event) same ∙ (ap (λ (x : RunState). x.has_event) told ∙ none)) (ap (λ (x : RunState). x.causes) same ∙ zero)
    (ap (λ (x : RunState). x.command) same ∙ (ap (λ (x : RunState). x.command) told ∙ alone)) in
    omega (arith, one, end-parts weight r)

-- the end of a command with another status than 0 is a contradiction if there is no failed test and no other contradiction
not-zero : (code : ℕ) → WithStatus code ≢ WithStatus 0 → (code == 0) ≡ false
not-zero code other = elim (code == 0) as (λ b. (code == 0) ≡ b → b ≡ false) [
  | true ↦ λ is. absurd (other (ap WithStatus (eqb-true code 0 is)))
  | false ↦ λ is. refl
] refl

abbrev status_of : CommandView → ℕ
status_of (NotStarted error) = 0
status_of (BySignal number) = 0
status_of (WithStatus code) = code
status_of (WithError code words) = 0

fails : (causes : ℕ) (end : CommandView) → end ≢ WithStatus 0 → causes ≡ 0 → command_fails causes end ≡ true
fails causes (NotStarted error) other zero = refl
fails causes (BySignal number) other zero = refl
fails causes (WithStatus code) other zero = grind (arith, nat_tests, zero, not-zero code other)
fails causes (WithError code words) other zero = grind (arith, nat_tests, zero)

one-if-fails : (r : RunState) (o : Option CommandView) (end : CommandView) → o ≡ Some end → end ≢ WithStatus 0 → r.causes ≡ 0
    → sum_by weight (option_map_or (λ end. if command_fails r.causes end then Contradicts (unless_cancelled r (CommandFails end)) ∷ [] else []) o []) ≡ 1
one-if-fails r None end is other zero = absurd (cc)
one-if-fails r (Some e) end is other zero = ap (λ (b : Bool). sum_by weight (if b then Contradicts (unless_cancelled r (CommandFails e)) ∷ [] else []))
    (fails r.causes e (λ same. other (cc)) zero)

command-cause : (r : RunState) (end : CommandView) → r.command ≡ Some end → end ≢ WithStatus 0 → (reported_run r).causes ≡ 0
    → 0 < count_by is_cause (file_notes r)
command-cause r end is other zero = elim (cases_lt 0 (count_by is_cause (file_notes r))) [
  | inl some ↦ some
  | inr few ↦
      let over = (suites_over r).run in
      let told = (only-told r).run_is in
      let same = aside-early nothing_known (reported_run r) in
      let causes : (counted_run r).causes ≡ 0 = omega (arith, few, quiet-causes r, ap (λ (x : RunState). x.causes) same, zero) in
      let one = one-if-fails (counted_run r) (counted_run r).command end
      (ap (λ (x : RunState). x.command) same ∙ (ap (λ (x : RunState). x.command) told ∙ is)) other causes in
      omega (arith, one, end-parts weight r)
]

module _ (settings : RunSettings) (files : List (List EventView)) (clean : IsClean (all_notes settings files)) where
  -- nothing is known, so there are no causes
  no-causes : (r : RunState) (end : IsFileEndOf settings files r) → ((reported_run r).causes ≡ 0) × (count_by is_cause (file_notes r) ≡ 0)
  no-causes r end =
      let known = all_notes settings end.before ++ notes_of (run_after_files (run_start settings) end.before) end.file in
      let bound : Bound known r = subst (Bound known) (sym end.run_is) (bound-after settings end.before end.file) in
      let weighs = file-weighs weight settings files r end in
      let none = causes-of (all_notes settings files) in (
        omega (
          arith,
          bound-told known r bound,
          none-waits r,
          weighs,
          none,
          clean.none_failed,
          clean.none_contradict,
          sum_by-append weight known (reports_told r).notes,
          end-parts weight r,
        ),
        omega (arith, weighs, none, clean.none_failed, clean.none_contradict),
      )

  pub file-event : (r : RunState) (end : IsFileEndOf settings files r) → r.command ≡ None → 0 < events_in end.file
  file-event r end alone = elim (cases_lt 0 (events_in end.file)) [
    | inl some ↦ some
    | inr few ↦
        let first = run_after_files (run_start settings) end.before in
        let none : r.has_event ≡ false = ap (λ (x : RunState). x.has_event) end.run_is
        ∙ none-in first end.file (omega (arith, few)) (none-between (run_start settings) end.before refl) in
        let quiet = no-causes r end in
        absurd (omega (arith, silent-cause r none alone quiet.0, quiet.1))
  ]

  pub no-command-fails : (r : RunState) → IsFileEndOf settings files r → (end : CommandView) → r.command ≡ Some end → end ≢ WithStatus 0 → ⊥
  no-command-fails r at end is other = let quiet = no-causes r at in omega (arith, command-cause r end is other quiet.0, quiet.1)

  ended-as : (end : CommandView) → (end ≢ WithStatus 0 → ⊥) → end ≡ WithStatus 0
  ended-as (NotStarted error) never = absurd (never (λ h. cc))
  ended-as (BySignal number) never = absurd (never (λ h. cc))
  ended-as (WithError code words) never = absurd (never (λ h. cc))
  ended-as (WithStatus code) never = elim (cases_lt 0 code) [
    | inl some ↦ absurd (never (λ h. omega (arith, some, ap status_of h)))
    | inr none ↦ ap WithStatus (omega (arith, none))
  ]

  pub ended-well : (r : RunState) → IsFileEndOf settings files r → IfSome r.command (λ end. end ≡ WithStatus 0)
  ended-well r at = by-end r.command refl
    where
      by-end : (o : Option CommandView) → r.command ≡ o → IfSome o (λ end. end ≡ WithStatus 0)
      by-end None is = tt
      by-end (Some end) is = ended-as end (λ other. no-command-fails r at end is other)

pub no-event-shows : NoEventShows
no-event-shows settings files r end none alone =
    let means = outcome-means settings files in
    let never : IsClean (all_notes settings files) → ⊥ = λ clean. omega (arith, file-event settings files clean r end alone, none) in
    ((λ h. never (means.success.0 h).0), (λ h. never (means.no_tests.0 h).0))

pub command-shows : CommandEndShows
command-shows settings files r at end is other =
    let means = outcome-means settings files in (
      (λ h. no-command-fails settings files (means.success.0 h).0 r at end is other),
      (λ h. no-command-fails settings files (means.no_tests.0 h).0 r at end is other),
    )
