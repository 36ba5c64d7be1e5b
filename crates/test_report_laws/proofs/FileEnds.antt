-- What the end of a file makes known.
use Rattle.std.proofs.Common.{◌≡◌, ◌+◌, ℕ, [], ◌∷◌, ◌++◌, Option, Some, None, arith, refl}
use Rattle.std.specs.List.{sum_by}
use Rattle.std.specs.Option.{option_map_or}
use Rattle.std.specs.Prelude.{◌&&◌, ◌||◌, if◌then◌else◌, nat_lt, not}
use Rattle.std.proofs.lemmas.List.Sums.{sum_by-append}
use Rattle.test_report_events.specs.Event.{CommandView}
use Rattle.test_report_run_notes.specs.Note.{CommandFails, ContradictionView, Contradicts, HasNoEvent, NoteView, ended_well, was_not_started}
use Rattle.test_report_laws.proofs.CargoReports.{only-told, reports-none}
use Rattle.test_report_laws.proofs.Sums.{sum-if-none}
use Rattle.test_report_run.specs.FileEnd.{command_fails, command_notes, file_end, file_name, file_notes, no_event_notes, reports_told}
use Rattle.test_report_run.specs.Over.{nothing_known}
use Rattle.test_report_run.specs.Run.{RunState, Step, all_ended_early, learned, unless_cancelled}

-- the run when its failures of cargo are known, what its suites make known then, and the run when all of this is counted
abbrev pub reported_run : RunState → RunState
reported_run r = (reports_told r).run

abbrev pub suites_over : RunState → Step
suites_over r = all_ended_early nothing_known (reported_run r)

abbrev pub counted_run : RunState → RunState
counted_run r = learned (file_end r).run (file_end r).notes

module _ (w : NoteView → ℕ) where
  pub end-parts : (r : RunState) → sum_by w (file_notes r)
      ≡ sum_by w (reports_told r).notes
      + (sum_by w (suites_over r).notes + (sum_by w (no_event_notes (suites_over r).run) + sum_by w (command_notes (counted_run r))))
  end-parts r = omega (
    arith,
    sum_by-append w (file_end r).notes (command_notes (counted_run r)),
    sum_by-append w (reports_told r).notes ((suites_over r).notes ++ no_event_notes (suites_over r).run),
    sum_by-append w (suites_over r).notes (no_event_notes (suites_over r).run),
  )

  -- if contradictions weigh nothing, only suites do
  module _ (contradict : (d : ContradictionView) → w (Contradicts d) ≡ 0) where
    pub no-event-none : (r : RunState) → sum_by w (no_event_notes r) ≡ 0
    no-event-none r = sum-if-none w
        (not r.has_event && (not (nat_lt r.causes_at_file r.causes) && not (ended_well r.command || was_not_started r.command)))
        (Contradicts (HasNoEvent (file_name r))) (contradict (HasNoEvent (file_name r)))

    pub command-none : (r : RunState) → sum_by w (command_notes r) ≡ 0
    command-none r = by-end r.command
      where
        by-end : (o : Option CommandView)
            → sum_by w (option_map_or (λ end. if command_fails r.causes end then Contradicts (unless_cancelled r (CommandFails end)) ∷ [] else []) o []) ≡ 0
        by-end None = refl
        by-end (Some end) =
            let d = unless_cancelled r (CommandFails end) in sum-if-none w (command_fails r.causes end) (Contradicts d) (contradict d)

    pub suites-alone : (r : RunState) → sum_by w (file_notes r) ≡ sum_by w (suites_over r).notes
    suites-alone r = omega (
      arith,
      end-parts r,
      reports-none (only-told r) w (λ report. contradict _),
      no-event-none (suites_over r).run,
      command-none (counted_run r),
    )
