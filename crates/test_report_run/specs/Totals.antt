-- The sums over all suites of a run.
use Rattle.std.specs.Prelude.{◌+◌, [], ℕ, if◌then◌else◌, nat_lt, None}
use Rattle.run_events_stats.specs.Counters.{counters_of, nothing_known, sum_of}
use Rattle.run_events_stats.specs.Outcome.{combined, outcome_of}
use Rattle.run_events_stats.specs.Summary.{summary_of}
use Rattle.run_events_stats.specs.declared.outcome.RunFailureStep.TheVariants as step
use Rattle.run_events_stats.specs.declared.outcome.run_outcome.RunOutcome.{RunOutcome}
use Rattle.run_events_stats.specs.declared.outcome.run_outcome.RunOutcome.TheVariants as outcome
use Rattle.test_report_run_notes.specs.Note.{SuiteNoteView}
use Rattle.test_report_run_notes.specs.declared.note.RunEnd.{RunEnd}
use Rattle.test_report_run.specs.Said.{time_sum_of}

-- the outcome of a suite: that of its statistics, with one more test to run if some were not run
abbrev pub suite_outcome : SuiteNoteView → RunOutcome
suite_outcome s = outcome_of (summary_of record (s.stats) {
  initial_run_count = if nat_lt 0 s.not_run then s.stats.finished_count + 1 else s.stats.finished_count;
})

-- the sums over no suites
abbrev pub no_suites : RunEnd
no_suites = record {
  stats = counters_of [] [] nothing_known;
  skipped = 0;
  not_run = 0;
  crashed = 0;
  time = None;
  outcome = outcome.NoTestsRun;
}

-- the sums over one suite more
abbrev pub with_suite : RunEnd → SuiteNoteView → RunEnd
with_suite e s = record {
  stats = sum_of e.stats s.stats;
  skipped = e.skipped + s.skipped;
  not_run = e.not_run + s.not_run;
  crashed = e.crashed + s.crashed;
  time = time_sum_of e.time s.time;
  outcome = combined e.outcome (suite_outcome s);
}

-- the end of a run with this number of contradictions, of which `cancels` say that it was cancelled
abbrev pub ending : RunEnd → ℕ → ℕ → RunEnd
ending e contradictions cancels =
    if nat_lt cancels contradictions then record e { outcome = outcome.Failed step.Test }
    else if nat_lt 0 contradictions then record e { outcome = combined e.outcome (outcome.Cancelled step.Test) }
    else e
