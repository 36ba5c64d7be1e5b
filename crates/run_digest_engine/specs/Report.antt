-- The text of the reports of runs.
use Rattle.std.specs.Prelude.{ℕ, Bool, true, false, List, [], ◌∷◌, ◌++◌, map, codes}
use Rattle.std.specs.Fmt.{decimal}
use Rattle.std.specs.List.{concat}
use Rattle.run_events_stats.specs.Counters.{stats_of}
use Rattle.run_events_stats.specs.Outcome.{outcome_of}
use Rattle.run_events_stats.specs.Summary.{failed_scripts, failed_tests, summary_of}
use Rattle.run_events_stats.specs.declared.outcome.FinalRunStats.{FinalRunStats}
use Rattle.run_events_stats.specs.declared.outcome.FinalRunStats.TheVariants.{Success, NoTestsRun, Cancelled, Failed}
use Rattle.run_events_stats.specs.declared.outcome.RunFailureStep.TheVariants as step
use Rattle.run_events_stats.specs.declared.outcome.RunStatsFailureKind.{RunStatsFailureKind}
use Rattle.run_events_stats.specs.declared.outcome.RunStatsFailureKind.TheVariants.{SetupScript, Test}
use Rattle.run_events_stats.specs.declared.outcome.run_outcome.RunOutcome.{RunOutcome}
use Rattle.run_events_stats.specs.declared.outcome.run_outcome.RunOutcome.TheVariants as outcome
use Rattle.run_events_stats.specs.declared.stats.RunStats.{RunStats}
use Rattle.run_digest_engine.specs.Reading.{Run}
use Rattle.run_digest_engine.specs.Spelling.{reason_word}

-- the words for the step of a run
unfoldable pub step_words : RunStatsFailureKind → List ℕ
step_words SetupScript = codes "setup-script"
step_words (Test initial not_run) = codes "test " ++ (decimal initial ++ (codes " " ++ decimal not_run))

-- the words for a summary
unfoldable pub summary_words : FinalRunStats → List ℕ
summary_words Success = codes "success"
summary_words NoTestsRun = codes "no-tests-run"
summary_words (Cancelled why kind) = codes "cancelled " ++ (reason_word why ++ (codes " " ++ step_words kind))
summary_words (Failed kind) = codes "failed " ++ step_words kind

-- the line of the tests, from its numbers
unfoldable pub tests_line : ℕ → ℕ → ℕ → ℕ → List ℕ
tests_line finished passed failed flaky =
    codes "tests " ++ (decimal finished ++ (codes " passed " ++ (decimal passed
    ++ (codes " failed " ++ (decimal failed ++ (codes " flaky " ++ (decimal flaky ++ codes "\n")))))))

-- the line of the scripts, from its numbers
unfoldable pub scripts_line : ℕ → ℕ → List ℕ
scripts_line finished failed = codes "scripts " ++ (decimal finished ++ (codes " failed " ++ (decimal failed ++ codes "\n")))

-- the three lines of a report
unfoldable pub report_of : RunStats → List ℕ
report_of s =
    tests_line s.finished_count s.passed (failed_tests s) s.flaky
    ++ (scripts_line s.setup_scripts_finished_count (failed_scripts s)
    ++ (codes "summary " ++ (summary_words (summary_of s) ++ codes "\n")))

-- the statistics of a run
abbrev pub run_stats : Run → RunStats
run_stats run = stats_of run.units run.start

-- the outcome of a run
abbrev pub run_outcome : Run → RunOutcome
run_outcome run = outcome_of (summary_of (run_stats run))

-- the words for an outcome
unfoldable pub outcome_words : RunOutcome → List ℕ
outcome_words outcome.Success = codes "success"
outcome_words outcome.NoTestsRun = codes "no-tests-run"
outcome_words (outcome.Cancelled step.SetupScript) = codes "cancelled setup-script"
outcome_words (outcome.Cancelled step.Test) = codes "cancelled test"
outcome_words (outcome.Failed step.SetupScript) = codes "failed setup-script"
outcome_words (outcome.Failed step.Test) = codes "failed test"

-- the line of the outcome
unfoldable pub outcome_line : RunOutcome → List ℕ
outcome_line o = codes "outcome " ++ (outcome_words o ++ codes "\n")

-- the reports of runs, in order
abbrev pub run_reports : List Run → List ℕ
run_reports runs = concat (map (λ run. report_of (run_stats run)) runs)

-- the reports of runs, and unless there is exactly one run, the line of their outcome
abbrev pub reports_of : List Run → RunOutcome → List ℕ
reports_of (run ∷ []) o = report_of (run_stats run)
reports_of runs o = run_reports runs ++ outcome_line o

-- whether an outcome is `Success`
abbrev pub is_success : RunOutcome → Bool
is_success outcome.Success = true
is_success _ = false
