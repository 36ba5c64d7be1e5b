-- The runs whose summary is `Success`.
use Rattle.std.proofs.Common.{◌≡◌, ◌<◌, ◌≤◌, ◌||◌, List, Bool, cond, false, Option, arith}
use Rattle.std.specs.Prelude.{◌↔◌, ◌==◌, nat_lt}
use Rattle.std.proofs.lemmas.Bool.Decides.{nat_tests}
use Rattle.run_events_stats.specs.Counters.{UnitView, script_passed, scripts_of, stats_of, tests_of}
use Rattle.run_events_stats.specs.RunLaws.{RunSucceeds, has_no_failure}
use Rattle.run_events_stats.specs.Summary.{any_script_failed, any_test_failed, failed_scripts, failed_tests, failure, summary_of, tests_step}
use Rattle.run_events_stats.specs.declared.outcome.FinalRunStats.TheVariants.{Success, NoTestsRun, Cancelled}
use Rattle.run_events_stats.specs.declared.outcome.RunStatsFailureKind.{RunStatsFailureKind}
use Rattle.run_events_stats.specs.declared.outcome.RunStatsFailureKind.TheVariants.{SetupScript}
use Rattle.run_events_results.specs.declared.results.CancelReason.{CancelReason}
use Rattle.run_events_stats.specs.declared.stats.RunStart.{RunStart}
use Rattle.run_events_stats.specs.declared.stats.RunStats.{RunStats}
use Rattle.run_events_stats.proofs.Counts.{AllPass-from_count, count-from_AllPass}
use Rattle.run_events_stats.proofs.Verdicts.{passed-level, scripts-verdicts, tests-verdicts}

-- the numbers of a run that succeeded
record Good (s : RunStats) : Type 0 where
  scripts : failed_scripts s ≡ 0
  scripts_ran : s.setup_scripts_initial_count ≤ s.setup_scripts_finished_count
  tests : failed_tests s ≡ 0
  tests_ran : s.initial_run_count ≤ s.finished_count
  some : 0 < s.finished_count

-- no line of the summary before the last applies
no_row : (scripts few tests less none : Bool) (why : Option CancelReason) (kind : RunStatsFailureKind)
    → cond scripts (failure why SetupScript) (cond few (Cancelled why SetupScript) (cond tests (failure why kind)
    (cond less (Cancelled why kind) (cond none NoTestsRun Success)))) ≡ Success → (scripts || few || tests || less || none) ≡ false
no_row scripts few tests less none why kind e = grind arith

good_rows : (s : RunStats) → (any_script_failed s || nat_lt s.setup_scripts_finished_count s.setup_scripts_initial_count
    || any_test_failed s || nat_lt s.finished_count s.initial_run_count || s.finished_count == 0) ≡ false → Good s
good_rows s e = grind (arith, nat_tests)

good_from : (s : RunStats) → summary_of s ≡ Success → Good s
good_from s e =
    good_rows s (no_row (any_script_failed s) (nat_lt s.setup_scripts_finished_count s.setup_scripts_initial_count) (any_test_failed s)
    (nat_lt s.finished_count s.initial_run_count) (s.finished_count == 0) s.cancel_reason (tests_step s) e)

good_to : (s : RunStats) → Good s → summary_of s ≡ Success
good_to s g = grind (arith, nat_tests)

success_is : (us : List UnitView) (start : RunStart) → summary_of (stats_of us start) ≡ Success → RunSucceeds us start
success_is us start e =
    let g = good_from (stats_of us start) e in
    record {
      scripts_passed = AllPass-from_count script_passed (scripts_of us) (omega (arith, scripts-verdicts (scripts_of us)));
      scripts_ran = g.scripts_ran;
      no_failure = AllPass-from_count has_no_failure (tests_of us) (omega (arith, tests-verdicts (tests_of us), passed-level (tests_of us)));
      tests_ran = g.tests_ran;
      some_test = g.some;
    }

success_from : (us : List UnitView) (start : RunStart) → RunSucceeds us start → summary_of (stats_of us start) ≡ Success
success_from us start ok = good_to (stats_of us start) (record {
  scripts = omega (arith, scripts-verdicts (scripts_of us), count-from_AllPass script_passed (scripts_of us) ok.scripts_passed);
  scripts_ran = ok.scripts_ran;
  tests = omega (arith, tests-verdicts (tests_of us), passed-level (tests_of us), count-from_AllPass has_no_failure (tests_of us) ok.no_failure);
  tests_ran = ok.tests_ran;
  some = ok.some_test;
})

pub success_law : (us : List UnitView) (start : RunStart) → (summary_of (stats_of us start) ≡ Success) ↔ RunSucceeds us start
success_law us start = (success_is us start, success_from us start)
