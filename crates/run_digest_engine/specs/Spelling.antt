-- The grammar of the lines of the input.
use Rattle.std.specs.Prelude.{◌≡◌, ◌<◌, ◌+◌, ◌==◌, ℕ, Bool, true, false, if◌then◌else◌, List, [], ◌∷◌, ◌++◌, map, length, codes, pos, Option, None, Some}
use Rattle.std.specs.List.{join_with_byte}
use Rattle.run_events_results.specs.Visibility.{severity}
use Rattle.run_events_stats.specs.Counters.{UnitView, ScriptUnit, TestUnit}
use Rattle.run_events_results.specs.declared.config.FlakyResult.TheVariants as setting
use Rattle.run_events_results.specs.declared.config.LeakTimeoutResult.TheVariants as leak
use Rattle.run_events_results.specs.declared.config.SlowTimeoutResult.TheVariants as slow
use Rattle.run_events_results.specs.declared.results.CancelReason.{CancelReason}
use Rattle.run_events_results.specs.declared.results.CancelReason.TheVariants as reason
use Rattle.run_events_results.specs.declared.results.ExecutionResultDescription.{ExecutionResultDescription}
use Rattle.run_events_results.specs.declared.results.ExecutionResultDescription.TheVariants as result
use Rattle.run_events_results.specs.declared.results.failure.FailureDescription.TheVariants as failure
use Rattle.run_events_stats.specs.declared.stats.RunStart.{RunStart}
use Rattle.run_digest_engine.specs.Number.{SpellsNumber}

-- the reasons to cancel a run with their words, and `-` for no reason
abbrev pub reason_words : List (Option CancelReason × List ℕ)
reason_words =
    (None, codes "-")
    ∷ (Some reason.SetupScriptFailure, codes "setup-script-failure")
    ∷ (Some reason.TestFailure, codes "test-failure")
    ∷ (Some reason.ReportError, codes "report-error")
    ∷ (Some reason.OutputLimit, codes "output-limit")
    ∷ (Some reason.TestFailureImmediate, codes "test-failure-immediate")
    ∷ (Some reason.GlobalTimeout, codes "global-timeout")
    ∷ (Some reason.Signal, codes "signal")
    ∷ (Some reason.Interrupt, codes "interrupt")
    ∷ (Some reason.SecondSignal, codes "second-signal")
    ∷ []

-- the word of a reason in a table, or no text if the table lacks the reason
abbrev pub word_in : List (Option CancelReason × List ℕ) → Option CancelReason → List ℕ
word_in [] why = []
word_in (entry ∷ table) why = if severity entry.0 == severity why then entry.1 else word_in table why

-- the word for a reason, and `-` for no reason
unfoldable pub reason_word : Option CancelReason → List ℕ
reason_word why = word_in reason_words why

-- the line is `KEYWORD TESTS SCRIPTS REASON`, the start of a run without skipped tests
pub record SpellsStart (keyword line : List ℕ) (start : RunStart) : Type 0 where
  pub tests : List ℕ
  pub scripts : List ℕ
  pub written : line ≡ keyword ++ codes " " ++ tests ++ codes " " ++ scripts ++ codes " " ++ reason_word start.cancel_reason
  pub tests_number : SpellsNumber tests start.initial_run_count
  pub scripts_number : SpellsNumber scripts start.setup_scripts_initial_count
  pub none_skipped : start.skipped ≡ 0

-- the results that have a word
pub data ResultWord : Type 0 where
  Pass : ResultWord
  Leak : ResultWord
  LeakFail : ResultWord
  Fail : ResultWord
  ExecFail : ResultWord
  Timeout : ResultWord
  TimeoutPass : ResultWord

-- the word for a result
abbrev pub word_of : ResultWord → List ℕ
word_of Pass = codes "pass"
word_of Leak = codes "leak"
word_of LeakFail = codes "leak-fail"
word_of Fail = codes "fail"
word_of ExecFail = codes "exec-fail"
word_of Timeout = codes "timeout"
word_of TimeoutPass = codes "timeout-pass"

-- the result that a word names; a failure has the exit code 1 and no leak
abbrev pub result_named : ResultWord → ExecutionResultDescription
result_named Pass = result.Pass
result_named Leak = result.Leak leak.Pass
result_named LeakFail = result.Leak leak.Fail
result_named Fail = result.Fail (failure.ExitCode (pos 1)) false
result_named ExecFail = result.ExecFail
result_named Timeout = result.Timeout slow.Fail
result_named TimeoutPass = result.Timeout slow.Pass

-- the content of a line of a unit: the result of a script; or the results of a test, with the last one apart, and its flags
pub data UnitLine : Type 0 where
  ScriptLine : ResultWord → UnitLine
  TestLine : (earlier : List ResultWord) → (last : ResultWord) → (is_slow : Bool) → (flaky_fails : Bool) → UnitLine

-- a test has at most a hundred results
abbrev pub IsUnitLine : UnitLine → Type 0
IsUnitLine (ScriptLine r) = Unit {0}
IsUnitLine (TestLine earlier last is_slow flaky_fails) = length earlier < 100

-- the flags after the results of a test: for a slow last attempt, and for the setting that fails flaky tests
abbrev pub flag_words : Bool → Bool → List ℕ
flag_words false false = []
flag_words true false = codes " slow"
flag_words false true = codes " flaky-fail"
flag_words true true = codes " slow flaky-fail"

-- the text of a line: `script R`, or `test R,R,..` and its flags
abbrev pub spelling : UnitLine → List ℕ
spelling (ScriptLine r) = codes "script " ++ word_of r
spelling (TestLine earlier last is_slow flaky_fails) =
    codes "test " ++ (join_with_byte 44 (map word_of (earlier ++ last ∷ [])) ++ flag_words is_slow flaky_fails)

-- the finished unit that a line describes
abbrev pub unit_said : UnitLine → UnitView
unit_said (ScriptLine r) = ScriptUnit (result_named r)
unit_said (TestLine earlier last is_slow flaky_fails) = TestUnit (record {
  result = result_named last;
  attempts = length earlier + 1;
  is_slow = is_slow;
  flaky_result = if flaky_fails then setting.Fail else setting.Pass;
})

-- the line is the spelling of this unit
abbrev pub SpellsUnit : List ℕ → UnitView → Type 0
SpellsUnit line unit = (said : UnitLine) × IsUnitLine said × (line ≡ spelling said) × (unit ≡ unit_said said)
