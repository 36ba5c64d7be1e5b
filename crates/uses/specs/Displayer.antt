-- The texts that a displayer prints.
use Rattle.std.specs.Prelude.{◌<◌, ◌&&◌, ℕ, Bool, true, false, if◌then◌else◌, nat_lt, List, ◌++◌, length, codes, Option, IfSome}
use Rattle.std.specs.Fmt.{decimal}
use Rattle.run_events.specs.Config.{is_final_display}
use Rattle.run_events.specs.Counters.{UnitView, count_of, tests_of}
use Rattle.run_events.specs.Level.{has_level_fail, has_level_retry}
use Rattle.run_events.specs.LevelRanks.{level_rank}
use Rattle.run_events.specs.Results.{result_word, succeeds}
use Rattle.run_events.specs.RunLaws.{has_no_failure}
use Rattle.run_events.specs.ViewedTest.{ViewedTest}
use Rattle.run_events.specs.Visibility.{is_stored}
use Rattle.run_events_results.specs.declared.config.TestOutputDisplay.{TestOutputDisplay}
use Rattle.run_events_results.specs.declared.levels.FinalStatusLevel.{FinalStatusLevel}
use Rattle.run_events_results.specs.declared.levels.OutputStoreFinal.{OutputStoreFinal}
use Rattle.run_events_results.specs.declared.levels.OutputStoreFinal.TheVariants.{No, Yes}
use Rattle.run_events_results.specs.declared.levels.StatusLevel.{StatusLevel}
use Rattle.uses.specs.declared.displayer.Displayer.{Displayer}

-- the level of a test is greater than that of the displayer, so the test gets no line
abbrev pub IsAbove : Option StatusLevel → StatusLevel → Type 0
IsAbove level own = IfSome level (λ l. level_rank own < level_rank l)

-- when the output of a test that succeeded, or that failed, is displayed
abbrev pub display_of : Displayer → Bool → TestOutputDisplay
display_of d succeeded = if succeeded then d.success_output else d.failure_output

-- What is stored of a test of this final level for the end of the run: its name and its output if its output is displayed
-- then, or else its name if its level is at most that of the displayer.
abbrev pub listing : Displayer → Bool → FinalStatusLevel → OutputStoreFinal
listing d succeeded level =
    let display = display_of d succeeded in
    if is_stored d.levels display level then Yes (is_final_display display) else No

-- what is stored of it if its output was displayed at once and must not be displayed again: only its name
abbrev pub without_output : Bool → OutputStoreFinal → OutputStoreFinal
without_output true (Yes output) = Yes false
without_output _ stored = stored

-- the word for a finished test: `flaky`, or the word for its last result
abbrev pub test_word : ViewedTest → List ℕ
test_word t = if nat_lt 1 t.attempts && succeeds t.result then codes "flaky" else result_word t.result

-- the line of a finished test of this name
abbrev pub status_line : ViewedTest → List ℕ → List ℕ
status_line t name = test_word t ++ (codes " " ++ (name ++ codes "\n"))

-- the summary line of a run, from its numbers
unfoldable pub numbers_line : ℕ → ℕ → ℕ → ℕ → ℕ → List ℕ
numbers_line finished passed flaky failed skipped =
    decimal finished ++ (codes " tests run: " ++ (decimal passed ++ (codes " passed (" ++ (decimal flaky
    ++ (codes " flaky), " ++ (decimal failed ++ (codes " failed, " ++ (decimal skipped ++ codes " skipped\n"))))))))

-- the summary line of a run: the numbers of finished tests, of tests without the level `Fail`, of those with the level
-- `Retry`, of those with the level `Fail`, and of skipped tests
abbrev pub summary_line : List UnitView → ℕ → List ℕ
summary_line units skipped =
    let tests = tests_of units in
    numbers_line (length tests) (count_of has_no_failure tests) (count_of has_level_retry tests) (count_of has_level_fail tests) skipped
