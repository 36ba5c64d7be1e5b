-- What a reporter shows of a finished test, and when.
use Rattle.std.specs.Prelude.{◌≡◌, ◌≤◌, ◌+◌, ◌⊎◌, ◌==◌, ◌&&◌, ◌||◌, ℕ, Bool, true, false, IsTrue, if◌then◌else◌, nat_le, nat_lt, Option, None, Some}
use Rattle.run_events_results.specs.Config.{is_final_display, is_immediate_display}
use Rattle.run_events_results.specs.CancelReasons.{reason_rank}
use Rattle.run_events_results.specs.LevelRanks.{final_level_rank, level_rank}
use Rattle.run_events_results.specs.Results.{is_termination_failure}
use Rattle.run_events_results.specs.declared.config.TestOutputDisplay.{TestOutputDisplay}
use Rattle.run_events_results.specs.declared.levels.FinalStatusLevel.{FinalStatusLevel}
use Rattle.run_events_results.specs.declared.levels.OutputOnTestFinished.{OutputOnTestFinished}
use Rattle.run_events_results.specs.declared.levels.OutputStoreFinal.{OutputStoreFinal}
use Rattle.run_events_results.specs.declared.levels.OutputStoreFinal.TheVariants.{No, Yes}
use Rattle.run_events_results.specs.declared.levels.StatusLevel.{StatusLevel}
use Rattle.run_events_results.specs.declared.levels.StatusLevels.{StatusLevels}
use Rattle.run_events_results.specs.declared.results.CancelReason.{CancelReason}
use Rattle.run_events_results.specs.declared.results.CancelReason.TheVariants as reason
use Rattle.run_events_results.specs.declared.results.ExecutionResultDescription.{ExecutionResultDescription}

-- what a reporter shows of a finished test if the run is not cancelled
pub record Asked : Type 0 where
  -- the line is written: the reporter's level is at least that of the test
  pub line : Bool
  -- the display shows output at once, or at the end of the run
  pub at_once : Bool
  pub at_end : Bool
  -- the test is stored: its output is displayed at the end, or the reporter's final level is at least that of the test
  pub stored : Bool
  -- the result is a termination failure
  pub terminated : Bool

-- whether a test is stored: its output is displayed at the end, or the reporter's final level is at least that of the test
abbrev pub is_stored : StatusLevels → TestOutputDisplay → FinalStatusLevel → Bool
is_stored own display final_level =
    is_final_display display || nat_le (final_level_rank final_level) (final_level_rank own.final_status_level)

-- what a reporter with these levels shows of a finished test if the run is not cancelled
abbrev pub asked_of : StatusLevels → TestOutputDisplay → StatusLevel → FinalStatusLevel → ExecutionResultDescription → Asked
asked_of own display level final_level result = record {
  line = nat_le (level_rank level) (level_rank own.status_level);
  at_once = is_immediate_display display;
  at_end = is_final_display display;
  stored = is_stored own display final_level;
  terminated = is_termination_failure result;
}

-- how severe a reason is, counted from 1; no reason is 0
abbrev pub severity : Option CancelReason → ℕ
severity None = 0
severity (Some r) = reason_rank r + 1

-- whether the runner ended a test because the run stops at once
abbrev pub is_stopped : Asked → Option CancelReason → Bool
is_stopped w why = (severity why == severity (Some reason.TestFailureImmediate)) && w.terminated

-- the line if it is asked for, with the output at once if `shown`, and with this stored
abbrev pub with_output : Asked → Bool → OutputStoreFinal → OutputOnTestFinished
with_output w shown stored = record { write_status_line = w.line; show_immediate = shown; store_final = stored }

-- The table, by its first row that applies: a test that the runner ended because the run stops at once; a reason below a
-- signal; a signal; a reason above a signal.
abbrev pub visibility : Asked → Option CancelReason → OutputOnTestFinished
visibility w why =
    if is_stopped w why then with_output w false No
    else if nat_lt (severity why) (severity (Some reason.Signal)) then with_output w w.at_once (if w.stored then Yes w.at_end else No)
    else if severity why == severity (Some reason.Signal) then with_output w w.at_once (if w.stored then Yes (if w.at_once then false else w.at_end) else No)
    else with_output w false No

-- the amount that is stored for the end of the run, as a number
abbrev pub stored_rank : OutputStoreFinal → ℕ
stored_rank No = 0
stored_rank (Yes false) = 1
stored_rank (Yes true) = 2

-- no more is shown and stored in x than in y
pub record IsNoMoreVisible (x y : OutputOnTestFinished) : Type 0 where
  pub shown : IsTrue x.show_immediate → IsTrue y.show_immediate
  pub stored : stored_rank x.store_final ≤ stored_rank y.store_final

-- The one exception, from a reason to a greater one: the runner seems to have ended the test, and without a reason the test
-- would be displayed at once or stored. It is hidden with `TestFailureImmediate`, but not with `GlobalTimeout` or `Signal`.
pub record IsException (w : Asked) (why greater : Option CancelReason) : Type 0 where
  pub stopped : why ≡ Some reason.TestFailureImmediate
  pub later : (greater ≡ Some reason.GlobalTimeout) ⊎ (greater ≡ Some reason.Signal)
  pub terminated : IsTrue w.terminated
  pub asked : IsTrue (w.at_once || w.stored)
