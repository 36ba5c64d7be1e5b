-- The reasons to cancel a run: their order, and their texts.
use Rattle.std.specs.Prelude.{ℕ, List, codes}
use Rattle.run_events_results.specs.declared.results.CancelReason.{CancelReason}
use Rattle.run_events_results.specs.declared.results.CancelReason.TheVariants as reason

-- how severe a reason is, as a number
abbrev pub reason_rank : CancelReason → ℕ
reason_rank reason.SetupScriptFailure = 0
reason_rank reason.TestFailure = 1
reason_rank reason.ReportError = 2
reason_rank reason.OutputLimit = 3
reason_rank reason.TestFailureImmediate = 4
reason_rank reason.GlobalTimeout = 5
reason_rank reason.Signal = 6
reason_rank reason.Interrupt = 7
reason_rank reason.SecondSignal = 8

-- the displayed text of a reason to cancel
abbrev pub cancel_text : CancelReason → List ℕ
cancel_text reason.SetupScriptFailure = codes "setup script failure"
cancel_text reason.TestFailure = codes "test failure"
cancel_text reason.ReportError = codes "reporting error"
cancel_text reason.OutputLimit = codes "output limit"
cancel_text reason.TestFailureImmediate = codes "test failure"
cancel_text reason.GlobalTimeout = codes "global timeout"
cancel_text reason.Signal = codes "signal"
cancel_text reason.Interrupt = codes "interrupt"
cancel_text reason.SecondSignal = codes "second signal"
