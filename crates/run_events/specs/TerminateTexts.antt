-- The displayed texts of why and how the runner ends a unit.
use Rattle.std.specs.Prelude.{ℕ, List, codes}
use Rattle.run_events.specs.declared.events.terminate.UnitTerminateReason.{UnitTerminateReason}
use Rattle.run_events.specs.declared.events.terminate.UnitTerminateReason.TheVariants as why
use Rattle.run_events.specs.declared.events.terminate.UnitTerminateSignal.{UnitTerminateSignal}
use Rattle.run_events.specs.declared.events.terminate.UnitTerminateSignal.TheVariants as signal

-- the displayed text of the reason why the runner ends a unit
abbrev pub terminate_reason_text : UnitTerminateReason → List ℕ
terminate_reason_text why.Timeout = codes "timeout"
terminate_reason_text why.Signal = codes "signal"
terminate_reason_text why.Interrupt = codes "interrupt"

-- the displayed name of the signal by which the runner ends a unit
abbrev pub terminate_signal_text : UnitTerminateSignal → List ℕ
terminate_signal_text signal.Interrupt = codes "SIGINT"
terminate_signal_text signal.Term = codes "SIGTERM"
terminate_signal_text signal.Hangup = codes "SIGHUP"
terminate_signal_text signal.Quit = codes "SIGQUIT"
terminate_signal_text signal.Kill = codes "SIGKILL"
