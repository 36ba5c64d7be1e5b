-- Results of attempts: which of them succeed, and their words.
use Rattle.std.specs.Prelude.{Bool, true, false, ℕ, pos, List, ◌++◌, codes}
use Rattle.std.specs.Fmt.{signed_decimal}
use Rattle.std.specs.Ordering.{int_eq}
use Rattle.run_events_results.specs.declared.config.FlakyResult.{FlakyResult}
use Rattle.run_events_results.specs.declared.config.FlakyResult.TheVariants as flaky
use Rattle.run_events_results.specs.declared.config.LeakTimeoutResult.TheVariants as leak
use Rattle.run_events_results.specs.declared.config.SlowTimeoutResult.TheVariants as slow
use Rattle.run_events_results.specs.declared.results.failure.AbortStatus.{AbortStatus}
use Rattle.run_events_results.specs.declared.results.failure.AbortStatus.TheVariants.{UnixSignal}
use Rattle.run_events_results.specs.declared.results.failure.AbortDescription.{AbortDescription}
use Rattle.run_events_results.specs.declared.results.failure.AbortDescription.TheVariants as abort
use Rattle.run_events_results.specs.declared.results.failure.FailureDescription.TheVariants as failure
use Rattle.run_events_results.specs.declared.results.ExecutionResult.{ExecutionResult}
use Rattle.run_events_results.specs.declared.results.ExecutionResult.TheVariants as status
use Rattle.run_events_results.specs.declared.results.ExecutionResultDescription.{ExecutionResultDescription}
use Rattle.run_events_results.specs.declared.results.ExecutionResultDescription.TheVariants as result

-- The cases of a result.

-- it passed
abbrev pub is_pass : ExecutionResultDescription → Bool
is_pass result.Pass = true
is_pass _ = false

-- it leaked, and that counts as passed
abbrev pub is_leak_pass : ExecutionResultDescription → Bool
is_leak_pass (result.Leak leak.Pass) = true
is_leak_pass _ = false

-- it leaked, and that counts as failed
abbrev pub is_leak_fail : ExecutionResultDescription → Bool
is_leak_fail (result.Leak leak.Fail) = true
is_leak_fail _ = false

-- it failed
abbrev pub is_fail : ExecutionResultDescription → Bool
is_fail (result.Fail failure leaked) = true
is_fail _ = false

-- it could not be executed
abbrev pub is_exec_fail : ExecutionResultDescription → Bool
is_exec_fail result.ExecFail = true
is_exec_fail _ = false

-- it ran out of time, and that counts as passed
abbrev pub is_timeout_pass : ExecutionResultDescription → Bool
is_timeout_pass (result.Timeout slow.Pass) = true
is_timeout_pass _ = false

-- it ran out of time, and that counts as failed
abbrev pub is_timeout_fail : ExecutionResultDescription → Bool
is_timeout_fail (result.Timeout slow.Fail) = true
is_timeout_fail _ = false

-- whether an attempt succeeded: it passed, or it leaked or ran out of time and that counts as passed
abbrev pub succeeds : ExecutionResultDescription → Bool
succeeds result.Pass = true
succeeds (result.Leak leak.Pass) = true
succeeds (result.Timeout slow.Pass) = true
succeeds _ = false

-- the same for a result as the runner saw it
abbrev pub status_succeeds : ExecutionResult → Bool
status_succeeds status.Pass = true
status_succeeds (status.Leak leak.Pass) = true
status_succeeds (status.Timeout slow.Pass) = true
status_succeeds _ = false

-- whether an abort is one by which the runner ends a test: signal 15, or the end of the job object
abbrev pub is_termination : AbortDescription → Bool
is_termination (abort.UnixSignal signal name) = int_eq signal (pos 15)
is_termination (abort.WindowsNtStatus code message) = false
is_termination abort.WindowsJobObject = true

-- whether a result is a failure by such an abort
abbrev pub is_termination_failure : ExecutionResultDescription → Bool
is_termination_failure (result.Fail (failure.Abort a) leaked) = is_termination a
is_termination_failure _ = false

-- whether a flaky test counts as failed
abbrev pub flaky_fails : FlakyResult → Bool
flaky_fails flaky.Pass = false
flaky_fails flaky.Fail = true

-- the case of a result in one word
abbrev pub result_word : ExecutionResultDescription → List ℕ
result_word result.Pass = codes "pass"
result_word (result.Leak r) = codes "leak"
result_word (result.Fail failure leaked) = codes "fail"
result_word result.ExecFail = codes "exec-fail"
result_word (result.Timeout r) = codes "timeout"

-- the case of a result as the runner saw it, in one word
abbrev pub status_word : ExecutionResult → List ℕ
status_word status.Pass = codes "pass"
status_word (status.Leak r) = codes "leak"
status_word (status.Fail failure leaked) = codes "fail"
status_word status.ExecFail = codes "exec-fail"
status_word (status.Timeout r) = codes "timeout"

-- the text of an abort as `{:?}` writes it
abbrev pub abort_status_text : AbortStatus → List ℕ
abort_status_text (UnixSignal signal) = codes "UnixSignal(" ++ signed_decimal signal ++ codes ")"
