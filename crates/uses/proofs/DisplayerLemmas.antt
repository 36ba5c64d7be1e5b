-- Lemmas on what a displayer shows.
use Rattle.std.proofs.Common.{◌≡◌, ◌<◌, ◌≤◌, Bool, true, false, Option, Some, refl, arith}
use Rattle.std.specs.Prelude.{if◌then◌else◌}
use Rattle.run_events.specs.Visibility.{Asked, severity, visibility, with_output}
use Rattle.run_events_results.specs.declared.levels.OutputStoreFinal.TheVariants.{No, Yes}
use Rattle.run_events_results.specs.declared.results.CancelReason.{CancelReason}
use Rattle.run_events_results.specs.declared.results.CancelReason.TheVariants as reason
use Rattle.uses.specs.Displayer.{without_output}

-- nothing is shown of a test that the runner ended because the run stops at once
pub hidden_when_stopped : (w : Asked) → w.terminated ≡ true → visibility w (Some reason.TestFailureImmediate) ≡ with_output w false No
hidden_when_stopped w ended = rw ended refl

-- up to a signal, the output of any other test is shown at once if that is asked for
pub shown_up_to_signal : (w : Asked) (why : Option CancelReason) → (why ≡ Some reason.TestFailureImmediate → w.terminated ≡ false)
    → severity why ≤ severity (Some reason.Signal) → (visibility w why).show_immediate ≡ w.at_once
shown_up_to_signal w (Some reason.TestFailureImmediate) spared up_to = rw (spared refl) refl
shown_up_to_signal w _ spared up_to = grind (arith, up_to)

-- below a signal, any other test is stored if that is asked for
pub stored_below_signal : (w : Asked) (why : Option CancelReason) → (why ≡ Some reason.TestFailureImmediate → w.terminated ≡ false)
    → severity why < severity (Some reason.Signal) → (visibility w why).store_final ≡ (if w.stored then Yes w.at_end else No)
stored_below_signal w (Some reason.TestFailureImmediate) spared below = rw (spared refl) refl
stored_below_signal w _ spared below = grind (arith, below)

once : (at_once at_end stored : Bool)
    → (if stored then Yes (if at_once then false else at_end) else No) ≡ without_output at_once (if stored then Yes at_end else No)
once true at_end true = refl
once true at_end false = refl
once false at_end true = refl
once false at_end false = refl

-- with a signal, a test whose output is shown at once is stored without it
pub stored_under_signal : (w : Asked) (why : Option CancelReason) → why ≡ Some reason.Signal
    → (visibility w why).store_final ≡ without_output (visibility w why).show_immediate (if w.stored then Yes w.at_end else No)
stored_under_signal w why signal = rw signal (once w.at_once w.at_end w.stored)
