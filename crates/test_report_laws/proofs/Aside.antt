-- What lines of suites and of tests leave as it is.
use Rattle.std.proofs.Common.{◌≡◌, ℕ, List, [], ◌∷◌, true, Option, Some, None, ap, refl}
use Rattle.std.specs.List.{fold, position, remove}
use Rattle.std.specs.Option.{option_map_or}
use Rattle.std.specs.Prelude.{◌==◌}
use Rattle.std.proofs.lemmas.Bool.{cond_both}
use Rattle.test_report_events.specs.Event.{EventView, SuiteEndView, TestEndView, SuiteStarts, SuiteEnds, TestStarts, TestEnds, TestIsSlow, OtherLine, HeadingLine, CargoFails, Prints, DamagedLine, CommandStarts, Cancels, CommandOver, AllEndEarly, ProgramContradicts}
use Rattle.test_report_events.specs.declared.event.TestResult.{TestResult}
use Rattle.test_report_events.specs.declared.event.TestResult.TheVariants.{Ok, Failed, Ignored}
use Rattle.test_report_run.specs.Events.{is_event}
use Rattle.test_report_run.specs.Over.{EarlyEnd, last_notes}
use Rattle.test_report_run.specs.Run.{RunState, Step, all_ended_early, ended_at, ended_early, tests_in, open_suite, opened, place_of_number, running_ends, slow_at, started_again, step, stray_ends, stray_suite_notes, suite_at, suite_place, told, with_suite_at, without_tests}
use Rattle.test_report_run.specs.Running.{is_same, place_of_end, running_at}
use Rattle.test_report_run.specs.Suite.{SuiteState, cancelled_by, outside_start, with_line}

-- a run without its suites and tests
abbrev pub aside : RunState → RunState
aside r = record r { suites = []; outside = outside_start; suites_started = 0; running = []; tests_started = 0; ended = 0 }

aside-at : (r : RunState) (at : Option ℕ) (s : SuiteState) → aside (with_suite_at r at s) ≡ aside r
aside-at r None s = refl
aside-at r (Some at) s = refl

aside-first : (r : RunState) (key : Option (List ℕ)) (count : Option ℕ) (at : Option ℕ)
    → aside (option_map_or (started_again r key count) at (step (opened r key count) [])).run ≡ aside r
aside-first r key count None = refl
aside-first r (Some key) count (Some at) = refl
aside-first r None count (Some at) = refl

aside-last : (r : RunState) (e : SuiteEndView) (at : Option ℕ) → aside (option_map_or (ended_at r e) at (step r (stray_suite_notes e))).run ≡ aside r
aside-last r e None = refl
aside-last r e (Some at) =
    let s = with_line (suite_at r (Some at)) e in
    cond_both (s.open_lines == 0) (step (without_tests (record r { suites = remove r.suites at }) s) (last_notes (cancelled_by r.cancel s) (tests_in r s)))
    (step (with_suite_at r (Some at) s) []) (λ (t : Step). aside t.run ≡ aside r) (λ _. refl) (λ _. refl)

aside-stray : (r : RunState) (e : TestEndView) (how : TestResult) → aside (stray_ends r (record e { result = how })).run ≡ aside r
aside-stray r e Ok = refl
aside-stray r e Failed = aside-at r (suite_place r e.name) _
aside-stray r e Ignored = aside-at r (suite_place r e.name) _

aside-test : (r : RunState) (e : TestEndView) (place : Option (ℕ × ℕ))
    → aside (option_map_or (λ p. running_ends r e p.0 p.1) place (stray_ends r e)).run ≡ aside r
aside-test r e None = aside-stray r e e.result
aside-test r e (Some p) =
    let test = running_at r.running p.0 in
    aside-at (record r { running = remove r.running p.0 }) (position (λ s. is_same s.number test.suite) r.suites) _

aside-slow : (r : RunState) (place : Option (ℕ × ℕ)) → aside (option_map_or (λ p. slow_at r p.0) place r) ≡ aside r
aside-slow r None = refl
aside-slow r (Some p) = aside-at r (place_of_number r (running_at r.running p.0).suite) _

-- a line that is an event of a harness
pub aside-told : (r : RunState) (e : EventView) → is_event e ≡ true → aside (told r e).run ≡ aside r
aside-told r (SuiteStarts key count) h = aside-first r key count (open_suite r key)
aside-told r (SuiteEnds e) h = aside-last r e (open_suite r e.key)
aside-told r (TestStarts name) h =
    ap (λ (x : RunState). record x { running = []; tests_started = 0 }) (aside-at r (suite_place r name) _)
aside-told r (TestEnds e) h = ap (λ (x : RunState). record x { ended = 0 }) (aside-test r e (place_of_end r.running e.name))
aside-told r (TestIsSlow name) h = aside-slow r (place_of_end r.running name)
aside-told r OtherLine h = refl
aside-told r (HeadingLine name path) h = absurd (cc)
aside-told r (CargoFails f line plain) h = absurd (cc)
aside-told r (Prints line plain) h = absurd (cc)
aside-told r (DamagedLine text) h = absurd (cc)
aside-told r (CommandStarts names) h = absurd (cc)
aside-told r (Cancels why) h = absurd (cc)
aside-told r (CommandOver end) h = absurd (cc)
aside-told r (AllEndEarly end) h = absurd (cc)
aside-told r (ProgramContradicts fault) h = absurd (cc)

-- suites that end early
aside-ends : (how : EarlyEnd) (t : Step) (suites : List SuiteState) → aside (fold (ended_early how) t suites).run ≡ aside t.run
aside-ends how t [] = refl
aside-ends how t (s ∷ suites) = aside-ends how (ended_early how t s) suites

pub aside-early : (how : EarlyEnd) (r : RunState) → aside (all_ended_early how r).run ≡ aside r
aside-early how r = aside-ends how (step (record r { suites = [] }) []) r.suites
