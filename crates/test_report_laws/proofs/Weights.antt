-- Weights of the open suites, which lines of tests keep, and the numbers of the open suites.
use Rattle.std.proofs.Common.{◌≡◌, ◌≢◌, ◌∙◌, ℕ, List, [], ◌+◌, ◌<◌, Bool, true, false, cond, Option, Some, None, refl, ap, arith, length}
use Rattle.std.specs.List.{position, remove, sum_by}
use Rattle.std.specs.Option.{option_map_or}
use Rattle.std.specs.Prelude.{◌==◌, if◌then◌else◌, is_none}
use Rattle.std.proofs.lemmas.List.Sums.{get_or-le-sum_by, sum_by-remove, sum_by-set, sum_by_push}
use Rattle.test_report_events.specs.Event.{EventView, SuiteEndView, TestEndView, SuiteStarts, SuiteEnds, TestStarts, TestEnds, TestIsSlow, OtherLine, HeadingLine, CargoFails, Prints, DamagedLine, CommandStarts, Cancels, CommandOver, AllEndEarly, ProgramContradicts}
use Rattle.test_report_events.specs.declared.event.TestResult.{TestResult}
use Rattle.test_report_events.specs.declared.event.TestResult.TheVariants.{Ok, Failed, Ignored}
use Rattle.test_report_laws.proofs.Books.{IsIn, none-left, place-in, position-in}
use Rattle.test_report_laws.proofs.CargoReports.{only-cargo, only-settled_at, only-told, ready}
use Rattle.test_report_laws.proofs.FileEnds.{reported_run}
use Rattle.test_report_laws.proofs.OverRuns.{up-to-line}
use Rattle.test_report_run.specs.Ended.{after_end}
use Rattle.test_report_run.specs.Over.{last_notes, nothing_known}
use Rattle.test_report_run.specs.FileEnd.{after_file}
use Rattle.test_report_run.specs.Run.{RunSettings, RunState, after, early_end, ended_at, heard, heard_at, open_suite, opened, place_of_number, run_start, running_ends, running_over, slow_at, started_again, step, stray_ends, stray_over, stray_suite_notes, suite_at, suite_place, tests_in, told, with_suite_at, without_tests}
use Rattle.test_report_run.specs.Running.{RunningView, is_same, place_of_end, running_at, with_slow}
use Rattle.test_report_run.specs.Said.{no_lines}
use Rattle.test_report_run.specs.Suite.{OverView, SuiteState, cancelled_by, has_key, joined_by, named, suite_start, with_line, with_start}
use Rattle.test_report_laws.specs.Whole.{run_after, run_after_files}
use Rattle.test_report_laws.proofs.Types.{Said}

-- a weight of suites by their numbers, what their last lines say and how many tests they announce, summed over the open suites
abbrev pub weigh : (Option ℕ → Said → Option ℕ → ℕ) → SuiteState → ℕ
weigh g s = g s.number s.said s.test_count

abbrev pub weight_of : (Option ℕ → Said → Option ℕ → ℕ) → RunState → ℕ
weight_of g r = sum_by (weigh g) r.suites

abbrev pub unnumbered : Option ℕ → Said → Option ℕ → ℕ
unnumbered number said count = cond (is_none number) 1 0

-- lines that are not those of suites keep these weights
abbrev pub Alike : SuiteState → SuiteState → Type 0
Alike s t = (g : Option ℕ → Said → Option ℕ → ℕ) → weigh g s ≡ weigh g t

abbrev pub Keeps : RunState → RunState → Type 0
Keeps r now = (g : Option ℕ → Said → Option ℕ → ℕ) → weight_of g now ≡ weight_of g r

keeps-set : (r : RunState) (running : List RunningView) (at : Option ℕ) (s : SuiteState) → IsIn r.suites at → Alike s (suite_at r at)
    → Keeps r (with_suite_at (record r { running = running }) at s)
keeps-set r running None s in' same g = refl
keeps-set r running (Some at) s in' same g = omega (arith, same g, sum_by-set (weigh g) r.suites at (heard r s) r.outside in')

end-alike : (s : SuiteState) (t : OverView) (order : ℕ) (e : TestEndView) (how : TestResult) → Alike (after_end s t order (record e { result = how })) s
end-alike s t order e Ok g = grind arith
end-alike s t order e Failed g = refl
end-alike s t order e Ignored g = refl

keeps-stray : (r : RunState) (e : TestEndView) (how : TestResult) → Keeps r (stray_ends r (record e { result = how })).run
keeps-stray r e Ok = λ g. refl
keeps-stray r e Failed =
    let at = suite_place r e.name in
    keeps-set r r.running at _ (place-in r e.name) (end-alike (named (suite_at r at) e.name) (stray_over r e) 0 e Failed)
keeps-stray r e Ignored =
    let at = suite_place r e.name in
    keeps-set r r.running at _ (place-in r e.name) (end-alike (named (suite_at r at) e.name) (stray_over r e) 0 e Ignored)

keeps-test : (r : RunState) (e : TestEndView) (place : Option (ℕ × ℕ))
    → Keeps r (option_map_or (λ p. running_ends r e p.0 p.1) place (stray_ends r e)).run
keeps-test r e None = keeps-stray r e e.result
keeps-test r e (Some p) =
    let test = running_at r.running p.0 in
    let at = position (λ s. is_same s.number test.suite) r.suites in
    keeps-set r (remove r.running p.0) at _ (position-in (λ s. is_same s.number test.suite) r.suites at refl)
    (end-alike (suite_at r at) (running_over r e test p.1) test.order e e.result)

slow-kept : (r : RunState) (running : List RunningView) (at : Option ℕ) → IsIn r.suites at → Keeps r (record (heard_at r at) { running = running })
slow-kept r running None in' g = refl
slow-kept r running (Some at) in' g = omega (arith, sum_by-set (weigh g) r.suites at (heard r (suite_at r (Some at))) r.outside in')

keeps-slow : (r : RunState) (place : Option (ℕ × ℕ)) → Keeps r (option_map_or (λ p. slow_at r p.0) place r)
keeps-slow r None = λ g. refl
keeps-slow r (Some p) =
    let at = place_of_number r (running_at r.running p.0).suite in
    slow-kept r (with_slow r.running p.0) at (position-in (λ s. is_same s.number (running_at r.running p.0).suite) r.suites at refl)

-- the line is the first or a last one of a suite, or suites end early
abbrev pub is_of_suite : EventView → Bool
is_of_suite (SuiteStarts key count) = true
is_of_suite (SuiteEnds e) = true
is_of_suite (TestStarts name) = false
is_of_suite (TestEnds e) = false
is_of_suite (TestIsSlow name) = false
is_of_suite OtherLine = false
is_of_suite (HeadingLine name path) = false
is_of_suite (CargoFails f line plain) = false
is_of_suite (Prints line plain) = false
is_of_suite (DamagedLine text) = false
is_of_suite (CommandStarts names) = false
is_of_suite (Cancels why) = false
is_of_suite (CommandOver end) = false
is_of_suite (AllEndEarly end) = true
is_of_suite (ProgramContradicts fault) = false

-- failures of cargo that become known change no suite
pub ready-suites : (r : RunState) (e : EventView) → (ready r e).suites ≡ r.suites
ready-suites r e = ap (λ (x : RunState). x.suites) (only-settled_at r e).run_is

-- any other line
keeps-told : (r : RunState) (e : EventView) → is_of_suite e ≡ false → Keeps r (told r e).run
keeps-told r (SuiteStarts key count) never = absurd (cc)
keeps-told r (SuiteEnds e) never = absurd (cc)
keeps-told r (TestStarts name) other =
    let at = suite_place r name in keeps-set r r.running at (with_start (suite_at r at) name) (place-in r name) (λ g. refl)
keeps-told r (TestEnds e) other = keeps-test r e (place_of_end r.running e.name)
keeps-told r (TestIsSlow name) other = keeps-slow r (place_of_end r.running name)
keeps-told r OtherLine other = λ g. refl
keeps-told r (HeadingLine name path) other = λ g. refl
keeps-told r (CargoFails f line plain) other = λ g. ap (weight_of g) (only-cargo r f plain).run_is
keeps-told r (Prints line plain) other = λ g. refl
keeps-told r (DamagedLine text) other = λ g. refl
keeps-told r (CommandStarts names) other = λ g. refl
keeps-told r (Cancels why) other = λ g. refl
keeps-told r (CommandOver end) other = λ g. refl
keeps-told r (AllEndEarly end) never = absurd (cc)
keeps-told r (ProgramContradicts fault) other = λ g. refl

-- what a line leaves of the suites, its own notes leave
pub after-suites : (r : RunState) (e : EventView) → (after r e).suites ≡ (told (ready r e) e).run.suites
after-suites r (Prints line plain) = refl
after-suites r e = refl

pub keeps-line : (r : RunState) (e : EventView) → is_of_suite e ≡ false → Keeps r (after r e)
keeps-line r e other = λ g.
    ap (λ (suites : List SuiteState). sum_by (weigh g) suites) (after-suites r e)
    ∙ (keeps-told (ready r e) e other g ∙ ap (λ (suites : List SuiteState). sum_by (weigh g) suites) (ready-suites r e))

-- an open suite has a number
pub has-number : (r : RunState) (at : ℕ) → weight_of unnumbered r ≡ 0 → at < length r.suites → (suite_at r (Some at)).number ≢ None
has-number r at none in' zero = absurd (omega (
  arith,
  get_or-le-sum_by (weigh unnumbered) r.suites at r.outside in',
  ap (λ n. unnumbered n no_lines None) zero,
))

-- each open suite has a number after the first line of a suite
numbered-first : (r : RunState) (key : Option (List ℕ)) (count : Option ℕ) (at : Option ℕ) → IsIn r.suites at → weight_of unnumbered r ≡ 0
    → weight_of unnumbered (option_map_or (started_again r key count) at (step (opened r key count) [])).run ≡ 0
numbered-first r key count None in' none =
    let start = suite_start (Some (r.suites_started + 1)) key r.heading count r.others in
    omega (arith, none, sum_by_push (weigh unnumbered) r.suites start)
numbered-first r (Some key) count (Some at) in' none =
    let s = heard r (joined_by (suite_at r (Some at)) count) in omega (arith, none, sum_by-set (weigh unnumbered) r.suites at s r.outside in')
numbered-first r None count (Some at) in' none =
    let start = suite_start (Some (r.suites_started + 1)) None r.heading count r.others in
    omega (
      arith,
      none,
      sum_by_push (weigh unnumbered) (remove r.suites at) start,
      sum_by-remove (weigh unnumbered) r.suites at r.outside in',
    )

-- and after a last line
numbered-over : (r : RunState) (e : SuiteEndView) (at : ℕ) (over : Bool) → at < length r.suites → weight_of unnumbered r ≡ 0
    → let s = with_line (suite_at r (Some at)) e in
    weight_of unnumbered (if over then step (without_tests (record r { suites = remove r.suites at }) s) (last_notes (cancelled_by r.cancel s) (tests_in r s))
    else step (with_suite_at r (Some at) s) []).run ≡ 0
numbered-over r e at true in' none = omega (arith, none, sum_by-remove (weigh unnumbered) r.suites at r.outside in')
numbered-over r e at false in' none =
    omega (arith, none, sum_by-set (weigh unnumbered) r.suites at (heard r (with_line (suite_at r (Some at)) e)) r.outside in')

numbered-last : (r : RunState) (e : SuiteEndView) (at : Option ℕ) → IsIn r.suites at → weight_of unnumbered r ≡ 0
    → weight_of unnumbered (option_map_or (ended_at r e) at (step r (stray_suite_notes e))).run ≡ 0
numbered-last r e None in' none = none
numbered-last r e (Some at) in' none = numbered-over r e at ((with_line (suite_at r (Some at)) e).open_lines == 0) in' none

-- after each line and each end of a file
pub numbered-ready : (r : RunState) (e : EventView) → weight_of unnumbered r ≡ 0 → weight_of unnumbered (ready r e) ≡ 0
numbered-ready r e none = ap (λ (suites : List SuiteState). sum_by (weigh unnumbered) suites) (ready-suites r e) ∙ none

numbered-told : (r : RunState) (e : EventView) → weight_of unnumbered r ≡ 0 → weight_of unnumbered (told r e).run ≡ 0
numbered-told r (SuiteStarts key count) none =
    numbered-first r key count (open_suite r key) (position-in (has_key key) r.suites (open_suite r key) refl) none
numbered-told r (SuiteEnds e) none =
    numbered-last r e (open_suite r e.key) (position-in (has_key e.key) r.suites (open_suite r e.key) refl) none
numbered-told r (AllEndEarly end) none = ap (λ (suites : List SuiteState). sum_by (weigh unnumbered) suites) (none-left (early_end r end) r)
numbered-told r e none = keeps-told r e refl unnumbered ∙ none

pub numbered-line : (r : RunState) (e : EventView) → weight_of unnumbered r ≡ 0 → weight_of unnumbered (after r e) ≡ 0
numbered-line r e none = ap (λ (suites : List SuiteState). sum_by (weigh unnumbered) suites) (after-suites r e)
    ∙ numbered-told (ready r e) e (numbered-ready r e none)

pub numbered-reported : (r : RunState) → weight_of unnumbered r ≡ 0 → weight_of unnumbered (reported_run r) ≡ 0
numbered-reported r none = ap (weight_of unnumbered) (only-told r).run_is ∙ none

pub none-open : (r : RunState) → (after_file r).suites ≡ []
none-open r = none-left nothing_known (reported_run r)

pub numbered-end : (r : RunState) → weight_of unnumbered (after_file r) ≡ 0
numbered-end r = ap (λ (suites : List SuiteState). sum_by (weigh unnumbered) suites) (none-open r)

-- and so at every line of a run
pub all-numbered : (settings : RunSettings) (files : List (List EventView)) (events : List EventView)
    → weight_of unnumbered (run_after (run_after_files (run_start settings) files) events) ≡ 0
all-numbered settings = up-to-line (λ n notes r. weight_of unnumbered r ≡ 0) (λ n notes r. weight_of unnumbered r ≡ 0) (λ e. 0) (λ n notes r none. none)
    (λ n notes r e none. numbered-line r e none) (λ n notes r none. numbered-end r) settings refl
