-- The steps of a run.
use Rattle.std.proofs.Common.{Box, Global, String, is_some, ◌==◌, ◌≡◌, ◌∙◌, ◌++◌, ◌<◌, ◌+◌, [], ◌∷◌, Bool, List, ℕ, Option, None, Some, ap, arith, cond, false, nat_lt, not, option_and_then, get_or, if◌then◌else◌, length, map, option_map, refl, sym, true}
use Rattle.std.specs.Box.{with_value}
use Rattle.std.specs.List.{position, remove}
use Rattle.std.specs.Option.{option_map_or, option_or}
use Rattle.std.proofs.Math.ListN.{set}
use Rattle.std.proofs.lemmas.List.{get_or-map, get_or-set_same, map-set}
use Rattle.std.proofs.lemmas.Option.{none-some}
use Rattle.test_report_events.specs.Event.{SuiteEndView, TestEndView}
use Rattle.test_report_events.specs.declared.event.TestResult.{TestResult}
use Rattle.test_report_events.specs.declared.event.TestResult.TheVariants.{Ok, Failed, Ignored}
use Rattle.test_report_run_notes.proofs.Places.{remove-set}
use Rattle.test_report_run_notes.specs.Note.{NoteView, text_view}
use Rattle.test_report_run_notes.specs.declared.finish.Finish.TheVariants.{Passed}
use Rattle.test_report_run.specs.Ended.{after_end, after_flaky, end_notes, timed}
use Rattle.test_report_run.specs.Others.{event_place}
use Rattle.test_report_run.specs.Over.{EarlyEnd, early_notes, last_notes, nothing_known}
use Rattle.test_report_run.specs.Run.{RunState, Step, ended_at, ended_early, heard, heard_at, last_place, opened, place_of_number, running_ends, slow_at, start_counted, started_again, step, stray_ends, suite_at, suite_place, test_over, test_starts, tests_in, with_suite_at, without_tests}
use Rattle.test_report_run.specs.Running.{RunningView, ended_at as test_at, running_at, with_slow}
use Rattle.test_report_run.specs.Name.{before_dollar}
use Rattle.test_report_run.specs.Suite.{OverView, SuiteState, cancelled_by, has_key, joined_by, state_of, with_finish, with_line, with_start}
use Rattle.test_report_run.specs.declared.others.EventPlace.{EventPlace}
use Rattle.test_report_run.specs.declared.suite.Suite.{Suite}

pub ended-early : (how : EarlyEnd) (old run : RunState) (s : SuiteState) (tests : List RunningView) (notes after : List NoteView) → tests ≡ tests_in old s
    → run ≡ without_tests old s → after ≡ notes ++ early_notes old.others how (cancelled_by old.cancel s) tests
    → step run after ≡ ended_early how (step old notes) s
ended-early how old run s tests notes after running same told = rw (told, running, same)

-- what a box of a suite keeps
abbrev pub boxed_state : Box Suite Global → SuiteState
boxed_state b = state_of b.value

-- a suite of a run changes, as its state says
pub suite-at : (r : RunState) (suites : List (Box Suite Global)) (at : ℕ) (place : Option ℕ) (old : Box Suite Global) → r.suites ≡ map boxed_state suites
    → at < length suites → Some at ≡ place → old ≡ get_or suites at old → suite_at r place ≡ boxed_state old
suite-at r suites at place old same inside is found = rw (← is, same) (get_or-map boxed_state suites at old r.outside inside ∙ sym (ap boxed_state found))

pub with_suite-at : (r run : RunState) (suites : List (Box Suite Global)) (at : ℕ) (place : Option ℕ) (old : Box Suite Global) (inside changed : Suite)
    (f : SuiteState → SuiteState) → r.suites ≡ map boxed_state suites → run ≡ record r { suites = map boxed_state (set suites at (with_value old changed)) }
    → at < length suites → Some at ≡ place → old ≡ get_or suites at old → inside ≡ old.value → state_of changed ≡ heard r (f (state_of inside))
    → run ≡ with_suite_at r place (f (suite_at r place))
with_suite-at r run suites at place old inside changed f same after within is found opened change =
    let changed_box : Box Suite Global = with_value old changed in
    let changes : boxed_state changed_box ≡ heard r (f (boxed_state old)) = change ∙ ap (λ (s : Suite). heard r (f (state_of s))) opened in
    after
    ∙ ap (λ (all : List SuiteState). record r { suites = all })
    (map-set boxed_state suites at changed_box ∙ ap (λ (s : SuiteState). set (map boxed_state suites) at s) changes
    ∙ ap (λ (all : List SuiteState). set all at (heard r (f (boxed_state old)))) (sym same))
    ∙ ap (λ (s : SuiteState). with_suite_at r (Some at) (f s)) (sym (suite-at r suites at place old same within is found))
    ∙ ap (λ (p : Option ℕ). with_suite_at r p (f (suite_at r place))) is

-- the tests outside of a suite change, and have an event
pub with_outside : (r run : RunState) (place : Option ℕ) (changed : Suite) (f : SuiteState → SuiteState) → run ≡ record r { outside = state_of changed }
    → None ≡ place → state_of changed ≡ heard r (f r.outside) → run ≡ with_suite_at r place (f (suite_at r place))
with_outside r run place changed f after none change =
    after ∙ ap (λ (s : SuiteState). record r { outside = s }) change ∙ ap (λ (p : Option ℕ). with_suite_at r p (f (suite_at r p))) none

-- a test ends after its suite has an event, or before it
ended_after-event : (s : SuiteState) (event : EventPlace) (t : OverView) (order : ℕ) (e : TestEndView) (result : TestResult)
    → after_end (record s { last_event = event }) t order (record e { result = result })
    ≡ record (after_end s t order (record e { result = result })) { last_event = event }
ended_after-event s event t order e Ok = elim (nat_lt 1 t.attempts) as (λ again.
    (if again then after_flaky (timed (record s { last_event = event }) e) t order e
    else with_finish (timed (record s { last_event = event }) e) Passed 1 t.slow)
    ≡ record (if again then after_flaky (timed s e) t order e else with_finish (timed s e) Passed 1 t.slow) { last_event = event }) [
      | true ↦ refl
      | false ↦ refl
    ]
ended_after-event s event t order e Failed = refl
ended_after-event s event t order e Ignored = refl

-- a suite that has an event and then the end of a test, in the run
pub heard-end : (r : RunState) (s after : SuiteState) (t : OverView) (order : ℕ) (e : TestEndView) (event : EventPlace)
    → after ≡ after_end (record s { last_event = event }) t order e → event ≡ event_place r.others → after ≡ heard r (after_end s t order e)
heard-end r s after t order e event takes last =
    takes ∙ ended_after-event s event t order e e.result ∙ ap (λ (p : EventPlace). record (after_end s t order e) { last_event = p }) last

notes_after-event : (s : SuiteState) (event : EventPlace) (t : OverView) (e : TestEndView) (result : TestResult)
    → end_notes (record s { last_event = event }) t (record e { result = result }) ≡ end_notes s t (record e { result = result })
notes_after-event s event t e Ok = refl
notes_after-event s event t e Failed = refl
notes_after-event s event t e Ignored = refl

pub end_notes-after_event : (s : SuiteState) (event : EventPlace) (t : OverView) (e : TestEndView)
    → end_notes (record s { last_event = event }) t e ≡ end_notes s t e
end_notes-after_event s event t e = notes_after-event s event t e e.result

-- a suite is over by its last line
pub suite-over : (r r1 r2 : RunState) (e : SuiteEndView) (at : ℕ) (s : SuiteState) → at < length r.suites
    → (with_line (suite_at r (Some at)) e).open_lines == 0 ≡ true → r1 ≡ with_suite_at r (Some at) (with_line (suite_at r (Some at)) e)
    → s ≡ suite_at r1 (Some at) → r2 ≡ record r1 { suites = remove r1.suites at }
    → ended_at r e at ≡ step (without_tests r2 s) (last_notes (cancelled_by r2.cancel s) (tests_in r2 s))
suite-over r r1 r2 e at s inside over line out left =
    let w : SuiteState = with_line (suite_at r (Some at)) e in
    let is : s ≡ heard r w = out ∙ ap (λ (x : RunState). suite_at x (Some at)) line ∙ get_or-set_same r.suites at (heard r w) r.outside inside in
    let rest : r2 ≡ record r { suites = remove r.suites at } =
    left ∙ ap (λ (x : RunState). record x { suites = remove x.suites at }) line
    ∙ ap (λ (suites : List SuiteState). record r { suites = suites }) (remove-set r.suites at (heard r w)) in
    let old : RunState = record r { suites = remove r.suites at } in
    ap (λ b. cond b (step (without_tests old w) (last_notes (cancelled_by old.cancel w) (tests_in old w))) (step (with_suite_at r (Some at) w) [])) over
    ∙ sym (ap (λ (x : RunState). step (without_tests x s) (last_notes (cancelled_by x.cancel s) (tests_in x s))) rest
    ∙ ap (λ (x : SuiteState). step (without_tests old x) (last_notes (cancelled_by old.cancel x) (tests_in old x))) is)

pub key-seen : (key : Option (String Global)) (b : Bool) → is_some key ≡ b → is_some (text_view key) ≡ b
key-seen None b is = is
key-seen (Some key) b is = is

-- a suite with a key is joined by another first line
pub again-joins : (r : RunState) (key : Option (List ℕ)) (count : Option ℕ) (at : ℕ) → is_some key ≡ true
    → step (with_suite_at r (Some at) (joined_by (suite_at r (Some at)) count)) [] ≡ started_again r key count at
again-joins r key count at keyed =
    let over : Step = ended_early nothing_known (step (record r { suites = remove r.suites at }) []) (suite_at r (Some at)) in
    ap (λ (b : Bool). cond b (step (with_suite_at r (Some at) (joined_by (suite_at r (Some at)) count)) []) (step (opened over.run key count) over.notes))
    (sym keyed)

-- a suite without a key ends early when another one starts
pub again-opens : (r r1 : RunState) (key : Option (List ℕ)) (count : Option ℕ) (at : ℕ) (s : SuiteState) (t : Step) (old : List NoteView) → is_some key ≡ false
    → s ≡ suite_at r (Some at) → r1 ≡ record r { suites = remove r.suites at } → t ≡ ended_early nothing_known (step r1 old) s
    → step (opened t.run key count) t.notes ≡ step (started_again r key count at).run (old ++ (started_again r key count at).notes)
again-opens r r1 key count at s t old keyless suite left ended =
    let rest : RunState = record r { suites = remove r.suites at } in
    let over : Step = ended_early nothing_known (step rest []) (suite_at r (Some at)) in
    let opening : Step → Step = λ x. step (opened x.run key count) x.notes in
    ap opening ended ∙ ap (λ (x : RunState). opening (ended_early nothing_known (step x old) s)) left
    ∙ ap (λ (x : SuiteState). opening (ended_early nothing_known (step rest old) x)) suite
    ∙ ap (λ (b : Bool). let again = cond b (step (with_suite_at r (Some at) (joined_by (suite_at r (Some at)) count)) [])
    (step (opened over.run key count) over.notes) in step again.run (old ++ again.notes)) (sym keyless)

-- a test that runs is taken out, and ends
pub running-over : (r taken : RunState) (e : TestEndView) (place : Option (ℕ × ℕ)) (found : RunningView × ℕ)
    → Some found ≡ option_map (test_at r.running) place
    → taken ≡ record r { running = option_map_or (λ (p : ℕ × ℕ). remove r.running p.0) place r.running }
    → option_map_or (λ (p : ℕ × ℕ). running_ends r e p.0 p.1) place (stray_ends r e) ≡ test_over taken e found.0 found.1
running-over r taken e None found is left = cc
running-over r taken e (Some p) found is left =
    let same : found ≡ test_at r.running p = cc in
    rw (same, left) refl

-- no running test has the name of a test that ends
pub none-over : (r taken : RunState) (e : TestEndView) (place : Option (ℕ × ℕ)) → None ≡ option_map (test_at r.running) place
    → taken ≡ record r { running = option_map_or (λ (p : ℕ × ℕ). remove r.running p.0) place r.running }
    → option_map_or (λ (p : ℕ × ℕ). running_ends r e p.0 p.1) place (stray_ends r e) ≡ stray_ends taken e
none-over r taken e None found left = rw left refl
none-over r taken e (Some p) found left = absurd (none-some (test_at r.running p) found)

-- in a list of one suite, a test belongs to that suite
first-of-one : {X : Type 0} (p : X → Bool) (x : X) → option_or (position p (x ∷ [])) (Some 0) ≡ Some 0
first-of-one p x =
    elim (p x) as (λ b. option_or (cond (nat_lt (cond (not b) (1 + 0) 0) 1) (Some (cond (not b) (1 + 0) 0)) None) (Some 0) ≡ Some 0) [
      | true ↦ refl
      | false ↦ refl
    ]

only-place : (suites : List SuiteState) (key : Option (List ℕ)) → length suites ≡ 1
    → option_or (option_and_then (λ k. position (has_key (Some k)) suites) key) (option_or (position (has_key None) suites) (last_place suites)) ≡ Some 0
only-place [] key is = absurd (omega (arith, is))
only-place (s ∷ []) None is = first-of-one (has_key None) s
only-place (s ∷ []) (Some k) is = rw (first-of-one (has_key None) s) (first-of-one (has_key (Some k)) s)
only-place (s ∷ (t ∷ suites)) key is = absurd (omega (arith, is))

pub place-of-one : (r : RunState) (name : List ℕ) → length r.suites ≡ 1 → suite_place r name ≡ Some 0
place-of-one r name is = only-place r.suites (before_dollar name) is

-- a running test is slow, and its suite has an event
heard-running : (r : RunState) (tests : List RunningView) (place : Option ℕ)
    → heard_at (record r { running = tests }) place ≡ record (heard_at r place) { running = tests }
heard-running r tests None = refl
heard-running r tests (Some at) = refl

pub slow-heard : (r marked run : RunState) (place : Option (ℕ × ℕ)) (number : Option ℕ)
    → Some number ≡ option_map (λ p. (running_at r.running p.0).suite) place
    → marked ≡ record r { running = option_map_or (λ p. with_slow r.running p.0) place r.running }
    → run ≡ heard_at marked (place_of_number marked number) → run ≡ option_map_or (λ p. slow_at r p.0) place r
slow-heard r marked run None number is slow heard = absurd (none-some number (sym is))
slow-heard r marked run (Some p) number is slow heard =
    let same : number ≡ (running_at r.running p.0).suite = cc in
    rw (heard, slow, same) (heard-running r (with_slow r.running p.0) (place_of_number r (running_at r.running p.0).suite))

-- a test starts
others-stay : (r : RunState) (p : Option ℕ) (s : SuiteState)
    → ((with_suite_at r p s).running ≡ r.running) × ((with_suite_at r p s).tests_started ≡ r.tests_started)
others-stay r None s = (refl, refl)
others-stay r (Some at) s = (refl, refl)

pub test-starts : (r counted : RunState) (name : List ℕ) (number : Option ℕ) (tests : List RunningView) (started : ℕ) → counted ≡ start_counted r name
    → number ≡ (suite_at r (suite_place r name)).number
    → tests ≡ counted.running ++ record { name = name; suite = number; order = counted.tests_started; slow = false } ∷ []
    → started ≡ counted.tests_started + 1 → record counted { running = tests; tests_started = started } ≡ test_starts r name
test-starts r counted name number tests started counts at more next =
    let stay = others-stay r (suite_place r name) (with_start (suite_at r (suite_place r name)) name) in
    let runs : counted.running ≡ r.running = ap (λ (x : RunState). x.running) counts ∙ stay.0 in
    let count : counted.tests_started ≡ r.tests_started = ap (λ (x : RunState). x.tests_started) counts ∙ stay.1 in
    let all : tests ≡ r.running ++ record { name = name; suite = number; order = r.tests_started; slow = false } ∷ [] =
    more ∙ ap (λ (xs : List RunningView). xs ++ record { name = name; suite = number; order = counted.tests_started; slow = false } ∷ []) runs
    ∙ ap (λ (n : ℕ). r.running ++ record { name = name; suite = number; order = n; slow = false } ∷ []) count in
    ap (λ (x : RunState). record x { running = tests; tests_started = started }) counts
    ∙ ap (λ (xs : List RunningView). record (start_counted r name) { running = xs; tests_started = started }) all
    ∙ ap (λ (n : ℕ). record (start_counted r name) {
      running = r.running ++ record { name = name; suite = number; order = r.tests_started; slow = false } ∷ [];
      tests_started = n;
    }) (next ∙ ap (λ (n : ℕ). n + 1) count)
    ∙ ap (λ (s : Option ℕ). record (start_counted r name) {
      running = r.running ++ record { name = name; suite = s; order = r.tests_started; slow = false } ∷ [];
      tests_started = r.tests_started + 1;
    }) at
