-- Visibility with greater reasons.
use Rattle.std.proofs.Common.{◌≡◌, ◌≢◌, ◌≤◌, ◌<◌, ◌⊎◌, ◌==◌, ◌&&◌, ◌||◌, ℕ, Bool, true, false, if◌then◌else◌, nat_le, nat_lt, rules, Option, Some, refl, sym, ◌∙◌, inl, inr, arith, lt-ltb}
use Rattle.std.specs.Ordering.{partial_ge}
use Rattle.std.proofs.lemmas.Bool.{and_parts, eqb-false, eqb-true, false≢true, false_from_ne_true, or_parts}
use Rattle.std.proofs.lemmas.Bool.Decides.{nat_tests}
use Rattle.run_events_results.specs.LevelRanks.{level_rank}
use Rattle.run_events_results.specs.contracts.levels.StatusLevelPartialOrd.TheImpl.{ghosts}
use Rattle.run_events_results.specs.declared.levels.StatusLevel.{StatusLevel}
use Rattle.run_events_results.specs.Visibility.{IsException, IsNoMoreVisible, Asked, is_stopped, severity, visibility, with_output}
use Rattle.run_events_results.specs.declared.levels.OutputOnTestFinished.{OutputOnTestFinished}
use Rattle.run_events_results.specs.declared.levels.OutputStoreFinal.{OutputStoreFinal}
use Rattle.run_events_results.specs.declared.levels.OutputStoreFinal.TheVariants.{No, Yes}
use Rattle.run_events_results.specs.declared.results.CancelReason.{CancelReason}
use Rattle.run_events_results.specs.declared.results.CancelReason.TheVariants as reason

-- The rows of the table, by their tests: stopped, below a signal, at a signal.

abbrev row : Asked → Bool → Bool → Bool → OutputOnTestFinished
row w stopped below signal =
    if stopped then with_output w false No
    else if below then with_output w w.at_once (if w.stored then Yes w.at_end else No)
    else if signal then with_output w w.at_once (if w.stored then Yes (if w.at_once then false else w.at_end) else No)
    else with_output w false No

at-most-itself : (x : OutputOnTestFinished) → IsNoMoreVisible x x
at-most-itself x = record { shown = λ h. h; stored = omega arith }

hidden-least : (w : Asked) (y : OutputOnTestFinished) → IsNoMoreVisible (with_output w false No) y
hidden-least w y = record { shown = λ h. absurd (false≢true h); stored = omega arith }

-- if no output was asked for, none is shown
nothing-asked : (w : Asked) (below signal : Bool) (y : OutputOnTestFinished) → (w.at_once || w.stored) ≡ false → IsNoMoreVisible (row w false below signal) y
nothing-asked w true signal y e = let none = or_parts w.at_once w.stored e in rw (none.0, none.1) (hidden-least w y)
nothing-asked w false true y e = let none = or_parts w.at_once w.stored e in rw (none.0, none.1) (hidden-least w y)
nothing-asked w false false y e = hidden-least w y

-- no more is shown with a signal than with a lesser reason
signal-below : (line at_once at_end stored terminated : Bool)
    → let w : Asked = record { line = line; at_once = at_once; at_end = at_end; stored = stored; terminated = terminated } in
    IsNoMoreVisible (row w false false true) (row w false true false)
signal-below line at_once at_end false terminated = record { shown = λ h. h; stored = omega arith }
signal-below line true true true terminated = record { shown = λ h. h; stored = omega arith }
signal-below line true false true terminated = record { shown = λ h. h; stored = omega arith }
signal-below line false at_end true terminated = record { shown = λ h. h; stored = omega arith }

-- the rows, by how the tests for a greater reason relate to those for a lesser one
rows : (w : Asked) (stopped below signal stopped' below' signal' : Bool)
    → (below ≡ true → below' ≡ true)
    → (signal ≡ true → (below' ≡ true) ⊎ (signal' ≡ true))
    → (stopped ≡ false → (below || signal) ≡ true → stopped' ≡ true → (w.at_once || w.stored) ≡ false)
    → IsNoMoreVisible (row w stopped below signal) (row w stopped' below' signal')
rows w true below signal stopped' below' signal' b s e = hidden-least w _
rows w false false false stopped' below' signal' b s e = hidden-least w _
rows w false true signal true below' signal' b s e = nothing-asked w true signal _ (e refl refl refl)
rows w false false true true below' signal' b s e = nothing-asked w false true _ (e refl refl refl)
rows w false true signal false true signal' b s e = at-most-itself _
rows w false true signal false false signal' b s e = absurd (false≢true (b refl))
rows w false false true false true signal' b s e = signal-below w.line w.at_once w.at_end w.stored w.terminated
rows w false false true false false true b s e = at-most-itself _
rows w false false true false false false b s e = absurd (false≢true (elim (s refl) as (λ _. false ≡ true) [ inl h ↦ h | inr h ↦ h ]))

row-line : (w : Asked) (stopped below signal : Bool) → (row w stopped below signal).write_status_line ≡ w.line
row-line w false false true = refl
row-line w _ _ _ = refl

-- the line is the same with every reason
pub line-stays : (w : Asked) (why : Option CancelReason) → (visibility w why).write_status_line ≡ w.line
line-stays w why = row-line w _ _ _

-- a level is at least another one if and only if its rank is
pub at-least : (a b : StatusLevel) → partial_ge ghosts.partial_cmp a b ≡ nat_le (level_rank b) (level_rank a)
at-least a b = search rules

-- What is shown of a stopped test, and with a reason below a signal, with a signal, and with a reason above it, by the parts
-- that the code computes.

pub hidden-stopped : (w : Asked) (why : Option CancelReason) (line : Bool) → is_stopped w why ≡ true → line ≡ w.line
    → record { write_status_line = line; show_immediate = false; store_final = No } ≡ visibility w why
hidden-stopped w why line stopped l = rw (stopped, l) refl

pub shown-below : (w : Asked) (why : Option CancelReason) (line at_once stored at_end : Bool) (store : OutputStoreFinal)
    → is_stopped w why ≡ false → severity why < severity (Some reason.Signal)
    → line ≡ w.line → at_once ≡ w.at_once → stored ≡ w.stored → at_end ≡ w.at_end → store ≡ (if stored then Yes at_end else No)
    → record { write_status_line = line; show_immediate = at_once; store_final = store } ≡ visibility w why
shown-below w why line at_once stored at_end store goes_on low l o s e is =
    rw (goes_on, lt-ltb (severity why) (severity (Some reason.Signal)) low, is, l, o, s, e) refl

pub shown-signal : (w : Asked) (why : Option CancelReason) (line at_once stored at_end : Bool) (store : OutputStoreFinal)
    → severity why ≡ severity (Some reason.Signal)
    → line ≡ w.line → at_once ≡ w.at_once → stored ≡ w.stored → at_end ≡ (if w.at_once then false else w.at_end)
    → store ≡ (if stored then Yes at_end else No)
    → record { write_status_line = line; show_immediate = at_once; store_final = store } ≡ visibility w why
shown-signal w why line at_once stored at_end store signal l o s e is = rw (signal, is, l, o, s, e) refl

pub hidden-above : (w : Asked) (why : Option CancelReason) (line : Bool) → severity (Some reason.Signal) < severity why → line ≡ w.line
    → record { write_status_line = line; show_immediate = false; store_final = No } ≡ visibility w why
hidden-above w (Some reason.Interrupt) line high l = rw l refl
hidden-above w (Some reason.SecondSignal) line high l = rw l refl
hidden-above w _ line high l = absurd (omega arith)

-- Tests of numbers and of bools.

below-lesser : (n m k : ℕ) → n ≤ m → nat_lt m k ≡ true → nat_lt n k ≡ true
below-lesser n m k order h = grind (arith, nat_tests)

at-lesser : (n m k : ℕ) → n ≤ m → (m == k) ≡ true → (nat_lt n k ≡ true) ⊎ ((n == k) ≡ true)
at-lesser n m k order h = grind (arith, nat_tests)

up-to : (n k : ℕ) → (nat_lt n k || n == k) ≡ true → n ≤ k
up-to n k h = grind (arith, nat_tests)

first-fails : (a b : Bool) → (a && b) ≡ false → b ≡ true → a ≡ false
first-fails true b e h = absurd (false≢true (sym e ∙ h))
first-fails false b e h = refl

-- the reason by its rank
stop-reason : (why : Option CancelReason) → severity why ≡ severity (Some reason.TestFailureImmediate) → why ≡ Some reason.TestFailureImmediate
stop-reason (Some reason.TestFailureImmediate) e = refl
stop-reason _ e = absurd (omega arith)

-- the reasons greater than an immediate stop, up to a signal
later-reasons : (why : Option CancelReason) → severity (Some reason.TestFailureImmediate) < severity why → severity why ≤ severity (Some reason.Signal)
    → (why ≡ Some reason.GlobalTimeout) ⊎ (why ≡ Some reason.Signal)
later-reasons (Some reason.GlobalTimeout) low high = inl refl
later-reasons (Some reason.Signal) low high = inr refl
later-reasons _ low high = absurd (omega arith)

-- if a test is hidden because the run stops at once, but not with a greater reason, and this is not the exception, nothing
-- was asked for
hidden-unasked : (w : Asked) (why greater : Option CancelReason) → severity why ≤ severity greater → ¬ (IsException w why greater)
    → ((severity greater == severity (Some reason.TestFailureImmediate)) && w.terminated) ≡ false
    → (nat_lt (severity greater) (severity (Some reason.Signal)) || severity greater == severity (Some reason.Signal)) ≡ true
    → ((severity why == severity (Some reason.TestFailureImmediate)) && w.terminated) ≡ true
    → (w.at_once || w.stored) ≡ false
hidden-unasked w why greater order usual goes_on seen stops =
    let both = and_parts (severity why == severity (Some reason.TestFailureImmediate)) w.terminated stops in
    let stop : severity why ≡ severity (Some reason.TestFailureImmediate) = eqb-true (severity why) _ both.0 in
    let other : severity greater ≢ severity (Some reason.TestFailureImmediate) = eqb-false (severity greater) _ (first-fails _ w.terminated goes_on both.1) in
    let low : severity (Some reason.TestFailureImmediate) < severity greater = omega arith in
    let high : severity greater ≤ severity (Some reason.Signal) = up-to (severity greater) _ seen in
    false_from_ne_true _ (λ asked. usual (record {
      stopped = stop-reason why stop;
      later = later-reasons greater low high;
      terminated = both.1;
      asked = asked;
    }))

-- no more is shown with a greater reason, except for the exception
pub never-grows : (w : Asked) (why greater : Option CancelReason) → severity why ≤ severity greater
    → ¬ (IsException w why greater) → IsNoMoreVisible (visibility w greater) (visibility w why)
never-grows w why greater order usual =
    rows w _ _ _ _ _ _
    (below-lesser (severity why) (severity greater) (severity (Some reason.Signal)) order)
    (at-lesser (severity why) (severity greater) (severity (Some reason.Signal)) order)
    (hidden-unasked w why greater order usual)
