-- The statuses of attempts, and the finished units of events.
use Rattle.std.proofs.Common.{◌≡◌, ◌+◌, ◌<◌, ◌^◌, ℕ, List, [], ◌∷◌, ◌++◌, length, map, min, ap, refl, subst, sym, ◌∙◌, arith}
use Rattle.std.proofs.lemmas.List.{append-nil, length_push, map_push}
use Rattle.std.proofs.lemmas.List.FromFn.{map-range_with_len_more}
use Rattle.std.specs.List.{range_with_len}
use Rattle.std.specs.Prelude.{Option, None, Some, option_to_list}
use Rattle.run_events.specs.Attempts.{attempts_of, flaky_result_of, view_of}
use Rattle.run_events.specs.Counters.{UnitView, unit_view}
use Rattle.run_events_attempts.specs.declared.attempts.ExecuteStatus.{ExecuteStatus}
use Rattle.run_events_attempts.specs.declared.attempts.RetryData.{RetryData}
use Rattle.run_events_attempts.specs.declared.attempts.statuses.ExecutionStatuses.{ExecutionStatuses}
use Rattle.run_events_attempts.specs.declared.child.LiveSpec.{LiveSpec}
use Rattle.run_events_attempts.specs.declared.child.output.ChildOutputDescription.{ChildOutputDescription}
use Rattle.run_events_results.specs.declared.config.FlakyResult.{FlakyResult}
use Rattle.run_events_stats.specs.declared.stats.FinishedUnit.{FinishedUnit}
use Rattle.run_events.specs.Described.{described_result}
use Rattle.uses.specs.Runner.{AddsStatus, HasStatuses, left_by, numbered_of, view_of_attempts}
use Rattle.uses.specs.declared.of_run_events.EndedAttempt.{EndedAttempt}
use Rattle.uses.proofs.Lists.{last_pushed}

-- the view of a test whose last attempt is the one that is added
pub view_added : {attempt : EndedAttempt} {number : RetryData} {old new : List (ExecuteStatus LiveSpec ChildOutputDescription)}
    (test : ExecutionStatuses LiveSpec ChildOutputDescription) (count : ℕ) (setting : FlakyResult)
    → AddsStatus attempt number old new → attempts_of test ≡ new → length old + 1 ≡ count → flaky_result_of test ≡ setting
    → view_of test ≡ view_of_attempts count attempt.outcome attempt.is_slow setting
view_added test count setting added is counted set =
    simp is (rw (added.items, last_pushed _ added.status, length_push _ added.status, added.result, added.is_slow, counted, set) refl)

-- a list to which a status was added is not empty
pub added_some : {attempt : EndedAttempt} {number : RetryData} {old new : List (ExecuteStatus LiveSpec ChildOutputDescription)}
    → AddsStatus attempt number old new → 0 < length new
added_some added = rw (added.items, length_push _ added.status) (omega arith)

-- one more element, where a part of each is what a rule says
mapped_more : {S A Y : Type 0} (f : S → Y) (g : A → Y) (xs : List S) (x : S) (zs : List A) (z : A) → map f xs ≡ map g zs → f x ≡ g z
    → map f (xs ++ x ∷ []) ≡ map g (zs ++ z ∷ [])
mapped_more f g xs x zs z so_far is =
    map_push f xs x ∙ ap (λ ys. ys ++ f x ∷ []) so_far ∙ ap (λ y. map g zs ++ y ∷ []) is ∙ sym (map_push g zs z)

-- no attempts
pub no_statuses : (total : ℕ) (statuses : List (ExecuteStatus LiveSpec ChildOutputDescription)) → statuses ≡ [] → HasStatuses [] total statuses
no_statuses total statuses none =
    subst (HasStatuses [] total) (sym none) (record { count = refl; outputs = refl; results = refl; slow = refl; numbers = λ _. refl })

-- one more attempt, with the next number
pub statuses_more : {attempt : EndedAttempt} {number : RetryData} {old new : List (ExecuteStatus LiveSpec ChildOutputDescription)}
    (attempts : List EndedAttempt) (total count : ℕ) → length attempts ≡ count → HasStatuses attempts total old → AddsStatus attempt number old new
    → (count + 1 < 2 ^ 32 → number ≡ numbered_of total (count + 1)) → HasStatuses (attempts ++ attempt ∷ []) total new
statuses_more {attempt} {number} {old} {new} attempts total count counted so_far added next =
    let size = length_push attempts attempt in
    record {
      count = ap length added.items ∙ length_push old added.status ∙ ap (λ n. n + 1) so_far.count ∙ sym size;
      outputs = rw added.items (mapped_more (λ s. s.output) left_by old added.status attempts attempt so_far.outputs added.output);
      results =
          rw added.items (mapped_more (λ s. s.result) (λ a. described_result a.outcome None) old added.status attempts attempt so_far.results added.result);
      slow = rw added.items (mapped_more (λ s. s.is_slow) (λ a. a.is_slow) old added.status attempts attempt so_far.slow added.is_slow);
      numbers = λ few.
          let numbers = so_far.numbers (omega (arith, few, size)) in
          let is = added.retry_data ∙ next (omega (arith, few, size, counted)) ∙ ap (λ n. numbered_of total (n + 1)) (sym counted) in
          rw (added.items, size)
          (map_push (λ s. s.retry_data) old added.status
          ∙ ap (λ xs. xs ++ added.status.retry_data ∷ []) numbers
          ∙ ap (λ r. map (numbered_of total) (range_with_len 1 (length attempts)) ++ r ∷ []) is
          ∙ sym (map-range_with_len_more (numbered_of total) 1 (length attempts) (length attempts + 1) (omega arith)));
    }

-- the statuses of a test whose last attempt is the one that is added
pub all_statuses : {attempt : EndedAttempt} {number : RetryData} {old new : List (ExecuteStatus LiveSpec ChildOutputDescription)} {total : ℕ}
    (test : ExecutionStatuses LiveSpec ChildOutputDescription) (attempts : List EndedAttempt) → HasStatuses attempts total old
    → AddsStatus attempt number old new → attempts_of test ≡ new
    → (length attempts + 1 < 2 ^ 32 → number ≡ numbered_of total (length attempts + 1)) → HasStatuses (attempts ++ attempt ∷ []) total (attempts_of test)
all_statuses {attempt} {number} {old} {new} {total} test attempts so_far added is next =
    subst (HasStatuses (attempts ++ attempt ∷ []) total) (sym is) (statuses_more attempts total (length attempts) refl so_far added next)

-- their numbers, of which the total is the last
pub all_numbers : (attempts : List EndedAttempt) (attempt : EndedAttempt) (total : ℕ) (statuses : List (ExecuteStatus LiveSpec ChildOutputDescription))
    → HasStatuses (attempts ++ attempt ∷ []) total statuses → length attempts + 1 < 2 ^ 32 → total ≡ length attempts + 1
    → map (λ s. s.retry_data) statuses ≡ map (numbered_of (length attempts + 1)) (range_with_len 1 (length attempts + 1))
all_numbers attempts attempt total statuses all few last =
    let size = length_push attempts attempt in
    all.numbers (omega (arith, few, size))
    ∙ ap (λ n. map (numbered_of total) (range_with_len 1 n)) size
    ∙ ap (λ n. map (numbered_of n) (range_with_len 1 (length attempts + 1))) last

-- the next number
pub number_after : (before : RetryData) (total next i : ℕ) → i + 1 + 1 < 2 ^ 32 → before ≡ numbered_of total (i + 1)
    → next ≡ min (before.attempt + 1) 4294967295 → record { attempt = next; total_attempts = before.total_attempts } ≡ numbered_of total (i + 1 + 1)
number_after before total next i few is more =
    let number : before.attempt ≡ i + 1 = ap (λ r. r.attempt) is in
    let same : before.total_attempts ≡ total = ap (λ r. r.total_attempts) is in
    let counted : next ≡ i + 1 + 1 = omega (arith, number, more, few) in
    cc

-- the finished unit of one more event comes after those of the events before it
pub lent_more : (lent : List FinishedUnit) (unit : FinishedUnit) (before all : List UnitView) (told : Option UnitView)
    → map unit_view lent ≡ before → Some (unit_view unit) ≡ told → all ≡ before ++ option_to_list told → map unit_view (lent ++ unit ∷ []) ≡ all
lent_more lent unit before all told so_far some is =
    map_push unit_view lent unit
    ∙ ap (λ views. views ++ unit_view unit ∷ []) so_far
    ∙ ap (λ o. before ++ option_to_list o) some
    ∙ sym is

-- an event without a finished unit adds none
pub lent_same : (before all : List UnitView) (told : Option UnitView) → None ≡ told → all ≡ before ++ option_to_list told → before ≡ all
lent_same before all told none is = sym (is ∙ ap (λ o. before ++ option_to_list o) (sym none) ∙ append-nil before)
