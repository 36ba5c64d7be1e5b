-- What the last line of a suite explains.
use Rattle.std.specs.Prelude.{◌+◌, ◌-◌, ◌==◌, ◌&&◌, ◌||◌, ℕ, Bool, false, not, if◌then◌else◌, nat_lt, nat_le, min}
use Rattle.std.specs.Option.{option_map_or}
use Rattle.test_report_run_notes.specs.declared.note.SaidNumbers.{SaidNumbers}
use Rattle.test_report_run.specs.declared.last_line.Explanation.{Explanation}
use Rattle.test_report_run.specs.declared.last_line.Tally.{Tally}

-- how many tests ended
abbrev pub ended_of : Tally → ℕ
ended_of t = t.passed + t.failed + t.skipped

-- how many tests may be skipped that have not ended: as many as were announced and have not, or those that are running
abbrev pub room_of : Tally → ℕ
room_of t = option_map_or (λ count. count - ended_of t) t.test_count t.left

-- how many tests were announced that have no line
abbrev pub not_started_of : Tally → ℕ
not_started_of t = option_map_or (λ count. count - (ended_of t + t.left)) t.test_count 0

-- how many more tests are skipped, as the last line counts `ignored` ones
abbrev pub more_skipped : Tally → ℕ → ℕ
more_skipped t ignored = min (ignored - t.skipped) (room_of t)

-- how many of these have no line
abbrev pub nameless_of : Tally → ℕ → ℕ
nameless_of t ignored = min (more_skipped t ignored) (not_started_of t)

-- how many of these are running
abbrev pub skipped_of : Tally → ℕ → ℕ
skipped_of t ignored = min (more_skipped t ignored - nameless_of t ignored) t.left

-- the running tests that are not skipped failed: there are some, and the last line counts them all
abbrev pub others_failed : Tally → SaidNumbers → ℕ → Bool
others_failed t said others = nat_lt 0 others && option_map_or (λ failed. nat_le (t.failed + others) failed) said.failed false

-- the flaky tests failed: there are some, and the last line counts them all as failed, and none as passed
abbrev pub flaky_failed : Tally → SaidNumbers → ℕ → Bool
flaky_failed t said failed =
    nat_lt 0 t.flaky
    && (option_map_or (λ n. n == (failed + t.flaky)) said.failed false
    && option_map_or (λ n. (n + t.flaky) == t.passed) said.passed false)

-- what the last line explains of these tests, if it says these numbers, and `ignored` tests
abbrev pub explanation_of : Tally → SaidNumbers → ℕ → Explanation
explanation_of t said ignored =
    let skipped = skipped_of t ignored in
    let failed = others_failed t said (t.left - skipped) in
    record {
      nameless = nameless_of t ignored;
      skipped = skipped;
      others_failed = failed;
      flaky_failed = flaky_failed t said (if failed then t.failed + (t.left - skipped) else t.failed);
    }

-- the last line says other numbers than those of the tests
abbrev pub is_contradicted : SaidNumbers → ℕ → ℕ → Bool
is_contradicted said passed failed =
    (if said.failed_verdict then nat_lt failed 1 else nat_lt 0 failed)
    || (option_map_or (λ n. not (n == passed)) said.passed false || option_map_or (λ n. not (n == failed)) said.failed false)
