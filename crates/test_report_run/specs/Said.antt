-- What the last lines of a suite say together.
use Rattle.std.specs.Prelude.{◌+◌, ◌-◌, ◌^◌, ◌||◌, ℕ, false, min, Option, Some, None, option_map, unwrap_or}
use Rattle.test_report_events.specs.Event.{SuiteEndView}
use Rattle.test_report_run_notes.specs.declared.note.SaidNumbers.{SaidNumbers}
use Rattle.test_report_run.specs.declared.said.Said.{Said}

-- the sum of two numbers that may be absent: it is absent only if both are
abbrev pub sum_of : Option ℕ → Option ℕ → Option ℕ
sum_of None b = b
sum_of (Some a) None = Some a
sum_of (Some a) (Some b) = Some (a + b)

-- the sum of two times that may be absent. A sum that does not fit 64 bits is the greatest number that does
abbrev pub time_sum_of : Option ℕ → Option ℕ → Option ℕ
time_sum_of None b = b
time_sum_of (Some a) None = Some a
time_sum_of (Some a) (Some b) = Some (min (a + b) (2 ^ 64 - 1))

-- what the lines say together with one more
abbrev pub with_said : Said → SuiteEndView → Said
with_said s e = record {
  failed_verdict = s.failed_verdict || e.failed_verdict;
  passed = sum_of s.passed e.passed;
  failed = sum_of s.failed e.failed;
  ignored = sum_of s.ignored e.ignored;
  measured = sum_of s.measured e.measured;
  time = time_sum_of s.time e.time;
}

-- what no lines say
abbrev pub no_lines : Said
no_lines = record { failed_verdict = false; passed = None; failed = None; ignored = None; measured = None; time = None }

-- the numbers of tests that passed and that failed: measured benchmarks have passed
abbrev pub numbers_of : Said → SaidNumbers
numbers_of s = record {
  failed_verdict = s.failed_verdict;
  passed = option_map (λ n. n + unwrap_or s.measured 0) s.passed;
  failed = s.failed;
}
