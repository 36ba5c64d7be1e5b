-- When captured output is displayed, and the mode of a run.
use Rattle.std.specs.Prelude.{Bool, true, false, ℕ, List, codes}
use Rattle.run_events_results.specs.declared.config.TestOutputDisplay.{TestOutputDisplay}
use Rattle.run_events_results.specs.declared.config.TestOutputDisplay.TheVariants as display
use Rattle.run_events_results.specs.declared.run_mode.NextestRunMode.{NextestRunMode}
use Rattle.run_events_results.specs.declared.run_mode.NextestRunMode.TheVariants as mode

-- whether output is displayed as soon as the test finishes
abbrev pub is_immediate_display : TestOutputDisplay → Bool
is_immediate_display display.Immediate = true
is_immediate_display display.ImmediateFinal = true
is_immediate_display display.Final = false
is_immediate_display display.Never = false

-- whether output is displayed at the end of the run
abbrev pub is_final_display : TestOutputDisplay → Bool
is_final_display display.Immediate = false
is_final_display display.ImmediateFinal = true
is_final_display display.Final = true
is_final_display display.Never = false

-- whether a run runs benchmarks
abbrev pub is_benchmark_mode : NextestRunMode → Bool
is_benchmark_mode mode.Test = false
is_benchmark_mode mode.Benchmark = true

-- the displayed text of a mode
abbrev pub mode_text : NextestRunMode → List ℕ
mode_text mode.Test = codes "test"
mode_text mode.Benchmark = codes "benchmark"
