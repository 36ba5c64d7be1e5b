-- The names that are known of suites before they start.
use Rattle.std.specs.Prelude.{map, string_bytes}
use Rattle.test_report_events.specs.Event as event
use Rattle.test_report_run.specs.declared.suite_names.SuiteNames.{SuiteNames}

-- the names, each with the path of the binary of its suites
abbrev pub names_of : SuiteNames → event.SuiteNames
names_of n = map (λ e. (string_bytes e.0, string_bytes e.1)) n.names.entries
