-- The open suites of a run.
use Rattle.std.specs.Prelude.{List, map, Box}
use Rattle.std.specs.declared.alloc.Global.{Global}
use Rattle.test_report_run.specs.Suite.{SuiteState, state_of}
use Rattle.test_report_run.specs.declared.open_suites.OpenSuites.{OpenSuites}
use Rattle.test_report_run.specs.declared.suite.Suite.{Suite}

-- what these suites keep
abbrev pub states_in : List (Box Suite Global) → List SuiteState
states_in suites = map (λ suite. state_of suite.value) suites

-- what the open suites keep, in the order of their first lines
abbrev pub suites_of : OpenSuites → List SuiteState
suites_of open_suites = states_in open_suites.list.items
