-- How a test counts, by what became known of it.
use Rattle.test_report_run_notes.specs.declared.finish.Finish.TheVariants as finish
use Rattle.test_report_run_notes.specs.declared.finish.Finish.{Finish}

-- a test that passed
abbrev pub finish_passed : Finish
finish_passed = finish.Passed
