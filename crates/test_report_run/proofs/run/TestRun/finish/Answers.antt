-- The end of a file, after the end of its command.
use Rattle.std.proofs.Common.{◌∙◌, ap}
use Rattle.test_report_run.specs.FileEnd.{after_file, file_notes}
use Rattle.test_report_run.proofs.run.TestRun.finish.Goals as goal

pub returns-clause-tells : goal.returns-clause-tells
returns-clause-tells c = c.in_ok-notes.ensures.tells ∙ ap file_notes c.on_command_ended.ensures

pub returns-clause-takes : goal.returns-clause-takes
returns-clause-takes c = c.in_ok-notes.ensures.takes ∙ ap after_file c.on_command_ended.ensures
