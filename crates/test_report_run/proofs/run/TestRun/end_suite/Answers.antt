-- A suite ends by its last line, with its running tests.
use Rattle.std.proofs.Common.{◌++◌, ap, map}
use Rattle.std.proofs.lemmas.Result.{IfOk-equal}
use Rattle.test_report_run_notes.specs.Note.{note_view}
use Rattle.test_report_run.specs.Over.{last_notes}
use Rattle.test_report_run.specs.Suite.{cancelled_by, state_of}
use Rattle.test_report_run.proofs.run.TestRun.end_suite.Goals as goal

pub returns-clause-tells : goal.returns-clause-tells
returns-clause-tells c =
    IfOk-equal c.end.result _ _ _ c.end.ensures
    (ap (λ tests. map note_view c.args.notes.now.items ++ last_notes (cancelled_by c.args.self.now.cancel (state_of c.args.suite.now)) tests)
    c.in_ok-left.ensures.taken)
