use Rattle.std.proofs.Common.{ap, map}
use Rattle.test_report_run_notes.specs.Note.{note_view}
use Rattle.test_report_run.proofs.Lines.{line-takes, line-tells}
use Rattle.test_report_run.proofs.run.TestRun.on_line.Goals as goal

pub returns-clause-tells : goal.returns-clause-tells
returns-clause-tells c =
    line-tells _ _ _ _ _ _ _ _ _ _ _ _ _ c.before-2.ensures c.event.ensures c.damage.ensures c.in_ok-take.ensures.takes c.in_ok-take-2.ensures.takes
    (ap (map note_view) c.new-notes.ensures.items) c.in_ok-take.ensures.tells c.in_ok-take-2.ensures.tells c.in_ok-take-3.ensures.tells

pub returns-clause-takes : goal.returns-clause-takes
returns-clause-takes c =
    line-takes _ _ _ _ _ _ _ _ _ _ c.before-2.ensures c.event.ensures c.damage.ensures c.in_ok-take.ensures.takes c.in_ok-take-2.ensures.takes
    c.in_ok-take-3.ensures.takes
