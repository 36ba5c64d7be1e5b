-- A suite is over by its last line.
use Rattle.std.proofs.Common.{◌++◌, ◌<◌, ap, arith, length, map, sym}
use Rattle.std.proofs.lemmas.List.{length-map}
use Rattle.std.proofs.lemmas.Result.{IfOk-equal}
use Rattle.test_report_events.specs.Event.{suite_end_view}
use Rattle.test_report_run_notes.specs.Note.{note_view}
use Rattle.test_report_run.specs.Run.{Step, run_state}
use Rattle.test_report_run.specs.Suite.{state_of}
use Rattle.test_report_run.proofs.Runs.{boxed_state, suite-over}
use Rattle.test_report_run.proofs.run.TestRun.end_at.Goals as goal

pub returns-then-branch-clause-takes : goal.returns-then-branch-clause-takes
returns-then-branch-clause-takes c =
    let r = run_state c.args.self.now in
    let line = c.in_ok-add_last_line.ensures in
    let out = c.take_out-suite.ensures in
    let inside : c.args.at < length r.suites = omega (arith, length-map c.args.self.now.suites.list.items boxed_state) in
    let over = suite-over r _ _ (suite_end_view c.args.end) c.args.at (state_of c.take_out-suite.result) inside (cc) line.takes out.suite out.left in
    IfOk-equal c.end_suite.result _ _ _ c.end_suite.ensures.takes (ap (λ (t : Step). t.run) (sym over))

pub returns-then-branch-clause-tells : goal.returns-then-branch-clause-tells
returns-then-branch-clause-tells c =
    let r = run_state c.args.self.now in
    let line = c.in_ok-add_last_line.ensures in
    let out = c.take_out-suite.ensures in
    let inside : c.args.at < length r.suites = omega (arith, length-map c.args.self.now.suites.list.items boxed_state) in
    let over = suite-over r _ _ (suite_end_view c.args.end) c.args.at (state_of c.take_out-suite.result) inside (cc) line.takes out.suite out.left in
    IfOk-equal c.end_suite.result _ _ _ c.end_suite.ensures.tells (ap (λ (t : Step). map note_view c.args.notes.now.items ++ t.notes) (sym over))
