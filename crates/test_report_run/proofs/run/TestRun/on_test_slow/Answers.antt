-- A running test is slow.
use Rattle.test_report_run.specs.Run.{run_state}
use Rattle.test_report_run.specs.Running.{place_of_end, tests_of}
use Rattle.test_report_run.proofs.Runs.{slow-heard}
use Rattle.test_report_run.proofs.run.TestRun.on_test_slow.Goals as goal

pub returns-in-Some : goal.returns-in-Some
returns-in-Some c =
    let r = run_state c.args.self.now in
    let marked = c.in-Some.ensures in
    slow-heard r (record r { running = tests_of c.mark_slow.new.self; tests_started = c.mark_slow.new.self.started }) _
    (place_of_end r.running c.args.name.now) c.in-Some.number marked.suite (rw (marked.marks, marked.started)) c.hear.ensures
