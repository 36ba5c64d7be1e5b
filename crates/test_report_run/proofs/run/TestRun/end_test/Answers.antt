-- A test that runs is taken out, and counts in its suite.
use Rattle.std.proofs.Common.{◌++◌, ap, map, sym}
use Rattle.std.proofs.lemmas.Result.{IfOk-equal}
use Rattle.test_report_events.specs.Event.{test_end_view}
use Rattle.test_report_run_notes.specs.Note.{note_view}
use Rattle.test_report_run.specs.Run.{RunState, Step, run_state}
use Rattle.test_report_run.specs.Running.{place_of_end, running_test_view, tests_of}
use Rattle.test_report_run.proofs.Runs.{none-over, running-over}
use Rattle.test_report_run.proofs.run.TestRun.end_test.Goals as goal

pub returns-in-Some-clause-takes : goal.returns-in-Some-clause-takes
returns-in-Some-clause-takes c =
    let r = run_state c.args.self.now in
    let e = test_end_view c.args.name.now c.args.end c.args.details in
    let taken : RunState = record r { running = tests_of c.end.new.self; tests_started = c.end.new.self.started } in
    let over = running-over r taken e (place_of_end r.running e.name) (running_test_view c.in-Some.test, c.in-Some.attempts) c.in-Some.ensures.found
    (rw (c.in-Some.ensures.left, c.in-Some.ensures.started)) in
    IfOk-equal c.count_end.result _ _ _ c.count_end.ensures.takes (ap (λ (t : Step). t.run) (sym over))

pub returns-in-Some-clause-tells : goal.returns-in-Some-clause-tells
returns-in-Some-clause-tells c =
    let r = run_state c.args.self.now in
    let e = test_end_view c.args.name.now c.args.end c.args.details in
    let taken : RunState = record r { running = tests_of c.end.new.self; tests_started = c.end.new.self.started } in
    let over = running-over r taken e (place_of_end r.running e.name) (running_test_view c.in-Some.test, c.in-Some.attempts) c.in-Some.ensures.found
    (rw (c.in-Some.ensures.left, c.in-Some.ensures.started)) in
    IfOk-equal c.count_end.result _ _ _ c.count_end.ensures.tells (ap (λ (t : Step). map note_view c.args.notes.now.items ++ t.notes) (sym over))

pub returns-in-None-clause-takes : goal.returns-in-None-clause-takes
returns-in-None-clause-takes c =
    let r = run_state c.args.self.now in
    let e = test_end_view c.args.name.now c.args.end c.args.details in
    let taken : RunState = record r { running = tests_of c.end.new.self; tests_started = c.end.new.self.started } in
    let over = none-over r taken e (place_of_end r.running e.name) c.in-None.ensures.found (rw (c.in-None.ensures.left, c.in-None.ensures.started)) in
    IfOk-equal c.on_stray_end.result _ _ _ c.on_stray_end.ensures.takes (ap (λ (t : Step). t.run) (sym over))
