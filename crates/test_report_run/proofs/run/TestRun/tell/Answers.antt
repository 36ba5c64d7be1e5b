-- What an event does, by its kind.
use Rattle.std.proofs.Common.{append-nil, map, refl, sym}
use Rattle.std.proofs.lemmas.Result.{on_ok_weaker}
use Rattle.test_report_run_notes.specs.Note.{note_view}
use Rattle.test_report_run.proofs.run.TestRun.tell.Goals as goal

pub returns-in-Heading-clause-takes : goal.returns-in-Heading-clause-takes
returns-in-Heading-clause-takes c = rw c.in-Heading.is c.on_heading.ensures.takes

pub returns-in-SuiteStarted-clause-takes : goal.returns-in-SuiteStarted-clause-takes
returns-in-SuiteStarted-clause-takes c = rw c.in-SuiteStarted.is c.on_suite_started.ensures.takes

pub returns-in-SuiteStarted-clause-tells : goal.returns-in-SuiteStarted-clause-tells
returns-in-SuiteStarted-clause-tells c = rw c.in-SuiteStarted.is c.on_suite_started.ensures.tells

pub returns-in-SuiteEnded-clause-takes : goal.returns-in-SuiteEnded-clause-takes
returns-in-SuiteEnded-clause-takes c = rw c.in-SuiteEnded.is c.on_suite_ended.ensures.takes

pub returns-in-SuiteEnded-clause-tells : goal.returns-in-SuiteEnded-clause-tells
returns-in-SuiteEnded-clause-tells c = rw c.in-SuiteEnded.is c.on_suite_ended.ensures.tells

pub returns-in-TestEnded-clause-takes : goal.returns-in-TestEnded-clause-takes
returns-in-TestEnded-clause-takes c = rw c.in-TestEnded.is c.on_test_ended.ensures.takes

pub returns-in-TestEnded-clause-tells : goal.returns-in-TestEnded-clause-tells
returns-in-TestEnded-clause-tells c = rw c.in-TestEnded.is c.on_test_ended.ensures.tells

pub returns-in-TestStarted-clause-takes : goal.returns-in-TestStarted-clause-takes
returns-in-TestStarted-clause-takes c = rw c.in-TestStarted.is c.on_test_started.ensures.takes

pub returns-in-CargoFailed-clause-takes : goal.returns-in-CargoFailed-clause-takes
returns-in-CargoFailed-clause-takes c = rw c.in-CargoFailed.is c.on_cargo_failed.ensures.takes

pub returns-in-Print-clause-takes : goal.returns-in-Print-clause-takes
returns-in-Print-clause-takes c = rw c.in-Print.is c.on_print.ensures.takes

pub returns-in-TestStarted-clause-tells : goal.returns-in-TestStarted-clause-tells
returns-in-TestStarted-clause-tells c =
    rw c.in-TestStarted.is
    (on_ok_weaker c.on_test_started.result (λ takes. sym (append-nil (map note_view c.args.notes.now.items))) c.on_test_started.ensures.takes)

pub returns-in-Heading-clause-tells : goal.returns-in-Heading-clause-tells
returns-in-Heading-clause-tells c =
    rw c.in-Heading.is (on_ok_weaker c.on_heading.result (λ takes. sym (append-nil (map note_view c.args.notes.now.items))) c.on_heading.ensures.takes)

pub returns-in-CargoFailed-clause-tells : goal.returns-in-CargoFailed-clause-tells
returns-in-CargoFailed-clause-tells c =
    rw c.in-CargoFailed.is
    (on_ok_weaker c.on_cargo_failed.result (λ takes. sym (append-nil (map note_view c.args.notes.now.items))) c.on_cargo_failed.ensures.takes)

pub returns-in-Print-clause-tells : goal.returns-in-Print-clause-tells
returns-in-Print-clause-tells c =
    rw c.in-Print.is (on_ok_weaker c.on_print.result (λ takes. sym (append-nil (map note_view c.args.notes.now.items))) c.on_print.ensures.takes)

pub returns-in-TestSlow-clause-takes : goal.returns-in-TestSlow-clause-takes
returns-in-TestSlow-clause-takes c = rw c.in-TestSlow.is c.on_test_slow.ensures

pub returns-in-TestSlow-clause-tells : goal.returns-in-TestSlow-clause-tells
returns-in-TestSlow-clause-tells c = rw c.in-TestSlow.is (sym (append-nil (map note_view c.args.notes.now.items)))

pub returns-in-Other-clause-takes : goal.returns-in-Other-clause-takes
returns-in-Other-clause-takes c = rw c.in-Other.is refl

pub returns-in-Other-clause-tells : goal.returns-in-Other-clause-tells
returns-in-Other-clause-tells c = rw c.in-Other.is (sym (append-nil (map note_view c.args.notes.now.items)))

pub returns-in_ok-push_damaged-in-Damaged-clause-takes : goal.returns-in_ok-push_damaged-in-Damaged-clause-takes
returns-in_ok-push_damaged-in-Damaged-clause-takes c = rw c.in-Damaged.is refl

pub returns-in_ok-push_damaged-in-Damaged-clause-tells : goal.returns-in_ok-push_damaged-in-Damaged-clause-tells
returns-in_ok-push_damaged-in-Damaged-clause-tells c = rw c.in-Damaged.is c.in_ok-push_damaged-in-Damaged.ensures
