-- A test starts.
use Rattle.std.proofs.Common.{Err, Ok, OnOk, Result}
use Rattle.test_report_run.specs.Run.{run_state}
use Rattle.test_report_run.proofs.Runs.{test-starts}
use Rattle.test_report_run.proofs.run.TestRun.on_test_started.Goals as goal

-- two facts of one call
both-ok : {T E P Q R : Type 0} (r : Result T E) → (P → Q → R) → OnOk r P → OnOk r Q → OnOk r R
both-ok (Ok x) f p q = f p q
both-ok (Err e) f p q = p

pub returns : goal.returns
returns c =
    record {
      takes = both-ok c.begin.result (test-starts (run_state c.args.self.now) (run_state c.count_start.new.self) c.args.name.now c.in_ok-number.number _ _
          c.in_ok-number.ensures.counts c.in_ok-number.ensures.number) c.begin.ensures.tests c.begin.ensures.started;
    }
