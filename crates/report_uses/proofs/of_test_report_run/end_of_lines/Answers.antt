use Rattle.std.proofs.Common.{◌∙◌, ap}
use Rattle.test_report_run.specs.FileEnd.{after_file, end_of}
use Rattle.report_uses.proofs.EndOfLines.{run-more, run-of-all}
use Rattle.report_uses.proofs.of_test_report_run.end_of_lines.Goals as goal

pub loop-bytes-preserved : goal.loop-bytes-preserved
loop-bytes-preserved c =
    run-more c.args.lines.now c.loop-bytes.bytes-index _ _ _ _ c.loop-bytes-test.true c.loop-bytes.invariant c.in_ok-line.ensures.says
    c.in_ok-on_line.ensures.takes

pub returns : goal.returns
returns c =
    let run = run-of-all c.args.lines.now c.loop-bytes.bytes-index _ c.loop-bytes-test.false c.loop-bytes.invariant in
    (run.events, run.say, c.in_ok-finished.ensures.sums ∙ ap end_of (c.in_ok-finished.ensures.takes ∙ ap after_file run.is))
