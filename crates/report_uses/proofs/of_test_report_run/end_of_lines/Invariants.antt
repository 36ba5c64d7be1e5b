use Rattle.std.proofs.Common.{map, take}
use Rattle.test_report_run.specs.Run.{run_state}
use Rattle.report_uses.proofs.EndOfLines.{IsRunOf}
use Rattle.report_uses.proofs.of_test_report_run.end_of_lines.Given as goal

-- the run after the lines so far
abbrev pub invariant-loop-bytes : goal.invariant-loop-bytes
invariant-loop-bytes l = IsRunOf (map (λ line. line.now) (take l.bytes-index l.lines)) (run_state l.run)
