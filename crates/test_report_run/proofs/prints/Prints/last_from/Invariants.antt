-- Where the last prints are copied.
use Rattle.std.proofs.Common.{◌≡◌, map, string_bytes, take}
use Rattle.test_report_run.proofs.LastPrints.{lines_from}
use Rattle.test_report_run.proofs.prints.Prints.last_from.Given as goal

abbrev pub invariant-loop-print : goal.invariant-loop-print
invariant-loop-print l = map string_bytes l.lines.items ≡ lines_from l.first (take l.print-index l.self.last.items)
