use Rattle.std.proofs.Common.{ap, true}
use Rattle.report_text.specs.Shown.{Noted}
use Rattle.report_text.proofs.Reports.{kept-new, report-new}
use Rattle.report_text.proofs.text.ReportText.for_terminal.Goals as goal

pub invariant_of-result : goal.invariant_of-result
invariant_of-result c = λ e. kept-new true c.new.result (ap (λ (n : Noted). n.text) c.new.ensures) c.line_start.ensures

pub returns : goal.returns
returns c = report-new true c.new.ensures
