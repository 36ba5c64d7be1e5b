use Rattle.std.proofs.Common.{subst}
use Rattle.std.specs.Str.{chars}
use Rattle.report_text.specs.Safe.{Safe}
use Rattle.report_text.specs.Shown.{Report}
use Rattle.report_text.proofs.Reports.{safe-read}
use Rattle.report_text.proofs.text.ReportText.as_str.Goals as goal

pub returns-clause-safe : goal.returns-clause-safe
returns-clause-safe c =
    subst (λ (v : Report). Safe v.for_terminal (chars c.as_str.result.now)) c.self.view_is
    (safe-read c.self.inside.for_terminal c.self.inside.text c.self.inside.line c.as_str.result.now c.self.invariant c.as_str.ensures.text
    c.as_str.ensures.lost)
