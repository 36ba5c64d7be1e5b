use Rattle.std.proofs.Common.{string_bytes, subst, sym}
use Rattle.std.specs.Str.{chars}
use Rattle.report_text.specs.Safe.{Safe}
use Rattle.report_text.specs.Shown.{Report}
use Rattle.report_text.proofs.Absence.{safe}
use Rattle.report_text.proofs.text.ReportText.finish.Goals as goal

pub returns-clause-safe : goal.returns-clause-safe
returns-clause-safe c =
    let ok = c.in_ok-end.ensures in
    subst (λ (v : Report). Safe v.for_terminal (chars (string_bytes c.in_ok-end.field-0))) c.self.view_is
    (subst (Safe c.self.inside.for_terminal) (sym ok.1) (safe (c.self.invariant ok.0)))
