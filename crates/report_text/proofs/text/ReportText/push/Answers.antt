use Rattle.std.proofs.Common.{false}
use Rattle.std.specs.Str.{chars}
use Rattle.report_text.specs.Shown.{line_of}
use Rattle.report_text.proofs.Pushing.{pushed-free}
use Rattle.report_text.proofs.Reports.{appends-as}
use Rattle.report_text.proofs.text.ReportText.push.Goals as goal

pub returns-clause-plain : goal.returns-clause-plain
returns-clause-plain c = λ free.
    let old = c.args.self.now in
    let text = chars c.args.text.now in
    appends-as text c.push_by.ensures.text (λ _. pushed-free old.for_terminal false (line_of old.for_terminal old.text) text free)
