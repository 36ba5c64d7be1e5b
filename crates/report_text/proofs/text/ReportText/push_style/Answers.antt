use Rattle.std.proofs.Common.{◌∙◌, ap, subst}
use Rattle.std.specs.Str.{chars}
use Rattle.report_text.specs.Safe.{KeepsCommands}
use Rattle.report_text.specs.Sequence.{style_text}
use Rattle.report_text.specs.Shown.{Appends}
use Rattle.report_text.proofs.Noted.{adds-as}
use Rattle.report_text.proofs.Reports.{chars-style, is-style, report, step}
use Rattle.report_text.proofs.Writing.{writes-style}
use Rattle.report_text.proofs.text.ReportText.push_style.Goals as goal

pub invariant_of-self : goal.invariant_of-self
invariant_of-self c =
    let f = c.self.inside in
    let style = c.args.style in
    let adds = adds-as f.text (ap chars c.style_text.ensures ∙ chars-style style) c.add_str.ensures in
    (step f.for_terminal f.text c.add_str.new.self f.line f.line (style_text style) c.self.invariant adds
    (λ ready. writes-style f.for_terminal f.line (style_text style) ready (is-style style))).kept

pub returns-clause-text : goal.returns-clause-text
returns-clause-text c =
    let f = c.self.inside in
    let style = c.args.style in
    let adds = adds-as f.text (ap chars c.style_text.ensures ∙ chars-style style) c.add_str.ensures in
    let s = step f.for_terminal f.text c.add_str.new.self f.line f.line (style_text style) c.self.invariant adds
    (λ ready. writes-style f.for_terminal f.line (style_text style) ready (is-style style)) in
    subst (λ v. Appends v (report c.add_str.new.self f.for_terminal) (style_text style)) c.self.view_is s.text

pub returns-clause-commands : goal.returns-clause-commands
returns-clause-commands c =
    let f = c.self.inside in
    let style = c.args.style in
    let adds = adds-as f.text (ap chars c.style_text.ensures ∙ chars-style style) c.add_str.ensures in
    let s = step f.for_terminal f.text c.add_str.new.self f.line f.line (style_text style) c.self.invariant adds
    (λ ready. writes-style f.for_terminal f.line (style_text style) ready (is-style style)) in
    subst (λ v. KeepsCommands v (report c.add_str.new.self f.for_terminal)) c.self.view_is s.same
