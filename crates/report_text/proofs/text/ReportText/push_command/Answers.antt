use Rattle.std.proofs.Common.{◌≡◌, [], ◌∷◌, ◌++◌, ap, false, subst, sym}
use Rattle.std.specs.Str.{chars}
use Rattle.report_text.specs.Command.{command, command_line, commands}
use Rattle.report_text.specs.Line.{line_end}
use Rattle.report_text.specs.Safe.{Kept}
use Rattle.report_text.specs.Sequence.{visible}
use Rattle.report_text.specs.Shown.{Appends, Report, line_of}
use Rattle.report_text.specs.declared.line.Front.TheVariants.{White}
use Rattle.report_text.specs.declared.line.Line.{Line}
use Rattle.report_text.proofs.Noted.{adds-both}
use Rattle.report_text.proofs.Reports.{appends-as, command-step, report}
use Rattle.report_text.proofs.text.ReportText.push_command.Goals as goal

pub invariant_of-self : goal.invariant_of-self
invariant_of-self c = λ e.
    let f = c.self.inside in
    let t = f.for_terminal in
    let a = c.args in
    let new = c.push_command_line.new.text in
    let message = chars a.message.now in
    let adds = adds-both f.text _ _ c.push_line_end.ensures c.push_command_line.ensures in
    let s = command-step t f.text new f.line a.kind a.properties.now message c.self.invariant adds in
    subst (Kept t new.text) (sym c.line_start-self-inside.ensures) (s.kept e)

pub returns-clause-text : goal.returns-clause-text
returns-clause-text c =
    let f = c.self.inside in
    let t = f.for_terminal in
    let a = c.args in
    let new = c.push_command_line.new.text in
    let message = chars a.message.now in
    let adds = adds-both f.text _ _ c.push_line_end.ensures c.push_command_line.ensures in
    let s = command-step t f.text new f.line a.kind a.properties.now message c.self.invariant adds in
    let line = command_line a.kind a.properties.now message in
    subst (λ (v : Report). Appends v (report new t) (line_end (line_of v.for_terminal v.text).front v.text ++ line)) c.self.view_is
    (appends-as (line_end (line_of t f.text.text).front f.text.text ++ line) s.text (λ e. ap (λ (l : Line). line_end l.front f.text.text ++ line)
    (c.self.invariant e).line_is))

pub returns-clause-commands : goal.returns-clause-commands
returns-clause-commands c =
    let f = c.self.inside in
    let t = f.for_terminal in
    let a = c.args in
    let new = c.push_command_line.new.text in
    let message = chars a.message.now in
    let adds = adds-both f.text _ _ c.push_line_end.ensures c.push_command_line.ensures in
    let s = command-step t f.text new f.line a.kind a.properties.now message c.self.invariant adds in
    subst (λ (v : Report). t ≡ false → new.failed ≡ false → commands White (visible new.text)
    ≡ commands White (visible v.text) ++ command a.kind a.properties.now message ∷ []) c.self.view_is s.one
