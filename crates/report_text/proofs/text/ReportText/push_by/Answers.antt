use Rattle.std.proofs.Common.{ap, subst, sym}
use Rattle.std.specs.Str.{chars}
use Rattle.report_text.specs.Safe.{Kept, KeepsCommands}
use Rattle.report_text.specs.Shown.{Appends, pushed, shown}
use Rattle.report_text.specs.declared.line.Line.{Line}
use Rattle.report_text.proofs.Reports.{appends-as, push-step, report, text_rules}
use Rattle.report_text.proofs.text.ReportText.push_by.Goals as goal

pub invariant_of-self : goal.invariant_of-self
invariant_of-self c = λ e.
    let a = c.args in
    let f = c.self.inside in
    let new = c.push_shown-has_style.new.text in
    let s = push-step f.for_terminal a.one_line a.keeps_colours f.text new f.line (chars a.text.now) c.self.invariant c.push_shown-has_style.ensures.text in
    subst (Kept f.for_terminal new.text) (sym c.push_shown-has_style.ensures.line) (s.kept e)

pub returns-clause-text : goal.returns-clause-text
returns-clause-text c =
    let a = c.args in
    let f = c.self.inside in
    let t = f.for_terminal in
    let cs = chars a.text.now in
    let new = c.push_shown-has_style.new.text in
    let s = push-step t a.one_line a.keeps_colours f.text new f.line cs c.self.invariant c.push_shown-has_style.ensures.text in
    subst (λ v. Appends v (report new t) (shown v a.one_line a.keeps_colours cs)) c.self.view_is
    (appends-as (shown (report f.text t) a.one_line a.keeps_colours cs) s.text
    (λ e. ap (λ (l : Line). pushed (text_rules t a.one_line a.keeps_colours) l 0 cs) (c.self.invariant e).line_is))

pub returns-clause-commands : goal.returns-clause-commands
returns-clause-commands c =
    let a = c.args in
    let f = c.self.inside in
    let t = f.for_terminal in
    let new = c.push_shown-has_style.new.text in
    let s = push-step t a.one_line a.keeps_colours f.text new f.line (chars a.text.now) c.self.invariant c.push_shown-has_style.ensures.text in
    subst (λ v. KeepsCommands v (report new t)) c.self.view_is s.same
