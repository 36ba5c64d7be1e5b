use Rattle.std.proofs.Common.{[], ◌++◌, ap, false, subst, sym, true}
use Rattle.std.specs.Str.{chars}
use Rattle.report_text.specs.Safe.{Kept, KeepsCommands}
use Rattle.report_text.specs.Sequence.{link_mark, target_text}
use Rattle.report_text.specs.Shown.{Appends, ends, pushed, shown}
use Rattle.report_text.specs.declared.line.Line.{Line}
use Rattle.report_text.proofs.Noted.{adds-both}
use Rattle.report_text.proofs.Pushing.{one_line_rules}
use Rattle.report_text.proofs.Reports.{appends-as, report, step, writes-whole-link}
use Rattle.report_text.proofs.text.ReportText.push_link.Goals as goal

pub invariant_of-self : goal.invariant_of-self
invariant_of-self c = λ e.
    let f = c.self.inside in
    let t = f.for_terminal in
    let new = c.push_link_mark-2.new.text in
    let target = c.args.target.now in
    let label = chars c.args.label.now in
    let r = one_line_rules t in
    let adds = adds-both f.text _ _ c.push_link_mark.ensures (adds-both c.push_link_mark.new.text _ _ c.push_shown.ensures.text c.push_link_mark-2.ensures) in
    let s = step t f.text new f.line (ends r f.line 0 label) (link_mark (target_text target) ++ (pushed r f.line 0 label ++ link_mark [])) c.self.invariant adds
    (λ ready. writes-whole-link t f.line target label c.type_inv.target ready) in
    subst (Kept t new.text) (sym c.push_shown.ensures.line) (s.kept e)

pub returns-clause-text : goal.returns-clause-text
returns-clause-text c =
    let f = c.self.inside in
    let t = f.for_terminal in
    let new = c.push_link_mark-2.new.text in
    let target = c.args.target.now in
    let label = chars c.args.label.now in
    let r = one_line_rules t in
    let adds = adds-both f.text _ _ c.push_link_mark.ensures (adds-both c.push_link_mark.new.text _ _ c.push_shown.ensures.text c.push_link_mark-2.ensures) in
    let s = step t f.text new f.line (ends r f.line 0 label) (link_mark (target_text target) ++ (pushed r f.line 0 label ++ link_mark [])) c.self.invariant adds
    (λ ready. writes-whole-link t f.line target label c.type_inv.target ready) in
    subst (λ v. Appends v (report new t) (link_mark (target_text target) ++ (shown v true false label ++ link_mark []))) c.self.view_is
    (appends-as (link_mark (target_text target) ++ (shown (report f.text t) true false label ++ link_mark [])) s.text
    (λ e. ap (λ (l : Line). link_mark (target_text target) ++ (pushed r l 0 label ++ link_mark [])) (c.self.invariant e).line_is))

pub returns-clause-commands : goal.returns-clause-commands
returns-clause-commands c =
    let f = c.self.inside in
    let t = f.for_terminal in
    let new = c.push_link_mark-2.new.text in
    let target = c.args.target.now in
    let label = chars c.args.label.now in
    let r = one_line_rules t in
    let adds = adds-both f.text _ _ c.push_link_mark.ensures (adds-both c.push_link_mark.new.text _ _ c.push_shown.ensures.text c.push_link_mark-2.ensures) in
    let s = step t f.text new f.line (ends r f.line 0 label) (link_mark (target_text target) ++ (pushed r f.line 0 label ++ link_mark [])) c.self.invariant adds
    (λ ready. writes-whole-link t f.line target label c.type_inv.target ready) in
    subst (λ v. KeepsCommands v (report new t)) c.self.view_is s.same
