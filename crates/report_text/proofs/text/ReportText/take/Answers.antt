use Rattle.std.proofs.Common.{◌≡◌, false, string_bytes, subst, sym}
use Rattle.std.specs.Str.{chars}
use Rattle.report_text.specs.Line.{line_end}
use Rattle.report_text.specs.Safe.{EndsBlank, Safe}
use Rattle.report_text.specs.Shown.{Report}
use Rattle.report_text.proofs.Absence.{safe}
use Rattle.report_text.proofs.Reports.{ended, ends-blank, step, writes-end}
use Rattle.report_text.proofs.text.ReportText.take.Goals as goal

pub returns-clause-safe : goal.returns-clause-safe
returns-clause-safe c =
    let f = c.self.inside in
    let t = f.for_terminal in
    let s = step t f.text c.push_line_end.new.text f.line (ended t f.line f.text.text) (line_end f.line.front f.text.text) c.self.invariant
    c.push_line_end.ensures (writes-end t f.line f.text.text) in
    let ok = c.in_ok-taken.ensures in
    subst (λ (v : Report). Safe v.for_terminal (chars (string_bytes c.in_ok-taken.taken))) c.self.view_is
    (subst (Safe t) (sym ok.1) (safe (s.kept ok.0)))

pub returns-clause-ends : goal.returns-clause-ends
returns-clause-ends c =
    let f = c.self.inside in
    let t = f.for_terminal in
    let s = step t f.text c.push_line_end.new.text f.line (ended t f.line f.text.text) (line_end f.line.front f.text.text) c.self.invariant
    c.push_line_end.ensures (writes-end t f.line f.text.text) in
    let ok = c.in_ok-taken.ensures in
    subst (λ (v : Report). v.for_terminal ≡ false → EndsBlank (chars (string_bytes c.in_ok-taken.taken))) c.self.view_is
    (λ e. subst EndsBlank (sym ok.1) (ends-blank t c.push_line_end.new.text.text f.text.text f.line (s.kept ok.0) e))
