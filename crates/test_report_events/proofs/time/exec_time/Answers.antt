use Rattle.std.proofs.Common.{◌≡◌, ◌∙◌, ◌+◌, ◌-◌, ap, arith, drop, length, take}
use Rattle.test_report_events.specs.Time.{number_text}
use Rattle.test_report_events.proofs.Times.{no_time, time_after}
use Rattle.test_report_events.proofs.time.exec_time.Goals as goal

pub returns-in-Some : goal.returns-in-Some
returns-in-Some c =
    let line = c.args.line.now in
    let at = c.in-Some.at in
    let size : at + 11 + 1 ≡ at + 12 = omega arith in
    time_after line c.number_text.result.now at c.microseconds.result c.in-Some.ensures
    (c.number_text.ensures ∙ ap (λ n. number_text (take (length line - n) (drop n line))) size) c.microseconds.ensures

pub returns-in-None : goal.returns-in-None
returns-in-None c = no_time c.args.line.now c.in-None.ensures
