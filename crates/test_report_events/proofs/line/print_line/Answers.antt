use Rattle.std.proofs.Common.{ap, string_bytes}
use Rattle.test_report_events.specs.Event.{Prints}
use Rattle.test_report_events.proofs.line.print_line.Goals as goal

pub other_line-requires-clause-says : goal.other_line-requires-clause-says
other_line-requires-clause-says c =
    let plain = string_bytes c.in_ok-plain.plain in
    c.requires.says _ (plain, c.in_ok-plain.ensures, ap (λ line. Prints line plain) c.in_ok-line.ensures)
