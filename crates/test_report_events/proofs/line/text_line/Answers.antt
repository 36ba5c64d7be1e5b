use Rattle.std.proofs.Common.{None}
use Rattle.test_report_events.proofs.Readings.{tells_kept, text_says}
use Rattle.test_report_events.proofs.line.text_line.Goals as goal

pub other_line-requires-clause-says : goal.other_line-requires-clause-says
other_line-requires-clause-says c = text_says c.args.bytes.now _ _ c.requires c.in_ok-before.ensures

pub returns-clause-tells : goal.returns-clause-tells
returns-clause-tells c =
    tells_kept c.args.bytes.now c.other_line.result None (λ at d holds. absurd (c.requires at d holds)) c.other_line.ensures.tells
