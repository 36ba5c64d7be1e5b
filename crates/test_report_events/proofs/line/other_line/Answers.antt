use Rattle.std.proofs.Common.{option_map, refl}
use Rattle.test_report_events.proofs.Readings.{other_line}
use Rattle.test_report_events.specs.Content.{content_event}
use Rattle.test_report_events.proofs.line.other_line.Goals as goal

pub returns-clause-says : goal.returns-clause-says
returns-clause-says c =
    other_line c.args.bytes.now _ (option_map content_event c.args.before) (option_map content_event c.args.damage) (content_event c.args.content)
    c.requires.none c.requires.says c.requires.damaged refl
