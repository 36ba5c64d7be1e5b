use Rattle.test_report_events.proofs.Endings.{trimmed}
use Rattle.test_report_events.proofs.text.without_spaces.Goals as goal

pub returns : goal.returns
returns c = trimmed c.args.text.now c.trim_start_matches.result.now c.trim_start_matches.ensures.matches
