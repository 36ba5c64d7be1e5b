use Rattle.std.proofs.Common.{rules}
use Rattle.uses.proofs.of_run_events.push_status.Goals as goal

pub returns : goal.returns
returns c = record {
  status = _;
  items = c.in_ok-push.ensures.items;
  retry_data = search rules;
  output = search rules;
  stderr = search rules;
  result = search rules;
  is_slow = search rules;
}
