use Rattle.std.proofs.Common.{rules}
use Rattle.run_events_stats.proofs.stats.RunStats.try_on_test_view.Goals as goal

pub returns-then-not-can_count_view-clause-counted : goal.returns-then-not-can_count_view-clause-counted
returns-then-not-can_count_view-clause-counted c = search rules

pub returns-then-not-can_count_view-clause-room : goal.returns-then-not-can_count_view-clause-room
returns-then-not-can_count_view-clause-room c = search rules
