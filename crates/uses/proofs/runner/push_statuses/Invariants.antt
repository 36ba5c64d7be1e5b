use Rattle.std.proofs.Common.{◌≡◌, ◌+◌, ◌<◌, ◌^◌, take}
use Rattle.uses.specs.Runner.{HasStatuses, numbered_of}
use Rattle.uses.proofs.runner.push_statuses.Given as goal

-- each attempt so far has its status, and the next number is known
abbrev pub invariant-loop-attempt : goal.invariant-loop-attempt
invariant-loop-attempt l = record {
  so_far : HasStatuses (take l.attempt-index l.attempts) l.fn.total_attempts l.statuses.items;
  next : l.attempt-index + 1 < 2 ^ 32 → l.retry_data ≡ numbered_of l.fn.total_attempts (l.attempt-index + 1);
}
