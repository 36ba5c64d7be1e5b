use Rattle.std.proofs.Common.{ap, sym, ◌∙◌}
use Rattle.run_events_stats.specs.Counters.{stats_of, sum_of}
use Rattle.run_events_stats.proofs.Parts.{sum-of-both}
use Rattle.run_events_stats.proofs.stats.RunStats.try_add.Goals as goal

pub returns-clause-both : goal.returns-clause-both
returns-clause-both c = λ a b start other whole rest.
    c.add.ensures ∙ ap (λ s. sum_of s c.args.part.now) whole ∙ ap (sum_of (stats_of a start)) rest ∙ sym (sum-of-both a b start other)
