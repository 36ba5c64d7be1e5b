-- The counters of a list in parts.
use Rattle.std.proofs.Common.{◌≡◌, ◌+◌, List, ◌++◌, length, Bool, ap, ◌∙◌, arith, length-append}
use Rattle.std.specs.Prelude.{Option}
use Rattle.std.specs.List.{filter_map}
use Rattle.std.proofs.lemmas.List.Elements.{filter_map-append}
use Rattle.run_events_stats.specs.Counters.{UnitView, count_of, start_of_both, stats_of, sum_of}
use Rattle.run_events_stats.specs.RunLaws.{IsSum}
use Rattle.run_events_stats.specs.declared.stats.RunStart.{RunStart}
use Rattle.run_events_stats.proofs.Counts.{count_of-append}

-- counts over a list in two parts
pub sum_of_parts : {U X : Type 0} (h : U → Option X) (p : X → Bool) (a b : List U)
    → count_of p (filter_map h (a ++ b)) ≡ count_of p (filter_map h a) + count_of p (filter_map h b)
sum_of_parts h p a b = ap (count_of p) (filter_map-append h a b) ∙ count_of-append p (filter_map h a) (filter_map h b)

pub length_of_parts : {U X : Type 0} (h : U → Option X) (a b : List U) → length (filter_map h (a ++ b)) ≡ length (filter_map h a) + length (filter_map h b)
length_of_parts h a b = ap length (filter_map-append h a b) ∙ length-append (filter_map h a) (filter_map h b)

-- each counter of the whole is the sum of that counter in both parts
pub cut-law : (a b : List UnitView) (start : RunStart) → IsSum (stats_of a start) (stats_of b start) (stats_of (a ++ b) start)
cut-law a b start = simp (sum_of_parts, length_of_parts)

-- the statistics of the units of both parts are the sum of those of both
pub sum-of-both : (a b : List UnitView) (start other : RunStart) → stats_of (a ++ b) (start_of_both start other) ≡ sum_of (stats_of a start) (stats_of b other)
sum-of-both a b start other = simp (sum_of_parts, length_of_parts)

-- two neighbouring parts can be swapped
pub exchange-law : (a l r b : List UnitView) (start : RunStart) → stats_of (a ++ r ++ l ++ b) start ≡ stats_of (a ++ l ++ r ++ b) start
exchange-law a l r b start = grind (arith, sum_of_parts, length_of_parts)
