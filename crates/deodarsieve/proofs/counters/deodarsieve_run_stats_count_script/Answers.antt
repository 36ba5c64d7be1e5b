use Rattle.std.proofs.Common.{rules, ◌≡◌, Some, refl}
use Rattle.c_values.specs.Layout.{script_counted}
use Rattle.run_events_stats.specs.Counters.{ScriptCountersFit, with_script}
use Rattle.deodarsieve.proofs.counters.deodarsieve_run_stats_count_script.Goals as goal

-- all codes are in their tables, and the counters with one more script fit
pub returns-clause-ok : goal.returns-clause-ok
returns-clause-ok c =
    let counted : script_counted c.args.stats.now c.args.script.now ≡ Some (with_script c.in-Some.counters c.in-Some-described.ended) = search rules in
    let room : ScriptCountersFit (with_script c.in-Some.counters c.in-Some-described.ended) = search rules in
    rw counted (λ _. room, λ _. refl)

pub returns-clause-counter_full : goal.returns-clause-counter_full
returns-clause-counter_full c =
    let counted : script_counted c.args.stats.now c.args.script.now ≡ Some (with_script c.in-Some.counters c.in-Some-described.ended) = search rules in
    let room : ScriptCountersFit (with_script c.in-Some.counters c.in-Some-described.ended) = search rules in
    rw counted (λ same. search rules, λ full. absurd (full room))

-- they do not fit
pub returns-then-is_err-clause-counter_full : goal.returns-then-is_err-clause-counter_full
returns-then-is_err-clause-counter_full c =
    let counted : script_counted c.args.stats.now c.args.script.now ≡ Some (with_script c.in-Some.counters c.in-Some-described.ended) = search rules in
    let full : ScriptCountersFit (with_script c.in-Some.counters c.in-Some-described.ended) → ⊥ = λ fits. search rules in
    rw counted (λ _. full, λ _. refl)
