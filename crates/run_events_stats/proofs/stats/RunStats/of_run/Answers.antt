use Rattle.std.proofs.Common.{map, refl, ap, sym, ◌∙◌, arith}
use Rattle.std.proofs.lemmas.List.{length-map}
use Rattle.run_events_stats.specs.Counters.{scripts_of, stats_of, tests_of, unit_view}
use Rattle.run_events_stats.proofs.Parts.{cut-law, exchange-law}
use Rattle.run_events_stats.proofs.SuccessLaws.{success_law}
use Rattle.run_events_stats.proofs.Verdicts.{failed-level, failures-fit, flaky-level, passed-level, scripts-verdicts, tests-verdicts}
use Rattle.run_events_stats.proofs.stats.RunStats.of_run.Goals as goal

pub returns : goal.returns
returns c =
    let start = c.args.start in
    let units = map unit_view c.args.units.now in
    rw c.count_units.ensures (record {
      counts = refl;
      exchange = λ a p q b e. exchange-law a p q b start ∙ ap (λ us. stats_of us start) (sym e);
      cut = λ a b e. rw e (cut-law a b start);
      tests = tests-verdicts (tests_of units);
      scripts = scripts-verdicts (scripts_of units);
      failed_level = failed-level (tests_of units);
      flaky_level = flaky-level (tests_of units);
      passed_level = passed-level (tests_of units);
      failures_fit = failures-fit units start (simp length-map (omega arith));
      success = success_law units start;
    })
