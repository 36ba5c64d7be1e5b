use Rattle.std.proofs.Common.{◌++◌, ◌∷◌, option_map, option_to_list, subst, sym}
use Rattle.test_report_events.specs.Content.{before_of, damage_of}
use Rattle.test_report_events.specs.Event.{text_of_key}
use Rattle.test_report_events.specs.Line.{LineSays}
use Rattle.report_uses.proofs.of_test_report_events.test_count_of.Goals as goal

pub returns-in-SuiteStarted : goal.returns-in-SuiteStarted
returns-in-SuiteStarted c = record {
  says = λ _. (
    option_map text_of_key c.in-SuiteStarted.key,
    option_to_list (before_of c.in_ok-line.line),
    option_to_list (damage_of c.in_ok-line.line),
    subst (λ e. LineSays c.args.bytes.now (option_to_list (before_of c.in_ok-line.line) ++ e ∷ option_to_list (damage_of c.in_ok-line.line)))
        (sym c.in-SuiteStarted.ensures) c.in_ok-line.ensures.says,
  );
}
