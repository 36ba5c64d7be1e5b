-- A running test has one of the names.
use Rattle.std.proofs.Common.{◌∙◌, rules, tests}
use Rattle.std.specs.BTreeMap.{values}
use Rattle.std.proofs.lemmas.Iterator.Consumers.{YieldsList-from_rest}
use Rattle.std.proofs.lemmas.Iterator.Search.{any_from_yields_List}
use Rattle.test_report_run.proofs.Named.{any-test}
use Rattle.test_report_run.specs.Over.{is_among, names_of}
use Rattle.test_report_run.specs.Running.{running_test_view}
use Rattle.test_report_run.proofs.running.Running.has_one_of.Goals as goal

pub returns : goal.returns
returns c =
    let names = names_of c.args.names.now in
    any_from_yields_List (λ t. is_among names (running_test_view t)) _ _ _ c.any.ensures.ran
    (YieldsList-from_rest (values c.args.self.now.tests) c.values.ensures.rest) (λ x b q k. search (rules, tests))
    ∙ any-test names (values c.args.self.now.tests)
