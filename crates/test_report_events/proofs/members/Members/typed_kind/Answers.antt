use Rattle.std.proofs.Common.{◌∙◌, ap, sym}
use Rattle.serde_json.specs.View.{view}
use Rattle.test_report_events.proofs.Events.{typed-bench, typed-test}
use Rattle.test_report_events.specs.Table.{typed_said}
use Rattle.test_report_events.proofs.members.Members.typed_kind.Goals as goal

pub returns-in-test : goal.returns-in-test
returns-in-test c = λ time.
    let d = view c.args.self.now.object.now in
    c.named_kind.ensures time ∙ (sym (typed-test d time) ∙ ap (typed_said time d) (sym c.in-test.is))

pub returns-in-bench : goal.returns-in-bench
returns-in-bench c = λ time.
    let d = view c.args.self.now.object.now in
    c.bench_kind.ensures time ∙ (sym (typed-bench d time) ∙ ap (typed_said time d) (sym c.in-bench.is))
