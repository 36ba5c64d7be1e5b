use Rattle.std.proofs.Common.{Some}
use Rattle.std.proofs.lemmas.Bool.Decides.{Decides-eqb}
use Rattle.std.proofs.lemmas.Slice.Eq.{strip_prefix_is, strip_suffix_is}
use Rattle.test_report_events.proofs.StartLines.{between-ends}
use Rattle.test_report_events.proofs.started.between.Goals as goal

pub returns : goal.returns
returns c =
    let rest = c.in_ok-strip_prefix.field-0 in
    between-ends c.args.line.now c.args.start.now rest.now c.args.end.now c.strip_suffix.result
    (strip_prefix_is Decides-eqb c.args.line.now c.args.start.now (Some rest) c.in_ok-strip_prefix.ensures.cases)
    (strip_suffix_is Decides-eqb rest.now c.args.end.now c.strip_suffix.result c.strip_suffix.ensures.cases)
