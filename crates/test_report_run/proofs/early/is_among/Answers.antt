-- A test has one of the names.
use Rattle.std.proofs.Common.{◌∙◌, ap}
use Rattle.std.specs.List.{list_any}
use Rattle.std.specs.Str.{bytes_eq}
use Rattle.test_report_run.specs.Over.{names_of}
use Rattle.test_report_run.proofs.Named.{among}
use Rattle.test_report_run.proofs.early.is_among.Goals as goal

pub returns : goal.returns
returns c =
    c.contains.ensures ∙ among _ c.args.names.now.keys ∙ ap (λ text. list_any (bytes_eq text) (names_of c.args.names.now)) c.as_str.ensures.value
