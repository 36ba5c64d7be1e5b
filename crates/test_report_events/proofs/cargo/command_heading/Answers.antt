use Rattle.std.proofs.Common.{◌∙◌, ◌∷◌, None, Some, ap, arith}
use Rattle.std.proofs.lemmas.Str.Pattern.{strip_prefix_char, strip_suffix_char}
use Rattle.test_report_events.proofs.Headings.{command_of, no_end, no_start}
use Rattle.test_report_events.proofs.cargo.command_heading.Goals as goal

pub returns-in_err-strip_prefix : goal.returns-in_err-strip_prefix
returns-in_err-strip_prefix c = rw c.from_residual.ensures
    (no_start c.args.text.now (strip_prefix_char 96 c.args.text.now None c.in_err-strip_prefix.ensures.cases (omega arith)))

pub returns-in_err-strip_suffix : goal.returns-in_err-strip_suffix
returns-in_err-strip_suffix c =
    let rest = c.in_ok-strip_prefix.field-0 in
    rw c.from_residual-in_err-strip_suffix.ensures
    (no_end c.args.text.now rest.now (strip_prefix_char 96 c.args.text.now (Some rest) c.in_ok-strip_prefix.ensures.cases (omega arith))
    (strip_suffix_char 96 rest.now None c.in_err-strip_suffix.ensures.cases (omega arith)))

pub returns : goal.returns
returns c =
    let rest = c.in_ok-strip_prefix.field-0 in
    let words = c.in_ok-strip_suffix.field-0 in
    command_of c.args.text.now words.now
    (strip_prefix_char 96 c.args.text.now (Some rest) c.in_ok-strip_prefix.ensures.cases (omega arith)
    ∙ ap (λ r. 96 ∷ r) (strip_suffix_char 96 rest.now (Some words) c.in_ok-strip_suffix.ensures.cases (omega arith)))
    c.first_program.result c.first_program.ensures
