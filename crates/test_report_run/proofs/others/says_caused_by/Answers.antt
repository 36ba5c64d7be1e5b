-- A line without the spaces at its front.
use Rattle.std.proofs.Common.{◌∙◌, ℕ, List, ap, codes}
use Rattle.std.specs.Str.{bytes_eq}
use Rattle.test_report_run.proofs.Spaces.{trimmed}
use Rattle.test_report_run.proofs.others.says_caused_by.Goals as goal

pub returns : goal.returns
returns c =
    c.eq.ensures ∙ ap (λ (text : List ℕ). bytes_eq text (codes "Caused by:"))
    (trimmed c.args.plain.now c.trim_start_matches.result.now c.trim_start_matches.ensures.matches)
