-- Words follow the name of a thread.
use Rattle.std.proofs.Common.{◌∙◌, List, ap, nat_eq, ℕ}
use Rattle.std.specs.List.{starts_with}
use Rattle.std.proofs.lemmas.Str.Pattern.{starts_text}
use Rattle.test_report_programs.proofs.names.follows.Goals as goal

pub returns : goal.returns
returns c =
    starts_text _ _ _ c.starts_with.ensures.cases ∙ ap (λ (text : List ℕ). starts_with nat_eq text c.args.words.now) c.without_number.ensures
