use Rattle.std.proofs.Common.{◌∙◌, List, MatchOption, ap, subst, ℕ}
use Rattle.test_report_events.specs.Cargo.{IsHashed, without_exe}
use Rattle.test_report_events.proofs.cargo.binary_at.Goals as goal

pub returns : goal.returns
returns c = subst (λ f. MatchOption c.without_hash.result ((name : List ℕ) → ¬ IsHashed f name) (λ x. IsHashed f x.now))
    (c.without_exe.ensures ∙ ap without_exe c.file_name.ensures) c.without_hash.ensures
