use Rattle.std.proofs.Common.{◌≡◌, ap, sym, ◌∙◌, rules}
use Rattle.std.specs.Prelude.{is_some, option_map}
use Rattle.output_slice.specs.Shown.{extract_of}
use Rattle.run_digest_engine.specs.ExtractAnswer.{extract_text}
use Rattle.run_digest_engine.proofs.extract.digest.Goals as goal

pub returns-clause-only : goal.returns-clause-only
returns-clause-only c found extracted =
    let same = sym (c.extracted-found.ensures.only found extracted) in
    let some : c.is_some.result ≡ is_some (option_map extract_of c.extracted-found.result) = search rules in
    (c.in_ok-text.ensures ∙ ap extract_text same, some ∙ ap is_some same)
