use Rattle.std.proofs.Common.{◌∙◌, ◌==◌, ap, length, string_bytes}
use Rattle.std.proofs.lemmas.Str.{IsUtf8-string_bytes}
use Rattle.report_text.specs.Shown.{Noted}
use Rattle.report_text.proofs.Noted.{empty-is}
use Rattle.report_text.proofs.noted_text.NotedText.is_empty.Goals as goal

pub returns : goal.returns
returns c =
    let bytes = string_bytes c.self.inside.text in
    c.is_empty.ensures ∙ (ap (λ t. length t == 0) c.as_str.ensures.value
    ∙ (empty-is bytes (IsUtf8-string_bytes c.self.inside.text) ∙ ap (λ (v : Noted). length v.text == 0) c.self.view_is))
