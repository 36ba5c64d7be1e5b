use Rattle.std.proofs.Common.{◌∙◌, ap, string_bytes, sym}
use Rattle.std.specs.Str.{chars}
use Rattle.report_text.specs.Shown.{Noted}
use Rattle.report_text.proofs.Noted.{emptied, noted-is}
use Rattle.report_text.proofs.noted_text.NotedText.take.Goals as goal

pub returns : goal.returns
returns c =
    let left = ap string_bytes c.replace.ensures.after ∙ c.new.ensures.bytes in (
      ap (λ (v : Noted). v.failed) (sym c.self.view_is) ∙ c.if-self.false,
      ap (λ t. chars (string_bytes t)) c.replace.ensures.value ∙ ap (λ (v : Noted). v.text) c.self.view_is,
      noted-is (emptied left) c.if-self.false,
    )
