use Rattle.std.proofs.Common.{◌≡◌, ◌++◌, false, string_bytes, subst}
use Rattle.std.proofs.lemmas.Str.{IsUtf8-string_bytes}
use Rattle.std.specs.Str.{chars}
use Rattle.report_text.specs.Line.{escape}
use Rattle.report_text.specs.Shown.{Noted}
use Rattle.report_text.proofs.Noted.{chars-escape}
use Rattle.report_text.proofs.noted_text.NotedText.add_escape.Goals as goal

pub returns-in-Ok : goal.returns-in-Ok
returns-in-Ok c =
    let utf8 = IsUtf8-string_bytes c.self.inside.text in
    subst (λ (v : Noted). c.self.inside.failed ≡ false → (v.failed ≡ false) × (chars (string_bytes c.write_escape.new.text) ≡ v.text ++ escape c.args.c))
    c.self.view_is
    (λ e. (e, chars-escape c.args.c utf8 c.in-Ok.ensures))
