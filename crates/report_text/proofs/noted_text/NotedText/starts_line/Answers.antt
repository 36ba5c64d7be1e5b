use Rattle.std.proofs.Common.{◌≡◌, ◌∙◌, ◌+◌, ◌-◌, ◌==◌, ap, arith, false, length, subst, sym}
use Rattle.std.proofs.lemmas.Bool.Decides.{nat_tests}
use Rattle.std.proofs.lemmas.Str.{IsUtf8-string_bytes}
use Rattle.std.specs.Str.{IsUtf8, chars}
use Rattle.report_text.specs.Line.{starts_line}
use Rattle.report_text.specs.Shown.{Noted}
use Rattle.report_text.proofs.Noted.{empty-starts, feed-is}
use Rattle.report_text.proofs.noted_text.NotedText.starts_line.Goals as goal

pub returns-then-is_empty : goal.returns-then-is_empty
returns-then-is_empty c =
    let empty = sym c.is_empty.ensures ∙ c.if-is_empty.true in
    sym (ap (λ (v : Noted). starts_line v.text) (sym c.self.view_is)
    ∙ (ap (λ bs. starts_line (chars bs)) (sym c.as_bytes-bytes.ensures.value) ∙ empty-starts c.as_bytes-bytes.result.now empty))

pub returns : goal.returns
returns c =
    let bytes = c.as_bytes-bytes.result.now in
    let some : (length c.as_bytes-bytes.result.now == 0) ≡ false = sym c.is_empty.ensures ∙ c.if-is_empty.false in
    let size : length c.as_bytes-bytes.result.now ≡ length c.as_bytes-bytes.result.now - 1 + 1 = grind (arith, nat_tests, some) in
    let utf8 = subst IsUtf8 (sym c.as_bytes-bytes.ensures.value) (IsUtf8-string_bytes c.self.inside.text) in
    feed-is bytes (length bytes - 1) utf8 size
    ∙ (ap (λ bs. starts_line (chars bs)) c.as_bytes-bytes.ensures.value ∙ ap (λ (v : Noted). starts_line v.text) c.self.view_is)
