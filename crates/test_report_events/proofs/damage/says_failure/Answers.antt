use Rattle.std.proofs.Common.{◌∙◌, sym}
use Rattle.std.proofs.lemmas.Bool.{false≢true}
use Rattle.test_report_events.proofs.damage.says_failure.Goals as goal

pub returns-then-has_member : goal.returns-then-has_member
returns-then-has_member c =
    let event = c.has_member.ensures.0 c.if-has_member.true in
    (λ is. (c.has_type.ensures.0 is, event), λ h. c.has_type.ensures.1 h.0)

pub returns-else-has_member : goal.returns-else-has_member
returns-else-has_member c =
    (λ is. absurd (false≢true (sym c.if-has_member.false ∙ is)), λ h. absurd (false≢true (sym c.if-has_member.false ∙ c.has_member.ensures.1 h.1)))
