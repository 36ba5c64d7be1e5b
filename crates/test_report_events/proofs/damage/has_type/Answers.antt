use Rattle.std.proofs.Common.{◌∙◌, inl, inr, sym}
use Rattle.std.proofs.Math.Logic.{⊎_elim}
use Rattle.std.proofs.lemmas.Bool.{false≢true}
use Rattle.test_report_events.proofs.damage.has_type.Goals as goal
use Rattle.test_report_events.proofs.damage.has_type.Goals.{else-has_member, then-has_member}

pub returns-then-has_member-2 : goal.returns-then-has_member-2
returns-then-has_member-2 c = (
  λ is. elim c.if-has_member.branch [
    | then-has_member w ↦ inl (c.has_member.ensures.0 w.if-has_member.true)
    | else-has_member w ↦ inr (inl (w.has_member-else-has_member.ensures.0 (sym w.value-is ∙ is)))
  ],
  λ h. c.if-has_member-2.true,
)

pub returns-else-has_member-2 : goal.returns-else-has_member-2
returns-else-has_member-2 c =
    let neither = sym c.if-has_member-2.false in (
      λ is. inr (inr (c.has_member-else-has_member-2.ensures.0 is)),
      λ h. elim c.if-has_member.branch [
        | then-has_member w ↦ absurd (false≢true (neither ∙ (w.value-is ∙ w.if-has_member.true)))
        | else-has_member w ↦
            ⊎_elim (λ a. absurd (false≢true (sym w.if-has_member.false ∙ c.has_member.ensures.1 a)))
            (⊎_elim (λ b. absurd (false≢true (neither ∙ (w.value-is ∙ w.has_member-else-has_member.ensures.1 b)))) c.has_member-else-has_member-2.ensures.1) h
      ],
    )
