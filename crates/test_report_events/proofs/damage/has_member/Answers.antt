use Rattle.std.proofs.Common.{◌∙◌, ◌≤◌, ◌+◌, List, ℕ, arith, drop, length, length-drop, refl, subst, sym}
use Rattle.std.proofs.lemmas.Bool.{false≢true}
use Rattle.std.proofs.lemmas.List.{take_rest}
use Rattle.test_report_events.proofs.FoundMembers.{member_earlier, member_here, member_later, member_none}
use Rattle.test_report_events.specs.Damage.{HasMember, IsFollowedBy}
use Rattle.test_report_events.proofs.damage.has_member.Goals as goal

pub returns-then-begins_value : goal.returns-then-begins_value
returns-then-begins_value c =
    let rest : List ℕ = c.loop-at.rest.now in
    let key : List ℕ = c.args.key.now in
    let is = take_rest rest (c.in-Some.at + length key) in
    let followed = subst (λ b. IsFollowedBy b c.args.value.now) is (c.begins_value.ensures.0 c.if-begins_value.true) in
    ((λ _. c.loop-at.invariant.2 (member_here rest key c.args.value.now c.in-Some.at c.in-Some.ensures followed)), (λ _. refl))

pub loop-at-preserved : goal.loop-at-preserved
loop-at-preserved c =
    let i = c.loop-at.invariant in
    let text : List ℕ = c.args.text.now in
    let rest : List ℕ = c.loop-at.rest.now in
    let key : List ℕ = c.args.key.now in
    let value : List ℕ = c.args.value.now in
    let at = c.in-Some.at in
    let none : ¬ IsFollowedBy (drop (at + length key) rest) value =
    λ f. false≢true (sym c.if-begins_value.false ∙ c.begins_value.ensures.1 (subst (λ b. IsFollowedBy b value) (sym (take_rest rest (at + length key))) f)) in
    subst (λ r. (length r ≤ length text) × (HasMember text key value → HasMember r key value) × (HasMember r key value → HasMember text key value))
    (sym (take_rest rest (at + 1))) (
      omega (arith, length-drop (at + 1) rest, i.0),
      (λ h. member_later rest key value at c.in-Some.ensures none (i.1 h)),
      (λ h. i.2 (member_earlier rest key value (at + 1) h)),
    )

pub returns : goal.returns
returns c =
    let none = member_none c.loop-at.rest.now c.args.key.now c.args.value.now c.in_default.ensures in
    ((λ same. absurd (false≢true same)), (λ h. absurd (none (c.loop-at.invariant.1 h))))
