use Rattle.std.proofs.Common.{◌≡◌, ◌∙◌, [], ◌∷◌, ◌++◌, Bor, ap, append-nil, append_assoc, refl, subst, sym}
use Rattle.std.specs.List.Sorted.{IsStrictlySortedBy}
use Rattle.std.specs.Map.{keys_of}
use Rattle.std.specs.String.{string_cmp}
use Rattle.serde_json.specs.Data.{object, put}
use Rattle.serde_json.specs.View.{members_view, view}
use Rattle.serde_json.specs.declared.value.Value.{Value}
use Rattle.serde_json.proofs.Views.{Entry}
use Rattle.test_report_events.proofs.MemberLists.{no_members, object_of, one_more_member}
use Rattle.test_report_events.specs.Members.{AreMembersOf}
use Rattle.test_report_events.proofs.members.Members.of.Goals as goal

pub loop-key-preserved : goal.loop-key-preserved
loop-key-preserved c =
    let done = c.loop-key.invariant.0 in
    let e : Entry = (c.in-Some-2.key.now, c.in-Some-2.value.now) in
    let left = c.next.new.self in
    let all : c.into_iter-key-iterator.result ≡ done ++ e ∷ left =
    c.loop-key.invariant.1 ∙ ap (λ es. done ++ es) c.in-Some-2.ensures.steps in
    let entries = sym (c.into_iter-key-iterator.ensures.into_iter_gives ∙ c.iter-key-items.ensures.rest) ∙ all in
    let sorted = subst (λ es. IsStrictlySortedBy string_cmp (keys_of es)) entries c.iter-key-items.ensures.ordered in
    let taken = subst (λ k. AreMembersOf (object (put k (view e.1) (members_view done))) c.with-members.result) c.as_str.ensures.value
    (c.with-members.ensures.takes (members_view done) c.loop-key.invariant.2) in (
      done ++ e ∷ [],
      all ∙ sym (append_assoc done (e ∷ []) left),
      one_more_member done e left c.with-members.result sorted taken,
      c.with-members.ensures.object ∙ c.loop-key.invariant.3,
    )

pub loop-key-init : goal.loop-key-init
loop-key-init c = ([], refl, record { kind = refl; event = refl; name = refl; stdout = refl; message = refl; reason = refl; time = refl }, refl)

pub returns-in-None : goal.returns-in-None
returns-in-None c =
    let done = c.loop-key.invariant.0 in
    let entries = sym (c.into_iter-key-iterator.ensures.into_iter_gives ∙ c.iter-key-items.ensures.rest)
    ∙ (c.loop-key.invariant.1 ∙ (ap (λ es. done ++ es) c.in-None.ensures.steps.0 ∙ append-nil done)) in
    let whole = ap (λ es. object (members_view es)) (sym entries) ∙ object_of (view c.args.object.now) _ c.in-Some.ensures in
    record {
      object = ap (λ (o : Bor Value). o.now) c.loop-key.invariant.3;
      are = subst (λ d. AreMembersOf d c.loop-key.members) whole c.loop-key.invariant.2;
    }

pub returns-in_default : goal.returns-in_default
returns-in_default c = record { object = refl; are = no_members (view c.args.object.now) c.args.object c.in_default.ensures }
