-- The event of the object, or a print.
use Rattle.std.proofs.Common.{◌≡◌, ◌∙◌, None, Some, ap, option_map, refl, subst, sym}
use Rattle.std.proofs.lemmas.Result.{IfOk-weaker}
use Rattle.serde_json.specs.View.{view}
use Rattle.test_report_events.specs.Content.{content_event}
use Rattle.test_report_events.specs.Members.{AreMembersOf}
use Rattle.test_report_events.specs.Said.{IsTime}
use Rattle.test_report_events.specs.Table.{kind_said, object_said}
use Rattle.test_report_events.proofs.Events.{tells-none}
use Rattle.test_report_events.proofs.Readings.{front_of, held_line, held_rest, object_is, object_none, tells_held, tells_kept, value_print}
use Rattle.test_report_events.proofs.line.value_line.Goals as goal

pub time_in-time-requires : goal.time_in-time-requires
time_in-time-requires c = subst (λ v. AreMembersOf (view v) c.of-members.result) (sym c.of-members.ensures.object) c.of-members.ensures.are

pub event_kind-requires : goal.event_kind-requires
event_kind-requires c = subst (λ v. AreMembersOf (view v) c.of-members.result) (sym c.of-members.ensures.object) c.of-members.ensures.are

pub content-requires : goal.content-requires
content-requires c = subst (λ v. AreMembersOf (view v) c.of-members.result) (sym c.of-members.ensures.object) c.of-members.ensures.are

pub returns-in_ok-program-in-Some : goal.returns-in_ok-program-in-Some
returns-in_ok-program-in-Some c =
    let bytes = c.args.bytes.now in
    let d = view c.args.value.now in
    let same : view c.of-members.result.object.now ≡ d = ap view c.of-members.ensures.object in
    let time = c.time_in-time.result in
    let kinds = option_map (kind_said time (view c.of-members.result.object.now)) in
    let said : kinds c.event_kind.result ≡ object_said time d = c.event_kind.ensures time ∙ ap (object_said time) same in
    let content = c.in_ok-content-in-Some.content in
    let holds = object_is bytes c.args.at d time (content_event content) c.requires
    (subst (λ x. IsTime bytes x time) same c.time_in-time.ensures)
    (sym said ∙ (ap kinds c.in-Some.is ∙ ap (λ x. Some x) (sym c.in_ok-content-in-Some.ensures))) in
    let front = front_of c.args.at _ c.then_some.ensures in
    record {
      says = held_line bytes _ c.args.at (content_event content) (option_map content_event c.in_ok-damage-in-Some.damage) _ holds
          c.in_ok-damage-in-Some.ensures front refl;
      rest = held_rest bytes c.args.at _ _ holds front;
      tells = tells_held bytes c.args.at d _ c.requires c.in_ok-program-in-Some.ensures;
    }

pub print_line-requires-clause-none : goal.print_line-requires-clause-none
print_line-requires-clause-none c =
    let d = view c.args.value.now in
    let same : view c.of-members.result.object.now ≡ d = ap view c.of-members.ensures.object in
    let time = c.time_in-time.result in
    let kinds = option_map (kind_said time (view c.of-members.result.object.now)) in
    let said : kinds c.event_kind.result ≡ object_said time d = c.event_kind.ensures time ∙ ap (object_said time) same in
    object_none c.args.bytes.now c.args.at d time c.requires
    (subst (λ x. IsTime c.args.bytes.now x time) same c.time_in-time.ensures) (sym said ∙ ap kinds c.in-None.is)

pub print_line-requires-clause-says : goal.print_line-requires-clause-says
print_line-requires-clause-says c =
    let d = view c.args.value.now in
    let same : view c.of-members.result.object.now ≡ d = ap view c.of-members.ensures.object in
    let time = c.time_in-time.result in
    let kinds = option_map (kind_said time (view c.of-members.result.object.now)) in
    let said : kinds c.event_kind.result ≡ object_said time d = c.event_kind.ensures time ∙ ap (object_said time) same in
    let none = object_none c.args.bytes.now c.args.at d time c.requires
    (subst (λ x. IsTime c.args.bytes.now x time) same c.time_in-time.ensures) (sym said ∙ ap kinds c.in-None.is) in
    λ e is_print. value_print c.args.bytes.now c.args.at d e c.requires none is_print

pub returns-in-None-clause-tells : goal.returns-in-None-clause-tells
returns-in-None-clause-tells c =
    let d = view c.args.value.now in
    let same : view c.of-members.result.object.now ≡ d = ap view c.of-members.ensures.object in
    let time = c.time_in-time.result in
    let kinds = option_map (kind_said time (view c.of-members.result.object.now)) in
    let said : kinds c.event_kind.result ≡ object_said time d = c.event_kind.ensures time ∙ ap (object_said time) same in
    IfOk-weaker c.print_line.result _ _
    (λ line. tells_kept c.args.bytes.now line None
    (tells_held c.args.bytes.now c.args.at d None c.requires (sym (tells-none d time (sym said ∙ ap kinds c.in-None.is)))))
    c.print_line.ensures.tells
