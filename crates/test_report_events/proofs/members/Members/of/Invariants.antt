use Rattle.std.proofs.Common.{◌≡◌, ◌++◌, List}
use Rattle.serde_json.specs.Data.{object}
use Rattle.serde_json.specs.View.{members_view}
use Rattle.serde_json.proofs.Views.{Entry}
use Rattle.test_report_events.specs.Members.{AreMembersOf}
use Rattle.test_report_events.proofs.members.Members.of.Given as goal

abbrev pub invariant-loop-key : goal.invariant-loop-key
invariant-loop-key l = (done : List Entry) × (l.initial.key-iterator ≡ done ++ l.key-iterator)
    × AreMembersOf (object (members_view done)) l.members × (l.members.object ≡ l.initial.members.object)
