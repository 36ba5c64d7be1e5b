use Rattle.std.proofs.Common.{codes}
use Rattle.test_report_events.proofs.MemberLists.{kept_is}
use Rattle.test_report_events.proofs.members.Members.with.Goals as goal

pub returns-clause-takes : goal.returns-clause-takes
returns-clause-takes c =
    let key = c.args.key.now in
    let value = c.args.value in
    λ ms h. record {
      kind = kept_is (codes "type") key value _ _ ms c.kept_for.ensures h.kind;
      event = kept_is (codes "event") key value _ _ ms c.kept_for-2.ensures h.event;
      name = kept_is (codes "name") key value _ _ ms c.kept_for-3.ensures h.name;
      stdout = kept_is (codes "stdout") key value _ _ ms c.kept_for-4.ensures h.stdout;
      message = kept_is (codes "message") key value _ _ ms c.kept_for-5.ensures h.message;
      reason = kept_is (codes "reason") key value _ _ ms c.kept_for-6.ensures h.reason;
      time = kept_is (codes "exec_time") key value _ _ ms c.kept_for-7.ensures h.time;
    }
