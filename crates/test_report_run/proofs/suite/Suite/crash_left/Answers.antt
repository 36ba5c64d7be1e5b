-- The tests that crash: the first one, and those after it.
use Rattle.std.proofs.Common.{◌<◌, arith, length, refl}
use Rattle.std.proofs.lemmas.Bool.Decides.{nat_tests}
use Rattle.std.proofs.lemmas.Result.{on_ok_weaker}
use Rattle.test_report_run.proofs.Crashes.{crash-notes, crash-state}
use Rattle.test_report_run.specs.Others.{others_view}
use Rattle.test_report_run.specs.Suite.{state_of}
use Rattle.test_report_run.proofs.suite.Suite.crash_left.Goals as goal

pub returns-clause-tells : goal.returns-clause-tells
returns-clause-tells c =
    let first = c.in_ok-crash_all.ensures in
    let some : 0 < length c.args.left.items = grind (arith, nat_tests, c.if-is_empty.ensures, c.is_empty.ensures, c.args.left.ok) in
    on_ok_weaker c.crash_all-2.result
    (crash-notes (others_view c.args.others.now) c.args.end (state_of c.args.self.now) (state_of c.crash_all.new.self) _ c.args.left.items _ _ _ _ _ _ _ some
    (grind (arith, c.len-running.ensures, c.args.left.ok)) c.in_ok-later.ensures.items c.in_ok-later.ensures.tail c.in_ok-crash.ensures
    refl first.counts first.tells)
    c.crash_all-2.ensures.tells

pub returns-clause-counts : goal.returns-clause-counts
returns-clause-counts c =
    let first = c.in_ok-crash_all.ensures in
    let some : 0 < length c.args.left.items = grind (arith, nat_tests, c.if-is_empty.ensures, c.is_empty.ensures, c.args.left.ok) in
    on_ok_weaker c.crash_all-2.result
    (crash-state (state_of c.args.self.now) (state_of c.crash_all.new.self) (state_of c.crash_all-2.new.self) c.args.left.items _ _ some
    c.in_ok-later.ensures.items c.in_ok-later.ensures.tail first.counts)
    c.crash_all-2.ensures.counts
