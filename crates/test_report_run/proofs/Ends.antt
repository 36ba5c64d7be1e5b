-- The notes of a suite that ends, one after another.
use Rattle.std.proofs.Common.{◌≡◌, ◌++◌, ◌+◌, ℕ, List, [], Option, false, length, drop, map, take, if◌then◌else◌, append_assoc}
use Rattle.test_report_run_notes.specs.Note.{HasNoEnd, NoteView}
use Rattle.test_report_run.specs.Others.{OthersView}
use Rattle.test_report_run.specs.Over.{EarlyEnd, crash_of, crashed_notes, crashed_of, early_contradictions, early_notes, explained_of, failed_notes, flaky_notes, last_contradiction, last_notes, number_notes, skipped_note, stopped_note, stopped_of, with_all_flaky, with_failed}
use Rattle.std.specs.Option.{option_or}
use Rattle.test_report_run.specs.Running.{RunningView}
use Rattle.test_report_run.specs.Suite.{SuiteState}
use Rattle.test_report_run.specs.declared.last_line.Explanation.{Explanation}

pub early-notes : (others : OthersView) (how : EarlyEnd) (s s1 s2 : SuiteState) (tests crashed stopped : List RunningView) (n crashes left : ℕ)
    (old n1 n2 n3 n4 n5 : List NoteView)
    → crashed ≡ crashed_of s how tests → stopped ≡ stopped_of s how tests → n ≡ length crashed → crashes ≡ n → left ≡ length stopped
    → s1 ≡ record s { stats = with_failed s.stats crashed; crashed = s.crashed + n } → n1 ≡ old ++ crashed_notes s (crash_of others how.end s n) crashed
    → n2 ≡ n1 ++ map (stopped_note s1) stopped
    → s2 ≡ record s1 { stats = with_all_flaky false s1.stats s1.flaky; flaky = [] } → n3 ≡ n2 ++ flaky_notes s1 false
    → n4 ≡ n3 ++ early_contradictions s2 how.end crashes → n5 ≡ n4 ++ number_notes s2 record { skipped = s2.skipped; left = left; time = s2.time }
    → n5 ≡ old ++ early_notes others how s tests
early-notes others how s s1 s2 tests crashed stopped n crashes left old n1 n2 n3 n4 n5 crash stop count same rest after failed stops released flaky early
    numbers =
    rw (numbers, early, flaky, stops, failed, released, after, same, count, rest, crash, stop) (simp append_assoc)

-- the same for a suite that ends by its last line: the notes of its tests `front` that may be skipped, and of the others, `back`
pub last-notes : (s s1 s2 : SuiteState) (tests front back : List RunningView) (e : Explanation) (n left : ℕ) (time : Option ℕ)
    (old n1 n2 n3 n4 n5 : List NoteView)
    → n ≡ length tests → e ≡ explained_of s n → front ≡ take e.skipped tests → back ≡ drop e.skipped tests
    → left ≡ (if e.others_failed then 0 else length back) → s1 ≡ record s { stats = with_failed s.stats (if e.others_failed then back else []) }
    → n1 ≡ old ++ map (skipped_note s) front → n2 ≡ n1 ++ failed_notes s HasNoEnd (if e.others_failed then back else [])
    → s2 ≡ record s1 { stats = with_all_flaky e.flaky_failed s1.stats s1.flaky; flaky = [] } → n3 ≡ n2 ++ flaky_notes s1 e.flaky_failed
    → n4 ≡ n3 ++ last_contradiction s2
    → time ≡ option_or s2.said.time s2.time
    → n5 ≡ n4 ++ number_notes s2 record { skipped = s2.skipped + e.skipped + e.nameless; left = left; time = time }
    → n5 ≡ old ++ last_notes s tests
last-notes s s1 s2 tests front back e n left time old n1 n2 n3 n4 n5 count explained first others some after skipped failed released flaky said is
    numbers =
    rw (numbers, is, said, flaky, failed, skipped, released, after, some, first, others, explained, count) (simp append_assoc)
