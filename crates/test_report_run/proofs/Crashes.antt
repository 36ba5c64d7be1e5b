-- The tests of a suite that crash: the first one, and those after it.
use Rattle.std.proofs.Common.{◌≡◌, ◌++◌, ◌+◌, ◌<◌, ℕ, suc, List, Option, [], ◌∷◌, ap, append_assoc, arith, drop, length, take}
use Rattle.test_report_events.specs.declared.program.ProgramEnd.{ProgramEnd}
use Rattle.test_report_run_notes.specs.Note.{CrashView, HasCrashed, NoteView}
use Rattle.test_report_run.specs.Others.{OthersView}
use Rattle.test_report_run.specs.Over.{crash_again, crash_of, crashed_notes, failed_notes, with_failed}
use Rattle.test_report_run.specs.Running.{running_view}
use Rattle.test_report_run.specs.Suite.{SuiteState}
use Rattle.test_report_run.specs.declared.running.RunningTest.{RunningTest}

-- what is counted after the first one, and then after the others
pub crash-state : (s s1 s2 : SuiteState) (all front back : List RunningTest) → 0 < length all → front ≡ take 1 all → back ≡ drop 1 all
    → s1 ≡ record s { stats = with_failed s.stats (running_view front); crashed = s.crashed + length front }
    → s2 ≡ record s1 { stats = with_failed s1.stats (running_view back); crashed = s1.crashed + length back }
    → s2 ≡ record s { stats = with_failed s.stats (running_view all); crashed = s.crashed + length all }
crash-state s s1 s2 [] front back some first others one rest = absurd (omega (arith, some))
crash-state s s1 s2 (t ∷ all) front back some first others one rest =
    let sum : (s.crashed + 1) + length all ≡ s.crashed + suc (length all) = omega arith in
    rw (rest, one, first, others) (ap (λ n. record s { stats = with_failed s.stats (running_view (t ∷ all)); crashed = n }) sum)

-- what becomes known of the first one, and then of the others
pub crash-notes : (others : OthersView) (end : Option ProgramEnd) (s s1 : SuiteState) (n : ℕ) (all front back : List RunningTest) (c again : CrashView)
    (old n1 n2 : List NoteView)
    → 0 < length all → n ≡ length all → front ≡ take 1 all → back ≡ drop 1 all → c ≡ crash_of others end s n → again ≡ crash_again c
    → s1 ≡ record s { stats = with_failed s.stats (running_view front); crashed = s.crashed + length front }
    → n1 ≡ old ++ failed_notes s (HasCrashed c) (running_view front)
    → n2 ≡ n1 ++ failed_notes s1 (HasCrashed again) (running_view back)
    → n2 ≡ old ++ crashed_notes s (crash_of others end s (length all)) (running_view all)
crash-notes others end s s1 n [] front back c again old n1 n2 some count first behind is more one tells rest = absurd (omega (arith, some))
crash-notes others end s s1 n (t ∷ all) front back c again old n1 n2 some count first behind is more one tells rest =
    rw (rest, tells, one, more, is, count, first, behind) (append_assoc old _ _)
