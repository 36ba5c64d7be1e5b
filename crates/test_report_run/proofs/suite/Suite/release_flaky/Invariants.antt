-- Where the flaky tests are counted.
use Rattle.std.proofs.Common.{◌≡◌, ◌++◌, [], map}
use Rattle.test_report_run_notes.specs.Note.{note_view}
use Rattle.test_report_run.specs.Over.{flaky_note, with_all_flaky}
use Rattle.test_report_run.specs.Suite.{flaky_view, state_of}
use Rattle.test_report_run.proofs.suite.Suite.release_flaky.Given as goal

abbrev pub invariant-loop-flaky : goal.invariant-loop-flaky
invariant-loop-flaky l =
    (state_of l.self ≡ record (state_of l.fn.self) {
      stats = with_all_flaky l.have_failed l.fn.self.stats (map flaky_view l.yielded);
      flaky = [];
    })
    × (map note_view l.notes.items ≡ map note_view l.fn.notes.items
    ++ map (flaky_note (state_of l.fn.self) l.have_failed) (map flaky_view l.yielded))
