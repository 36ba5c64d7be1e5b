-- Where the lines of a text are read.
use Rattle.std.proofs.Common.{◌≡◌, [], map}
use Rattle.std.specs.List.{fold}
use Rattle.test_report_programs.specs.Names.{with_thread}
use Rattle.test_report_run.specs.Over.{names_of}
use Rattle.test_report_programs.proofs.names.threads_of.Given as goal

abbrev pub invariant-loop-line : goal.invariant-loop-line
invariant-loop-line l = names_of l.names ≡ fold (with_thread l.fn.words) [] (map (λ x. x.now) l.yielded)
