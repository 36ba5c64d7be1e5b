-- A print.
use Rattle.std.proofs.Common.{◌∙◌, List, ℕ, ap}
use Rattle.test_report_run.specs.Others.{OthersView, after_print}
use Rattle.test_report_run.specs.Prints.{lines_of}
use Rattle.test_report_run.specs.Run.{run_state}
use Rattle.test_report_run.proofs.run.TestRun.on_print.Goals as goal

pub returns : goal.returns
returns c =
    let r = run_state c.args.self.now in
    record {
      takes = ap (λ (o : OthersView). record r { others = o; recent = lines_of c.take_line.new.self }) c.in_ok-on_print.ensures.takes
          ∙ ap (λ (p : List (List ℕ)). record r { others = after_print r.others c.args.line.now c.args.plain.now; recent = p }) c.in_ok-take_line.ensures;
    }
