-- The lines of a text are printed.
use Rattle.std.proofs.Common.{◌∙◌, List, ap, map, refl, rules, tests, ℕ}
use Rattle.std.proofs.lemmas.Iterator.Consumers.{YieldsList-end}
use Rattle.std.proofs.lemmas.Iterator.Splits.{YieldsList-from_lines}
use Rattle.test_report_run_notes.specs.Note.{note_view}
use Rattle.test_report_programs.specs.Lines.{all_told, printed, programs_state, step}
use Rattle.test_report_programs.proofs.Steps.{printed-more}
use Rattle.test_report_programs.proofs.run.ProgramRun.print_lines.Goals as goal

pub loop-line-init : goal.loop-line-init
loop-line-init c = refl

pub loop-line-preserved : goal.loop-line-preserved
loop-line-preserved c =
    printed-more (step (programs_state c.args.self.now) (map note_view c.args.notes.now.items)) _ _ c.loop-line.yielded c.in-Some.line
    c.loop-line.invariant c.in_ok-tell.ensures

pub returns : goal.returns
returns c =
    let end = YieldsList-end (YieldsList-from_lines c.args.text.now (search (rules, tests))) c.loop-line.yielded _ c.loop-line.yielded_by _ c.next.new.self
    c.in-None.is c.next.ensures.steps in
    c.loop-line.invariant
    ∙ ap (λ (texts : List (List ℕ)). all_told (step (programs_state c.args.self.now) (map note_view c.args.notes.now.items)) (map printed texts)) end.0
