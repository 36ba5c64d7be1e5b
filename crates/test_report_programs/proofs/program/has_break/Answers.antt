-- A note is of a crash or of an early end.
use Rattle.std.proofs.Common.{◌∙◌, rules, tests}
use Rattle.std.proofs.lemmas.Iterator.{YieldsList-from_slice}
use Rattle.std.proofs.lemmas.Iterator.Search.{any_from_yields_List}
use Rattle.test_report_programs.specs.Lines.{is_break}
use Rattle.test_report_run_notes.specs.Note.{note_view}
use Rattle.test_report_programs.proofs.Notes.{any-view}
use Rattle.test_report_programs.proofs.program.has_break.Goals as goal

pub returns : goal.returns
returns c =
    any_from_yields_List (λ n. is_break (note_view n)) _ _ _ c.any.ensures.ran
    (YieldsList-from_slice c.args.notes.now c.iter.ensures.rest) (λ x b q k. search (rules, tests))
    ∙ any-view is_break c.args.notes.now
