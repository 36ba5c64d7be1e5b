-- An event, if there is one.
use Rattle.std.proofs.Common.{◌∙◌, ◌++◌, ap, append-nil, map, refl, sym}
use Rattle.std.proofs.lemmas.List.{map-append}
use Rattle.test_report_run_notes.specs.Note.{note_view}
use Rattle.test_report_run.proofs.run.TestRun.take.Goals as goal

pub returns-in_ok-append-in-Some-clause-takes : goal.returns-in_ok-append-in-Some-clause-takes
returns-in_ok-append-in-Some-clause-takes c = rw c.in-Some.is c.in_ok-told-in-Some.ensures.takes

pub returns-in_ok-append-in-Some-clause-tells : goal.returns-in_ok-append-in-Some-clause-tells
returns-in_ok-append-in-Some-clause-tells c =
    let old = c.args.notes.now.items in
    rw c.in-Some.is (ap (map note_view) c.in_ok-append-in-Some.ensures.items ∙ map-append note_view old c.in_ok-told-in-Some.told.items
    ∙ ap (λ notes. map note_view old ++ notes) (c.in_ok-told-in-Some.ensures.tells ∙ sym (append-nil _)))

pub returns-in-None-clause-takes : goal.returns-in-None-clause-takes
returns-in-None-clause-takes c = rw c.in-None.is refl

pub returns-in-None-clause-tells : goal.returns-in-None-clause-tells
returns-in-None-clause-tells c = rw c.in-None.is (sym (append-nil (map note_view c.args.notes.now.items)))
