-- The events of a line, one after the other.
use Rattle.std.proofs.Common.{◌∙◌, ◌∷◌, [], Option, ap, map, option_to_list}
use Rattle.std.proofs.lemmas.Result.{on_ok_weaker}
use Rattle.test_report_events.specs.Content.{before_of, damage_of, event_of}
use Rattle.test_report_events.specs.Event.{EventView}
use Rattle.test_report_run_notes.specs.Note.{note_view}
use Rattle.test_report_programs.specs.Lines.{all_told, events_taken, programs_state, step}
use Rattle.test_report_programs.proofs.Steps.{three-taken}
use Rattle.test_report_programs.proofs.run.ProgramRun.take_events.Goals as goal

pub returns : goal.returns
returns c =
    let n = c.args.counts in
    let t0 = step (programs_state c.args.self.now) (map note_view c.args.notes.now.items) in
    let t1 = step (programs_state c.take.new.self) (map note_view c.take.new.notes.items) in
    let t2 = step (programs_state c.take-2.new.self) (map note_view c.take-2.new.notes.items) in
    on_ok_weaker c.take-3.result
    (λ third. three-taken t0 t1 t2 _ n (option_to_list (before_of c.args.line.now)) (event_of c.args.line.now ∷ [])
    (option_to_list (damage_of c.args.line.now))
    (c.in_ok-take.ensures ∙ ap (λ (e : Option EventView). all_told t0 (events_taken n (option_to_list e))) c.before-2.ensures)
    (c.in_ok-take-2.ensures ∙ ap (λ (e : EventView). all_told t1 (events_taken n (e ∷ []))) c.event.ensures)
    (third ∙ ap (λ (e : Option EventView). all_told t2 (events_taken n (option_to_list e))) c.damage.ensures)) c.take-3.ensures
