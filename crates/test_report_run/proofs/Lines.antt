-- The events of a line, one after the other.
use Rattle.std.proofs.Common.{◌≡◌, ◌∙◌, ◌++◌, List, [], ◌∷◌, Option, ap, append_assoc, append-nil, option_to_list, refl, sym}
use Rattle.std.proofs.lemmas.List.Sums.{fold-append}
use Rattle.test_report_events.specs.Event.{EventView}
use Rattle.test_report_run_notes.specs.Note.{NoteView}
use Rattle.test_report_run.specs.Run.{RunState, after, learned, marked, notes_at, notes_of, run_after, settled_at, told}

-- events, and then others
pub notes-append : (r : RunState) (xs ys : List EventView) → notes_of r (xs ++ ys) ≡ notes_of r xs ++ notes_of (run_after r xs) ys
notes-append r [] ys = refl
notes-append r (e ∷ xs) ys =
    ap (λ ns. notes_at r e ++ ns) (notes-append (after r e) xs ys)
    ∙ sym (append_assoc (notes_at r e) (notes_of (after r e) xs) (notes_of (run_after (after r e) xs) ys))

-- what the events of a line make known
pub line-tells : (r r1 r2 : RunState) (b before d damage : Option EventView) (e event : EventView) (n0 n1 n2 n3 : List NoteView) → b ≡ before → e ≡ event
    → d ≡ damage → r1 ≡ run_after r (option_to_list b) → r2 ≡ after r1 e → n0 ≡ [] → n1 ≡ n0 ++ notes_of r (option_to_list b)
    → n2 ≡ n1 ++ (notes_at r1 e ++ []) → n3 ≡ n2 ++ notes_of r2 (option_to_list d)
    → n3 ≡ notes_of r (option_to_list before ++ event ∷ option_to_list damage)
line-tells r r1 r2 b before d damage e event n0 n1 n2 n3 before_is event_is damage_is first then none front own back =
    rw (back, own, front, none, then, first, before_is, event_is, damage_is, notes-append r (option_to_list before) (event ∷ option_to_list damage))
    (simp (append_assoc, append-nil))

-- the run after the events of a line
pub line-takes : (r r1 r2 r3 : RunState) (b before d damage : Option EventView) (e event : EventView) → b ≡ before → e ≡ event → d ≡ damage
    → r1 ≡ run_after r (option_to_list b) → r2 ≡ after r1 e → r3 ≡ run_after r2 (option_to_list d)
    → r3 ≡ run_after r (option_to_list before ++ event ∷ option_to_list damage)
line-takes r r1 r2 r3 b before d damage e event before_is event_is damage_is first then last =
    rw (last, then, first, before_is, event_is, damage_is) (sym (fold-append after r (option_to_list before) (event ∷ option_to_list damage)))

-- the run after an event, step by step
pub event-takes : (r r1 r2 r3 r4 : RunState) (e : EventView) (n0 n1 n2 : List NoteView) → n0 ≡ [] → r1 ≡ (settled_at r e).run
    → n1 ≡ n0 ++ (settled_at r e).notes → r2 ≡ (told r1 e).run → n2 ≡ n1 ++ (told r1 e).notes → r3 ≡ learned r2 n2 → r4 ≡ marked r3 e → r4 ≡ after r e
event-takes r r1 r2 r3 r4 e n0 n1 n2 none settles settle-tells takes tells learns marks =
    let before : List NoteView = (settled_at r e).notes in
    let all : n2 ≡ before ++ (told r1 e).notes =
    tells ∙ ap (λ (ns : List NoteView). ns ++ (told r1 e).notes) (settle-tells ∙ ap (λ (ns : List NoteView). ns ++ before) none) in
    marks ∙ ap (λ (x : RunState). marked x e)
    (learns ∙ ap (λ (x : RunState). learned x n2) takes ∙ ap (λ (ns : List NoteView). learned (told r1 e).run ns) all
    ∙ ap (λ (x : RunState). learned (told x e).run (before ++ (told x e).notes)) settles)
