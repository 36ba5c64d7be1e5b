-- A test of notes, by what they say.
use Rattle.std.proofs.Common.{◌≡◌, [], ◌∷◌, Bool, List, ap, map, refl}
use Rattle.std.specs.List.{list_any}
use Rattle.std.specs.Prelude.{◌||◌}
use Rattle.test_report_run_notes.specs.Note.{NoteView, note_view}
use Rattle.test_report_run_notes.specs.declared.note.Note.{Note}

-- a note passes just where what it says does
pub any-view : (test : NoteView → Bool) (notes : List Note) → list_any (λ n. test (note_view n)) notes ≡ list_any test (map note_view notes)
any-view test [] = refl
any-view test (n ∷ notes) = ap (λ b. test (note_view n) || b) (any-view test notes)
