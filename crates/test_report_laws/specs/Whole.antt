-- A run of several files, one after the other.
use Rattle.std.specs.Prelude.{◌≡◌, ◌++◌, ◌∷◌, [], List}
use Rattle.std.specs.List.{fold}
use Rattle.test_report_events.specs.Event.{EventView}
use Rattle.test_report_run_notes.specs.Note.{NoteView}
use Rattle.test_report_run.specs.FileEnd.{after_file, end_of, file_notes}
use Rattle.test_report_run.specs.Run.{RunSettings, RunState, after, run_start}
pub use Rattle.test_report_run.specs.Run.{notes_of, run_after}
use Rattle.test_report_run_notes.specs.declared.note.RunEnd.{RunEnd}

-- what a file makes known, up to its end
abbrev pub notes_of_file : RunState → List EventView → List NoteView
notes_of_file r file = notes_of r file ++ file_notes (run_after r file)

-- the run after a file
abbrev pub run_after_file : RunState → List EventView → RunState
run_after_file r file = after_file (run_after r file)

-- what files make known
abbrev pub notes_of_files : RunState → List (List EventView) → List NoteView
notes_of_files r [] = []
notes_of_files r (file ∷ files) = notes_of_file r file ++ notes_of_files (run_after_file r file) files

-- the run after files
abbrev pub run_after_files : RunState → List (List EventView) → RunState
run_after_files r files = fold run_after_file r files

-- what the files of a whole run make known
abbrev pub all_notes : RunSettings → List (List EventView) → List NoteView
all_notes settings files = notes_of_files (run_start settings) files

-- the sums and the outcome of a whole run
abbrev pub whole_end : RunSettings → List (List EventView) → RunEnd
whole_end settings files = end_of (run_after_files (run_start settings) files)

-- a line of a run, and the run when the line is read: after files, and after lines of its own file
pub record IsLineOf (settings : RunSettings) (files : List (List EventView)) (r : RunState) (e : EventView) : Type 0 where
  pub before : List (List EventView)
  pub lines : List EventView
  pub rest : List EventView
  pub after : List (List EventView)
  pub are : files ≡ before ++ (lines ++ e ∷ rest) ∷ after
  pub run_is : r ≡ run_after (run_after_files (run_start settings) before) lines

-- the run when the end of the file of a line is read
abbrev pub run_at_end : {settings : RunSettings} {files : List (List EventView)} {r : RunState} {e : EventView} → IsLineOf settings files r e → RunState
run_at_end {settings} {files} {r} {e} line = run_after (after r e) line.rest

-- the run when the end of a file is read
pub record IsFileEndOf (settings : RunSettings) (files : List (List EventView)) (r : RunState) : Type 0 where
  pub before : List (List EventView)
  pub file : List EventView
  pub after : List (List EventView)
  pub are : files ≡ before ++ file ∷ after
  pub run_is : r ≡ run_after (run_after_files (run_start settings) before) file
