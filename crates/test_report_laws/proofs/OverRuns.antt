-- What holds of a run at each line and at each end of a file.
use Rattle.std.proofs.Common.{◌≡◌, ℕ, List, [], ◌∷◌, ◌++◌, ◌+◌, append_assoc, arith}
use Rattle.std.specs.List.{sum_by}
use Rattle.std.proofs.lemmas.List.{append-nil}
use Rattle.std.proofs.lemmas.List.Sums.{sum_by-cons}
use Rattle.test_report_events.specs.Event.{EventView}
use Rattle.test_report_run_notes.specs.Note.{NoteView}
use Rattle.test_report_run.specs.FileEnd.{after_file, file_notes}
use Rattle.test_report_run.specs.Run.{RunSettings, RunState, after, notes_at, run_start}
use Rattle.test_report_laws.specs.Whole.{all_notes, notes_of, notes_of_file, notes_of_files, run_after, run_after_file, run_after_files}

-- what holds within a file and between files, of a sum over the lines so far, what they made known, and the run
module _ (Inside Between : ℕ → List NoteView → RunState → Type 0) (c : EventView → ℕ)
    (start : (n : ℕ) (notes : List NoteView) (r : RunState) → Between n notes r → Inside n notes r)
    (line : (n : ℕ) (notes : List NoteView) (r : RunState) (e : EventView) → Inside n notes r → Inside (n + c e) (notes ++ notes_at r e) (after r e))
    (end : (n : ℕ) (notes : List NoteView) (r : RunState) → Inside n notes r → Between n (notes ++ file_notes r) (after_file r)) where
  over-lines : (n : ℕ) (notes : List NoteView) (r : RunState) (events : List EventView) → Inside n notes r
      → Inside (n + sum_by c events) (notes ++ notes_of r events) (run_after r events)
  over-lines n notes r [] i = let none : n + 0 ≡ n = omega arith in rw (none, append-nil notes) i
  over-lines n notes r (e ∷ events) i =
      let sum : n + sum_by c (e ∷ events) ≡ n + c e + sum_by c events = omega (arith, sum_by-cons c e events) in
      rw (sum, ← append_assoc notes (notes_at r e) (notes_of (after r e) events))
      (over-lines (n + c e) (notes ++ notes_at r e) (after r e) events (line n notes r e i))

  over-files : (n : ℕ) (notes : List NoteView) (r : RunState) (files : List (List EventView)) → Between n notes r
      → Between (n + sum_by (λ file. sum_by c file) files) (notes ++ notes_of_files r files) (run_after_files r files)
  over-files n notes r [] i = let none : n + 0 ≡ n = omega arith in rw (none, append-nil notes) i
  over-files n notes r (file ∷ files) i =
      let all = λ (f : List EventView). sum_by c f in
      let sum : n + sum_by all (file ∷ files) ≡ n + all file + sum_by all files = omega (arith, sum_by-cons all file files) in
      let last = run_after r file in
      rw (
        sum,
        ← append_assoc notes (notes_of_file r file) (notes_of_files (run_after_file r file) files),
        ← append_assoc notes (notes_of r file) (file_notes last),
      )
      (over-files (n + all file) ((notes ++ notes_of r file) ++ file_notes last) (run_after_file r file) files
      (end (n + all file) (notes ++ notes_of r file) last (over-lines n notes r file (start n notes r i))))

  -- of a whole run, and of one in which a file is read up to a line
  pub over-run : (settings : RunSettings) → Between 0 [] (run_start settings) → (files : List (List EventView))
      → Between (sum_by (λ file. sum_by c file) files) (all_notes settings files) (run_after_files (run_start settings) files)
  over-run settings i files =
      let all = sum_by (λ (file : List EventView). sum_by c file) files in
      let same : all ≡ 0 + all = omega arith in
      rw same (over-files 0 [] (run_start settings) files i)

  pub up-to-line : (settings : RunSettings) → Between 0 [] (run_start settings) → (files : List (List EventView)) (events : List EventView)
      → Inside (sum_by (λ file. sum_by c file) files + sum_by c events)
      (all_notes settings files ++ notes_of (run_after_files (run_start settings) files) events)
      (run_after (run_after_files (run_start settings) files) events)
  up-to-line settings i files events =
      let r = run_after_files (run_start settings) files in
      let n = sum_by (λ (file : List EventView). sum_by c file) files in
      over-lines n (all_notes settings files) r events (start n (all_notes settings files) r (over-run settings i files))
