-- What a line or the end of a file makes known is a part of what the whole run makes known.
use Rattle.std.proofs.Common.{◌≡◌, ◌≤◌, ◌+◌, ◌++◌, ◌∷◌, [], ℕ, List, ap, arith, subst, sym}
use Rattle.std.specs.List.{sum_by}
use Rattle.std.proofs.lemmas.List.Sums.{fold-append, sum_by-append}
use Rattle.test_report_events.specs.Event.{EventView}
use Rattle.test_report_run_notes.specs.Note.{NoteView}
use Rattle.test_report_run.proofs.Lines.{notes-append}
use Rattle.test_report_run.specs.FileEnd.{file_notes}
use Rattle.test_report_run.specs.Run.{RunSettings, RunState, after, notes_at, run_start}
use Rattle.test_report_laws.specs.Whole.{IsFileEndOf, IsLineOf, all_notes, notes_of, notes_of_file, notes_of_files, run_after, run_after_file, run_after_files}

-- a weight of notes
module _ (w : NoteView → ℕ) where
  lines-weigh : (r : RunState) (lines : List EventView) (e : EventView) (rest : List EventView)
      → sum_by w (notes_of r lines) + sum_by w (notes_at (run_after r lines) e) ≤ sum_by w (notes_of r (lines ++ e ∷ rest))
  lines-weigh r [] e rest = omega (arith, sum_by-append w (notes_at r e) (notes_of (after r e) rest))
  lines-weigh r (x ∷ lines) e rest = omega (
    arith,
    sum_by-append w (notes_at r x) (notes_of (after r x) lines),
    sum_by-append w (notes_at r x) (notes_of (after r x) (lines ++ e ∷ rest)),
    lines-weigh (after r x) lines e rest,
  )

  files-weigh : (r : RunState) (before : List (List EventView)) (file : List EventView) (behind : List (List EventView))
      → sum_by w (notes_of_files r before) + sum_by w (notes_of_file (run_after_files r before) file) ≤ sum_by w (notes_of_files r (before ++ file ∷ behind))
  files-weigh r [] file behind = omega (arith, sum_by-append w (notes_of_file r file) (notes_of_files (run_after_file r file) behind))
  files-weigh r (x ∷ before) file behind = omega (
    arith,
    sum_by-append w (notes_of_file r x) (notes_of_files (run_after_file r x) before),
    sum_by-append w (notes_of_file r x) (notes_of_files (run_after_file r x) (before ++ file ∷ behind)),
    files-weigh (run_after_file r x) before file behind,
  )

  -- what is known before a line, and what the line makes known
  pub line-weighs : (settings : RunSettings) (files : List (List EventView)) (r : RunState) (e : EventView) (line : IsLineOf settings files r e)
      → sum_by w (all_notes settings line.before ++ (notes_of (run_after_files (run_start settings) line.before) line.lines ++ notes_at r e))
      ≤ sum_by w (all_notes settings files)
  line-weighs settings files r e line =
      let first = run_after_files (run_start settings) line.before in
      let known = λ (x : RunState). all_notes settings line.before ++ (notes_of first line.lines ++ notes_at x e) in
      let own = line.lines ++ e ∷ line.rest in
      let now = notes_at (run_after first line.lines) e in
      subst (λ (x : RunState). sum_by w (known x) ≤ sum_by w (all_notes settings files)) (sym line.run_is)
      (subst (λ (fs : List (List EventView)). sum_by w (known (run_after first line.lines)) ≤ sum_by w (all_notes settings fs)) (sym line.are)
      (omega (
        arith,
        sum_by-append w (all_notes settings line.before) (notes_of first line.lines ++ now),
        sum_by-append w (notes_of first line.lines) now,
        sum_by-append w (notes_of first own) (file_notes (run_after first own)),
        lines-weigh first line.lines e line.rest,
        files-weigh (run_start settings) line.before own line.after,
      )))

  -- what becomes known after a line, up to the end of its file
  pub rest-weighs : (settings : RunSettings) (files : List (List EventView)) (r : RunState) (e : EventView) (line : IsLineOf settings files r e)
      → sum_by w (notes_of (after r e) line.rest) + sum_by w (file_notes (run_after (after r e) line.rest)) ≤ sum_by w (all_notes settings files)
  rest-weighs settings files r e line =
      let first = run_after_files (run_start settings) line.before in
      let last = λ (x : RunState). sum_by w (notes_of (after x e) line.rest) + sum_by w (file_notes (run_after (after x e) line.rest)) in
      let own = line.lines ++ e ∷ line.rest in
      let now = run_after first line.lines in
      let over : run_after first own ≡ run_after (after now e) line.rest = fold-append after first line.lines (e ∷ line.rest) in
      subst (λ (x : RunState). last x ≤ sum_by w (all_notes settings files)) (sym line.run_is)
      (subst (λ (fs : List (List EventView)). last now ≤ sum_by w (all_notes settings fs)) (sym line.are)
      (omega (
        arith,
        ap (sum_by w) (notes-append first line.lines (e ∷ line.rest)),
        ap (λ (x : RunState). sum_by w (file_notes x)) over,
        sum_by-append w (notes_of first line.lines) (notes_at now e ++ notes_of (after now e) line.rest),
        sum_by-append w (notes_at now e) (notes_of (after now e) line.rest),
        sum_by-append w (notes_of first own) (file_notes (run_after first own)),
        files-weigh (run_start settings) line.before own line.after,
      )))

  -- the end of a file
  pub end-weighs : (settings : RunSettings) (files : List (List EventView)) (r : RunState) (end : IsFileEndOf settings files r)
      → sum_by w (file_notes r) ≤ sum_by w (all_notes settings files)
  end-weighs settings files r end =
      let first = run_after_files (run_start settings) end.before in
      let last = run_after first end.file in
      subst (λ (x : RunState). sum_by w (file_notes x) ≤ sum_by w (all_notes settings files)) (sym end.run_is)
      (subst (λ (fs : List (List EventView)). sum_by w (file_notes last) ≤ sum_by w (all_notes settings fs)) (sym end.are)
      (omega (
        arith,
        sum_by-append w (notes_of first end.file) (file_notes last),
        files-weigh (run_start settings) end.before end.file end.after,
      )))

  -- what is known before the end of a file, and what the end makes known
  pub file-weighs : (settings : RunSettings) (files : List (List EventView)) (r : RunState) (end : IsFileEndOf settings files r)
      → sum_by w (all_notes settings end.before ++ notes_of (run_after_files (run_start settings) end.before) end.file) + sum_by w (file_notes r)
      ≤ sum_by w (all_notes settings files)
  file-weighs settings files r end =
      let first = run_after_files (run_start settings) end.before in
      let last = run_after first end.file in
      let known = all_notes settings end.before ++ notes_of first end.file in
      subst (λ (x : RunState). sum_by w known + sum_by w (file_notes x) ≤ sum_by w (all_notes settings files)) (sym end.run_is)
      (subst (λ (fs : List (List EventView)). sum_by w known + sum_by w (file_notes last) ≤ sum_by w (all_notes settings fs)) (sym end.are)
      (omega (
        arith,
        sum_by-append w (all_notes settings end.before) (notes_of first end.file),
        sum_by-append w (notes_of first end.file) (file_notes last),
        files-weigh (run_start settings) end.before end.file end.after,
      )))
