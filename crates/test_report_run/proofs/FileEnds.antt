-- The end of a file.
use Rattle.std.proofs.Common.{Box, Global, ◌≡◌, ◌∙◌, ◌++◌, ◌+◌, [], ◌∷◌, Bool, List, ℕ, ap, append-nil, append_assoc, arith, cond, map, refl, sym, false}
use Rattle.std.specs.List.{count_by, fold}
use Rattle.std.proofs.lemmas.List.Sums.{fold-append, sum_by-append}
use Rattle.test_report_run_notes.specs.Note.{NoteView}
use Rattle.test_report_run_notes.specs.declared.note.RunEnd.{RunEnd}
use Rattle.test_report_run.specs.Over.{EarlyEnd, early_notes, nothing_known}
use Rattle.test_report_run.specs.FileEnd.{begun, command_notes, file_end, file_notes, after_file, held_told, no_event_notes}
use Rattle.test_report_run.specs.Run.{RunState, Step, all_ended_early, ended_early, is_cancel_note, is_contradiction, is_new_cause, learned, settled, step, tests_in, with_note, without_tests}
use Rattle.test_report_run.specs.Suite.{SuiteState, cancelled_by, outside_start}
use Rattle.test_report_run.specs.declared.suite.Suite.{Suite}
use Rattle.test_report_run.proofs.Runs.{boxed_state}

-- a step with other notes before its own
abbrev pub with_before : List NoteView → Step → Step
with_before old t = step t.run (old ++ t.notes)

module _ (how : EarlyEnd) where
  -- the tests outside of a suite stay while suites end early
  pub outside-stays : (t : Step) (suites : List SuiteState) → (fold (ended_early how) t suites).run.outside ≡ t.run.outside
  outside-stays t [] = refl
  outside-stays t (s ∷ suites) = outside-stays (ended_early how t s) suites

  ended-before : (old : List NoteView) (t : Step) (s : SuiteState) → ended_early how (with_before old t) s ≡ with_before old (ended_early how t s)
  ended-before old t s =
      ap (λ (notes : List NoteView). step (without_tests t.run s) notes)
      (append_assoc old t.notes (early_notes t.run.others how (cancelled_by t.run.cancel s) (tests_in t.run s)))

  pub all-before : (old : List NoteView) (t : Step) (suites : List SuiteState)
      → fold (ended_early how) (with_before old t) suites ≡ with_before old (fold (ended_early how) t suites)
  all-before old t [] = refl
  all-before old t (s ∷ suites) =
      ap (λ (first : Step). fold (ended_early how) first suites) (ended-before old t s) ∙ all-before old (ended_early how t s) suites

  -- all suites of a file end early
  pub suites-end : (r r1 r2 : RunState) (old n1 n2 : List NoteView) (s : SuiteState)
      → step r1 n1 ≡ fold (ended_early how) (step (record r { suites = [] }) old) r.suites → s ≡ r1.outside
      → step r2 n2 ≡ ended_early how (step (record r1 { outside = outside_start }) n1) s → step r2 n2 ≡ with_before old (all_ended_early how r)
  suites-end r r1 r2 old n1 n2 s suites is end =
      let start : Step = step (record r { suites = [] }) [] in
      let over : Step = fold (ended_early how) start r.suites in
      let first : step r1 n1 ≡ with_before old over =
      suites ∙ ap (λ (notes : List NoteView). fold (ended_early how) (step start.run notes) r.suites) (sym (append-nil old)) ∙ all-before old start r.suites in
      end ∙ ap (λ (x : SuiteState). ended_early how (step (record r1 { outside = outside_start }) n1) x)
      (is ∙ ap (λ (t : Step). t.run.outside) first ∙ outside-stays start r.suites)
      ∙ ap (λ (t : Step). ended_early how (step (record (t.run) { outside = outside_start }) t.notes) r.outside) first
      ∙ ended-before old (step (record (over.run) { outside = outside_start }) over.notes) r.outside

  -- the suites that a loop took out are all suites of the run, and `empty` is left in place of the tests outside of a suite
  pub suites-taken : (r r1 r2 : RunState) (old n1 n2 : List NoteView) (yielded : List (Box Suite Global)) (empty s : SuiteState)
      → step r1 n1 ≡ fold (ended_early how) (step (record r { suites = [] }) old) (map boxed_state yielded) → map boxed_state yielded ≡ r.suites
      → s ≡ r1.outside → empty ≡ outside_start → step r2 n2 ≡ ended_early how (step (record r1 { outside = empty }) n1) s
      → step r2 n2 ≡ with_before old (all_ended_early how r)
  suites-taken r r1 r2 old n1 n2 yielded empty s suites same is none end =
      suites-end r r1 r2 old n1 n2 s
      (suites ∙ ap (λ (xs : List SuiteState). fold (ended_early how) (step (record r { suites = [] }) old) xs) same) is
      (end ∙ ap (λ (x : SuiteState). ended_early how (step (record r1 { outside = x }) n1) s) none)

  -- one more suite ends early
  pub suites-more : (t : Step) (suites : List (Box Suite Global)) (one : Box Suite Global)
      → fold (ended_early how) t (map boxed_state (suites ++ one ∷ [])) ≡ ended_early how (fold (ended_early how) t (map boxed_state suites)) (boxed_state one)
  suites-more t [] one = refl
  suites-more t (s ∷ suites) one = suites-more (ended_early how t (boxed_state s)) suites one

-- notes are counted one after the other
count-more : (p : NoteView → Bool) (n : ℕ) (notes more : List NoteView) → n + count_by p notes + count_by p more ≡ n + count_by p (notes ++ more)
count-more p n notes more =
    let all : count_by p (notes ++ more) ≡ count_by p notes + count_by p more = sum_by-append (λ (x : NoteView). cond (p x) 1 0) notes more in
    omega (arith, all)

pub learned-more : (r : RunState) (notes more : List NoteView) → learned (learned r notes) more ≡ learned r (notes ++ more)
learned-more r notes more =
    let totals = sym (fold-append with_note r.totals notes more) in
    let lines = count-more is_contradiction r.contradictions notes more in
    let causes = count-more is_new_cause r.causes notes more in
    let cancels = count-more is_cancel_note r.cancels notes more in
    let over : RunState = learned r (notes ++ more) in
    let first : RunState = learned (learned r notes) more in
    ap (λ (t : RunEnd). record r { totals = t; contradictions = first.contradictions; cancels = first.cancels; causes = first.causes }) totals
    ∙ ap (λ (n : ℕ). record r { totals = over.totals; contradictions = n; cancels = first.cancels; causes = first.causes }) lines
    ∙ ap (λ (n : ℕ). record r { totals = over.totals; contradictions = over.contradictions; cancels = n; causes = first.causes }) cancels
    ∙ ap (λ (n : ℕ). record r { totals = over.totals; contradictions = over.contradictions; cancels = over.cancels; causes = n }) causes

-- four lists of notes, one after the other
four-lists : (n0 n1 n2 n3 n4 a b c d : List NoteView) → n0 ≡ [] → n1 ≡ n0 ++ a → n2 ≡ n1 ++ b → n3 ≡ n2 ++ c → n4 ≡ n3 ++ d → n4 ≡ (a ++ b) ++ (c ++ d)
four-lists n0 n1 n2 n3 n4 a b c d none first second third fourth = rw (fourth, third, second, first, none) (append_assoc (a ++ b) c d)

-- what the end of a file makes known before the end of its command
pub known-first : (how : EarlyEnd) (r r1 r2 r3 : RunState) (n0 n1 n2 n3 n4 : List NoteView) → how ≡ nothing_known → n0 ≡ [] → r1 ≡ (settled r false).run
    → n1 ≡ n0 ++ (settled r false).notes → r2 ≡ (held_told r1).run → n2 ≡ n1 ++ (held_told r1).notes
    → r3 ≡ (all_ended_early how r2).run → n3 ≡ n2 ++ (all_ended_early how r2).notes
    → n4 ≡ n3 ++ no_event_notes r3 → step r3 n4 ≡ file_end r
known-first how r r1 r2 r3 n0 n1 n2 n3 n4 unknown none last last-told held held-told over over-told silent =
    let first : List NoteView = (settled r false).notes in
    ap (λ (notes : List NoteView). step r3 notes) (four-lists n0 n1 n2 n3 n4 _ _ _ _ none last-told held-told over-told silent)
    ∙ ap (λ (x : RunState). step x ((first ++ (held_told r1).notes) ++ ((all_ended_early how r2).notes ++ no_event_notes x))) over
    ∙ ap (λ (x : RunState). let t = all_ended_early how x in step t.run ((first ++ (held_told r1).notes) ++ (t.notes ++ no_event_notes t.run))) held
    ∙ ap (λ (x : RunState). let h = held_told x in let t = all_ended_early how h.run in
    step t.run ((first ++ h.notes) ++ (t.notes ++ no_event_notes t.run))) last
    ∙ ap (λ (x : EarlyEnd). let h = held_told (settled r false).run in let t = all_ended_early x h.run in
    step t.run ((first ++ h.notes) ++ (t.notes ++ no_event_notes t.run))) unknown

-- what the end of a file makes known
pub file-tells : (r r3 r5 : RunState) (n4 n6 : List NoteView) → step r3 n4 ≡ file_end r → r5 ≡ learned r3 n4 → n6 ≡ n4 ++ command_notes r5 → n6 ≡ file_notes r
file-tells r r3 r5 n4 n6 known learns tells =
    tells ∙ ap (λ (x : RunState). n4 ++ command_notes x) learns
    ∙ ap (λ (t : Step). t.notes ++ command_notes (learned t.run t.notes)) known

-- the run after the end of a file
pub file-takes : (r r3 r5 r6 r7 : RunState) (n4 : List NoteView) → step r3 n4 ≡ file_end r → r5 ≡ learned r3 n4
    → record r6 { command = r5.command } ≡ learned r5 (command_notes r5) → r7 ≡ begun r6 → r7 ≡ after_file r
file-takes r r3 r5 r6 r7 n4 known learns command begins =
    begins ∙ ap (λ (x : RunState). begun x) command
    ∙ ap (λ (x : RunState). begun (learned x (command_notes x))) learns
    ∙ ap (λ (x : RunState). begun x) (learned-more r3 n4 (command_notes (learned r3 n4)))
    ∙ ap (λ (t : Step). begun (learned t.run (t.notes ++ command_notes (learned t.run t.notes)))) known
