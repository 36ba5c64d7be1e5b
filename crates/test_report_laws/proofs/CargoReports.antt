-- Failures of cargo that become known: nothing else of a run changes.
use Rattle.std.proofs.Common.{◌≡◌, ◌≤◌, ◌∙◌, ◌+◌, ℕ, List, Bool, false, [], ◌∷◌, ◌++◌, Option, Some, None, ap, append_assoc, arith, length, map, refl, subst, sym}
use Rattle.std.specs.List.{sum_by}
use Rattle.std.specs.Option.{option_map_or}
use Rattle.std.specs.Prelude.{◌&&◌, ◌-◌, not}
use Rattle.std.proofs.lemmas.Bool.{cond_both}
use Rattle.std.proofs.lemmas.List.{length-append, length-map, map-append}
use Rattle.std.proofs.lemmas.List.Sums.{sum_by-append}
use Rattle.test_report_events.specs.Event.{EventView}
use Rattle.test_report_events.specs.declared.event.CargoFailure.{CargoFailure}
use Rattle.test_report_run_notes.specs.Note.{CargoSays, CargoView, Contradicts, NoteView, ended_well}
use Rattle.test_report_laws.proofs.Sums.{sum-map, sum-none, sum-ones}
use Rattle.test_report_run.specs.Events.{is_after_report, is_event}
use Rattle.test_report_run.specs.Others.{after_failure}
use Rattle.test_report_run.specs.FileEnd.{at_end, held_reports, held_told, reports_told}
use Rattle.test_report_run.specs.Run.{RunState, Step, cargo_contradicts, cargo_fails, notes_at, report_told, settled, settled_at, step, told, with_report}

-- the run with other failures of cargo that are not known yet, and another number of causes
abbrev pub with_reports : RunState → Option CargoView → List CargoView → ℕ → RunState
with_reports r reported held causes = record r { reported = reported; held = held; causes = causes }

-- what failures of cargo make known
abbrev pub report_notes : List CargoView → List NoteView
report_notes reports = map (λ (report : CargoView). Contradicts (CargoSays report)) reports

-- a step changes nothing else of a run, and makes nothing else known
pub record OnlyReports (r : RunState) (t : Step) : Type 0 where
  pub reported : Option CargoView
  pub held : List CargoView
  pub causes : ℕ
  pub run_is : t.run ≡ with_reports r reported held causes
  pub reports : List CargoView
  pub notes_are : t.notes ≡ report_notes reports

module _ {r : RunState} {t : Step} (only : OnlyReports r t) (w : NoteView → ℕ) where
  -- notes of a weight in which such failures weigh nothing, or 1
  pub reports-none : ((report : CargoView) → w (Contradicts (CargoSays report)) ≡ 0) → sum_by w t.notes ≡ 0
  reports-none none =
      ap (sum_by w) only.notes_are
      ∙ (sum-map w (λ (report : CargoView). Contradicts (CargoSays report)) only.reports
      ∙ sum-none (λ (report : CargoView). w (Contradicts (CargoSays report))) none only.reports)

-- no failure of cargo becomes known
only-same : (r : RunState) → OnlyReports r (step r [])
only-same r = record { reported = r.reported; held = r.held; causes = r.causes; run_is = refl; reports = []; notes_are = refl }

-- the last failure of cargo becomes known, or waits for the end of the command
abbrev pub whole : RunState → Bool → CargoView → CargoView
whole r heard report = record report { cause = r.others.last_cause; lacks_events = report.lacks_events && not heard }

only-report : (r : RunState) (heard : Bool) (report : CargoView) → OnlyReports r (report_told r heard report)
only-report r heard report = cond_both r.of_command (step (record r { reported = None; held = r.held ++ whole r heard report ∷ [] }) [])
    (step (record r { reported = None }) (Contradicts (CargoSays (whole r heard report)) ∷ [])) (OnlyReports r)
    (λ _. record {
      reported = None;
      held = r.held ++ whole r heard report ∷ [];
      causes = r.causes;
      run_is = refl;
      reports = [];
      notes_are = refl;
    })
    (λ _. record { reported = None; held = r.held; causes = r.causes; run_is = refl; reports = whole r heard report ∷ []; notes_are = refl })

only-settled : (r : RunState) (heard : Bool) → OnlyReports r (settled r heard)
only-settled r heard = by-report r.reported
  where
    by-report : (o : Option CargoView) → OnlyReports r (option_map_or (report_told r heard) o (step r []))
    by-report None = only-same r
    by-report (Some report) = only-report r heard report

pub only-settled_at : (r : RunState) (e : EventView) → OnlyReports r (settled_at r e)
only-settled_at r e = cond_both (is_after_report e) (settled r (is_event e)) (step r []) (OnlyReports r) (λ _. only-settled r (is_event e)) (λ _. only-same r)

-- those that wait become known, or were prints
only-held : (r : RunState) → OnlyReports r (held_told r)
only-held r = cond_both (ended_well r.command) (step (record r { held = []; causes = r.causes - length r.held }) [])
    (step (record r { held = [] }) (report_notes (held_reports r))) (OnlyReports r)
    (λ _. record { reported = r.reported; held = []; causes = r.causes - length r.held; run_is = refl; reports = []; notes_are = refl })
    (λ _. record { reported = r.reported; held = []; causes = r.causes; run_is = refl; reports = held_reports r; notes_are = refl })

-- two such steps
only-both : (r : RunState) (s t : Step) → OnlyReports r s → OnlyReports s.run t → OnlyReports r (step t.run (s.notes ++ t.notes))
only-both r s t first second = record {
  reported = second.reported;
  held = second.held;
  causes = second.causes;
  run_is = second.run_is ∙ ap (λ (x : RunState). with_reports x second.reported second.held second.causes) first.run_is;
  reports = first.reports ++ second.reports;
  notes_are = ap (λ ns. ns ++ t.notes) first.notes_are
      ∙ (ap (λ ns. report_notes first.reports ++ ns) second.notes_are
      ∙ sym (map-append (λ (report : CargoView). Contradicts (CargoSays report)) first.reports second.reports));
}

pub only-told : (r : RunState) → OnlyReports r (reports_told r)
only-told r = only-both r (settled r false) (held_told (settled r false).run) (only-settled r false) (only-held (settled r false).run)

-- a failure of cargo
pub only-cargo : (r : RunState) (f : CargoFailure) (line : List ℕ)
    → OnlyReports (record r { others = after_failure r.others; lacked_events = (cargo_fails r f line).lacked_events }) (step (cargo_fails r f line) [])
only-cargo r f line = cond_both (cargo_contradicts r f) (with_report r line) r
    (λ (x : RunState). OnlyReports (record r { others = after_failure r.others; lacked_events = x.lacked_events })
    (step (record x { others = after_failure r.others }) []))
    (λ _. record {
      reported = (with_report r line).reported;
      held = r.held;
      causes = r.causes + 1;
      run_is = refl;
      reports = [];
      notes_are = refl;
    })
    (λ _. record { reported = r.reported; held = r.held; causes = r.causes; run_is = refl; reports = []; notes_are = refl })

-- the run before a line makes its own notes known
abbrev pub ready : RunState → EventView → RunState
ready r e = (settled_at r e).run

-- what is known after a line: what was known before, what becomes known before its own notes, and these
pub known-at : (P : List NoteView → Type 0) (notes : List NoteView) (r : RunState) (e : EventView)
    → P ((notes ++ (settled_at r e).notes) ++ (told (ready r e) e).notes) → P (notes ++ notes_at r e)
known-at P notes r e h = subst P (append_assoc notes (settled_at r e).notes (told (ready r e) e).notes) h

-- how many failures of cargo count, and are not known yet
abbrev pub if_some : Option CargoView → ℕ
if_some o = option_map_or (λ (report : CargoView). 1) o 0

abbrev pub waiting : RunState → ℕ
waiting r = if_some r.reported + length r.held

-- as many of them become known as do not wait any more, or were prints: there are no more causes than failed tests and contradictions that are known,
-- and such failures
abbrev pub Counted : RunState → Step → ℕ → Type 0
Counted r t more = (known : ℕ) → r.causes ≤ known + waiting r → t.run.causes ≤ known + more + waiting t.run

module _ (w : NoteView → ℕ) (one : (report : CargoView) → w (Contradicts (CargoSays report)) ≡ 1) where
  counted-report : (r : RunState) (heard : Bool) (report : CargoView) → r.reported ≡ Some report
      → Counted r (report_told r heard report) (sum_by w (report_told r heard report).notes)
  counted-report r heard report is =
      let waits = ap if_some is in
      let longer = length-append r.held (whole r heard report ∷ []) in
      cond_both r.of_command (step (record r { reported = None; held = r.held ++ whole r heard report ∷ [] }) [])
      (step (record r { reported = None }) (Contradicts (CargoSays (whole r heard report)) ∷ [])) (λ (t : Step). Counted r t (sum_by w t.notes))
      (λ _ known low. omega (arith, low, waits, longer)) (λ _ known low. omega (arith, low, waits, one (whole r heard report)))

  counted-settled : (r : RunState) (heard : Bool) → Counted r (settled r heard) (sum_by w (settled r heard).notes)
  counted-settled r heard = by-report r.reported refl
    where
      by-report : (o : Option CargoView) → r.reported ≡ o
          → let t = option_map_or (report_told r heard) o (step r []) in Counted r t (sum_by w t.notes)
      by-report None is = λ known low. omega (arith, low)
      by-report (Some report) is = counted-report r heard report is

  pub counted-settled_at : (r : RunState) (e : EventView) → Counted r (settled_at r e) (sum_by w (settled_at r e).notes)
  counted-settled_at r e = cond_both (is_after_report e) (settled r (is_event e)) (step r []) (λ (t : Step). Counted r t (sum_by w t.notes))
      (λ _. counted-settled r (is_event e)) (λ _ known low. omega (arith, low))

  counted-held : (r : RunState) → Counted r (held_told r) (sum_by w (held_told r).notes)
  counted-held r =
      let all = sum-map w (λ (report : CargoView). Contradicts (CargoSays report)) (held_reports r) in
      let each = sum-ones (λ (report : CargoView). w (Contradicts (CargoSays report))) one (held_reports r) in
      let many = length-map r.held (at_end r.has_event) in
      cond_both (ended_well r.command) (step (record r { held = []; causes = r.causes - length r.held }) [])
      (step (record r { held = [] }) (report_notes (held_reports r))) (λ (t : Step). Counted r t (sum_by w t.notes))
      (λ _ known low. omega (arith, low)) (λ _ known low. omega (arith, low, all, each, many))

  pub counted-told : (r : RunState) → Counted r (reports_told r) (sum_by w (reports_told r).notes)
  counted-told r known low =
      let first = settled r false in
      let last = held_told first.run in
      let second = counted-held first.run (known + sum_by w first.notes) (counted-settled r false known low) in
      omega (arith, second, sum_by-append w first.notes last.notes)

-- when a failure of cargo comes, the one before it does not wait any more
pub none-reported : (r : RunState) (heard : Bool) → (settled r heard).run.reported ≡ None
none-reported r heard = by-report r.reported refl
  where
    by-report : (o : Option CargoView) → r.reported ≡ o → (option_map_or (report_told r heard) o (step r [])).run.reported ≡ None
    by-report None is = is
    by-report (Some report) is = cond_both r.of_command (step (record r { reported = None; held = r.held ++ whole r heard report ∷ [] }) [])
        (step (record r { reported = None }) (Contradicts (CargoSays (whole r heard report)) ∷ []))
        (λ (t : Step). t.run.reported ≡ None) (λ _. refl) (λ _. refl)

pub counted-cargo : (r : RunState) (f : CargoFailure) (line : List ℕ) → r.reported ≡ None → Counted r (step (cargo_fails r f line) []) 0
counted-cargo r f line none =
    let waits = ap if_some none in
    cond_both (cargo_contradicts r f) (with_report r line) r
    (λ (x : RunState). Counted r (step (record x { others = after_failure r.others }) []) 0)
    (λ _ known low. omega (arith, low, waits)) (λ _ known low. omega (arith, low))
