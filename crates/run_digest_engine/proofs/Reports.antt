-- The text for runs, from their statistics; and the text for finished runs is the one for lines that describe them.
use Rattle.std.proofs.Common.{◌≡◌, ℕ, ◌+◌, ◌<◌, Bool, List, [], ◌∷◌, ◌++◌, length, get_or, map, take, ◌≤◌, refl, ap, sym, ◌∙◌, arith, inl, inr}
use Rattle.std.specs.List.{concat}
use Rattle.std.proofs.lemmas.List.{append-nil, map-append, map_more}
use Rattle.std.proofs.lemmas.List.Elements.{All-contains, All-push}
use Rattle.std.proofs.lemmas.List.Folds.{concat-append}
use Rattle.std.proofs.lemmas.Simd.{map-map}
use Rattle.run_events_stats.specs.Outcome.{IsHighest, outcome_of, outcome_rank, run_summary}
use Rattle.run_events_stats.specs.Summary.{FailuresFit, summary_of}
use Rattle.run_events_stats.specs.declared.outcome.run_outcome.RunOutcome.{RunOutcome}
use Rattle.run_events_stats.specs.declared.stats.FinishedRun.{FinishedRun}
use Rattle.run_events_stats.specs.declared.stats.RunStats.{RunStats}
use Rattle.run_digest_engine.specs.Counted.{AreCounted, AreStats, stats_reports}
use Rattle.run_digest_engine.specs.Answer.{IsDigest}
use Rattle.run_digest_engine.specs.Reading.{Run}
use Rattle.run_digest_engine.specs.Report.{is_success, outcome_line, report_of, reports_of, run_outcome, run_stats}
use Rattle.run_digest_engine.specs.RunReports.{AgreesWithCount, ReportsRuns, run_view}
use Rattle.run_digest_engine.proofs.Readings.{one_reading}

-- one more report
pub reports_more : (runs : List RunStats) (i : ℕ) (d : RunStats) → i < length runs
    → concat (map report_of (take (i + 1) runs)) ≡ concat (map report_of (take i runs)) ++ report_of (get_or runs i d)
reports_more runs i d within = rw (map_more report_of runs i d within, concat-append, append-nil) refl

-- the statistics of one more run
pub stats_more : (runs : List FinishedRun) (i : ℕ) (run : FinishedRun) (all : List RunStats) (one : RunStats) → i < length runs
    → run ≡ get_or runs i run → AreStats all (map run_view (take i runs)) → one ≡ run_stats (run_view run) → FailuresFit one
    → AreStats (all ++ one ∷ []) (map run_view (take (i + 1) runs))
stats_more runs i run all one within at so_far is fit = rw (map_more run_view runs i run within, ← at) record {
  is = rw (map-append, is) (ap (λ stats. stats ++ run_stats (run_view run) ∷ []) so_far.is);
  fit = All-push FailuresFit all one so_far.fit fit;
}

-- the text for runs, if there is not exactly one run
pub reports_many : (runs : List RunStats) (o : RunOutcome) → ¬ (length runs ≡ 1) → concat (map report_of runs) ++ outcome_line o ≡ stats_reports runs o
reports_many (run ∷ []) o many = absurd (many (omega arith))
reports_many _ o many = refl

-- the text from the statistics of runs is that of the runs
pub told : (runs : List Run) (o : RunOutcome) → stats_reports (map run_stats runs) o ≡ reports_of runs o
told (run ∷ next ∷ runs) o = ap (λ texts. concat texts ++ outcome_line o) (map-map report_of run_stats (run ∷ next ∷ runs))
told _ o = refl

-- the digest of lines whose runs have these statistics
pub digest_made : (lines : List (List ℕ)) (stats : List RunStats) (text : List ℕ) (success : Bool) (o : RunOutcome) → AreCounted lines stats
    → IsHighest (map outcome_of (map summary_of stats)) o → text ≡ stats_reports stats o → success ≡ is_success o → IsDigest lines text success
digest_made lines stats text success o counted highest text_is success_is = record {
  good = counted.good;
  runs = counted.runs;
  reading = counted.reading;
  outcome = o;
  highest = rw (counted.stats_are.is, map-map summary_of run_stats, map-map outcome_of) at highest;
  text_is = text_is ∙ ap (λ s. stats_reports s o) counted.stats_are.is ∙ told counted.runs o;
  success_is = success_is;
}

-- two outcomes of the same rank are the same
same_rank : (a b : RunOutcome) → outcome_rank a ≡ outcome_rank b → a ≡ b
same_rank a b same = grind arith

-- there is one highest outcome
one_highest : (outcomes : List RunOutcome) (a b : RunOutcome) → IsHighest outcomes a → IsHighest outcomes b → a ≡ b
one_highest outcomes a b (inl first) (inl second) = first.1 ∙ sym second.1
one_highest outcomes a b (inl first) (inr second) = absurd (omega (arith, second.0.1, ap length first.0))
one_highest outcomes a b (inr first) (inl second) = absurd (omega (arith, first.0.1, ap length second.0))
one_highest outcomes a b (inr first) (inr second) =
    let below = All-contains (λ o. outcome_rank o ≤ outcome_rank a) outcomes b first.1 second.0 in
    let above = All-contains (λ o. outcome_rank o ≤ outcome_rank b) outcomes a second.1 first.0 in
    same_rank a b (omega (arith, below, above))

-- the text from the statistics of runs and the highest of their outcomes
pub reports_runs : (runs : List FinishedRun) (stats : List RunStats) (outcome : RunOutcome) (text : List ℕ) → AreStats stats (map run_view runs)
    → IsHighest (map (λ run. outcome_of (run_summary run)) runs) outcome → text ≡ stats_reports stats outcome → ReportsRuns (map run_view runs) text
reports_runs runs stats outcome text are highest is =
    (outcome, rw (map-map run_outcome run_view runs) highest, is ∙ ap (λ s. stats_reports s outcome) are.is ∙ told (map run_view runs) outcome)

-- a text for runs is that for lines that describe them
pub agrees : (runs : List Run) (text : List ℕ) → ReportsRuns runs text → AgreesWithCount runs text
agrees runs text (own, is_highest, is) lines written success reading digest =
    let same : runs ≡ digest.runs = one_reading lines runs digest.runs reading digest.reading in
    let one : own ≡ digest.outcome = one_highest (map run_outcome digest.runs) own digest.outcome (rw same at is_highest) digest.highest in
    let said : (outcome : RunOutcome) → IsHighest (map run_outcome runs) outcome → success ≡ is_success outcome = λ outcome highest.
    digest.success_is ∙ ap is_success (one_highest (map run_outcome digest.runs) digest.outcome outcome digest.highest (rw same at highest)) in
    (is ∙ ap (λ rs. reports_of rs own) same ∙ ap (reports_of digest.runs) one ∙ sym digest.text_is, said)
