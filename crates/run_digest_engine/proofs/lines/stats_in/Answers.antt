use Rattle.std.proofs.Common.{refl, sym, ◌∙◌, arith, inl}
use Rattle.run_digest_engine.specs.Reading.{texts_of}
use Rattle.run_digest_engine.proofs.Readings.{first-bad, going-bad, going-end, going-entry, going-first, going-late, has_room, no_first}
use Rattle.run_digest_engine.proofs.Entries.{entry_reads, no_entry}
use Rattle.run_digest_engine.proofs.Exact.{none_spelled, reads_only}
use Rattle.run_digest_engine.proofs.Starts.{first_reads}
use Rattle.run_digest_engine.proofs.lines.stats_in.Goals as goal

pub returns-in_default-clause-refusal : goal.returns-in_default-clause-refusal
returns-in_default-clause-refusal c =
    let none = (rw c.in_default.is at c.next.ensures.steps).0 in
    first-bad (texts_of c.args.bytes.now) (inl (refl, sym c.lines-lines.ensures.value ∙ none))

pub returns-in_default-parse_first-clause-refusal : goal.returns-in_default-parse_first-clause-refusal
returns-in_default-parse_first-clause-refusal c =
    no_first (texts_of c.args.bytes.now) c.in-Some.first.now c.next.new.self (sym c.lines-lines.ensures.value ∙ c.in-Some.ensures.steps)
    (λ start. none_spelled _ _ start (first_reads c.in-Some.first.now) (rw c.in_default-parse_first.is at c.parse_first.ensures))

pub loop-line-init : goal.loop-line-init
loop-line-init c =
    going-first c.in-Some.first.now _ _ c.in-Some-parse_first.start _ _ (sym c.lines-lines.ensures.value ∙ c.in-Some.ensures.steps)
    (reads_only _ _ _ (first_reads c.in-Some.first.now) (sym c.in-Some-parse_first.ensures)) c.new-runs.ensures.items c.of_run-stats.ensures.counts

pub returns-then-number-gt-MAX_LINES-clause-refusal : goal.returns-then-number-gt-MAX_LINES-clause-refusal
returns-then-number-gt-MAX_LINES-clause-refusal c =
    going-late _ _ _ _ _ _ _ c.in-Some-next.ensures.steps c.if-number-gt-MAX_LINES.true c.loop-line.invariant

pub returns-in_default-parse_entry-clause-refusal : goal.returns-in_default-parse_entry-clause-refusal
returns-in_default-parse_entry-clause-refusal c =
    let none = no_entry c.in-Some-next.line.now (rw c.in_default-parse_entry.is at c.parse_entry.ensures) in
    going-bad _ _ _ _ _ _ _ c.in-Some-next.ensures.steps none c.loop-line.invariant

pub count_entry-requires : goal.count_entry-requires
count_entry-requires c = has_room _ c.loop-line.invariant

pub loop-line-preserved : goal.loop-line-preserved
loop-line-preserved c =
    let spelled = reads_only _ _ _ (entry_reads c.in-Some-next.line.now) (sym c.in-Some-parse_entry.ensures) in
    going-entry c.in-Some-next.line.now _ (omega (arith, c.if-number-gt-MAX_LINES.false)) spelled
    c.in-Some-next.ensures.steps c.loop-line.invariant c.in_ok-stats.ensures

pub returns-clause-stats : goal.returns-clause-stats
returns-clause-stats c =
    let none = (rw c.in_default-next.is at c.next-in-loop-line.ensures.steps).0 in
    rw c.in_ok-push.ensures.items (going-end _ _ _ _ _ none c.loop-line.invariant)
