use Rattle.run_events.proofs.unit_error.extracted.Goals as goal

pub returns-in-Split-clause-value : goal.returns-in-Split-clause-value
returns-in-Split-clause-value c =
    rw (c.in-Split.is, ← c.captured.ensures, ← c.captured-in-Split.ensures) c.heuristic_extract.ensures.value

pub returns-in-Split-clause-only : goal.returns-in-Split-clause-only
returns-in-Split-clause-only c =
    rw (c.in-Split.is, ← c.captured.ensures, ← c.captured-in-Split.ensures) c.heuristic_extract.ensures.only

pub returns-in-Combined-clause-value : goal.returns-in-Combined-clause-value
returns-in-Combined-clause-value c = rw (c.in-Combined.is, ← c.buf.ensures, ← c.deref.ensures) c.heuristic_extract-in-Combined.ensures.value

pub returns-in-Combined-clause-only : goal.returns-in-Combined-clause-only
returns-in-Combined-clause-only c = rw (c.in-Combined.is, ← c.buf.ensures, ← c.deref.ensures) c.heuristic_extract-in-Combined.ensures.only
