use Rattle.std.proofs.Common.{None, Some}
use Rattle.output_slice.proofs.OccursLemmas.{note-quiet}
use Rattle.output_slice.proofs.SameLemmas.{IsExtract-same, IsExtract-part}
use Rattle.output_slice.proofs.subslice.TestOutputErrorSlice.heuristic_extract.Goals as goal

pub note_slice-requires : goal.note_slice-requires
note_slice-requires c = note-quiet c.args.stdout _ _ _ c.unwrap_or.ensures c.quiet_ends-quiet.ensures.note

pub returns-in_default-clause-value : goal.returns-in_default-clause-value
returns-in_default-clause-value c = rw c.in_default.is c.note_slice.ensures

pub returns-in_default-clause-only : goal.returns-in_default-clause-only
returns-in_default-clause-only c = rw c.in_default.is λ found is. IsExtract-same _ None found _ is c.note_slice.ensures

pub returns-in_default-clause-part : goal.returns-in_default-clause-part
returns-in_default-clause-part c = rw c.in_default.is (IsExtract-part _ None c.note_slice.result c.note_slice.ensures)

pub returns-in-Some-heuristic_panic_message-clause-only :
    goal.returns-in-Some-heuristic_panic_message-clause-only
returns-in-Some-heuristic_panic_message-clause-only c =
    rw c.in-Some.is λ found is. IsExtract-same _ (Some c.in-Some.bytes.now) found _ is c.in-Some-heuristic_panic_message.ensures.value

pub returns-in-None-clause-only : goal.returns-in-None-clause-only
returns-in-None-clause-only c = rw c.in-Some.is λ found is. IsExtract-same _ (Some c.in-Some.bytes.now) found _ is c.later_slice.ensures

pub returns-in-None-clause-part : goal.returns-in-None-clause-part
returns-in-None-clause-part c = rw c.in-Some.is (IsExtract-part _ (Some c.in-Some.bytes.now) c.later_slice.result c.later_slice.ensures)
