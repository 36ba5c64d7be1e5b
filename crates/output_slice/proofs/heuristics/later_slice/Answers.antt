use Rattle.output_slice.proofs.OccursLemmas.{note-quiet}
use Rattle.output_slice.proofs.heuristics.later_slice.Goals as goal

pub note_slice-requires : goal.note_slice-requires
note_slice-requires c = note-quiet c.args.stdout _ _ _ c.unwrap_or.ensures c.quiet_ends-quiet.ensures.note
