use Rattle.std.proofs.lemmas.List.{get_or_default}
use Rattle.run_events.proofs.progress.greatest_of.Goals as goal

pub returns : goal.returns
returns c = record { bytes = c.told-id; in_range = λ k d within. rw (get_or_default c.args.id.now k d 0 within) (c.fits-id k) }
