use Rattle.std.proofs.Common.{sym, ◌∙◌}
use Rattle.std.proofs.lemmas.Bool.{false≢true}
use Rattle.test_report_events.proofs.Headings.{hashed_found, hashed_none, hashed_other}
use Rattle.test_report_events.proofs.cargo.without_hash.Goals as goal
use Rattle.test_report_events.proofs.cargo.without_hash.Goals.{in_default-via-in-Some+else-is_hash, in_default-via-in_default}

pub returns-in-Some : goal.returns-in-Some
returns-in-Some c =
    hashed_found c.args.file.now c.in-Some.name.now c.in-Some.hash.now c.in-Some.ensures.cases (c.is_hash.ensures.0 c.if-is_hash.true)

pub returns-in_default : goal.returns-in_default
returns-in_default c = elim c.in_default.branch [
  | in_default-via-in-Some+else-is_hash w ↦ hashed_other c.args.file.now w.in-Some.name.now w.in-Some.hash.now w.in-Some.ensures.cases
      (λ hash. false≢true (sym w.if-is_hash.false ∙ w.is_hash.ensures.1 hash))
  | in_default-via-in_default w ↦ hashed_none c.args.file.now w.in_default.ensures.cases
]
