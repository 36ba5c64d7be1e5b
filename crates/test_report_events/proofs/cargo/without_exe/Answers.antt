use Rattle.std.proofs.Common.{cond, ap, codes, false, length, take, ◌-◌}
use Rattle.std.proofs.lemmas.Str.Pattern.{ends_text}
use Rattle.test_report_events.specs.Cargo.{without_exe}
use Rattle.test_report_events.proofs.cargo.without_exe.Goals as goal

pub returns-in-None : goal.returns-in-None
unfolding without_exe
returns-in-None c = let f = c.args.file.now in ap (λ b. cond b (take (length f - 4) f) f) (ends_text false (codes ".exe") f c.in-None.ensures.cases)
