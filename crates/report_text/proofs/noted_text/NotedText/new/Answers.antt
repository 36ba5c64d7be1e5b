use Rattle.std.proofs.Common.{refl}
use Rattle.report_text.proofs.Noted.{emptied, noted-is}
use Rattle.report_text.proofs.noted_text.NotedText.new.Goals as goal

pub returns : goal.returns
returns c = noted-is (emptied c.new.ensures.bytes) refl
