use Rattle.std.proofs.Common.{arith, refl}
use Rattle.std.proofs.lemmas.Bool.Decides.{nat_tests}
use Rattle.test_report_events.proofs.Headings.{lacks_char}
use Rattle.test_report_events.proofs.cargo.doc_tests.Goals as goal

pub returns : goal.returns
returns c = ((grind (arith, nat_tests), lacks_char 32 c.args.crate_name.now (omega arith) c.if-contains.ensures.cases), refl, refl)
