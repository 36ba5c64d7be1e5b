use Rattle.std.proofs.Common.{MatchOption, None, Some, arith, codes, subst}
use Rattle.std.specs.Str.Pattern.{MatchBeginsAt, RFindsText}
use Rattle.bstr.specs.Find.{OccursAt}
use Rattle.test_report_events.proofs.LastAt.{last-of-both, only-first, only-second, text-found}
use Rattle.test_report_events.proofs.text.last_heading.Goals as goal

pub returns-in-Some-Some : goal.returns-in-Some-Some
returns-in-Some-Some c =
    let plain = c.args.plain.now in
    last-of-both (OccursAt plain (codes "     Running ")) (OccursAt plain (codes "   Doc-tests ")) _ _ _
    (text-found plain (codes "     Running ") (Some _) (omega arith) c.in-Some-Some.ensures.cases)
    (text-found plain (codes "   Doc-tests ") (Some _) (omega arith) c.in-Some-Some.ensures'.cases) c.max.ensures

pub returns-in-Some-None : goal.returns-in-Some-None
returns-in-Some-None c =
    let plain = c.args.plain.now in
    only-first (OccursAt plain (codes "     Running ")) (OccursAt plain (codes "   Doc-tests ")) _
    (text-found plain (codes "     Running ") (Some _) (omega arith) c.in-Some-None.ensures.cases)
    (text-found plain (codes "   Doc-tests ") None (omega arith) c.in-Some-None.ensures'.cases)

pub returns-in-None-default : goal.returns-in-None-default
returns-in-None-default c =
    let plain = c.args.plain.now in
    only-second (OccursAt plain (codes "     Running ")) (OccursAt plain (codes "   Doc-tests ")) _
    (text-found plain (codes "     Running ") None (omega arith)
    (subst (λ r. MatchOption r (RFindsText (codes "     Running ") plain None) (MatchBeginsAt (RFindsText (codes "     Running ")) plain))
    c.in-None-default.is-0 c.rfind.ensures.cases))
    (text-found plain (codes "   Doc-tests ") _ (omega arith) c.rfind-2.ensures.cases)
