-- The text before the first quote.
use Rattle.std.proofs.Common.{◌∙◌, None, Some, ap, arith, cond, sym}
use Rattle.std.proofs.lemmas.Str.Pattern.{split_once_first}
use Rattle.test_report_programs.proofs.Threads.{quoted-as}
use Rattle.test_report_programs.proofs.names.quoted.Goals as goal

pub returns-then-follows : goal.returns-then-follows
returns-then-follows c =
    let text = c.args.text.now in
    let found = split_once_first 39 text (Some (c.in-Some.name, c.in-Some.after)) c.in-Some.ensures.cases (omega arith) in
    sym (ap (λ b. cond b (Some c.in-Some.name.now) None) c.if-follows.true)
    ∙ quoted-as c.args.words.now text c.in-Some.name.now c.in-Some.after.now c.follows.result found.0 found.1 found.2 c.follows.ensures

pub returns-else-follows : goal.returns-else-follows
returns-else-follows c =
    let text = c.args.text.now in
    let found = split_once_first 39 text (Some (c.in-Some.name, c.in-Some.after)) c.in-Some.ensures.cases (omega arith) in
    sym (ap (λ b. cond b (Some c.in-Some.name.now) None) c.if-follows.false)
    ∙ quoted-as c.args.words.now text c.in-Some.name.now c.in-Some.after.now c.follows.result found.0 found.1 found.2 c.follows.ensures
