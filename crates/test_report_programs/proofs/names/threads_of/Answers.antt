-- The names of threads.
use Rattle.std.proofs.Common.{◌∙◌, [], List, ap, rules, sym, tests, ℕ}
use Rattle.std.specs.List.{fold}
use Rattle.std.proofs.lemmas.Iterator.Consumers.{YieldsList-end}
use Rattle.std.proofs.lemmas.Iterator.Splits.{YieldsList-from_lines}
use Rattle.test_report_programs.specs.Names.{with_thread}
use Rattle.test_report_programs.proofs.Threads.{fold-more}
use Rattle.test_report_programs.proofs.names.threads_of.Goals as goal

pub returns : goal.returns
returns c =
    let end = YieldsList-end (YieldsList-from_lines c.args.text.now (search (rules, tests))) c.loop-line.yielded _ c.loop-line.yielded_by _ c.next.new.self
    c.in-None.is c.next.ensures.steps in
    c.loop-line.invariant ∙ ap (λ (texts : List (List ℕ)). fold (with_thread c.args.words.now) [] texts) end.0

pub loop-line-preserved : goal.loop-line-preserved
loop-line-preserved c =
    c.in_ok-add_thread.ensures
    ∙ ap (λ (names : List (List ℕ)). with_thread c.args.words.now names c.in-Some.line.now) c.loop-line.invariant
    ∙ sym (fold-more (with_thread c.args.words.now) [] (λ x. x.now) c.loop-line.yielded c.in-Some.line)
