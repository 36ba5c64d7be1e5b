use Rattle.std.proofs.Common.{◌≡◌, rules, tests}
use Rattle.run_digest_engine.specs.Report.{is_success}
use Rattle.run_digest_engine.proofs.Reports.{digest_made}
use Rattle.run_digest_engine.proofs.count.digest.Goals as goal

pub returns-clause-digest : goal.returns-clause-digest
returns-clause-digest c =
    let outcome = c.in_ok-text.outcome in
    let told : c.eq.result ≡ is_success outcome = search (rules, tests) in
    let highest = rw c.as_slice.ensures.value at c.in_ok-text.ensures.highest in
    let text = rw c.as_slice.ensures.value at c.in_ok-text.ensures.text in
    digest_made _ c.in_ok-runs.runs.items _ _ outcome c.in_ok-runs.ensures.stats highest text told
