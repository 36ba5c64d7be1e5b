-- The suites with one more.
use Rattle.std.proofs.Common.{◌≡◌, ◌∙◌, ◌<◌, ◌+◌, None, Some, ap, arith, sym}
use Rattle.std.specs.List.{position}
use Rattle.std.proofs.lemmas.List.{length-map}
use Rattle.test_report_run_notes.specs.Note.{text_view}
use Rattle.test_report_run.proofs.OpenSteps.{as-many, keys-apart, keys-states, long-of, pushed-below, pushed-key, pushed-keyed, pushed-number, pushed-rises}
use Rattle.test_report_run.specs.Keys.{keys_in, number_at}
use Rattle.test_report_run.specs.OpenSuites.{suites_of}
use Rattle.test_report_run.specs.Suite.{SuiteState, has_key}
use Rattle.test_report_run.specs.declared.open_suites.OpenSuites.{OpenSuites}
use Rattle.test_report_run.specs.declared.suite.Suite.{Suite}
use Rattle.test_report_run.proofs.open_suites.OpenSuites.open.Goals as goal

pub invariant_of-open : goal.invariant_of-open
invariant_of-open c =
    let o = c.replace-open.result in
    let same : o ≡ c.args.self.now = c.replace-open.ensures.value in
    let key = text_view c.args.key in
    let n = c.in_ok-number.number in
    let suites = o.list.items in
    let ns = o.numbers.items in
    let b = c.in_ok-boxed.boxed in
    let more : n ≡ o.started + 1 = c.in_ok-number.ensures.more ∙ ap (λ (x : OpenSuites). x.started + 1) (sym same) in
    let over : o.started < n = omega (arith, more) in
    let suite : b.value ≡ c.in_ok-suite.suite = c.in_ok-boxed.ensures.ok in
    let number : b.value.name.number ≡ Some n = ap (λ (s : Suite). s.name.number) suite ∙ ap (λ (s : SuiteState). s.number) c.in_ok-suite.ensures in
    let own : text_view b.value.name.key ≡ key = ap (λ (s : Suite). text_view s.name.key) suite ∙ ap (λ (s : SuiteState). s.key) c.in_ok-suite.ensures in
    let within : text_view c.deref.result.now.name.key ≡ key = ap (λ (s : Suite). text_view s.name.key) c.deref.ensures ∙ own in
    let none : position (has_key key) (suites_of o) ≡ None = ap (λ (x : OpenSuites). position (has_key key) (suites_of x)) same ∙ c.requires in
    let long = as-many suites ns o.numbered in
    record {
      numbered = rw (c.in_ok-push.ensures.items, c.in_ok-push-2.ensures.items) (pushed-number suites b ns n o.numbered number);
      rising = rw c.in_ok-push.ensures.items (pushed-rises o.started n ns o.rising o.below over);
      below = rw c.in_ok-push.ensures.items (pushed-below o.started n ns o.below over);
      keyed = rw (c.in_ok-push.ensures.items, c.in_ok-push-2.ensures.items, pushed-key suites b, own)
          (pushed-keyed (number_at o.keys) (number_at c.insert.new.self) (keys_in suites) ns key n o.keyed
          (length-map suites (λ x. text_view x.value.name.key) ∙ long)
          (λ i below. rw (keys-states suites) (keys-apart (suites_of o) key i none (omega (arith, below, long-of o))))
          (rw (← within) c.in_ok-insert.ensures.set) (λ other is. c.in_ok-insert.ensures.others other (rw within is)));
    }
