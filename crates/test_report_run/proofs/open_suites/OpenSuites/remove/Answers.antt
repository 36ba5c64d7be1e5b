-- The suites without one of them.
use Rattle.std.proofs.Common.{Box, Global, ◌≡◌, ◌∙◌, ◌<◌, None, Some, ap, arith, get_or, length, map, sym}
use Rattle.std.specs.List.{position, remove}
use Rattle.std.proofs.lemmas.List.{length-map}
use Rattle.std.proofs.lemmas.Option.{slice_get-get_or}
use Rattle.test_report_run_notes.proofs.Places.{map-remove}
use Rattle.test_report_run_notes.specs.Note.{text_view}
use Rattle.test_report_run.proofs.OpenSteps.{as-many, key-at, keyed-of, long-of, removed-below, removed-key, removed-keyed, removed-rises, state-at}
use Rattle.test_report_run.specs.Keys.{keys_in, number_at, numbers_in}
use Rattle.test_report_run.specs.OpenSuites.{states_in, suites_of}
use Rattle.test_report_run.specs.Suite.{SuiteState, has_key, state_of}
use Rattle.test_report_run.specs.declared.suite.Suite.{Suite}
use Rattle.test_report_run.proofs.open_suites.OpenSuites.remove.Goals as goal

pub invariant_of-self : goal.invariant_of-self
invariant_of-self c =
    let o = c.args.self.now in
    let at = c.args.at in
    let suites = o.list.items in
    let ns = o.numbers.items in
    let long = as-many suites ns o.numbered in
    let spot : at < length suites = c.requires in
    let inside : at < length ns = omega (arith, spot, long) in
    let own : text_view c.into_inner-suite.result.name.key ≡ get_or (keys_in suites) at None =
    ap (λ (s : Suite). text_view s.name.key) c.into_inner-suite.ensures ∙ sym (key-at suites at c.remove.result spot c.remove.ensures.value) in
    record {
      numbered = ap numbers_in c.remove.ensures.items ∙ map-remove (λ (b : Box Suite Global). b.value.name.number) suites at
          ∙ ap (λ numbers. remove numbers at) o.numbered ∙ sym (map-remove (λ n. Some n) ns at) ∙ ap (map Some) (sym c.remove-2.ensures.items);
      rising = rw c.remove-2.ensures.items (removed-rises ns at o.rising inside);
      below = rw c.remove-2.ensures.items (removed-below o.started ns at o.below inside);
      keyed = rw (c.remove-2.ensures.items, c.remove.ensures.items, map-remove (λ (b : Box Suite Global). text_view b.value.name.key) suites at)
          (removed-keyed (number_at o.keys) (number_at c.remove-3.new.self) (keys_in suites) ns at o.rising o.keyed inside
          (length-map suites (λ b. text_view b.value.name.key) ∙ long)
          (λ other apart. c.remove-3.ensures.others other (λ same. apart (same ∙ own))));
    }

pub returns-clause-suite : goal.returns-clause-suite
returns-clause-suite c =
    let suites = c.args.self.now.list.items in
    let at = c.args.at in
    let spot : at < length suites = c.requires in
    let s = state_of c.remove.result.value in
    slice_get-get_or (states_in suites) at s (omega (arith, spot, length-map suites (λ b. state_of b.value)))
    ∙ ap (λ (t : SuiteState). Some t) (state-at suites at c.remove.result s spot c.remove.ensures.value)
    ∙ ap (λ (t : Suite). Some (state_of t)) (sym c.into_inner-suite.ensures)

pub returns-clause-left : goal.returns-clause-left
returns-clause-left c = ap states_in c.remove.ensures.items ∙ map-remove (λ (b : Box Suite Global). state_of b.value) c.args.self.now.list.items c.args.at

pub returns-clause-key : goal.returns-clause-key
returns-clause-key c =
    let o = c.args.self.now in
    let at = c.args.at in
    let suites = o.list.items in
    let spot : at < length suites = c.requires in
    let s = state_of c.remove.result.value in
    let inside : at < length o.numbers.items = omega (arith, spot, as-many suites o.numbers.items o.numbered) in
    let none = removed-key (number_at o.keys) (suites_of o) o.numbers.items at s o.rising (keyed-of o) inside (long-of o)
    (state-at suites at c.remove.result s spot c.remove.ensures.value) in
    ap (position (has_key (text_view c.into_inner-suite.result.name.key)))
    (ap states_in c.remove.ensures.items ∙ map-remove (λ (b : Box Suite Global). state_of b.value) suites at)
    ∙ ap (λ (t : Suite). position (has_key (text_view t.name.key)) (remove (suites_of o) at)) c.into_inner-suite.ensures ∙ none
