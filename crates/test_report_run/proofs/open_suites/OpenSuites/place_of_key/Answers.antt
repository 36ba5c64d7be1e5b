-- The position of a key.
use Rattle.std.proofs.Common.{◌≡◌, ◌∙◌, ◌<◌, Bor, List, ℕ, None, Some, ap, arith, false, length, option_map, sym, true}
use Rattle.std.proofs.lemmas.List.{length-map}
use Rattle.test_report_run.proofs.OpenSteps.{key-found, key-gone, key-other, key-unknown, keyed-of, long-of, search-found, search-gone, state-at}
use Rattle.test_report_run.specs.Keys.{number_at}
use Rattle.test_report_run.specs.OpenSuites.{suites_of}
use Rattle.test_report_run.specs.Suite.{has_key, state_of}
use Rattle.test_report_run.proofs.open_suites.OpenSuites.place_of_key.Goals as goal

pub returns-in_err-number : goal.returns-in_err-number
returns-in_err-number c =
    let o = c.args.self.now in
    let key = option_map (λ (k : Bor (List ℕ)). k.now) c.args.key in
    let none : number_at o.keys key ≡ None = sym c.number_of_key.ensures ∙ c.in_err-number.was in
    rw c.from_residual.ensures (sym (key-unknown (number_at o.keys) (suites_of o) o.numbers.items key (keyed-of o) (long-of o) none))

pub returns-in_err-at : goal.returns-in_err-at
returns-in_err-at c =
    let o = c.args.self.now in
    let key = option_map (λ (k : Bor (List ℕ)). k.now) c.args.key in
    let n = c.in_ok-number.number in
    let is : number_at o.keys key ≡ Some n = sym c.number_of_key.ensures ∙ c.in_ok-number.was in
    let gone = search-gone o.numbers.items n c.binary_search.result o.rising (rw (← c.deref.ensures.value) c.binary_search.ensures.position)
    (sym c.ok.ensures.value ∙ c.in_err-at.was) in
    rw c.from_residual-in_err-at.ensures
    (sym (key-gone (number_at o.keys) (suites_of o) o.numbers.items key n (keyed-of o) (long-of o) is gone))

pub returns-then-has_key : goal.returns-then-has_key
returns-then-has_key c =
    let o = c.args.self.now in
    let key = option_map (λ (k : Bor (List ℕ)). k.now) c.args.key in
    let n = c.in_ok-number.number in
    let at = c.in_ok-at.at in
    let found = search-found o.numbers.items n at c.binary_search.result o.rising (rw (← c.deref.ensures.value) c.binary_search.ensures.position)
    (sym c.ok.ensures.value ∙ c.in_ok-at.was) in
    let b = c.index.result.now in
    let d = state_of b.value in
    let inside : at < length o.list.items = omega (arith, found.0, long-of o, length-map o.list.items (λ x. state_of x.value)) in
    let state = state-at o.list.items at b d inside c.index.ensures in
    let has : has_key key d ≡ true = grind (arith, c.has_key.ensures, c.deref-2.ensures, c.if-has_key.true) in
    sym (key-found (number_at o.keys) (suites_of o) o.numbers.items key at d o.rising (keyed-of o) (long-of o) found.0 (ap (has_key key) state ∙ has))

pub returns-else-has_key : goal.returns-else-has_key
returns-else-has_key c =
    let o = c.args.self.now in
    let key = option_map (λ (k : Bor (List ℕ)). k.now) c.args.key in
    let n = c.in_ok-number.number in
    let at = c.in_ok-at.at in
    let is : number_at o.keys key ≡ Some n = sym c.number_of_key.ensures ∙ c.in_ok-number.was in
    let found = search-found o.numbers.items n at c.binary_search.result o.rising (rw (← c.deref.ensures.value) c.binary_search.ensures.position)
    (sym c.ok.ensures.value ∙ c.in_ok-at.was) in
    let b = c.index.result.now in
    let d = state_of b.value in
    let inside : at < length o.list.items = omega (arith, found.0, long-of o, length-map o.list.items (λ x. state_of x.value)) in
    let state = state-at o.list.items at b d inside c.index.ensures in
    let lacks : has_key key d ≡ false = grind (arith, c.has_key.ensures, c.deref-2.ensures, c.if-has_key.false) in
    sym (key-other (number_at o.keys) (suites_of o) o.numbers.items key at d o.rising (keyed-of o) (long-of o) found.0
    (is ∙ ap Some (sym found.1)) (ap (has_key key) state ∙ lacks))
