-- The first cause after an event.
use Rattle.std.proofs.Common.{◌≡◌, ◌≢◌, ◌==◌, ◌∙◌, List, ℕ, None, Option, Some, ap, arith, if◌then◌else◌, map, option_and_then, refl, string_bytes, sym}
use Rattle.std.specs.List.{slice_get}
use Rattle.std.proofs.lemmas.Bool.Decides.{nat_tests}
use Rattle.std.proofs.lemmas.Option.{slice_get-map, slice_get_past, slice_get_read}
use Rattle.test_report_run.specs.Others.{CauseView, cause_view}
use Rattle.test_report_run.specs.declared.others.Cause.{Cause}
use Rattle.test_report_run.proofs.others.Others.cause_after.Goals as goal

-- the line of the cause at a place, if no heading came between
line-at : (headings : ℕ) (causes : List Cause) (i : ℕ) (found : Option Cause) → slice_get causes i ≡ found
    → option_and_then (λ (c : CauseView). if c.headings == headings then Some c.line else None) (slice_get (map cause_view causes) i)
    ≡ option_and_then (λ (c : Cause). if c.headings == headings then Some (string_bytes c.line) else None) found
line-at headings causes i None is = rw (slice_get-map cause_view causes i, is) refl
line-at headings causes i (Some c) is = rw (slice_get-map cause_view causes i, is) refl

same : (a b : ℕ) (line : List ℕ) → a ≡ b → (if a == b then Some line else None) ≡ Some line
same a b line h = grind (arith, nat_tests)

other : (a b : ℕ) (line : List ℕ) → a ≢ b → (if a == b then Some line else None) ≡ None
other a b line h = grind (arith, nat_tests)

pub returns-in_default : goal.returns-in_default
returns-in_default c =
    let look = c.in_default.ensures.lookup in
    let past = slice_get_past c.args.self.now.causes.items c.args.at.causes (rw c.deref.ensures.value at look.3) in
    sym (line-at c.args.at.headings c.args.self.now.causes.items c.args.at.causes None past)

pub returns-else-cause-at : goal.returns-else-cause-at
returns-else-cause-at c =
    let look = c.in-Some.ensures.lookup in
    let found = slice_get_read c.deref.result.now _ c.args.at.causes c.in-Some.cause.now refl look.3.0 look.1 in
    sym (line-at c.args.at.headings c.args.self.now.causes.items c.args.at.causes (Some c.in-Some.cause.now) (rw c.deref.ensures.value at found)
    ∙ other _ _ _ c.if-cause-at.false)

pub returns-in_ok-clone : goal.returns-in_ok-clone
returns-in_ok-clone c =
    let look = c.in-Some.ensures.lookup in
    let found = slice_get_read c.deref.result.now _ c.args.at.causes c.in-Some.cause.now refl look.3.0 look.1 in
    ap Some c.in_ok-clone.ensures.cases
    ∙ sym (line-at c.args.at.headings c.args.self.now.causes.items c.args.at.causes (Some c.in-Some.cause.now) (rw c.deref.ensures.value at found)
    ∙ same _ _ _ c.if-cause-at.true)
