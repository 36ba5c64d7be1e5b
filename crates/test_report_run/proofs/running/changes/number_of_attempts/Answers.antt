-- The digits are those of the number that is read.
use Rattle.std.proofs.Common.{◌∙◌, arith, false, refl, sym, true}
use Rattle.std.proofs.lemmas.Bool.{false≢true}
use Rattle.std.proofs.lemmas.Option.{none-some, same_Some}
use Rattle.std.proofs.lemmas.Str.Pattern.{starts_char}
use Rattle.test_report_run.proofs.Attempts.{not-counted, parsed-decimal, parsed-only}
use Rattle.test_report_run.proofs.running.changes.number_of_attempts.Goals as goal
use Rattle.test_report_run.proofs.running.changes.number_of_attempts.Goals.{then-starts_with-via-else-starts_with+then-starts_with-2, then-starts_with-via-then-starts_with}

pub returns-then-starts_with : goal.returns-then-starts_with
returns-then-starts_with c =
    let text = c.args.digits.now in
    elim c.then-starts_with.branch [
      | then-starts_with-via-then-starts_with w ↦
          let first = (starts_char 43 text true w.if-starts_with.ensures.cases (omega arith) (omega arith)).0 refl in
          not-counted text (omega (arith, first))
      | then-starts_with-via-else-starts_with+then-starts_with-2 w ↦
          let first = (starts_char 48 text true w.if-starts_with-2.ensures.cases (omega arith) (omega arith)).0 refl in
          not-counted text (omega (arith, first))
    ]

pub returns-in_err-attempts : goal.returns-in_err-attempts
returns-in_err-attempts c =
    rw c.from_residual.ensures (λ n counts.
    let read = parsed-only c.args.digits.now c.parse.result n c.parse.ensures.value.0 counts in
    none-some n (sym c.in_err-attempts.was ∙ c.ok.ensures.value ∙ read))

pub returns-then-attempts-le-MOST_ATTEMPTS : goal.returns-then-attempts-le-MOST_ATTEMPTS
returns-then-attempts-le-MOST_ATTEMPTS c =
    let text = c.args.digits.now in
    let signed = (starts_char 43 text false c.if-starts_with.ensures.cases (omega arith) (omega arith)).1 in
    let padded = (starts_char 48 text false c.if-starts_with-2.ensures.cases (omega arith) (omega arith)).1 in
    let read = sym c.ok.ensures.value ∙ c.in_ok-attempts.was in
    let is = parsed-decimal text c.parse.result _ c.parse.ensures.value.0 read (λ e. false≢true (signed e)) (λ e. false≢true (padded e)) in
    (c.if-attempts-ge2.true, c.if-attempts-le-MOST_ATTEMPTS.true, is)

pub returns-else-attempts-ge2 : goal.returns-else-attempts-ge2
returns-else-attempts-ge2 c = λ n counts.
    let read = parsed-only c.args.digits.now c.parse.result n c.parse.ensures.value.0 counts in
    let same = same_Some c.in_ok-attempts.attempts n (sym c.in_ok-attempts.was ∙ c.ok.ensures.value ∙ read) in
    omega (arith, counts.0, counts.1, same, c.else-attempts-ge2.either)
