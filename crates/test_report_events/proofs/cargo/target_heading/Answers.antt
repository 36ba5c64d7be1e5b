use Rattle.std.proofs.Common.{None, Some, arith, inl, refl}
use Rattle.std.proofs.lemmas.Bool.Decides.{nat_tests}
use Rattle.std.proofs.lemmas.Str.Pattern.{strip_suffix_char}
use Rattle.test_report_events.proofs.Headings.{cut_found, front_empty, no_binary, no_parenthesis, no_target, not_cut, split_around}
use Rattle.test_report_events.proofs.cargo.target_heading.Goals as goal
use Rattle.test_report_events.proofs.cargo.target_heading.Goals.{in_default-via-in-Some+else-not-is_empty, in_default-via-in_default}

pub returns-in_err-strip_suffix : goal.returns-in_err-strip_suffix
returns-in_err-strip_suffix c = rw c.from_residual.ensures
    (no_parenthesis c.args.text.now (strip_suffix_char 41 c.args.text.now None c.in_err-strip_suffix.ensures.cases (omega arith)))

pub returns-in_err-binary_at-in-Some : goal.returns-in_err-binary_at-in-Some
returns-in_err-binary_at-in-Some c =
    let text = c.args.text.now in
    let stem = c.in_ok-strip_suffix.field-0 in
    let closed = strip_suffix_char 41 text (Some stem) c.in_ok-strip_suffix.ensures.cases (omega arith) in
    let cut = cut_found text stem.now closed c.in-Some.target.now c.in-Some.path.now
    (split_around stem.now c.in-Some.target.now c.in-Some.path.now c.in-Some.ensures.cases) (grind (arith, nat_tests)) in
    rw c.from_residual-in_err-binary_at-in-Some.ensures
    (no_binary text c.in-Some.target.now c.in-Some.path.now cut c.in_err-binary_at-in-Some.ensures)

pub returns-in_ok-binary_at-in-Some : goal.returns-in_ok-binary_at-in-Some
returns-in_ok-binary_at-in-Some c =
    let text = c.args.text.now in
    let stem = c.in_ok-strip_suffix.field-0 in
    let closed = strip_suffix_char 41 text (Some stem) c.in_ok-strip_suffix.ensures.cases (omega arith) in
    inl record {
      text = text;
      target = c.in-Some.target.now;
      name = c.in_ok-binary_at-in-Some.field-0.now;
      is = refl;
      cut = cut_found text stem.now closed c.in-Some.target.now c.in-Some.path.now
          (split_around stem.now c.in-Some.target.now c.in-Some.path.now c.in-Some.ensures.cases) (grind (arith, nat_tests));
      binary = c.in_ok-binary_at-in-Some.ensures;
      announces = refl;
    }

pub returns-in_default : goal.returns-in_default
returns-in_default c =
    let text = c.args.text.now in
    let stem = c.in_ok-strip_suffix.field-0 in
    let closed = strip_suffix_char 41 text (Some stem) c.in_ok-strip_suffix.ensures.cases (omega arith) in
    no_target text (elim c.in_default.branch [
      | in_default-via-in-Some+else-not-is_empty w ↦ front_empty text stem.now closed w.in-Some.target.now w.in-Some.path.now
          (split_around stem.now w.in-Some.target.now w.in-Some.path.now w.in-Some.ensures.cases) (grind (arith, nat_tests))
      | in_default-via-in_default w ↦ not_cut text stem.now closed w.in_default.ensures.cases
    ])
