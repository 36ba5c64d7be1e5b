use Rattle.std.proofs.Common.{arith, sym, subst, ◌++◌, ◌∷◌, [], ◌≢◌, List, ℕ, take, append_assoc, get_or, length-drop}
use Rattle.std.proofs.lemmas.List.{append-nil, take_rest}
use Rattle.test_report_events.specs.Plain.{IsEscape, IsWithoutEscapes}
use Rattle.test_report_events.proofs.Escapes.{byte_more, escape_more, ends_line}
use Rattle.test_report_events.proofs.plain.without_escapes.Goals as goal

pub loop-at-preserved-in-Some : goal.loop-at-preserved-in-Some
loop-at-preserved-in-Some c =
    let line = c.args.line.now in
    let at = c.loop-at.at in
    let rest = take_rest line at in (
      omega (arith, c.in-Some.ensures.2, rest, length-drop at line),
      λ text h. c.loop-at.invariant.1 text
          (escape_more line text at c.in-Some.size (subst (λ t. IsEscape (take c.in-Some.size t)) rest c.in-Some.ensures.0) h),
    )

pub loop-at-preserved : goal.loop-at-preserved
loop-at-preserved c =
    let line = c.args.line.now in
    let at = c.loop-at.at in
    let kept = c.loop-at.kept.items in (
      omega arith,
      λ text h. rw c.in_ok-push-in-None.ensures.items (subst (IsWithoutEscapes line) (sym (append_assoc kept (get_or line at 0 ∷ []) text))
          (c.loop-at.invariant.1 (get_or line at 0 ∷ text) (byte_more line text at (omega arith)
          (subst (λ t. (escape rest : List ℕ) → IsEscape escape → t ≢ escape ++ rest) (take_rest line at) c.in-None.ensures) h))),
    )

pub returns : goal.returns
returns c =
    let line = c.args.line.now in
    let kept = c.loop-at.kept.items in
    subst (IsWithoutEscapes line) (append-nil kept) (c.loop-at.invariant.1 [] (ends_line line c.loop-at.at (omega arith)))
