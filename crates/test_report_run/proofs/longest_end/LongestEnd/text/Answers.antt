-- The lines are joined one after another.
use Rattle.std.proofs.Common.{Bor, Global, String, ◌≡◌, ◌∙◌, ◌++◌, ◌∷◌, [], List, ℕ, ap, arith, cond, length, length-append, map, string_bytes, sym}
use Rattle.std.proofs.lemmas.Bool.Decides.{nat_tests}
use Rattle.std.proofs.lemmas.Grind.{common_steps}
use Rattle.std.proofs.lemmas.Iterator.Adapters.{YieldsList-from_skip}
use Rattle.std.proofs.lemmas.Iterator.Consumers.{YieldsList-at, YieldsList-end, YieldsList-from_deque}
use Rattle.std.proofs.lemmas.List.{drop-map, length-map, map-append}
use Rattle.std.proofs.lemmas.Simd.{map-map}
use Rattle.test_report_run.specs.LongestEnd.{joined}
use Rattle.test_report_run.proofs.LongestEnds.{text-more}
use Rattle.test_report_run.proofs.longest_end.LongestEnd.text.Goals as goal
use Rattle.test_report_run.proofs.longest_end.LongestEnd.text.Goals.{then-not-is_first+in_ok-push, else-not-is_first}

pub loop-line-preserved : goal.loop-line-preserved
loop-line-preserved c =
    let shown : Bor (String Global) → List ℕ = λ line. string_bytes line.now in
    let line = shown c.in-Some.line in
    let text = string_bytes c.loop-line.text in
    let lines : List (List ℕ) = map shown c.loop-line.yielded in
    let before : string_bytes c.if-not-is_first.text ≡ cond c.loop-line.is_first text (text ++ 10 ∷ []) =
    elim c.if-not-is_first.branch [
      | then-not-is_first+in_ok-push w ↦ grind (arith, common_steps, w.in_ok-push.ensures.bytes, w.text-is)
      | else-not-is_first w ↦ grind (arith, common_steps, w.text-is)
    ] in
    let more = text-more lines line text c.loop-line.is_first (length c.loop-line.yielded) c.loop-line.invariant.0
    (sym (length-map c.loop-line.yielded shown)) c.loop-line.invariant.1 in
    let whole = map-append shown c.loop-line.yielded (c.in-Some.line ∷ []) in
    let added : string_bytes c.push_str.new.self ≡ cond c.loop-line.is_first text (text ++ 10 ∷ []) ++ line =
    c.in_ok-push_str.ensures.bytes ∙ ap (λ (t : List ℕ). t ++ c.as_str.result.now) before
    ∙ ap (λ (t : List ℕ). cond c.loop-line.is_first text (text ++ 10 ∷ []) ++ t) c.as_str.ensures.value in
    (grind (arith, nat_tests, length-append c.loop-line.yielded (c.in-Some.line ∷ [])), added ∙ sym more ∙ ap joined (sym whole))

pub returns : goal.returns
returns c =
    let items = c.args.self.now.lines.items in
    let lines = YieldsList-at c.into_iter-line-iterator.ensures.into_iter_gives
    (YieldsList-from_skip c.args.skipped (YieldsList-at c.skip-line-items.ensures.source (YieldsList-from_deque items c.iter.ensures.rest))
    c.skip-line-items.ensures.count) in
    let all = YieldsList-end lines c.loop-line.yielded _ c.loop-line.yielded_by _ c.next.new.self c.in-None.is c.next.ensures.steps in
    let shown : List (List ℕ) = map (λ (line : Bor (String Global)). string_bytes line.now) c.loop-line.yielded in
    let same : shown ≡ map string_bytes (map (λ (line : Bor (String Global)). line.now) c.loop-line.yielded) = simp map-map in
    c.loop-line.invariant.1
    ∙ ap joined (same ∙ ap (map string_bytes) all.0 ∙ sym (drop-map string_bytes c.args.skipped items))
