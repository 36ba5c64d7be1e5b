use Rattle.std.proofs.Common.{◌≡◌, ◌<◌, ◌≤◌, ◌∙◌, ◌∷◌, ◌++◌, ◌||◌, ap, arith, append-nil, drop, length, sym, take}
use Rattle.std.specs.Str.{chars}
use Rattle.report_text.specs.Shown.{ends, has_kept, kept_len, pushed}
use Rattle.report_text.proofs.Characters.{first-char, no-chars}
use Rattle.report_text.proofs.Pushing.{ends-char, ends-kept, front-run, has-char, has-one, or-none, range-front, text-char, text-kept}
use Rattle.report_text.proofs.Styles.{cut-kept}
use Rattle.report_text.proofs.shown.push_shown.Goals as goal

pub range-requires-clause-end_boundary : goal.range-requires-clause-end_boundary
range-requires-clause-end_boundary c =
    let stay = rw c.as_bytes.ensures.value at c.stays_len-n.ensures.stay in
    let within : c.stays_len-n.result ≤ length c.as_str-tail.result.now = omega (arith, ap length c.as_bytes.ensures.value) in
    (front-run c.args.rules c.push_char-line.result c.as_str-tail.result.now c.stays_len-n.result c.as_str-tail.utf8 within stay).boundary

pub range_from-requires : goal.range_from-requires
range_from-requires c = λ some.
    let stay = rw c.as_bytes.ensures.value at c.stays_len-n.ensures.stay in
    let within : c.stays_len-n.result ≤ length c.as_str-tail.result.now = omega (arith, ap length c.as_bytes.ensures.value) in
    (front-run c.args.rules c.push_char-line.result c.as_str-tail.result.now c.stays_len-n.result c.as_str-tail.utf8 within stay).boundary

pub loop-c-preserved-then-kept-eq0 : goal.loop-c-preserved-then-kept-eq0
loop-c-preserved-then-kept-eq0 c =
    let r = c.args.rules in
    let old = c.loop-c.line in
    let line = c.push_char-line.result in
    let char = c.in-Some.c in
    let tail = c.as_str-tail.result.now in
    let n = c.stays_len-n.result in
    let rest = c.next.new.self.rest.now in
    let same = ap chars c.in-Some.ensures.steps.0 ∙ (first-char char rest ∙ ap (λ t. char ∷ chars t) (sym c.as_str-tail.ensures)) in
    let none = sym c.kept_len-kept.ensures ∙ c.if-kept-eq0.true in
    let stay = rw c.as_bytes.ensures.value at c.stays_len-n.ensures.stay in
    let within : c.stays_len-n.result ≤ length c.as_str-tail.result.now = omega (arith, ap length c.as_bytes.ensures.value) in
    let k = front-run r line tail n c.as_str-tail.utf8 within stay in
    let run : c.range.result.now ≡ take c.stays_len-n.result c.as_str-tail.result.now = range-front n tail c.range.result.now c.range.ensures.value in
    let left : c.chars-rest-then-kept-eq0.result.rest.now ≡ drop n tail = c.chars-rest-then-kept-eq0.ensures.rest ∙ c.range_from.ensures.value in
    record {
      text = λ e.
          let second = c.add_str.ensures e in
          let first = c.push_char-line.ensures.text second.0 in
          let all = c.loop-c.invariant.text first.0 in (
            all.0,
            text-char r old line char n tail _ _ _ _ _ c.push_char-line.ensures.line none first.1 second.1 run left k
                ∙ (ap (λ cs. c.loop-c.text.text ++ pushed r old 0 cs) (sym same) ∙ all.1),
          );
      line = ap (λ t. ends r line 0 (chars t)) left
          ∙ (k.ends_is ∙ (ap (λ l. ends r l 0 (chars tail)) c.push_char-line.ensures.line
          ∙ (sym (ends-char r old char (chars tail) none) ∙ (ap (ends r old 0) (sym same) ∙ c.loop-c.invariant.line))));
      colours = ap (λ t. c.loop-c.has_style || has_kept r (chars t)) left
          ∙ (ap (λ b. c.loop-c.has_style || b) (k.has_is ∙ (sym (has-char r char (chars tail) none) ∙ ap (has_kept r) (sym same))) ∙
          c.loop-c.invariant.colours);
    }

pub range-requires-else-kept-eq0-clause-end_boundary :
    goal.range-requires-else-kept-eq0-clause-end_boundary
range-requires-else-kept-eq0-clause-end_boundary c =
    let some : 0 < c.kept_len-kept.result = omega arith in
    (cut-kept c.args.rules c.as_str-tail.result.now c.in-Some.c c.kept_len-kept.result c.as_str-tail.utf8 c.kept_len-kept.ensures some).boundary

pub range_from-requires-else-kept-eq0 : goal.range_from-requires-else-kept-eq0
range_from-requires-else-kept-eq0 c = λ some.
    (cut-kept c.args.rules c.as_str-tail.result.now c.in-Some.c c.kept_len-kept.result c.as_str-tail.utf8 c.kept_len-kept.ensures some).boundary

pub loop-c-preserved : goal.loop-c-preserved
loop-c-preserved c =
    let r = c.args.rules in
    let line = c.loop-c.line in
    let char = c.in-Some.c in
    let tail = c.as_str-tail.result.now in
    let n = c.kept_len-kept.result in
    let rest = c.next.new.self.rest.now in
    let some : 0 < c.kept_len-kept.result = omega arith in
    let same = ap chars c.in-Some.ensures.steps.0 ∙ (first-char char rest ∙ ap (λ t. char ∷ chars t) (sym c.as_str-tail.ensures)) in
    let k = cut-kept r tail char n c.as_str-tail.utf8 c.kept_len-kept.ensures some in
    let run : c.range-else-kept-eq0.result.now ≡ take c.kept_len-kept.result c.as_str-tail.result.now =
    range-front n tail c.range-else-kept-eq0.result.now c.range-else-kept-eq0.ensures.value in
    let left : c.chars-rest-else-kept-eq0.result.rest.now ≡ drop n tail = c.chars-rest-else-kept-eq0.ensures.rest ∙ c.range_from-else-kept-eq0.ensures.value in
    record {
      text = λ e.
          let second = c.add_str-else-kept-eq0.ensures e in
          let first = c.add_char.ensures second.0 in
          let all = c.loop-c.invariant.text first.0 in (
            all.0,
            text-kept r line char n tail _ _ _ _ _ c.kept_len-kept.ensures some first.1 second.1 run left k
                ∙ (ap (λ cs. c.loop-c.text.text ++ pushed r line 0 cs) (sym same) ∙ all.1),
          );
      line = ap (λ t. ends r line 0 (chars t)) left
          ∙ (sym (ends-kept r line char n (take n tail) (chars (drop n tail)) (c.kept_len-kept.ensures ∙ ap (kept_len r char) k.is) some k.long)
          ∙ (ap (λ cs. ends r line 0 (char ∷ cs)) (sym k.is) ∙ (ap (ends r line 0) (sym same) ∙ c.loop-c.invariant.line)));
      colours = sym (has-one c.loop-c.has_style r char n (chars tail) c.kept_len-kept.ensures some)
          ∙ (ap (λ cs. c.loop-c.has_style || has_kept r cs) (sym same) ∙ c.loop-c.invariant.colours);
    }

pub returns-clause-text : goal.returns-clause-text
returns-clause-text c = λ e.
    let none = no-chars c.loop-c.rest.rest.now c.in_default.ensures.steps.0.0 in
    let all = c.loop-c.invariant.text e in
    (all.0, sym (append-nil c.loop-c.text.text) ∙ (ap (λ cs. c.loop-c.text.text ++ pushed c.args.rules c.loop-c.line 0 cs) (sym none) ∙ all.1))

pub returns-clause-line : goal.returns-clause-line
returns-clause-line c =
    let none = no-chars c.loop-c.rest.rest.now c.in_default.ensures.steps.0.0 in
    ap (ends c.args.rules c.loop-c.line 0) (sym none) ∙ c.loop-c.invariant.line

pub returns-clause-colours : goal.returns-clause-colours
returns-clause-colours c =
    let none = no-chars c.loop-c.rest.rest.now c.in_default.ensures.steps.0.0 in
    sym (or-none c.loop-c.has_style) ∙ (ap (λ cs. c.loop-c.has_style || has_kept c.args.rules cs) (sym none) ∙ c.loop-c.invariant.colours)
