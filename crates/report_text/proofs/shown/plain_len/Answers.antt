use Rattle.std.proofs.Common.{◌≡◌, ◌∙◌, ◌+◌, ◌-◌, ap, arith, drop, sym, take}
use Rattle.std.proofs.Math.Seq.{take-add}
use Rattle.std.specs.List.{list_all}
use Rattle.report_text.specs.Shown.{is_plain}
use Rattle.report_text.proofs.Steps.{all-both}
use Rattle.report_text.proofs.shown.plain_len.Goals as goal

pub loop-n-preserved : goal.loop-n-preserved
loop-n-preserved c =
    let n = c.loop-n.n in
    let bytes = c.args.bytes.now in
    let size : 16 ≡ c.loop-n.n + 16 - c.loop-n.n = omega arith in
    let part = ap (λ k. list_all is_plain (take k (drop n bytes))) size ∙ (sym c.all_plain.ensures ∙ c.if-all_plain.true) in
    record {
      within = omega (arith, c.loop-n-test.true, c.loop-n.invariant.within);
      plain = ap (list_all is_plain) (take-add n 16 bytes) ∙ all-both is_plain (take n bytes) (take 16 (drop n bytes)) c.loop-n.invariant.plain part;
    }
