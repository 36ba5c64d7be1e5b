use Rattle.std.proofs.Common.{◌≡◌, ◌+◌, sym, ◌∙◌, arith, codes}
use Rattle.output_slice.proofs.OccursLemmas.{occurs-both}
use Rattle.output_slice.proofs.HeadLemmas.{no-space, no-number, plain-end, numbered-end}
use Rattle.output_slice.proofs.panic_head.ends.tail_end.Goals as goal

pub returns-in_default-after_text : goal.returns-in_default-after_text
returns-in_default-after_text g c =
    let space = c.in-Some.ensures.value in
    let same = c.after_text-2.ensures.same ∙ c.after_text.ensures.same in
    let none = rw space.1 at rw c.after_text.ensures.same at c.in_default-after_text.ensures.value in
    let paren = c.in_default-after_text.ensures.reads in
    let last = c.after_text-in_default-after_text.ensures in
    let end = plain-end _ c.args.at paren.0 _ _ _ _ _ space.0 none c.in-Some.ensures.reads paren.1 paren.3
    (rw space.1 at rw same at last.reads) (rw space.1 at rw same at last.value) in
    record { value = end.0; reads = end.1; all = grind (arith, c.in-Some.ensures.all, c.in_default-after_text.ensures.all, last.all); same = last.same ∙ same }

pub returns-then-close-number : goal.returns-then-close-number
returns-then-close-number g c =
    let space = c.in-Some.ensures in
    let paren = c.in-Some-after_text.ensures in
    let digits = c.digits_end-close.ensures in
    let stands = rw space.value.1 at rw c.after_text.ensures.same at paren.value in
    let two : c.in-Some-after_text.number ≡ c.args.at + 2 = omega (arith, stands.1) in
    let same = c.after_text-2.ensures.same ∙ c.after_text.ensures.same in
    let opens = occurs-both _ (codes " ") (codes "(") c.args.at space.value.0 stands.0 in
    let end = no-number _ c.args.at c.digits_end-close.result _ _ _ opens (rw two at rw same at digits.run)
    (omega (arith, two)) (omega (arith, paren.reads, space.reads)) (rw two at digits.reads) in
    record { value = end.0; reads = end.1; all = grind (arith, space.all, paren.all, digits.all); same = digits.same ∙ same }

pub returns-in_default : goal.returns-in_default
returns-in_default g c =
    let space = c.in_default.ensures in
    let end = no-space _ c.args.at _ _ space.value space.reads in
    record { value = end.0; reads = end.1; all = space.all; same = space.same }

pub returns : goal.returns
returns g c =
    let space = c.in-Some.ensures.value in
    let paren = rw space.1 at rw c.after_text.ensures.same at c.in-Some-after_text.ensures.value in
    let two : c.in-Some-after_text.number ≡ c.args.at + 2 = omega (arith, paren.1) in
    let same = c.after_text-2.ensures.same ∙ c.after_text.ensures.same in
    let all = c.digits_end-close.ensures.same ∙ same in
    let run = rw two at rw same at c.digits_end-close.ensures.run in
    let opens = occurs-both _ (codes " ") (codes "(") c.args.at space.0 paren.0 in
    let last = c.after_text-3.ensures in
    let end = numbered-end _ c.args.at c.digits_end-close.result _ _ _ _ c.after_text-3.result opens run (λ e. c.if-close-number.false (e ∙ sym two))
    (omega (arith, c.in-Some-after_text.ensures.reads, c.in-Some.ensures.reads)) (rw two at c.digits_end-close.ensures.reads)
    (rw two at rw same at c.digits_end-close.ensures.ascii) (rw all at last.reads) (rw all at last.value) in
    record { value = end.0; reads = end.1; all = grind (arith, c.in-Some.ensures.all, c.in-Some-after_text.ensures.all, last.all); same = last.same ∙ all }
