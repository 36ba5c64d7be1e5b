use Rattle.std.proofs.Common.{[], ◌∷◌, Bor, List, length, lit<, map, refl, subst, sym, ℕ}
use Rattle.std.proofs.lemmas.Iterator.Consumers.{YieldsList-at, YieldsList-end, YieldsList-so_far, YieldsList-turn}
use Rattle.std.proofs.lemmas.Iterator.Splits.{YieldsList-from_str_split}
use Rattle.std.proofs.lemmas.List.{map-append}
use Rattle.std.proofs.lemmas.List.Elements.{All-push}
use Rattle.std.specs.List.{All}
use Rattle.test_report_events.proofs.Headings.{first_here, no_first}
use Rattle.test_report_events.specs.Cargo.{IsProgram}
use Rattle.test_report_events.proofs.cargo.first_program.Goals as goal

abbrev NoProgram : List ℕ → Type 0
NoProgram word = (other : List ℕ) → ¬ IsProgram word other

pub returns-in-Some-program : goal.returns-in-Some-program
returns-in-Some-program c =
    let s = c.split-path-items.ensures in
    let words = YieldsList-at c.into_iter-path-iterator.ensures.into_iter_gives
    (YieldsList-from_str_split 32 c.args.words.now (lit< tt) s.text s.has_more s.pattern) in
    let turn = YieldsList-turn words c.loop-path.yielded _ c.loop-path.yielded_by _ _ c.in-Some.path c.in-Some.is c.next.ensures.steps in
    let first = first_here c.args.words.now (length c.loop-path.yielded) c.in-Some.path.now c.in-Some-program.binary.now
    (map (λ (x : Bor (List ℕ)). x.now) c.loop-path.yielded) (YieldsList-so_far words c.loop-path.yielded _ c.loop-path.yielded_by)
    c.loop-path.invariant turn.0 turn.1 c.in-Some-program.ensures in (c.in-Some.path.now, refl, first)

pub loop-path-preserved : goal.loop-path-preserved
loop-path-preserved c =
    subst (All NoProgram) (sym (map-append (λ (x : Bor (List ℕ)). x.now) c.loop-path.yielded (c.in-Some.path ∷ [])))
    (All-push NoProgram (map (λ (x : Bor (List ℕ)). x.now) c.loop-path.yielded) c.in-Some.path.now c.loop-path.invariant c.in_default.ensures)

pub returns : goal.returns
returns c =
    let s = c.split-path-items.ensures in
    let words = YieldsList-at c.into_iter-path-iterator.ensures.into_iter_gives
    (YieldsList-from_str_split 32 c.args.words.now (lit< tt) s.text s.has_more s.pattern) in
    let all = YieldsList-end words c.loop-path.yielded _ c.loop-path.yielded_by _ _ c.in-None.is c.next.ensures.steps in
    no_first c.args.words.now (subst (All NoProgram) all.0 c.loop-path.invariant)
