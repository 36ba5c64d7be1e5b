-- The first lines are dropped until one more fits.
use Rattle.std.proofs.Common.{◌∙◌, ◌++◌, ◌∷◌, [], List, ℕ, ap, arith, map, string_bytes, sym}
use Rattle.test_report_run.specs.LongestEnd.{longest_end, most_bytes}
use Rattle.test_report_run.proofs.LongestEnds.{length-joined, longest-all, longest-drop}
use Rattle.test_report_run.proofs.longest_end.LongestEnd.make_room.Goals as goal

pub loop-self-preserved : goal.loop-self-preserved
loop-self-preserved c = λ line size.
    let lines : List (List ℕ) = map string_bytes c.loop-self.self.lines.items in
    ap (λ (l : List (List ℕ)). longest_end most_bytes (l ++ line ∷ [])) c.drop_first.ensures
    ∙ longest-drop most_bytes lines line (omega (arith, c.loop-self.self.counted, size)) (omega (arith, c.requires, size))
    ∙ c.loop-self.invariant line size

pub returns-clause-longest : goal.returns-clause-longest
returns-clause-longest c = λ line size.
    let lines : List (List ℕ) = map string_bytes c.loop-self.self.lines.items in
    sym (longest-all most_bytes (lines ++ line ∷ []) (omega (arith, length-joined lines line, c.loop-self.self.counted, size)))
    ∙ c.loop-self.invariant line size
