-- One more line, of which at most as many bytes are kept as fit.
use Rattle.std.proofs.Common.{◌∙◌, ◌++◌, ◌∷◌, [], List, ℕ, ap, ◌+◌, arith, length, map, refl, string_bytes}
use Rattle.std.proofs.lemmas.List.Sums.{sum_by_push}
use Rattle.test_report_run.specs.LongestEnd.{longest_end, most_bytes, size_of}
use Rattle.test_report_run.proofs.LongestEnds.{line-more}
use Rattle.test_report_run.proofs.longest_end.LongestEnd.take_line.Goals as goal

pub invariant_of-self-2-clause-counted : goal.invariant_of-self-2-clause-counted
invariant_of-self-2-clause-counted c =
    let lines : List (List ℕ) = map string_bytes c.make_room.new.self.lines.items in
    let line = c.start_of-line.result.now in
    let more = line-more c.make_room.new.self.lines.items _ c.in_ok-kept.kept line c.in_ok-kept.ensures.ok c.in_ok-push_back.ensures.items in
    omega (arith, c.make_room.new.self.counted, ap size_of more, sum_by_push (λ (l : List ℕ). length l + 1) lines line)

pub returns : goal.returns
returns c =
    let line = c.start_of-line.result.now in
    line-more c.make_room.new.self.lines.items _ c.in_ok-kept.kept line c.in_ok-kept.ensures.ok c.in_ok-push_back.ensures.items
    ∙ c.make_room.ensures.longest line refl
    ∙ ap (λ (l : List ℕ). longest_end most_bytes (map string_bytes c.args.self.now.lines.items ++ l ∷ [])) c.start_of-line.ensures.start
