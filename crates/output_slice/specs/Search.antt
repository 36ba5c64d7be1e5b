-- The results of the steps of the search from the end.
use Rattle.std.specs.Prelude.{codes, ℕ, ◌+◌, ◌<◌, ◌≤◌, List, length, take, Option, Some, MatchOption}
use Rattle.bstr.specs.Find.{OccursAt, IsLast}
use Rattle.output_slice.specs.declared.panic_head.HeadSpan.{HeadSpan}
use Rattle.output_slice.specs.Head.{IsLineStart, IsHead}
use Rattle.output_slice.specs.Taken.{IsLastTaken}
use Rattle.output_slice.specs.Steps.{NoQuoteBetween}

-- The offset s is a line start, and `thread '` is there.
abbrev pub IsOpening : List ℕ → ℕ → Type 0
IsOpening b s = IsLineStart b s × OccursAt b (codes "thread '") s

-- `found` is the last line start at which `thread '` is.
abbrev pub IsLastOpening : List ℕ → Option ℕ → Type 0
IsLastOpening b found = IsLast (IsOpening b) 0 (length b + 1) found

-- Every head ends at or before `end`.
abbrev pub AllHeadsEndBy : List ℕ → ℕ → Type 0
AllHeadsEndBy b end = (s e : ℕ) → IsHead b s e → e ≤ end

-- `thread '` is at the line start s before c, and there is no quote after it up to c. So a head that starts at s may cross
-- c.
pub record MayCross (b : List ℕ) (s c : ℕ) : Type 0 where
  pub low : s < c
  pub opening : IsOpening b s
  pub quiet : NoQuoteBetween b (s + 8) c

-- Each offset after `cut` up to `at` may be crossed by a head.
abbrev pub MayAllBeCrossed : List ℕ → ℕ → ℕ → Type 0
MayAllBeCrossed b cut at = (c : ℕ) → cut < c → c ≤ at → (s : ℕ) × MayCross b s c

-- If `found` is a head, it is the last taken head. If it is `None`, the last taken head of the bytes before the cut is the
-- last taken head of all bytes.
abbrev pub IsLastFrom : List ℕ → ℕ → Option HeadSpan → Type 0
IsLastFrom b cut found = MatchOption found
    ((last : Option HeadSpan) → IsLastTaken (take cut b) last → IsLastTaken b last)
    (λ h. IsLastTaken b (Some h))
