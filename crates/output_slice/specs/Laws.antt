-- Laws of the definitions.
use Rattle.std.specs.Prelude.{◌≡◌, ℕ, ◌++◌, List, Option, take, drop, map}
use Rattle.std.specs.Str.{IsUtf8, encode_utf8_all}
use Rattle.bstr.specs.Text.{lines_of}
use Rattle.bstr.specs.Utf8.{lossy_chars}
use Rattle.output_slice.specs.declared.panic_head.HeadSpan.{HeadSpan}
use Rattle.output_slice.specs.Head.{IsHead}
use Rattle.output_slice.specs.Taken.{IsTaken}
use Rattle.output_slice.specs.Cut.{IsCut, head_behind}
use Rattle.output_slice.specs.Lines.{AreLines}
use Rattle.output_slice.specs.Extraction.{Extract, IsExtract}

-- Two heads that begin at the same offset end at the same offset.
abbrev pub HeadsHaveOneEnd : Type 0
HeadsHaveOneEnd = (b : List ℕ) (s e f : ℕ) → IsHead b s e → IsHead b s f → e ≡ f

-- Any bytes have exactly one list of taken heads.
abbrev pub TakenHeadsExist : Type 0
TakenHeadsExist = (b : List ℕ) → (taken : List HeadSpan) × IsTaken b taken × ((other : List HeadSpan) → IsTaken b other → other ≡ taken)

-- The taken heads of all bytes are the taken heads before a cut, and then those after it.
abbrev pub TakenHeadsDivide : Type 0
TakenHeadsDivide = (b : List ℕ) (c : ℕ) (before behind : List HeadSpan) → IsCut b c → IsTaken (take c b) before → IsTaken (drop c b) behind
    → IsTaken b (before ++ map (head_behind c) behind)

-- Any bytes divide into lines in exactly one way.
abbrev pub LinesExist : Type 0
LinesExist = (b : List ℕ) → (lines : List (List ℕ)) × AreLines b lines × ((other : List (List ℕ)) → AreLines b other → other ≡ lines)

-- The lines into which the function of `bstr` cuts bytes are the lines of those bytes.
abbrev pub LinesAreCut : Type 0
LinesAreCut = (b : List ℕ) → AreLines b (lines_of b)

-- Two streams have at most one extraction.
abbrev pub OneExtraction : Type 0
OneExtraction = (out err : Option (List ℕ)) (a b : Option Extract) → IsExtract out err a → IsExtract out err b → a ≡ b

-- The lossy text of bytes that are UTF-8 is those bytes.
abbrev pub LossyTextIsExact : Type 0
LossyTextIsExact = (b : List ℕ) → IsUtf8 b → encode_utf8_all (lossy_chars b) ≡ b
