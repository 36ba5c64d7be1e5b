-- The text and the answer of `extract`.
use Rattle.std.specs.Prelude.{◌≡◌, ℕ, ◌++◌, Bool, List, length, codes, is_some, Option, None, Some}
use Rattle.std.specs.Fmt.{decimal}
use Rattle.std.specs.Io.KnownBytes.{Appends}
use Rattle.output_slice.specs.Extraction.{Extract, IsCappedExtract, error_slice, note_line, panic_slice}
use Rattle.output_slice.specs.Slices.{Slice}

-- the first line for a slice: its kind, its start and its length in bytes
unfoldable pub heading : List ℕ → ℕ → ℕ → List ℕ
heading kind start len = kind ++ (codes " " ++ (decimal start ++ (codes " " ++ (decimal len ++ codes "\n"))))

-- that line, the slice, and a line feed
abbrev pub slice_text : List ℕ → Slice → List ℕ
slice_text kind x = heading kind x.start (length x.bytes) ++ x.bytes ++ codes "\n"

-- the text for a part that was found, or for none
abbrev pub extract_text : Option Extract → List ℕ
extract_text None = codes "none\n"
extract_text (Some (panic_slice x)) = slice_text (codes "panic-message") x
extract_text (Some (error_slice x)) = slice_text (codes "error-str") x
extract_text (Some (note_line x)) = slice_text (codes "should-panic") x

-- The extraction of an input, which is taken as combined output, cut to its first 4,096 bytes.
abbrev pub IsExtracted : List ℕ → Option Extract → Type 0
IsExtracted input found = IsCappedExtract 4096 (Some input) (Some input) found

-- the text is that of the extraction of the input, and the answer is whether there is an extraction
pub record IsExtractAnswer (input text : List ℕ) (success : Bool) : Type 0 where
  pub found : Option Extract
  pub extracted : IsExtracted input found
  pub text_is : text ≡ extract_text found
  pub success_is : success ≡ is_some found

-- every extraction of the input has the text that was written and this answer, so there is only one
abbrev pub TellsEachExtract : Bool → Option (List ℕ) → Option (List ℕ) → List ℕ → Type 0
TellsEachExtract success old new input =
    (found : Option Extract) → IsExtracted input found → Appends old new (extract_text found) × (success ≡ is_some found)
