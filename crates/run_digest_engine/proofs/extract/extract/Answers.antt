use Rattle.std.proofs.Common.{◌≡◌, ℕ, List, Bool, rules}
use Rattle.std.specs.Prelude.{is_some, Option, Ok, Err, IfSome, IsErrAnd}
use Rattle.std.specs.Io.KnownBytes.{Appends}
use Rattle.std.specs.declared.result.Result.{Result}
use Rattle.std.proofs.lemmas.Option.{IfSome_then}
use Rattle.output_slice.specs.Extraction.{Extract}
use Rattle.program_io.specs.Engine.{Answers}
use Rattle.program_io.specs.Transfer.{AppendsStart}
use Rattle.run_digest_engine.specs.ExtractAnswer.{IsExtractAnswer, IsExtracted, TellsEachExtract, extract_text}
use Rattle.run_digest_engine.specs.Fault.{stage_of}
use Rattle.run_digest_engine.specs.declared.fault.Fault.{Fault}
use Rattle.run_digest_engine.proofs.extract.extract.Goals as goal

-- the text is that of each extraction of the input, since it is that of each extraction of the bytes that were read
written_alone : (left old new : Option (List ℕ)) (read bytes text : List ℕ) (success : Bool) → IfSome left (λ all. read ≡ all) → bytes ≡ read
    → ((found : Option Extract) → IsExtracted bytes found → (text ≡ extract_text found) × (success ≡ is_some found)) → Appends old new text
    → IfSome left (λ input. TellsEachExtract success old new input)
written_alone left old new read bytes text success is same only appended = IfSome_then left is (λ input whole. λ found extracted.
    let told = only found (rw (same, whole) extracted) in (rw told.0 at appended, told.1))

-- the write failed
broken_off : (r : Result Bool Fault) (fault : Fault) (left old new : Option (List ℕ)) (read bytes text : List ℕ) (success : Bool)
    → IsErrAnd r (λ e. e ≡ fault) → IfSome left (λ all. read ≡ all) → bytes ≡ read → IsExtractAnswer bytes text success → AppendsStart old new text
    → IfSome left (λ input. Answers stage_of (IsExtractAnswer input) r old new)
broken_off (Ok answer) fault left old new read bytes text success failed is same right begun = absurd failed
broken_off (Err e) fault left old new read bytes text success failed is same right begun = IfSome_then left is (λ input whole. λ writing.
    (text, success, rw (same, whole) at right, begun))

pub returns-in_err-write_all-clause-answer : goal.returns-in_err-write_all-clause-answer
returns-in_err-write_all-clause-answer g c =
    broken_off _ _ _ _ _ _ _ _ _ c.from_residual-in_err-write_all.ensures.1 c.in_ok-bytes.ensures.bytes c.as_slice.ensures.value c.in_ok-text.ensures.answer
    (rw c.as_slice-2.ensures.value at c.in_err-write_all.ensures.start)

pub returns-clause-answer : goal.returns-clause-answer
returns-clause-answer g c = search rules

pub returns-clause-only : goal.returns-clause-only
returns-clause-only g c =
    written_alone _ _ _ _ _ _ _ c.in_ok-bytes.ensures.bytes c.as_slice.ensures.value c.in_ok-text.ensures.only
    (rw c.as_slice-2.ensures.value at c.in_ok-write_all.ensures.bytes)

pub returns-in_err-text-clause-read : goal.returns-in_err-text-clause-read
returns-in_err-text-clause-read g c = search rules

pub returns-in_err-write_all-clause-read : goal.returns-in_err-write_all-clause-read
returns-in_err-write_all-clause-read g c = search rules

pub returns-in_err-write_all-clause-end : goal.returns-in_err-write_all-clause-end
returns-in_err-write_all-clause-end g c = search rules

pub returns-clause-read : goal.returns-clause-read
returns-clause-read g c = search rules

pub returns-clause-end : goal.returns-clause-end
returns-clause-end g c = search rules
