-- The reading of a JSON value as an error chain.
use Rattle.std.specs.Prelude.{◌≡◌, MatchResult, ℕ, List, [], ◌∷◌, ◌++◌, codes, map, not, position, Option, None, Some, unwrap_or, is_some, if◌then◌else◌, Result, Ok, Err}
use Rattle.std.specs.Fmt.{decimal}
use Rattle.std.specs.Option.{ok_or, option_map_or}
use Rattle.serde_json.specs.Data.{Data, Items, no_items, item}
use Rattle.serde_json.specs.Find.{get, as_str, as_array, as_object}
use Rattle.run_events_attempts.specs.ErrorChain.{ErrorChain}
use Rattle.run_events_attempts.specs.declared.chain.json.FromValueError.{FromValueError}
use Rattle.run_events_attempts.specs.declared.chain.json.FromValueError.TheVariants.{NotAnObject, MessageMissing, MessageNotText, CausesNotAList, CauseNotText, OutOfMemory}

-- the values in a JSON list
abbrev pub values_in : Items → List Data
values_in no_items = []
values_in (item d ds) = d ∷ values_in ds

-- the text of the member `message`, or the error if it is missing or not a text
abbrev pub read_message : Option Data → Result (List ℕ) FromValueError
read_message None = Err MessageMissing
read_message (Some d) = ok_or (as_str d) MessageNotText

-- the texts of values that are all texts, or the position of the first that is not a text
abbrev pub read_texts : List Data → Result (List (List ℕ)) FromValueError
read_texts ds = option_map_or (λ i. Err (CauseNotText i)) (position (λ d. not (is_some (as_str d))) ds) (Ok (map (λ d. unwrap_or (as_str d) []) ds))

-- the list of texts of the member `causes`, which is empty if the member is missing
abbrev pub read_causes : Option Data → Result (List (List ℕ)) FromValueError
read_causes None = Ok []
read_causes (Some d) = option_map_or (λ ds. read_texts (values_in ds)) (as_array d) (Err CausesNotAList)

-- the chain of a message and its causes; an error of the message comes before one of the causes
abbrev pub read_both : Result (List ℕ) FromValueError → Result (List (List ℕ)) FromValueError → Result ErrorChain FromValueError
read_both (Err refusal) causes = Err refusal
read_both (Ok t) (Err refusal) = Err refusal
read_both (Ok t) (Ok ts) = Ok (record { message = t; causes = ts })

-- the chain that a value is read as, or the first error that applies
abbrev pub read_chain : Data → Result ErrorChain FromValueError
read_chain d =
    if is_some (as_object d)
    then read_both (read_message (get (codes "message") d)) (read_causes (get (codes "causes") d))
    else Err NotAnObject

-- the text of the error if a value is not a chain
abbrev pub reading_error_text : FromValueError → List ℕ
reading_error_text NotAnObject = codes "the error is not an object"
reading_error_text MessageMissing = codes "the error has no member `message`"
reading_error_text MessageNotText = codes "the member `message` is not a string"
reading_error_text CausesNotAList = codes "the member `causes` is not a list"
reading_error_text (CauseNotText index) = codes "the item " ++ decimal index ++ codes " of `causes` is not a string"
reading_error_text OutOfMemory = codes "out of memory"

-- the result is this chain, or memory was refused
abbrev pub IsChainUnlessMemory : ErrorChain → Result ErrorChain FromValueError → Type 0
IsChainUnlessMemory c answer = MatchResult answer (λ e. e ≡ c) (λ refusal. refusal ≡ OutOfMemory)

-- the result is the reading; memory can be refused only if a chain was read
abbrev pub ReadsAs : Result ErrorChain FromValueError → Result ErrorChain FromValueError → Type 0
ReadsAs reading answer = MatchResult reading (λ c. IsChainUnlessMemory c answer) (λ refusal. answer ≡ Err refusal)
