-- The parsers of `count`, as functions on the words of a line: the results of its private functions. The grammar of a line
-- is defined apart from them, in Spelling and Number.
use Rattle.std.specs.Prelude.{◌+◌, ◌-◌, ◌*◌, ℕ, Bool, true, false, ◌&&◌, ◌==◌, nat_lt, nat_le, List}
use Rattle.std.specs.Prelude.{[], ◌∷◌, length, fold, map, Option, Some, None, option_and_then, option_map, if◌then◌else◌, codes}
use Rattle.std.specs.Char.{is_ascii_digit}
use Rattle.std.specs.List.{list_all, slice_split}
use Rattle.std.specs.Str.{bytes_eq}
use Rattle.run_events_results.specs.ViewedTest.{ViewedTest}
use Rattle.run_events_stats.specs.Counters.{UnitView, ScriptUnit, TestUnit}
use Rattle.run_events_results.specs.declared.config.FlakyResult.{FlakyResult}
use Rattle.run_events_results.specs.declared.config.FlakyResult.TheVariants as setting
use Rattle.run_events_results.specs.declared.results.CancelReason.{CancelReason}
use Rattle.run_events_results.specs.declared.results.ExecutionResultDescription.{ExecutionResultDescription}
use Rattle.run_events_results.specs.declared.results.ExecutionResultDescription.TheVariants as result
use Rattle.run_events_stats.specs.declared.stats.RunStart.{RunStart}
use Rattle.run_digest_engine.specs.Spelling.{ResultWord, Pass, Leak, LeakFail, Fail, ExecFail, Timeout, TimeoutPass, word_of, result_named, reason_word, reason_words}

infixl 10 ◌>>=◌
-- the function of a value that is present
abbrev pub ◌>>=◌ : {A B : Type 0} → Option A → (A → Option B) → Option B
o >>= f = option_and_then f o

-- the first of some values that has this word
abbrev pub named : {A : Type 0} → (A → List ℕ) → List A → List ℕ → Option A
named word_of [] word = None
named word_of (x ∷ xs) word = if bytes_eq word (word_of x) then Some x else named word_of xs word

-- the results that have a word
abbrev pub result_words : List ResultWord
result_words = Pass ∷ Leak ∷ LeakFail ∷ Fail ∷ ExecFail ∷ Timeout ∷ TimeoutPass ∷ []

-- the result that a word names
unfoldable pub result_of : List ℕ → Option ExecutionResultDescription
result_of word = option_map result_named (named word_of result_words word)

-- the reasons that have a word, with `None`
abbrev pub reasons : List (Option CancelReason)
reasons = map (λ entry. entry.0) reason_words

-- the reason that a word names, which is `Some None` for `-`
unfoldable pub reason_of : List ℕ → Option (Option CancelReason)
reason_of word = named reason_word reasons word

-- the value of digits
abbrev pub value_of_digits : List ℕ → ℕ
value_of_digits digits = fold (λ n b. 10 * n + (b - 48)) 0 digits

-- the value of one to seven digits, at most a million
unfoldable pub number_of : List ℕ → Option ℕ
number_of word =
    if nat_lt 0 (length word) && (nat_le (length word) 7 && (list_all is_ascii_digit word && nat_le (value_of_digits word) 1000000))
    then Some (value_of_digits word) else None

-- the words of a line, with one space between two words
abbrev pub words_of : List ℕ → List (List ℕ)
words_of line = slice_split (λ b. b == 32) line

-- the start of a run, from the words after its keyword
unfoldable pub start_fields : List (List ℕ) → Option RunStart
start_fields (tests ∷ scripts ∷ why ∷ []) =
    number_of tests >>= λ t. number_of scripts >>= λ s. reason_of why >>= λ r.
    Some (record { initial_run_count = t; setup_scripts_initial_count = s; skipped = 0; cancel_reason = r })
start_fields _ = None

-- the start of a run, from the words of line 1
unfoldable pub start_of_words : List (List ℕ) → Option RunStart
start_of_words [] = None
start_of_words (first ∷ words) = if bytes_eq first (codes "run") then start_fields words else None

-- the last result of a test and the number of its results, at most a hundred, from the words that are left, and the last
-- result and number of the words before them
unfoldable pub results_from : List (List ℕ) → ExecutionResultDescription → ℕ → Option (ExecutionResultDescription × ℕ)
results_from [] last count = Some (last, count)
results_from (word ∷ words) last count = if count == 100 then None else (result_of word >>= λ r. results_from words r (count + 1))

-- the last result of a list that is divided by commas, and the number of its results
unfoldable pub results_of : List ℕ → Option (ExecutionResultDescription × ℕ)
results_of list = results_from (slice_split (λ b. b == 44) list) result.Pass 0

-- whether the last attempt was slow, and the setting
unfoldable pub flags_of : List (List ℕ) → Option (Bool × FlakyResult)
flags_of [] = Some (false, setting.Pass)
flags_of (a ∷ []) =
    if bytes_eq a (codes "slow") then Some (true, setting.Pass)
    else if bytes_eq a (codes "flaky-fail") then Some (false, setting.Fail)
    else None
flags_of (a ∷ b ∷ []) = if bytes_eq a (codes "slow") && bytes_eq b (codes "flaky-fail") then Some (true, setting.Fail) else None
flags_of _ = None

-- the result of a script, from the words after `script`
unfoldable pub script_of_words : List (List ℕ) → Option ExecutionResultDescription
script_of_words (word ∷ []) = result_of word
script_of_words _ = None

-- the view of a test, from the words after `test`
unfoldable pub test_of_words : List (List ℕ) → Option ViewedTest
test_of_words [] = None
test_of_words (results ∷ flags) =
    flags_of flags >>= λ f. results_of results >>= λ r.
    Some (record { result = r.0; attempts = r.1; is_slow = f.0; flaky_result = f.1 })

-- a line after line 1: a finished unit, or the start of a sub-run
pub data EntryView : Type 0 where
  UnitEntry : UnitView → EntryView
  SubRunEntry : RunStart → EntryView

-- a line after line 1, from its words; the first one decides
unfoldable pub entry_of_words : List (List ℕ) → Option EntryView
entry_of_words [] = None
entry_of_words (kind ∷ words) =
    if bytes_eq kind (codes "sub-run") then option_map SubRunEntry (start_fields words)
    else if bytes_eq kind (codes "script") then option_map (λ r. UnitEntry (ScriptUnit r)) (script_of_words words)
    else if bytes_eq kind (codes "test") then option_map (λ t. UnitEntry (TestUnit t)) (test_of_words words)
    else None
