-- What the members of a JSON object say of a test run.
use Rattle.std.specs.Prelude.{◌≡◌, ◌≢◌, ◌⊎◌, ℕ, List, [], ◌∷◌, codes, Bool, true, false, Option, Some, None, IsSome, MatchOption, nat_le, option_and_then, if◌then◌else◌}
use Rattle.std.specs.Str.{bytes_eq}
use Rattle.serde_json.specs.Data.{Data}
use Rattle.serde_json.specs.Find.{as_number, as_str, as_u64, get}
use Rattle.test_report_events.specs.Event.{EventView, SuiteStarts, SuiteEnds, TestStarts, TestEnds, TestIsSlow, OtherLine, HeadingLine, CargoFails, Prints, DamagedLine, CommandStarts, CommandOver, Cancels, AllEndEarly, ProgramContradicts, key_text}
use Rattle.test_report_events.specs.Time.{GivesTime}
use Rattle.test_report_events.specs.declared.event.TestResult.{TestResult}
use Rattle.test_report_events.specs.declared.event.TestResult.TheVariants.{Ok, Failed, Ignored}

-- the text of a member
abbrev pub text_of : List ℕ → Data → Option (List ℕ)
text_of key d = option_and_then as_str (get key d)

-- there is a text, and it is this one
abbrev pub is_text : Option (List ℕ) → List ℕ → Bool
is_text None word = false
is_text (Some text) word = bytes_eq text word

-- a text, unless it is empty
abbrev pub unless_empty : List ℕ → Option (List ℕ)
unless_empty [] = None
unless_empty (b ∷ bs) = Some (b ∷ bs)

-- the text of a member, unless it is empty
abbrev pub words_of : List ℕ → Data → Option (List ℕ)
words_of key d = option_and_then unless_empty (text_of key d)

-- the number of a member
abbrev pub number_of : List ℕ → Data → Option ℕ
number_of key d = option_and_then as_u64 (option_and_then as_number (get key d))

-- a number of tests, unless it needs more than 32 bits
abbrev pub count_of : List ℕ → Data → Option ℕ
count_of key d = option_and_then (λ n. if nat_le n 4294967295 then Some n else None) (number_of key d)

-- the key in a `nextest` object, which needs both names
abbrev pub key_in : Data → Option (List ℕ)
key_in n = option_and_then
    (λ crate_name. option_and_then (λ binary. Some (key_text crate_name binary (number_of (codes "stress_index") n))) (text_of (codes "test_binary") n))
    (text_of (codes "crate") n)

-- the key of a suite
abbrev pub key_of : Data → Option (List ℕ)
key_of d = option_and_then key_in (get (codes "nextest") d)

-- the object has this time, in microseconds. It is a number of the object, and its digits are those in the line.
abbrev pub HasTime : List ℕ → Data → ℕ → Type 0
HasTime line d micros = IsSome (option_and_then as_number (get (codes "exec_time") d)) × GivesTime line micros

-- the time of the object, if it has one
abbrev pub IsTime : List ℕ → Data → Option ℕ → Type 0
IsTime line d time = MatchOption time ((micros : ℕ) → ¬ HasTime line d micros) (HasTime line d)

-- the object is of this type
abbrev pub HasType : Data → List ℕ → Type 0
HasType d word = text_of (codes "type") d ≡ Some word

-- the object is of this event
abbrev pub HasEvent : Data → List ℕ → Type 0
HasEvent d word = text_of (codes "event") d ≡ Some word

-- the object has this name
abbrev pub HasName : Data → List ℕ → Type 0
HasName d name = text_of (codes "name") d ≡ Some name

-- the verdict of a suite: true if it failed
abbrev pub HasVerdict : Data → Bool → Type 0
HasVerdict d true = HasEvent d (codes "failed")
HasVerdict d false = HasEvent d (codes "ok")

-- the object says how a test or a benchmark ended. A benchmark passed unless it failed.
abbrev pub EndsAs : Data → TestResult → Type 0
EndsAs d Ok = (HasType d (codes "test") × HasEvent d (codes "ok")) ⊎ (HasType d (codes "bench") × (¬ HasEvent d (codes "failed")))
EndsAs d Failed = (HasType d (codes "test") ⊎ HasType d (codes "bench")) × HasEvent d (codes "failed")
EndsAs d Ignored = HasType d (codes "test") × HasEvent d (codes "ignored")

-- the word is none of the events of a suite in the table
abbrev pub IsOtherOfSuite : List ℕ → Type 0
IsOtherOfSuite word = (word ≢ codes "started") × (word ≢ codes "ok") × (word ≢ codes "failed")

-- the word is none of the events of a test in the table
abbrev pub IsOtherOfTest : List ℕ → Type 0
IsOtherOfTest word =
    (word ≢ codes "started") × (word ≢ codes "ok") × (word ≢ codes "failed") × (word ≢ codes "ignored") × (word ≢ codes "timeout")

-- the object is of a type that says nothing of a test or a suite: a report, or what becomes of a program or of the command
abbrev pub IsBeside : Data → Type 0
IsBeside d = HasType d (codes "report") ⊎ (HasType d (codes "program") ⊎ HasType d (codes "command"))

-- another line of a harness: one of another type, or an event of a suite or a test that is not in the table
abbrev pub IsOther : Data → Type 0
IsOther d =
    IsBeside d
    ⊎ ((HasType d (codes "suite") × ((word : List ℕ) × HasEvent d word × IsOtherOfSuite word))
    ⊎ (HasType d (codes "test") × ((name : List ℕ) × HasName d name) × ((word : List ℕ) × HasEvent d word × IsOtherOfTest word)))

-- what an object with this time says: the table of its members
abbrev pub Says : Option ℕ → Data → EventView → Type 0
Says time d (SuiteStarts key count) =
    HasType d (codes "suite") × HasEvent d (codes "started") × (key ≡ key_of d) × (count ≡ count_of (codes "test_count") d)
Says time d (SuiteEnds e) =
    HasType d (codes "suite")
    × HasVerdict d e.failed_verdict
    × (e.key ≡ key_of d)
    × (e.passed ≡ count_of (codes "passed") d)
    × (e.failed ≡ count_of (codes "failed") d)
    × (e.ignored ≡ count_of (codes "ignored") d)
    × (e.measured ≡ count_of (codes "measured") d)
    × (e.time ≡ time)
Says time d (TestStarts name) = HasType d (codes "test") × HasEvent d (codes "started") × HasName d name
Says time d (TestEnds e) =
    EndsAs d e.result
    × HasName d e.name
    × (e.stdout ≡ text_of (codes "stdout") d)
    × (e.message ≡ words_of (codes "message") d)
    × (e.reason ≡ words_of (codes "reason") d)
    × (e.time ≡ time)
Says time d (TestIsSlow name) = HasType d (codes "test") × HasEvent d (codes "timeout") × HasName d name
Says time d OtherLine = IsOther d
Says time d (HeadingLine suite path) = ⊥
Says time d (CargoFails failure text plain) = ⊥
Says time d (Prints text plain) = ⊥
Says time d (DamagedLine text) = ⊥
Says time d (CommandStarts names) = ⊥
Says time d (CommandOver end) = ⊥
Says time d (Cancels reason) = ⊥
Says time d (AllEndEarly end) = ⊥
Says time d (ProgramContradicts fault) = ⊥

-- what an object says that was read from this line
abbrev pub ObjectSays : List ℕ → Data → EventView → Type 0
ObjectSays line d e = (time : Option ℕ) × IsTime line d time × Says time d e
