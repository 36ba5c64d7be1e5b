-- The table as functions on values: what the private steps return. What an object says is defined apart from it, in Said.
use Rattle.std.specs.Prelude.{◌≡◌, ℕ, List, codes, Bool, true, false, MatchOption, Option, Some, None, drop, option_and_then, take, if◌then◌else◌}
use Rattle.std.specs.Str.{bytes_eq}
use Rattle.serde_json.specs.Data.{Data}
use Rattle.serde_json.specs.View.{view}
use Rattle.serde_json.specs.declared.value.Value.{Value}
use Rattle.test_report_events.specs.Cargo.{CargoSays}
use Rattle.test_report_events.specs.Content.{cargo_event}
use Rattle.test_report_events.specs.Event.{EventView, Prints, SuiteEndView, TestEndView, SuiteStarts, SuiteEnds, TestStarts, TestEnds, TestIsSlow, OtherLine}
use Rattle.test_report_events.specs.Line.{EndSays, IsJson, IsLastAt, ObjectBegins}
use Rattle.test_report_events.specs.Said.{count_of, is_text, key_of, text_of, words_of}
use Rattle.test_report_events.specs.Time.{without_spaces}
use Rattle.test_report_events.specs.declared.event.TestResult.{TestResult}
use Rattle.test_report_events.specs.declared.event.TestResult.TheVariants.{Ok, Failed, Ignored}
use Rattle.test_report_events.specs.declared.members.EventKind.{EventKind}
use Rattle.test_report_events.specs.declared.members.EventKind.TheVariants as kind
use Rattle.test_report_events.specs.declared.text.CargoEnd.{CargoEnd}

-- the end of a suite with this time and verdict
abbrev pub suite_end_said : Option ℕ → Data → Bool → SuiteEndView
suite_end_said time d verdict = record {
  key = key_of d;
  failed_verdict = verdict;
  passed = count_of (codes "passed") d;
  failed = count_of (codes "failed") d;
  ignored = count_of (codes "ignored") d;
  measured = count_of (codes "measured") d;
  time = time;
}

-- what the object of a suite says, of this event
unfoldable pub suite_said : Option ℕ → Data → List ℕ → Option EventView
suite_said time d event =
    if bytes_eq event (codes "started") then Some (SuiteStarts (key_of d) (count_of (codes "test_count") d))
    else if bytes_eq event (codes "ok") then Some (SuiteEnds (suite_end_said time d false))
    else if bytes_eq event (codes "failed") then Some (SuiteEnds (suite_end_said time d true))
    else Some OtherLine

-- the end of a test with this time, name and result
abbrev pub test_end_said : Option ℕ → Data → List ℕ → TestResult → TestEndView
test_end_said time d name outcome = record {
  name = name;
  result = outcome;
  stdout = text_of (codes "stdout") d;
  message = words_of (codes "message") d;
  reason = words_of (codes "reason") d;
  time = time;
}

-- what the object of a test says, of this name and event
unfoldable pub test_said : Option ℕ → Data → List ℕ → List ℕ → Option EventView
test_said time d name event =
    if bytes_eq event (codes "started") then Some (TestStarts name)
    else if bytes_eq event (codes "ok") then Some (TestEnds (test_end_said time d name Ok))
    else if bytes_eq event (codes "failed") then Some (TestEnds (test_end_said time d name Failed))
    else if bytes_eq event (codes "ignored") then Some (TestEnds (test_end_said time d name Ignored))
    else if bytes_eq event (codes "timeout") then Some (TestIsSlow name)
    else Some OtherLine

-- how a benchmark ended
unfoldable pub bench_result : Data → TestResult
bench_result d = if is_text (text_of (codes "event") d) (codes "failed") then Failed else Ok

-- what an object of this type says
unfoldable pub typed_said : Option ℕ → Data → List ℕ → Option EventView
typed_said time d word =
    if bytes_eq word (codes "report") then Some OtherLine
    else if bytes_eq word (codes "program") then Some OtherLine
    else if bytes_eq word (codes "command") then Some OtherLine
    else if bytes_eq word (codes "suite") then option_and_then (suite_said time d) (text_of (codes "event") d)
    else if bytes_eq word (codes "test") then
    option_and_then (λ name. option_and_then (test_said time d name) (text_of (codes "event") d)) (text_of (codes "name") d)
    else if bytes_eq word (codes "bench") then
    option_and_then (λ name. Some (TestEnds (test_end_said time d name (bench_result d)))) (text_of (codes "name") d)
    else None

-- what an object with this time says
abbrev pub object_said : Option ℕ → Data → Option EventView
object_said time d = option_and_then (typed_said time d) (text_of (codes "type") d)

-- the event of an object with this time, of this kind
abbrev pub kind_said : Option ℕ → Data → EventKind → EventView
kind_said time d kind.SuiteStarted = SuiteStarts (key_of d) (count_of (codes "test_count") d)
kind_said time d (kind.SuiteEnded verdict) = SuiteEnds (suite_end_said time d verdict)
kind_said time d (kind.TestStarted name) = TestStarts name.now
kind_said time d (kind.TestEnded name outcome) = TestEnds (test_end_said time d name.now outcome)
kind_said time d (kind.TestSlow name) = TestIsSlow name.now
kind_said time d kind.Other = OtherLine

-- this was read of bytes: the value that they are the text of, if they are one
abbrev pub IsValueOf : List ℕ → Option Value → Type 0
IsValueOf bytes found = MatchOption found ((d : Data) → ¬ IsJson bytes d) (λ v. IsJson bytes (view v))

-- the last offset with a property, if there is one
abbrev pub IsLastFound : (ℕ → Type 0) → Option ℕ → Type 0
IsLastFound Property found = MatchOption found ((k : ℕ) → ¬ Property k) (λ at. IsLastAt Property at)

-- the last object, if there is one
abbrev pub FindsLastObject : List ℕ → Option ℕ → Type 0
FindsLastObject line found = IsLastFound (ObjectBegins line) found

-- a heading or a failure at the end of a text that says so, if there is one
abbrev pub FindsEnd : (ℕ → EventView → Type 0) → List ℕ → Option CargoEnd → Type 0
FindsEnd Says plain found = MatchOption found
    ((at : ℕ) (e : EventView) → ¬ Says at e)
    (λ end. (at : ℕ) × (end.front.now ≡ take at plain) × (end.text.now ≡ drop at plain) × Says at (cargo_event end.text.now end.text.now end.says))

-- what a line with these texts is, if it is a heading or a failure or ends with one: a print before it, and its event
abbrev pub CargoContents : List ℕ → List ℕ → Option (Option EventView × EventView) → Type 0
CargoContents shown plain None =
    ((e : EventView) → ¬ CargoSays shown (without_spaces plain) e) × ((at : ℕ) (e : EventView) → ¬ EndSays plain at e)
CargoContents shown plain (Some (None, e)) = CargoSays shown (without_spaces plain) e
CargoContents shown plain (Some (Some before, e)) =
    ((other : EventView) → ¬ CargoSays shown (without_spaces plain) other)
    × ((at : ℕ) × EndSays plain at e × (before ≡ Prints (take at plain) (take at plain)))
