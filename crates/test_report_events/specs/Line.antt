-- What a line of a test run says.
use Rattle.std.specs.Prelude.{◌≡◌, ◌<◌, ◌⊎◌, ◌++◌, ◌∷◌, ℕ, List, codes, drop, length, take, MatchOption, Option, Some, None, option_to_list}
use Rattle.std.specs.Str.{IsUtf8}
use Rattle.bstr.specs.Find.{OccursAt}
use Rattle.serde_json.specs.Data.{Data}
use Rattle.serde_json.specs.Read.{read}
use Rattle.test_report_events.specs.Cargo.{CargoSays, IsHeading, failure_of}
use Rattle.test_report_events.specs.Damage.{IsDamage}
use Rattle.test_report_events.specs.Event.{EventView, HeadingLine, CargoFails, Prints}
use Rattle.test_report_events.specs.Plain.{IsPlain, line_text}
use Rattle.test_report_events.specs.Said.{ObjectSays}
use Rattle.test_report_events.specs.Time.{without_spaces}
use Rattle.test_report_events.specs.declared.event.CargoFailure.{CargoFailure}

-- bytes are the JSON text of this value
abbrev pub IsJson : List ℕ → Data → Type 0
IsJson bytes d = IsUtf8 bytes × (read bytes ≡ Some d)

-- this is the last offset with this property
pub record IsLastAt (Property : ℕ → Type 0) (at : ℕ) : Type 0 where
  pub holds : Property at
  pub last : (k : ℕ) → at < k → ¬ Property k

-- an object begins at this offset as those of events do
abbrev pub ObjectBegins : List ℕ → ℕ → Type 0
ObjectBegins line at = OccursAt line (codes "{ \"type\"") at ⊎ OccursAt line (codes "{\"type\"") at

-- from this offset on the line is this value: the whole line is its text, or, if that is no JSON, the end of the line from the last object on
abbrev pub Holds : List ℕ → ℕ → Data → Type 0
Holds line at d =
    ((at ≡ 0) × IsJson line d)
    ⊎ (((other : Data) → ¬ IsJson line other) × IsLastAt (ObjectBegins line) at × IsJson (drop at line) d)

-- from this offset on the line says this event of a test harness
abbrev pub HoldsEvent : List ℕ → ℕ → EventView → Type 0
HoldsEvent line at e = (d : Data) × Holds line at d × ObjectSays line d e

-- how many bytes at the start of the line are no event: those in front of its event, or all if it has none. A line that is wholly an event has no rest
abbrev pub RestOf : List ℕ → Option ℕ → Type 0
RestOf line None = (e : EventView) × HoldsEvent line 0 e
RestOf line (Some size) =
    ((0 < size) × ((e : EventView) × HoldsEvent line size e))
    ⊎ (((at : ℕ) (e : EventView) → ¬ HoldsEvent line at e) × (size ≡ length line))

-- a heading begins at this offset, with the spaces that cargo aligns it with
abbrev pub HeadingBegins : List ℕ → ℕ → Type 0
HeadingBegins plain at = OccursAt plain (codes "     Running ") at ⊎ OccursAt plain (codes "   Doc-tests ") at

-- the end of a text is a heading, from the last offset on at which one begins
abbrev pub EndsWithHeading : List ℕ → ℕ → EventView → Type 0
EndsWithHeading plain at e = IsLastAt (HeadingBegins plain) at
    × ((suite : List ℕ) × (path : Option (List ℕ)) × IsHeading (without_spaces (drop at plain)) suite path × (e ≡ HeadingLine suite path))

-- the end of a text is a failure of cargo, from the last `error: ` on
abbrev pub EndsWithFailure : List ℕ → ℕ → EventView → Type 0
EndsWithFailure plain at e = IsLastAt (OccursAt plain (codes "error: ")) at
    × ((failure : CargoFailure) × (failure_of (drop at plain) ≡ Some failure) × (e ≡ CargoFails failure (drop at plain) (drop at plain)))

-- the end of a text, from this offset on, is a heading, or else a failure of cargo
abbrev pub EndSays : List ℕ → ℕ → EventView → Type 0
EndSays plain at e =
    EndsWithHeading plain at e ⊎ (((k : ℕ) (other : EventView) → ¬ EndsWithHeading plain k other) × EndsWithFailure plain at e)

-- the line is a print
abbrev pub IsPrint : List ℕ → EventView → Type 0
IsPrint line e = (plain : List ℕ) × IsPlain line plain × (e ≡ Prints (line_text line) plain)

-- A line without JSON with this plain text is a heading or a failure of cargo, or a print that may have one of these at its end. The text in front of
-- that is a print of its own, before it.
abbrev pub TextSays : List ℕ → List ℕ → Option EventView → EventView → Type 0
TextSays line plain before e =
    ((before ≡ None) × CargoSays (line_text line) (without_spaces plain) e)
    ⊎ (((other : EventView) → ¬ CargoSays (line_text line) (without_spaces plain) other)
    × (((at : ℕ) × EndSays plain at e × (before ≡ Some (Prints (take at plain) (take at plain))))
    ⊎ (((at : ℕ) (other : EventView) → ¬ EndSays plain at other) × (before ≡ None) × (e ≡ Prints (line_text line) plain))))

-- The line says this event, and perhaps a print before it: what its JSON object says, a print if the JSON is no event, or what its text says.
abbrev pub EventSays : List ℕ → Option EventView → EventView → Type 0
EventSays line before e =
    ((before ≡ None) × ((at : ℕ) × HoldsEvent line at e))
    ⊎ (((at : ℕ) (other : EventView) → ¬ HoldsEvent line at other)
    × (((before ≡ None) × ((at : ℕ) × (d : Data) × Holds line at d) × IsPrint line e)
    ⊎ (((at : ℕ) (d : Data) → ¬ Holds line at d) × ((plain : List ℕ) × IsPlain line plain × TextSays line plain before e))))

-- the line says these events, in this order: perhaps a print, an event, and perhaps that the text that is no event is damaged
pub record LineSays (line : List ℕ) (events : List EventView) : Type 0 where
  pub before : Option EventView
  pub event : EventView
  pub rest : Option ℕ
  pub damage : Option EventView
  pub says : EventSays line before event
  pub is_rest : RestOf line rest
  pub damaged : MatchOption rest (damage ≡ None) (λ size. IsDamage (take size line) damage)
  pub are : events ≡ option_to_list before ++ event ∷ option_to_list damage
