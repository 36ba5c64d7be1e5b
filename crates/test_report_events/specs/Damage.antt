-- Text that says that a test, a suite or a benchmark failed, though it is no event.
use Rattle.std.specs.Prelude.{◌≡◌, ◌⊎◌, ◌++◌, ◌∷◌, ℕ, List, Option, Some, None, codes}
use Rattle.test_report_events.specs.Event.{DamagedLine, EventView}
use Rattle.test_report_events.specs.Plain.{line_text}
use Rattle.test_report_events.specs.Time.{without_spaces}

-- a text begins with a colon, which may be between spaces, and this value
pub record IsFollowedBy (text value : List ℕ) : Type 0 where
  pub after : List ℕ
  pub back : List ℕ
  pub colon : without_spaces text ≡ 58 ∷ after
  pub is : without_spaces after ≡ value ++ back

-- a text has this key in it, and this value after it
pub record HasMember (text key value : List ℕ) : Type 0 where
  pub front : List ℕ
  pub back : List ℕ
  pub is : text ≡ front ++ (key ++ back)
  pub followed : IsFollowedBy back value

-- a text has the type of a test, a suite or a benchmark in it
abbrev pub HasType : List ℕ → Type 0
HasType text =
    HasMember text (codes "\"type\"") (codes "\"test\"")
    ⊎ (HasMember text (codes "\"type\"") (codes "\"suite\"") ⊎ HasMember text (codes "\"type\"") (codes "\"bench\""))

-- a text says that one of these failed: it has, in any order, the type and the event in it
abbrev pub SaysFailure : List ℕ → Type 0
SaysFailure text = HasType text × HasMember text (codes "\"event\"") (codes "\"failed\"")

-- a text that is no event is damaged if it says a failure
abbrev pub IsDamage : List ℕ → Option EventView → Type 0
IsDamage text None = ¬ SaysFailure text
IsDamage text (Some e) = SaysFailure text × (e ≡ DamagedLine (line_text text))
