-- An error chain as a JSON value.
use Rattle.std.specs.Prelude.{◌≡◌, ◌⊎◌, ℕ, List, codes, map, Some, IsSome}
use Rattle.serde_json.specs.Data.{Data, string, array}
use Rattle.serde_json.specs.Find.{get}
use Rattle.serde_json.specs.View.{items_of}
use Rattle.run_events_attempts.specs.ErrorChain.{ErrorChain}

-- texts as a JSON list
abbrev pub text_list : List (List ℕ) → Data
text_list ts = array (items_of (map string ts))

-- an object with exactly two members, `message` and `causes`
pub record IsChainValue (d : Data) (c : ErrorChain) : Type 0 where
  pub message : get (codes "message") d ≡ Some (string c.message)
  pub causes : get (codes "causes") d ≡ Some (text_list c.causes)
  pub only : (key : List ℕ) → IsSome (get key d) → (key ≡ codes "message") ⊎ (key ≡ codes "causes")
