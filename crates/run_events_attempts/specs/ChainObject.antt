-- Definitions for the private steps between an error chain and its JSON value.
use Rattle.std.specs.Prelude.{ℕ, List, codes}
use Rattle.std.specs.List.{filter_map}
use Rattle.serde_json.specs.Data.{Data, string, object, no_members, member}
use Rattle.serde_json.specs.Find.{as_str}
use Rattle.serde_json.specs.View.{view}
use Rattle.serde_json.specs.declared.value.Value.{Value}
use Rattle.run_events_attempts.specs.ErrorChain.{ErrorChain}
use Rattle.run_events_attempts.specs.ChainValue.{text_list}

-- the object that is written for a chain, with its members in the order of their keys
abbrev pub chain_object : ErrorChain → Data
chain_object c =
    object (member (codes "causes") (text_list c.causes)
    (member (codes "message") (string c.message) no_members))

-- the texts among values, in order
abbrev pub texts_of : List Value → List (List ℕ)
texts_of vs = filter_map (λ v. as_str (view v)) vs
