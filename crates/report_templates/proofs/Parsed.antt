-- What is computed of a parsed text holds of its parts.
use Rattle.std.proofs.Common.{◌≡◌, refl, Bool, true, false, Option, Some, None, unwrap_or}
use Rattle.std.proofs.lemmas.Bool.{false≢true}
use Rattle.std.specs.Option.{IsSome}
use Rattle.template.specs.Template.{NoParts, Parts}

-- there are parts, and they pass a test
abbrev pub passes : (Parts → Bool) → Option Parts → Bool
passes test None = false
passes test (Some ps) = test ps

pub passed : (test : Parts → Bool) (o : Option Parts) → passes test o ≡ true → test (unwrap_or o NoParts) ≡ true
passed test None h = absurd (false≢true h)
passed test (Some ps) h = h

pub parts-of : (o : Option Parts) → IsSome o → o ≡ Some (unwrap_or o NoParts)
parts-of None h = absurd (false≢true h)
parts-of (Some ps) h = refl
