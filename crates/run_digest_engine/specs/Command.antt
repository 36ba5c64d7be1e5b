-- The command that the command-line arguments name.
use Rattle.std.specs.Prelude.{List, [], ◌∷◌, ℕ, Ok, Err, codes, if◌then◌else◌}
use Rattle.std.specs.Str.{bytes_eq}
use Rattle.std.specs.declared.result.Result.{Result}
use Rattle.run_digest_engine.specs.declared.fault.Fault.{Fault}
use Rattle.run_digest_engine.specs.declared.fault.Fault.TheVariants.{BadWord}
use Rattle.run_digest_engine.specs.declared.command.Command.{Command}
use Rattle.run_digest_engine.specs.declared.command.Command.TheVariants.{Count, Extract}

-- the command that the arguments name: the one whose name the only argument is, or `Count` if there is no argument
abbrev pub command_of : List (List ℕ) → Result Command Fault
command_of [] = Ok Count
command_of (word ∷ []) =
    if bytes_eq word (codes "extract") then Ok Extract
    else if bytes_eq word (codes "count") then Ok Count
    else Err BadWord
command_of _ = Err BadWord
