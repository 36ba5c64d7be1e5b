-- Errors as JSON text.
use Rattle.std.specs.Prelude.{◌≢◌, ℕ, List, Option, None, Some, option_and_then, Result, Ok, Err}
use Rattle.serde_json.specs.Read.{read}
use Rattle.run_events.specs.ChainReading.{read_chain}
use Rattle.run_events.specs.ErrorChain.{ErrorChain}
use Rattle.run_events_attempts.specs.declared.chain.json.FromValueError.{FromValueError}
use Rattle.uses.specs.declared.recorder.LoadError.{LoadError}
use Rattle.uses.specs.declared.recorder.LoadError.TheVariants.{OutOfMemory}

-- the chain that a value is read as, or `None` if it is refused
abbrev pub ok_chain : Result ErrorChain FromValueError → Option ErrorChain
ok_chain (Ok c) = Some c
ok_chain (Err refusal) = None

-- the chain that the value of a JSON text is read as, or `None`
abbrev pub chain_in : List ℕ → Option ErrorChain
chain_in text = option_and_then (λ d. ok_chain (read_chain d)) (read text)

-- the text was refused for another reason than memory
abbrev pub IsRefusal : LoadError → Type 0
IsRefusal e = e ≢ OutOfMemory
