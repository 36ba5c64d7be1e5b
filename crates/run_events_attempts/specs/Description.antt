-- The description of a test by its attempts, and the levels of a description.
use Rattle.std.specs.Prelude.{◌≡◌, ◌<◌, ◌||◌, Bool, true, false, List, [], ◌∷◌, ◌++◌, length, Option, Some}
use Rattle.run_events_results.specs.Level.{final_flaky_level, final_success_level, flaky_level, success_level}
use Rattle.run_events_results.specs.Results.{succeeds}
use Rattle.run_events_attempts.specs.Attempts.{last_of}
use Rattle.run_events_attempts.specs.declared.attempts.ExecuteStatus.{ExecuteStatus}
use Rattle.run_events_attempts.specs.declared.attempts.description.ExecutionDescription.{ExecutionDescription}
use Rattle.run_events_attempts.specs.declared.attempts.description.ExecutionDescription.TheVariants.{Failure, Flaky, Success}
use Rattle.run_events_results.specs.declared.config.FlakyResult.{FlakyResult}
use Rattle.run_events_results.specs.declared.levels.FinalStatusLevel.{FinalStatusLevel}
use Rattle.run_events_results.specs.declared.levels.FinalStatusLevel.TheVariants as final
use Rattle.run_events_results.specs.declared.levels.StatusLevel.{StatusLevel}
use Rattle.run_events_results.specs.declared.levels.StatusLevel.TheVariants as level

-- The description of attempts with a setting. One attempt that succeeded is a success. Several attempts of which the last
-- succeeded are flaky, with the last one, those before it, and the setting. Attempts of which the last did not succeed are a
-- failure, with the first, the last, and those after the first.
abbrev pub ComesTo : {S D : Type 0} → List (ExecuteStatus S D) → FlakyResult → ExecutionDescription S D → Type 0
ComesTo attempts setting (Success only) = (attempts ≡ only.now ∷ []) × (succeeds only.now.result ≡ true)
ComesTo attempts setting (Flaky last prior result) =
    (attempts ≡ prior.now ++ last.now ∷ []) × (0 < length prior.now) × (succeeds last.now.result ≡ true) × (result ≡ setting)
ComesTo attempts setting (Failure first last retries) =
    (attempts ≡ first.now ∷ retries.now) × (last_of attempts ≡ Some last.now) × (succeeds last.now.result ≡ false)

-- the last attempt of a description
abbrev pub last_described : {S D : Type 0} → ExecutionDescription S D → ExecuteStatus S D
last_described (Success only) = only.now
last_described (Flaky last prior result) = last.now
last_described (Failure first last retries) = last.now

-- the attempt of a success succeeded
abbrev pub IsConsistent : {S D : Type 0} → ExecutionDescription S D → Type 0
IsConsistent (Success only) = succeeds only.now.result ≡ true
IsConsistent _ = Unit {0}

-- the attempt of a success was slow or succeeded
abbrev pub HasFinalLevel : {S D : Type 0} → ExecutionDescription S D → Type 0
HasFinalLevel (Success only) = (only.now.is_slow || succeeds only.now.result) ≡ true
HasFinalLevel _ = Unit {0}

-- the level of a description
abbrev pub described_level : {S D : Type 0} → ExecutionDescription S D → Option StatusLevel
described_level (Success only) = success_level only.now.result
described_level (Flaky last prior result) = Some (flaky_level result)
described_level (Failure first last retries) = Some level.Fail

-- the final level of a description
abbrev pub described_final_level : {S D : Type 0} → ExecutionDescription S D → Option FinalStatusLevel
described_final_level (Success only) = final_success_level only.now.result only.now.is_slow
described_final_level (Flaky last prior result) = Some (final_flaky_level result)
described_final_level (Failure first last retries) = Some final.Fail

-- whether the setting for the output of successful tests applies: for every description except a failure
abbrev pub is_success_description : {S D : Type 0} → ExecutionDescription S D → Bool
is_success_description (Failure first last retries) = false
is_success_description _ = true
