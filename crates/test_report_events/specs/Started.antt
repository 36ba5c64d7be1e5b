-- The lines that start tests, as Rust's harness and nextest write them.
use Rattle.std.specs.Prelude.{◌≡◌, ◌⊎◌, ◌++◌, ◌==◌, ◌&&◌, ℕ, Bool, List, codes, nat_le, not}

-- the byte is no quote, no backslash and not below 0x20, so a JSON string has it as it is
abbrev pub is_plain : ℕ → Bool
is_plain b = nat_le 32 b && not (b == 34) && not (b == 92)

-- the line that Rust's harness writes when a test starts, if its name has no escapes
abbrev pub harness_line : List ℕ → List ℕ
harness_line name = codes "{ \"type\": \"test\", \"event\": \"started\", \"name\": \"" ++ (name ++ codes "\" }")

-- the line that nextest writes then, on the same condition
abbrev pub nextest_line : List ℕ → List ℕ
nextest_line name = codes "{\"type\":\"test\",\"event\":\"started\",\"name\":\"" ++ (name ++ codes "\"}")

-- this is one of these lines, with these bytes between the quotes of the name
abbrev pub IsStartOf : List ℕ → List ℕ → Type 0
IsStartOf line name = (line ≡ harness_line name) ⊎ (line ≡ nextest_line name)
