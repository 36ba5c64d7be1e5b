-- The lines of cargo and nextest, as plain text.
use Rattle.std.specs.Prelude.{◌≡◌, ◌≢◌, ◌<◌, ◌⊎◌, ◌-◌, ◌||◌, ◌&&◌, ◌==◌, ℕ, List, ◌++◌, ◌∷◌, codes, length, drop, take, Bool, Option, Some, None, nat_eq, nat_lt, if◌then◌else◌}
use Rattle.std.specs.Char.{is_ascii_digit, is_ascii_hexdigit}
use Rattle.std.specs.List.{All, AllPass, after_first, after_last, before_first, ends_with, list_all, slice_split, starts_with}
use Rattle.std.specs.Str.{bytes_eq}
use Rattle.test_report_events.specs.Event.{CargoFails, EventView, HeadingLine}
use Rattle.test_report_events.specs.declared.event.CargoFailure.{CargoFailure}
use Rattle.test_report_events.specs.declared.event.CargoFailure.TheVariants.{Build, Tests, Run}

-- the name of a crate: a text without a space
abbrev pub IsCrate : List ℕ → Type 0
IsCrate name = (0 < length name) × All (λ b. b ≢ 32) name

-- `Doc-tests NAME` announces the suites `NAME (doc tests)`
pub record IsDocTests (line suite : List ℕ) : Type 0 where
  pub name : List ℕ
  pub crate_name : IsCrate name
  pub is : line ≡ codes "Doc-tests " ++ name
  pub announces : suite ≡ name ++ codes " (doc tests)"

-- the file name of a path: what follows the last `/` or `\`
abbrev pub file_name : List ℕ → List ℕ
file_name path = after_last (λ b. b == 47 || b == 92) path

-- a file name without `.exe` at its end
unfoldable pub without_exe : List ℕ → List ℕ
without_exe file = if ends_with nat_eq file (codes ".exe") then take (length file - 4) file else file

-- the text is a name, a hyphen and 16 hexadecimal digits
pub record IsHashed (text name : List ℕ) : Type 0 where
  pub hash : List ℕ
  pub size : length hash ≡ 16
  pub digits : AllPass is_ascii_hexdigit hash
  pub is : text ≡ name ++ (codes "-" ++ hash)

-- the test binary at a path has this name
abbrev pub IsBinary : List ℕ → List ℕ → Type 0
IsBinary path name = IsHashed (without_exe (file_name path)) name

-- the text is `TARGET (PATH)`, cut at its last ` (`
pub record IsTarget (text target path : List ℕ) : Type 0 where
  pub some : 0 < length target
  pub is : text ≡ target ++ (codes " (" ++ (path ++ codes ")"))
  pub last : (front back : List ℕ) → path ++ codes ")" ≢ front ++ (codes " (" ++ back)

-- `Running TARGET (PATH)` announces the suites `NAME (TARGET)`, where NAME is that of the binary at PATH
pub record IsRunning (line suite path : List ℕ) : Type 0 where
  pub text : List ℕ
  pub target : List ℕ
  pub name : List ℕ
  pub is : line ≡ codes "Running " ++ text
  pub cut : IsTarget text target path
  pub binary : IsBinary path name
  pub announces : suite ≡ name ++ (codes " (" ++ (target ++ codes ")"))

-- a word of a command that is the path of a test binary with this name: no assignment to a variable
abbrev pub IsProgram : List ℕ → List ℕ → Type 0
IsProgram word name = All (λ b. b ≢ 61) word × IsBinary word name

-- of words divided at spaces this path is the first that is a program, and this is its name
pub record IsFirstProgram (words path name : List ℕ) : Type 0 where
  pub earlier : List (List ℕ)
  pub later : List (List ℕ)
  pub divided : slice_split (λ b. b == 32) words ≡ earlier ++ path ∷ later
  pub others : All (λ word. (other : List ℕ) → ¬ IsProgram word other) earlier
  pub program : IsProgram path name

-- ``Running `WORDS` ``, as `cargo test -v` writes it, announces the suites NAME, where NAME is that of the first program in WORDS
pub record IsCommand (line suite path : List ℕ) : Type 0 where
  pub words : List ℕ
  pub is : line ≡ codes "Running `" ++ (words ++ codes "`")
  pub first : IsFirstProgram words path suite

-- the line is a heading, which announces these suites of the binary at this path. Documentation tests have no path
abbrev pub IsHeading : List ℕ → List ℕ → Option (List ℕ) → Type 0
IsHeading line suite None = IsDocTests line suite
IsHeading line suite (Some path) = IsRunning line suite path ⊎ IsCommand line suite path

-- the line begins with these bytes
abbrev pub begins : List ℕ → List ℕ → Bool
begins line front = starts_with nat_eq line front

-- `N target failed:` or `N targets failed:`
unfoldable pub is_targets_failed : List ℕ → Bool
is_targets_failed error =
    let number = before_first (λ b. b == 32) error in
    let words = after_first (λ b. b == 32) error in
    nat_lt 0 (length number)
    && (list_all is_ascii_digit number && (bytes_eq words (codes "target failed:") || bytes_eq words (codes "targets failed:")))

-- what a line reports as failed
unfoldable pub failure_of : List ℕ → Option CargoFailure
failure_of line =
    if begins line (codes "error: could not compile ") then Some Build
    else if begins line (codes "error: failed to run custom build command for ") then Some Build
    else if begins line (codes "error: build script logged errors") then Some Build
    else if begins line (codes "error: test failed") then Some Tests
    else if begins line (codes "error: doctest failed") then Some Tests
    else if begins line (codes "error: bench failed") then Some Tests
    else if begins line (codes "error: no test target named ") then Some Tests
    else if begins line (codes "error: creating test list failed") then Some Tests
    else if begins line (codes "error: setup script failed") then Some Tests
    else if begins line (codes "error: test run failed") then Some Run
    else if begins line (codes "error: ") && is_targets_failed (drop 7 line) then Some Run
    else None

-- a text is a heading or a failure of cargo. A failure also has the text that people see.
abbrev pub CargoSays : List ℕ → List ℕ → EventView → Type 0
CargoSays shown text e =
    ((suite : List ℕ) × (path : Option (List ℕ)) × IsHeading text suite path × (e ≡ HeadingLine suite path))
    ⊎ ((failure : CargoFailure) × (failure_of text ≡ Some failure) × (e ≡ CargoFails failure shown text))
