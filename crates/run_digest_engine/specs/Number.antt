-- Numbers in the input.
use Rattle.std.specs.Prelude.{◌≡◌, ℕ, ◌+◌, ◌*◌, ◌^◌, ◌<◌, ◌≤◌, List, [], ◌∷◌, length, map, All}

-- the number that digits write in decimal, with the highest digit first
abbrev pub digits_value : List ℕ → ℕ
digits_value [] = 0
digits_value (d ∷ ds) = d * 10 ^ length ds + digits_value ds

-- the text is one to seven of the digits 0 to 9, and their value is n, at most a million
pub record SpellsNumber (text : List ℕ) (n : ℕ) : Type 0 where
  pub digits : List ℕ
  pub each : All (λ d. d < 10) digits
  pub written : text ≡ map (λ d. 48 + d) digits
  pub some : 0 < length digits
  pub few : length digits ≤ 7
  pub value : n ≡ digits_value digits
  pub limit : n ≤ 1000000
