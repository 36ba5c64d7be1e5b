-- An error and its causes, as texts.
use Rattle.std.specs.Prelude.{ℕ, ◌+◌, List, [], ◌∷◌, length}

-- a message and the messages of its causes, the nearest cause first
pub record ErrorChain : Type 0 where
  pub message : List ℕ
  pub causes : List (List ℕ)

-- the chain as a list of texts, which is never empty
abbrev pub texts : ErrorChain → List (List ℕ)
texts c = c.message ∷ c.causes

-- the number of texts of a chain
abbrev pub text_count : ErrorChain → ℕ
text_count c = length c.causes + 1

-- each cause, as the chain that begins with it
abbrev pub cause_chains : List (List ℕ) → List ErrorChain
cause_chains [] = []
cause_chains (t ∷ ts) = record { message = t; causes = ts } ∷ cause_chains ts
