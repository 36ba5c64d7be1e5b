-- Where a byte is last in a text.
use Rattle.std.proofs.Common.{◌≡◌, ℕ, suc, ◌<◌, List, [], ◌∷◌, ◌++◌, length, get_or, arith, refl, subst}

-- a byte is nowhere in a text
abbrev pub Lacks : ℕ → List ℕ → Type 0
Lacks c text = (i : ℕ) → i < length text → get_or text i 0 ≡ c → ⊥

pub lacks-later : (c : ℕ) (front back : List ℕ) → Lacks c (front ++ c ∷ back) → ⊥
lacks-later c [] back none = none 0 (omega arith) refl
lacks-later c (b ∷ front) back none = lacks-later c front back (λ i inside. none (suc i) (omega arith))

-- a text is cut in one way at the last place of a byte
pub cut-same : (c : ℕ) (a b f g : List ℕ) → a ++ c ∷ f ≡ b ++ c ∷ g → Lacks c f → Lacks c g → (a ≡ b) × (f ≡ g)
cut-same c [] [] f g same m n = (refl, cc)
cut-same c [] (y ∷ b) f g same m n = absurd (lacks-later c b g (let e : f ≡ b ++ c ∷ g = cc in subst (Lacks c) e m))
cut-same c (x ∷ a) [] f g same m n = absurd (lacks-later c a f (let e : g ≡ a ++ c ∷ f = cc in subst (Lacks c) e n))
cut-same c (x ∷ a) (y ∷ b) f g same m n = let tails : a ++ c ∷ f ≡ b ++ c ∷ g = cc in let rest = cut-same c a b f g tails m n in (cc, rest.1)
