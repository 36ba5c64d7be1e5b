use Rattle.output_slice.proofs.Words.{◌≡◌, ◌-◌, ◌≤◌, ℕ, List, true, drop, get_or, eq-eqb, get_or-drop, length-drop, arith, take_rest, is_byte}
use Rattle.output_slice.proofs.OccursLemmas.{is-first}
use Rattle.output_slice.proofs.lines.next_byte.Goals as goal

-- the byte that is searched for passes the test, at its offset in the bytes from `from` on
passes : (b : List ℕ) (x from k : ℕ) → from ≤ k → get_or b k 0 ≡ x → is_byte x (get_or (drop from b) (k - from) 0) ≡ true
passes b x from k low is = eq-eqb _ x (grind (arith, get_or-drop))

pub returns : goal.returns
returns c =
    let h = rw take_rest at c.in_ok-gap.ensures in
    is-first _ c.args.from _ _ (omega arith) (grind (arith, length-drop)) (λ k low up is.
    h.0.before (k - c.args.from) (omega arith) (omega arith) (passes _ c.args.byte c.args.from k low is)) (grind (arith, get_or-drop))

pub returns-in_err-gap : goal.returns-in_err-gap
returns-in_err-gap c = rw c.from_residual.ensures λ k low up is.
    let size = length-drop c.args.from c.args.bytes.now in
    (rw take_rest at c.in_err-gap.ensures) (k - c.args.from) (omega arith) (omega arith) (passes _ c.args.byte c.args.from k low is)
