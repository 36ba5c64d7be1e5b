-- A line gives one time.
use Rattle.std.proofs.Common.{◌≡◌, ◌∙◌, refl, ℕ, ◌+◌, arith, List, Option, Some, None, sym, ap, subst}
use Rattle.std.proofs.Math.Logic.{⊎_elim}
use Rattle.std.proofs.lemmas.Bool.{cases_lt}
use Rattle.std.specs.Prelude.{◌-◌, length, drop, take, codes, IsSome, MatchOption, option_and_then}
use Rattle.std.specs.Option.{SomeIff}
use Rattle.std.proofs.lemmas.List.{take_rest}
use Rattle.serde_json.specs.Find.{as_number, get}
use Rattle.bstr.specs.Find.{FindsLastNeedle}
use Rattle.serde_json.specs.Data.{Data}
use Rattle.test_report_events.specs.Said.{IsTime}
use Rattle.test_report_events.specs.Time.{GivesTime, IsSeconds, microseconds, number_text, time_key}

-- a text has one last offset in a line
one-last-needle : (line text : List ℕ) (a b : ℕ) → FindsLastNeedle line text (Some a) → FindsLastNeedle line text (Some b) → a ≡ b
one-last-needle line text a b h k =
    ⊎_elim (λ lt. absurd (h.0.after b (omega arith) k.0.high k.1))
    (λ le. ⊎_elim (λ gt. absurd (k.0.after a (omega arith) h.0.high h.1)) (λ ge. omega arith) (cases_lt b a)) (cases_lt a b)

one-time-given : (line : List ℕ) (a b : ℕ) → GivesTime line a → GivesTime line b → a ≡ b
one-time-given line a b h k =
    h.3 ∙ ap (λ at. microseconds (number_text (drop (at + 12) line))) (one-last-needle line _ h.0 k.0 h.1 k.1) ∙ sym k.3

-- what is read after the last key is the time of the line
pub time_after : (line number : List ℕ) (at : ℕ) (r : Option ℕ) → FindsLastNeedle line time_key (Some at)
    → number ≡ number_text (take (length line - (at + 12)) (drop (at + 12) line)) → SomeIff r (IsSeconds number) (microseconds number)
    → MatchOption r ((micros : ℕ) → ¬ GivesTime line micros) (GivesTime line)
time_after line number at r found is read =
    let whole : number ≡ number_text (drop (at + 12) line) = is ∙ ap number_text (take_rest line (at + 12)) in
    after r (subst (λ n. SomeIff r (IsSeconds n) (microseconds n)) whole read)
  where
    after : (r : Option ℕ) → SomeIff r (IsSeconds (number_text (drop (at + 12) line))) (microseconds (number_text (drop (at + 12) line)))
        → MatchOption r ((micros : ℕ) → ¬ GivesTime line micros) (GivesTime line)
    after None h = λ micros g. h (subst (λ k. IsSeconds (number_text (drop (k + 12) line))) (one-last-needle line _ g.0 at g.1 found) g.2)
    after (Some micros) h = (at, found, h.0, h.1)

pub no_time : (line : List ℕ) → FindsLastNeedle line time_key None → (micros : ℕ) → ¬ GivesTime line micros
no_time line none micros g = none g.0 (omega arith) g.1.0.high g.1.1

-- an object with a number has the time of the line
pub time_is : (line : List ℕ) (d : Data) (r : Option ℕ) → IsSome (option_and_then as_number (get (codes "exec_time") d))
    → MatchOption r ((micros : ℕ) → ¬ GivesTime line micros) (GivesTime line) → IsTime line d r
time_is line d None some given = λ micros h. given micros h.1
time_is line d (Some micros) some given = (some, given)

pub one-time : (line : List ℕ) (d : Data) (a b : Option ℕ) → IsTime line d a → IsTime line d b → a ≡ b
one-time line d None None h k = refl
one-time line d None (Some b) h k = absurd (h b k)
one-time line d (Some a) None h k = absurd (k a h)
one-time line d (Some a) (Some b) h k = ap (λ x. Some x) (one-time-given line a b h.1 k.1)
