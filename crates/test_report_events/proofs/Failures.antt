-- Chains of `if` in which several branches have the same value.
use Rattle.std.proofs.Common.{◌≡◌, ◌∙◌, ◌||◌, if◌then◌else◌, Bool, Option, true, false, refl, sym}
use Rattle.std.proofs.lemmas.Bool.{false≢true}
use Rattle.test_report_events.specs.declared.event.CargoFailure.{CargoFailure}

pub one_of_two : (a b : Bool) (x rest : Option CargoFailure) (any : Bool) → any ≡ (a || b) → any ≡ true → x ≡ (if a then x else if b then x else rest)
one_of_two true b x rest any is holds = refl
one_of_two false true x rest any is holds = refl
one_of_two false false x rest any is holds = absurd (false≢true (sym is ∙ holds))

pub none_of_two : (a b : Bool) (x rest : Option CargoFailure) (any : Bool) → any ≡ (a || b) → any ≡ false → rest ≡ (if a then x else if b then x else rest)
none_of_two true b x rest any is fails = absurd (false≢true (sym fails ∙ is))
none_of_two false true x rest any is fails = absurd (false≢true (sym fails ∙ is))
none_of_two false false x rest any is fails = refl

pub one_of_three : (a b c : Bool) (x rest : Option CargoFailure) (any : Bool) → any ≡ (a || (b || c)) → any ≡ true
    → x ≡ (if a then x else if b then x else if c then x else rest)
one_of_three true b c x rest any is holds = refl
one_of_three false true c x rest any is holds = refl
one_of_three false false true x rest any is holds = refl
one_of_three false false false x rest any is holds = absurd (false≢true (sym is ∙ holds))

pub none_of_three : (a b c : Bool) (x rest : Option CargoFailure) (any : Bool) → any ≡ (a || (b || c)) → any ≡ false
    → rest ≡ (if a then x else if b then x else if c then x else rest)
none_of_three true b c x rest any is fails = absurd (false≢true (sym fails ∙ is))
none_of_three false true c x rest any is fails = absurd (false≢true (sym fails ∙ is))
none_of_three false false true x rest any is fails = absurd (false≢true (sym fails ∙ is))
none_of_three false false false x rest any is fails = refl

pub one_of_six : (a b c d e f : Bool) (x rest : Option CargoFailure) (any : Bool) → any ≡ (a || (b || (c || (d || (e || f))))) → any ≡ true
    → x ≡ (if a then x else if b then x else if c then x else if d then x else if e then x else if f then x else rest)
one_of_six true b c d e f x rest any is holds = refl
one_of_six false true c d e f x rest any is holds = refl
one_of_six false false true d e f x rest any is holds = refl
one_of_six false false false d e f x rest any is holds = one_of_three d e f x rest any is holds

pub none_of_six : (a b c d e f : Bool) (x rest : Option CargoFailure) (any : Bool) → any ≡ (a || (b || (c || (d || (e || f))))) → any ≡ false
    → rest ≡ (if a then x else if b then x else if c then x else if d then x else if e then x else if f then x else rest)
none_of_six true b c d e f x rest any is fails = absurd (false≢true (sym fails ∙ is))
none_of_six false true c d e f x rest any is fails = absurd (false≢true (sym fails ∙ is))
none_of_six false false true d e f x rest any is fails = absurd (false≢true (sym fails ∙ is))
none_of_six false false false d e f x rest any is fails = none_of_three d e f x rest any is fails
