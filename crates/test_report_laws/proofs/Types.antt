-- The types that the run keeps to itself. Each is the type of what a definition takes.
use Rattle.test_report_run.specs.Over.{initial_of, lost}
use Rattle.test_report_run.specs.Said.{numbers_of}

-- what a function takes, first and second
abbrev first_of : {A B : Type 0} → (A → B) → Type 0
first_of {A} {B} f = A

abbrev second_of : {A B C : Type 0} → (A → B → C) → Type 0
second_of {A} {B} {C} f = B

-- what a last line explains
abbrev pub Explanation : Type 0
Explanation = first_of lost

-- what is left of a suite that ends: its tests that were not run, and its time
abbrev pub Rest : Type 0
Rest = second_of initial_of

-- what the last lines of a suite said
abbrev pub Said : Type 0
Said = first_of numbers_of
