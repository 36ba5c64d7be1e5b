-- The last attempt of a test decides its view, and the view decides its levels.
use Rattle.std.proofs.Common.{◌≡◌, suc, ◌-◌, ◌<◌, List, [], ◌∷◌, ◌++◌, length, get_or, take, drop, drop-cons, refl, ap, sym, ◌∙◌, arith, lt-ltb}
use Rattle.std.specs.Prelude.{Some}
use Rattle.std.proofs.Math.Seq.{take-length, take-suc}
use Rattle.std.proofs.lemmas.Bool.{or_right}
use Rattle.std.proofs.lemmas.List.{get_or_push, length_push, take_rest}
use Rattle.std.proofs.lemmas.Option.{slice_get_read}
use Rattle.run_events_attempts.specs.Description.{ComesTo, HasFinalLevel, described_final_level, described_level, is_success_description}
use Rattle.run_events_results.specs.Level.{final_level_of, level_of}
use Rattle.run_events_results.specs.Results.{succeeds}
use Rattle.run_events_attempts.specs.Attempts.{attempts_of, last_of, flaky_result_of, view_of}
use Rattle.run_events_attempts.specs.declared.attempts.ExecuteStatus.{ExecuteStatus}
use Rattle.run_events_attempts.specs.declared.attempts.description.ExecutionDescription.{ExecutionDescription}
use Rattle.run_events_attempts.specs.declared.attempts.description.ExecutionDescription.TheVariants.{Failure, Flaky, Success}
use Rattle.run_events_attempts.specs.declared.attempts.statuses.ExecutionStatuses.{ExecutionStatuses}

-- a list is its first element and the rest
pub first-rest : {X : Type 0} (xs : List X) (x : X) → 0 < length xs → x ≡ get_or xs 0 x → xs ≡ x ∷ take (length xs - 1) (drop 1 xs)
first-rest xs x some is = drop-cons xs 0 x some ∙ ap (λ y. y ∷ drop 1 xs) (sym is) ∙ ap (λ ys. x ∷ ys) (sym (take_rest xs 1))

-- a list of one element
pub only-one : {X : Type 0} (xs : List X) (x : X) → length xs ≡ 1 → x ≡ get_or xs 0 x → xs ≡ x ∷ []
only-one [] x one is = absurd (omega arith)
only-one (y ∷ []) x one is = ap (λ z. z ∷ []) (sym is)
only-one (y ∷ z ∷ zs) x one is = absurd (omega arith)

-- a list is all before its last element and that element
pub prior-last : {X : Type 0} (xs : List X) (x : X) → 0 < length xs → x ≡ get_or xs (length xs - 1) x
    → xs ≡ take (length xs - 1) xs ++ x ∷ []
prior-last xs x some is =
    let all : suc (length xs - 1) ≡ length xs = omega arith in
    sym (take-length xs) ∙ ap (λ n. take n xs) (sym all) ∙ take-suc xs (length xs - 1) x (omega arith)
    ∙ ap (λ y. take (length xs - 1) xs ++ y ∷ []) (sym is)

-- the first and the last element of a list of fewer than two are the same
pub same-ends : {X : Type 0} (xs : List X) (x y : X) → 0 < length xs → length xs < 2 → x ≡ get_or xs 0 x
    → y ≡ get_or xs (length xs - 1) y → x ≡ y
same-ends [] x y some few is-x is-y = absurd (omega arith)
same-ends (z ∷ []) x y some few is-x is-y = is-x ∙ sym is-y
same-ends (z ∷ w ∷ ws) x y some few is-x is-y = absurd (omega arith)

-- the element at the last position is the last one
pub last-at : {X : Type 0} (xs : List X) (x : X) → 0 < length xs → x ≡ get_or xs (length xs - 1) x → last_of xs ≡ Some x
last-at xs x some is = slice_get_read xs _ _ x refl (omega arith) is

-- the element that is pushed last is the last one
last-push : {X : Type 0} (xs : List X) (x : X) → last_of (xs ++ x ∷ []) ≡ Some x
last-push xs x =
    let size = length_push xs x in
    last-at (xs ++ x ∷ []) x (omega arith) (sym (get_or_push xs x x _ (omega arith)))

view-last : {S D : Type 0} (t : ExecutionStatuses S D) (last : ExecuteStatus S D) → last_of (attempts_of t) ≡ Some last
    → view_of t ≡ record { result = last.result; attempts = length (attempts_of t); is_slow = last.is_slow; flaky_result = flaky_result_of t }
view-last t last is = rw is refl

-- the levels of a description are those of the view
pub levels-described : {S D : Type 0} (t : ExecutionStatuses S D) (d : ExecutionDescription S D) → ComesTo (attempts_of t) (flaky_result_of t) d
    → (described_level d ≡ level_of (view_of t)) × (described_final_level d ≡ final_level_of (view_of t))
levels-described t (Success only) is =
    let view = view-last t only.now (ap last_of is.0) in
    let one : length (attempts_of t) ≡ 1 = ap length is.0 in
    (sym (ap level_of view ∙ rw (is.1, one) refl), sym (ap final_level_of view ∙ rw (is.1, one) refl))
levels-described t (Flaky last prior result) is =
    let view = view-last t last.now (ap last_of is.0 ∙ last-push prior.now last.now) in
    let more = lt-ltb 1 (length (attempts_of t)) (omega (arith, ap length is.0, length_push prior.now last.now, is.1)) in
    (sym (ap level_of view ∙ rw (is.2, more, is.3) refl), sym (ap final_level_of view ∙ rw (is.2, more, is.3) refl))
levels-described t (Failure first last retries) is =
    let view = view-last t last.now is.1 in
    (sym (ap level_of view ∙ rw is.2 refl), sym (ap final_level_of view ∙ rw is.2 refl))

last-result : {S D : Type 0} (t : ExecutionStatuses S D) (last : ExecuteStatus S D) → last_of (attempts_of t) ≡ Some last
    → succeeds last.result ≡ succeeds (view_of t).result
last-result t last is = rw is refl

-- a description is that of a success if and only if the last attempt succeeded
pub success-described : {S D : Type 0} (t : ExecutionStatuses S D) (d : ExecutionDescription S D) → ComesTo (attempts_of t) (flaky_result_of t) d
    → is_success_description d ≡ succeeds (view_of t).result
success-described t (Success only) is = sym is.1 ∙ last-result t only.now (ap last_of is.0)
success-described t (Flaky last prior result) is = sym is.2 ∙ last-result t last.now (ap last_of is.0 ∙ last-push prior.now last.now)
success-described t (Failure first last retries) is = sym is.2 ∙ last-result t last.now is.1

-- a description of attempts has a final level
pub has-final-level : {S D : Type 0} (t : ExecutionStatuses S D) (d : ExecutionDescription S D) → ComesTo (attempts_of t) (flaky_result_of t) d
    → HasFinalLevel d
has-final-level t (Success only) is = or_right _ _ is.1
has-final-level t (Flaky last prior result) is = tt
has-final-level t (Failure first last retries) is = tt
