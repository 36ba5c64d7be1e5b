-- What an object says is what the table gives, and nothing else.
use Rattle.std.proofs.Common.{◌≡◌, ◌≢◌, ◌∙◌, ℕ, Bool, true, false, List, Option, Some, None, IfSome, codes, inl, inr, cond, sym, ap, refl, subst, option_and_then}
use Rattle.std.proofs.Math.Logic.{⊎_elim}
use Rattle.std.proofs.lemmas.Bool.{cond-false, cond_both, false_from_ne_true, false≢true}
use Rattle.std.proofs.lemmas.Slice.Eq.{bytes_eq-Decides}
use Rattle.std.specs.Str.{bytes_eq}
use Rattle.serde_json.specs.Data.{Data}
use Rattle.test_report_events.proofs.Times.{one-time}
use Rattle.test_report_events.specs.Event.{EventView, SuiteEndView, TestEndView, SuiteStarts, SuiteEnds, TestStarts, TestEnds, TestIsSlow, OtherLine, HeadingLine, CargoFails, Prints, DamagedLine, CommandStarts, CommandOver, Cancels, AllEndEarly, ProgramContradicts}
use Rattle.test_report_events.specs.Program.{object_tells, said_by}
use Rattle.test_report_events.specs.Said.{EndsAs, HasEvent, HasName, HasType, HasVerdict, IsBeside, IsOther, ObjectSays, Says, is_text, text_of}
use Rattle.test_report_events.specs.Table.{bench_result, object_said, suite_end_said, suite_said, test_end_said, test_said, typed_said}
use Rattle.test_report_events.specs.declared.event.TestResult.{TestResult}
use Rattle.test_report_events.specs.declared.event.TestResult.TheVariants.{Ok, Failed, Ignored}

-- an option that is known by its value gives what the function gives there
at-some : {A B : Type 0} {o : Option A} {a : A} (f : A → Option B) → o ≡ Some a → option_and_then f o ≡ f a
at-some f h = ap (option_and_then f) h

some-one : {A : Type 0} {o : Option A} {a b : A} → o ≡ Some a → o ≡ Some b → a ≡ b
some-one h k = let e = sym h ∙ k in cc

-- a text is not another one
unlike : (w word : List ℕ) → w ≢ word → bytes_eq w word ≡ false
unlike w word h = false_from_ne_true _ (λ same. h ((bytes_eq-Decides w word).0 same))

other-word : (w word : List ℕ) → bytes_eq w word ≡ false → w ≢ word
other-word w word h same = false≢true (sym h ∙ (bytes_eq-Decides w word).1 same)

read-as : {o : Option (List ℕ)} {w : List ℕ} (word : List ℕ) → o ≡ Some w → bytes_eq w word ≡ true → o ≡ Some word
read-as {o} {w} word h same = h ∙ ap (λ x. Some x) ((bytes_eq-Decides w word).0 same)

-- what holds of each value of a function holds of what an option gives
each-some : {A B : Type 0} (P : B → Type 0) (f : A → Option B) (o : Option A) → ((a : A) → o ≡ Some a → IfSome (f a) P) → IfSome (option_and_then f o) P
each-some P f None h = tt
each-some P f (Some a) h = h a refl

module _ (d : Data) (time : Option ℕ) where
  -- one row of a table by words
  row : (w word : List ℕ) (x y : Option EventView) → ((bytes_eq w word ≡ true) → IfSome x (Says time d)) → ((w ≢ word) → IfSome y (Says time d))
      → IfSome (cond (bytes_eq w word) x y) (Says time d)
  row w word x y h k = cond_both (bytes_eq w word) x y (λ o. IfSome o (Says time d)) h (λ differ. k (other-word w word differ))

  suite-says : HasType d (codes "suite") → (w : List ℕ) → HasEvent d w → IfSome (suite_said time d w) (Says time d)
  unfolding suite_said
  suite-says of w is =
      row w (codes "started") _ _ (λ same. (of, read-as _ is same, refl, refl))
      (λ a. row w (codes "ok") _ _ (λ same. (of, read-as _ is same, refl, refl, refl, refl, refl, refl))
      (λ b. row w (codes "failed") _ _ (λ same. (of, read-as _ is same, refl, refl, refl, refl, refl, refl))
      (λ c. inr (inl (of, (w, is, (a, b, c)))))))

  test-says : HasType d (codes "test") → (name : List ℕ) → HasName d name → (w : List ℕ) → HasEvent d w → IfSome (test_said time d name w) (Says time d)
  unfolding test_said
  test-says of name named w is =
      row w (codes "started") _ _ (λ same. (of, read-as _ is same, named))
      (λ a. row w (codes "ok") _ _ (λ same. (inl (of, read-as _ is same), named, refl, refl, refl, refl))
      (λ b. row w (codes "failed") _ _ (λ same. ((inl of, read-as _ is same), named, refl, refl, refl, refl))
      (λ c. row w (codes "ignored") _ _ (λ same. ((of, read-as _ is same), named, refl, refl, refl, refl))
      (λ e. row w (codes "timeout") _ _ (λ same. (of, read-as _ is same, named))
      (λ f. inr (inr (of, (name, named), (w, is, (a, b, c, e, f)))))))))

  -- how a benchmark ended
  text-tells : (o : Option (List ℕ)) (word : List ℕ) → is_text o word ≡ true → o ≡ Some word
  text-tells None word h = absurd (false≢true h)
  text-tells (Some w) word h = ap (λ x. Some x) ((bytes_eq-Decides w word).0 h)

  text-told : (o : Option (List ℕ)) (word : List ℕ) → o ≡ Some word → is_text o word ≡ true
  text-told o word h = rw h ((bytes_eq-Decides word word).1 refl)

  bench-ends : HasType d (codes "bench") → EndsAs d (bench_result d)
  unfolding bench_result
  bench-ends of = cond_both (is_text (text_of (codes "event") d) (codes "failed")) Failed Ok (EndsAs d)
      (λ same. (inr of, text-tells _ _ same)) (λ differ. inr (of, λ failed. false≢true (sym differ ∙ text-told _ _ failed)))

  bench-says : HasType d (codes "bench")
      → IfSome (option_and_then (λ name. Some (TestEnds (test_end_said time d name (bench_result d)))) (text_of (codes "name") d)) (Says time d)
  bench-says of = each-some (Says time d) (λ name. Some (TestEnds (test_end_said time d name (bench_result d)))) (text_of (codes "name") d)
      (λ name named. (bench-ends of, named, refl, refl, refl, refl))

  pub object-says : IfSome (object_said time d) (Says time d)
  unfolding typed_said
  object-says = each-some (Says time d) (typed_said time d) (text_of (codes "type") d) (λ w is.
      row w (codes "report") _ _ (λ same. inl (inl (read-as _ is same)))
      (λ _. row w (codes "program") _ _ (λ same. inl (inr (inl (read-as _ is same))))
      (λ _. row w (codes "command") _ _ (λ same. inl (inr (inr (read-as _ is same))))
      (λ _. row w (codes "suite") _ _ (λ same. each-some (Says time d) _ _ (suite-says (read-as _ is same)))
      (λ _. row w (codes "test") _ _ (λ same. each-some (Says time d) _ _
      (λ name named. each-some (Says time d) _ _ (test-says (read-as _ is same) name named)))
      (λ _. row w (codes "bench") _ _ (λ same. bench-says (read-as _ is same))
      (λ _. tt)))))))

  -- the end of a test is told by the table
  end-only : (e : TestEndView) → Says time d (TestEnds e) → test_end_said time d e.name e.result ≡ e
  end-only e h = λ i. record { name = e.name; result = e.result; stdout = sym h.2 i; message = sym h.3 i; reason = sym h.4 i; time = sym h.5 i }

  suite-end-only : (e : SuiteEndView) → Says time d (SuiteEnds e) → suite_end_said time d e.failed_verdict ≡ e
  suite-end-only e h = λ i. record {
    key = sym h.2 i;
    failed_verdict = e.failed_verdict;
    passed = sym h.3 i;
    failed = sym h.4 i;
    ignored = sym h.5 i;
    measured = sym h.6 i;
    time = sym h.7 i;
  }

  of-suite : HasType d (codes "suite") → (w : List ℕ) → HasEvent d w → object_said time d ≡ suite_said time d w
  unfolding typed_said
  of-suite of w is = at-some (typed_said time d) of ∙ at-some (suite_said time d) is

  pub typed-test : typed_said time d (codes "test")
      ≡ option_and_then (λ name. option_and_then (test_said time d name) (text_of (codes "event") d)) (text_of (codes "name") d)
  unfolding typed_said
  typed-test = refl

  pub typed-bench : typed_said time d (codes "bench")
      ≡ option_and_then (λ name. Some (TestEnds (test_end_said time d name (bench_result d)))) (text_of (codes "name") d)
  unfolding typed_said
  typed-bench = refl

  of-test : HasType d (codes "test") → (name : List ℕ) → HasName d name → (w : List ℕ) → HasEvent d w → object_said time d ≡ test_said time d name w
  unfolding typed_said
  of-test of name named w is = at-some (typed_said time d) of
      ∙ (at-some (λ x. option_and_then (test_said time d x) (text_of (codes "event") d)) named ∙ at-some (test_said time d name) is)

  of-bench : HasType d (codes "bench") → (name : List ℕ) → HasName d name
      → object_said time d ≡ Some (TestEnds (test_end_said time d name (bench_result d)))
  unfolding typed_said
  of-bench of name named = at-some (typed_said time d) of ∙ at-some (λ x. Some (TestEnds (test_end_said time d x (bench_result d)))) named

  bench-failed : HasEvent d (codes "failed") → bench_result d ≡ Failed
  unfolding bench_result
  bench-failed is = rw is refl

  bench-passed : (¬ HasEvent d (codes "failed")) → bench_result d ≡ Ok
  unfolding bench_result
  bench-passed h = cond-false _ Failed Ok (false_from_ne_true _ (λ same. h (text-tells _ _ same)))

  -- an end has one row of the table
  end-row : (name : List ℕ) → HasName d name → (r : TestResult) → EndsAs d r → object_said time d ≡ Some (TestEnds (test_end_said time d name r))
  unfolding test_said
  end-row name named Ok (inl h) = of-test h.0 name named _ h.1
  end-row name named Ok (inr h) = of-bench h.0 name named ∙ ap (λ r. Some (TestEnds (test_end_said time d name r))) (bench-passed h.1)
  end-row name named Failed h = ⊎_elim (λ of. of-test of name named _ h.1)
      (λ of. of-bench of name named ∙ ap (λ r. Some (TestEnds (test_end_said time d name r))) (bench-failed h.1)) h.0
  end-row name named Ignored h = of-test h.0 name named _ h.1

  suite-end-row : (verdict : Bool) → HasType d (codes "suite") → HasVerdict d verdict → object_said time d ≡ Some (SuiteEnds (suite_end_said time d verdict))
  unfolding suite_said
  suite-end-row true of is = of-suite of _ is
  suite-end-row false of is = of-suite of _ is

  other-row : IsOther d → object_said time d ≡ Some OtherLine
  unfolding suite_said test_said typed_said
  other-row (inl (inl of)) = at-some (typed_said time d) of
  other-row (inl (inr (inl of))) = at-some (typed_said time d) of
  other-row (inl (inr (inr of))) = at-some (typed_said time d) of
  other-row (inr (inl h)) = of-suite h.0 h.1.0 h.1.1
      ∙ (let w = h.1.0 in let o = h.1.2 in rw (unlike w _ o.0, unlike w _ o.1, unlike w _ o.2) refl)
  other-row (inr (inr h)) = of-test h.0 h.1.0 h.1.1 h.2.0 h.2.1
      ∙ (let w = h.2.0 in let o = h.2.2 in rw (unlike w _ o.0, unlike w _ o.1, unlike w _ o.2, unlike w _ o.3, unlike w _ o.4) refl)

  pub object-only : (e : EventView) → Says time d e → object_said time d ≡ Some e
  unfolding suite_said test_said
  object-only (SuiteStarts key count) h = of-suite h.0 _ h.1 ∙ (λ i. Some (SuiteStarts (sym h.2 i) (sym h.3 i)))
  object-only (SuiteEnds e) h = suite-end-row e.failed_verdict h.0 h.1 ∙ ap (λ x. Some (SuiteEnds x)) (suite-end-only e h)
  object-only (TestStarts name) h = of-test h.0 name h.2 _ h.1
  object-only (TestEnds e) h = end-row e.name h.1 e.result h.0 ∙ ap (λ x. Some (TestEnds x)) (end-only e h)
  object-only (TestIsSlow name) h = of-test h.0 name h.2 _ h.1
  object-only OtherLine h = other-row h
  object-only (HeadingLine suite path) h = absurd h
  object-only (CargoFails failure text plain) h = absurd h
  object-only (Prints text plain) h = absurd h
  object-only (DamagedLine text) h = absurd h
  object-only (CommandStarts names) h = absurd h
  object-only (CommandOver end) h = absurd h
  object-only (Cancels reason) h = absurd h
  object-only (AllEndEarly end) h = absurd h
  object-only (ProgramContradicts fault) h = absurd h

  -- an object of a type that says nothing of a test still has an event
  beside : IsBeside d → object_said time d ≡ None → ⊥
  beside of none = let both = sym none ∙ other-row (inl of) in cc

  -- so an object without an event says nothing of a program
  untold : (o : Option (List ℕ)) → text_of (codes "type") d ≡ o → object_said time d ≡ None → object_tells d ≡ None
  untold None is none = ap (option_and_then (said_by d)) is
  untold (Some w) is none = ap (option_and_then (said_by d)) is
      ∙ rw (
        unlike w (codes "program") (λ same. beside (inr (inl (is ∙ ap (λ x. Some x) same))) none),
        unlike w (codes "command") (λ same. beside (inr (inr (is ∙ ap (λ x. Some x) same))) none),
      ) refl

  pub tells-none : object_said time d ≡ None → object_tells d ≡ None
  tells-none none = untold _ refl none

  -- nor does the object of a test
  pub test-tells : HasType d (codes "test") → object_tells d ≡ None
  test-tells of = at-some (said_by d) of

-- an object of a line says one event
pub one-object : (line : List ℕ) (d : Data) (a b : EventView) → ObjectSays line d a → ObjectSays line d b → a ≡ b
one-object line d a b h k =
    some-one (object-only d h.0 a h.2) (object-only d h.0 b (subst (λ t. Says t d b) (one-time line d k.0 h.0 k.1 h.1) k.2))
