-- The ids of sub-runs are different.
use Rattle.std.proofs.Common.{◌≡◌, ℕ, ◌<◌, ◌^◌, ◌↔◌, List, ◌++◌, take, Result, Ok, Err, IfOk, String, Global, string_bytes, refl, sym, ap, subst, ◌∙◌, inl, arith, append_assoc}
use Rattle.std.specs.Prelude.{codes}
use Rattle.std.specs.Fmt.{decimal}
use Rattle.std.proofs.lemmas.Fmt.{decimal_injective}
use Rattle.std.proofs.lemmas.List.{append_cancel_left}
use Rattle.std.proofs.lemmas.Option.{same_Some}
use Rattle.std.proofs.Math.Seq.{take-append_seam}
use Rattle.uuid.specs.Text.{hyphenated_text, lower, parsed_hyphenated}
use Rattle.uuid.proofs.TextLemmas.{by_index_length}
use Rattle.uuid.proofs.RoundTrips.{parses_hyphenated_text}
use Rattle.run_events.specs.Progress.{IsRunId, TellsApart, sub_run_id}

same_run : (a b : List ℕ) → IsRunId a → IsRunId b → hyphenated_text lower a ≡ hyphenated_text lower b → a ≡ b
same_run a b ida idb e =
    same_Some a b (parses_hyphenated_text lower a (inl refl) ida.bytes ida.in_range ∙ ap parsed_hyphenated e
    ∙ sym (parses_hyphenated_text lower b (inl refl) idb.bytes idb.in_range))

-- an id begins with the text of its run, which is as long as that of any other run
front : (run : List ℕ) (n : ℕ) → take 36 (hyphenated_text lower run ++ codes ":@stress-" ++ decimal n) ≡ hyphenated_text lower run
front run n =
    let text = hyphenated_text lower run in
    let rest = codes ":@stress-" ++ decimal n in
    rw append_assoc (subst (λ k. take k (text ++ rest) ≡ text) (by_index_length 36 _) (take-append_seam text rest))

-- two ids are equal if and only if their runs and their counts are equal
pub ids_tell_apart : (a b : List ℕ) (m n : ℕ) → IsRunId a → IsRunId b → m < 2 ^ 32 → n < 2 ^ 32
    → (sub_run_id a m ≡ sub_run_id b n) ↔ ((a ≡ b) × (m ≡ n))
unfolding sub_run_id
ids_tell_apart a b m n ida idb small_m small_n = (
  λ e. let ids : hyphenated_text lower a ≡ hyphenated_text lower b = sym (front a m) ∙ ap (take 36) e ∙ front b n in (
    same_run a b ida idb ids,
    decimal_injective m n (omega arith) (omega arith)
        (append_cancel_left (hyphenated_text lower b ++ codes ":@stress-") (decimal m) (decimal n) (rw ids at e)),
  ),
  λ h. cc,
)

-- the text that is written is the id
pub written_id : {E : Type 0} (r : Result (String Global) E) (run : List ℕ) (m n : ℕ) → m ≡ n
    → IfOk r (λ s. string_bytes s ≡ hyphenated_text lower run ++ (codes ":@stress-" ++ decimal m)) → IfOk r (λ s. string_bytes s ≡ sub_run_id run n)
unfolding sub_run_id
written_id (Ok s) run m n e h = rw (append_assoc, ← e) h
written_id (Err x) run m n e h = tt

-- and it is the id of no other sub-run
pub written_alone : {E : Type 0} (r : Result (String Global) E) (run : List ℕ) (n : ℕ) → IsRunId run → n < 2 ^ 32
    → IfOk r (λ s. string_bytes s ≡ sub_run_id run n) → IfOk r (λ s. TellsApart (string_bytes s) run n)
written_alone (Ok s) run n id small is_id = λ other count other_id small_count. rw is_id (ids_tell_apart run other n count id other_id small small_count)
written_alone (Err x) run n id small is_id = tt
