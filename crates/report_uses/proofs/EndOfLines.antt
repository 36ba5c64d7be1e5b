-- Lemmas on the caller of `test_report_run`.
use Rattle.std.proofs.Common.{◌≡◌, ◌≤◌, ◌∙◌, ◌+◌, ◌<◌, ℕ, List, [], ◌∷◌, ◌++◌, Bor, ap, get_or, length, map, subst, sym, take}
use Rattle.std.proofs.lemmas.List.{append-nil, map-append, take_all, take_more}
use Rattle.std.proofs.lemmas.List.Concat.{flat_map-append}
use Rattle.std.proofs.lemmas.List.Sums.{fold-append}
use Rattle.std.specs.List.{AllZip, flat_map}
use Rattle.test_report_events.specs.Event.{EventView}
use Rattle.test_report_events.specs.Line.{LineSays}
use Rattle.test_report_run.specs.Run.{RunState, after, run_after, run_settings, run_start}

-- the run before its first line
abbrev start : RunState
start = run_start (run_settings 60000000 [])

-- all events of lines
abbrev in_order : List (List EventView) → List EventView
in_order events = flat_map (λ line. line) events

-- these lines have events, and this is the run after these events
pub record IsRunOf (lines : List (List ℕ)) (run : RunState) : Type 0 where
  pub events : List (List EventView)
  pub say : AllZip LineSays lines events
  pub is : run ≡ run_after start (in_order events)

-- one more line, and its events
says-more : (lines : List (List ℕ)) (events : List (List EventView)) (line : List ℕ) (own : List EventView) → AllZip LineSays lines events → LineSays line own
    → AllZip LineSays (lines ++ line ∷ []) (events ++ own ∷ [])
says-more [] [] line own p q = (q, tt)
says-more [] (e ∷ es) line own p q = absurd p
says-more (l ∷ ls) [] line own p q = absurd p
says-more (l ∷ ls) (e ∷ es) line own p q = (p.0, says-more ls es line own p.1 q)

after-more : (events : List (List EventView)) (own : List EventView)
    → run_after start (in_order (events ++ own ∷ [])) ≡ run_after (run_after start (in_order events)) own
after-more events own =
    ap (run_after start) (flat_map-append (λ line. line) events (own ∷ []) ∙ ap (λ more. in_order events ++ more) (append-nil own))
    ∙ fold-append after start (in_order events) own

-- the run after one more of these lines
pub run-more : (lines : List (Bor (List ℕ))) (i : ℕ) (d : Bor (List ℕ)) (own : List EventView) (old new : RunState) → i < length lines
    → IsRunOf (map (λ l. l.now) (take i lines)) old → LineSays (get_or lines i d).now own → new ≡ run_after old own
    → IsRunOf (map (λ l. l.now) (take (i + 1) lines)) new
run-more lines i d own old new few run says step =
    let line = get_or lines i d in
    let seen = ap (map (λ l. l.now)) (take_more lines i d few) ∙ map-append (λ l. l.now) (take i lines) (line ∷ []) in
    record {
      events = run.events ++ own ∷ [];
      say =
          subst (λ ls. AllZip LineSays ls (run.events ++ own ∷ [])) (sym seen)
          (says-more (map (λ l. l.now) (take i lines)) run.events line.now own run.say says);
      is = step ∙ ap (λ r. run_after r own) run.is ∙ sym (after-more run.events own);
    }

-- the run after all of these lines
pub run-of-all : (lines : List (Bor (List ℕ))) (i : ℕ) (run : RunState) → length lines ≤ i → IsRunOf (map (λ l. l.now) (take i lines)) run
    → IsRunOf (map (λ l. l.now) lines) run
run-of-all lines i run all of = subst (λ ls. IsRunOf (map (λ l. l.now) ls) run) (take_all i lines all) of
