-- The runs that lines describe, one line at a time, and the statistics of these runs: one more line at their end, the first
-- bad line, and that lines describe one list of runs only.
use Rattle.std.proofs.Common.{◌≡◌, ℕ, zero, suc, ◌+◌, ◌-◌, ◌<◌, ◌≤◌, List, [], ◌∷◌, ◌++◌, length, refl, ap, sym, ◌∙◌, subst, append_assoc, arith, rules, length-append, inl, inr}
use Rattle.std.specs.Prelude.{All, Some, codes, slice_get, Bool, Err, IfSome, IsErrAnd, IsErrOf, Ok, Option}
use Rattle.std.proofs.lemmas.List.{append-nil, map-append}
use Rattle.std.proofs.lemmas.List.Elements.{All-append, All-cons, All-head, All-nil, All-tail, All-push}
use Rattle.std.proofs.lemmas.Option.{slice_get_within, IfSome_then}
use Rattle.std.specs.declared.result.Result.{Result}
use Rattle.run_events_stats.specs.Counters.{UnitView, ScriptUnit, TestUnit, stats_of, with_script, with_test}
use Rattle.run_events_stats.specs.declared.stats.RunStart.{RunStart}
use Rattle.run_digest_engine.specs.Reading.{HasEntry, IsBadLine, IsReading, Run, SpellRun, SpellRuns, SpellUnits, HasReading, IsFirstBadLine, texts_of}
use Rattle.run_digest_engine.specs.Spelling.{SpellsStart, SpellsUnit}
use Rattle.run_digest_engine.proofs.Entries.{one_entry, one_unit, SpellsEntry}
use Rattle.run_digest_engine.proofs.Starts.{one_start}
use Rattle.run_events_stats.specs.Summary.{FailuresFit}
use Rattle.run_events_stats.specs.declared.stats.RunStats.{RunStats}
use Rattle.run_events_stats.proofs.Counting.{scripts-fit, stats_of-script, stats_of-test, tests-fit}
use Rattle.run_events_stats.proofs.Verdicts.{failures-fit}
use Rattle.run_digest_engine.specs.declared.fault.Fault.{Fault}
use Rattle.run_digest_engine.specs.declared.fault.Fault.TheVariants as faults
use Rattle.run_digest_engine.specs.Answer.{IsRefusal}
use Rattle.run_digest_engine.specs.Counted.{AreCounted, AreStats, Counts, HasRoom}
use Rattle.run_digest_engine.specs.Reader.{EntryView, SubRunEntry, UnitEntry}
use Rattle.run_digest_engine.specs.Report.{run_stats}

-- a run of which only the start is known
abbrev pub begun : RunStart → Run
begun start = record { start = start; units = [] }

-- a run with one more unit
abbrev pub with_unit : Run → UnitView → Run
with_unit run unit = record { start = run.start; units = run.units ++ unit ∷ [] }

-- the lines are those of the runs, one after another: the first run begins with this keyword, and the others with `sub-run`
abbrev pub SayRuns : List ℕ → List (List ℕ) → List Run → Type 0
SayRuns keyword lines [] = lines ≡ []
SayRuns keyword lines (run ∷ runs) =
    (own : List (List ℕ)) × (rest : List (List ℕ)) × (lines ≡ own ++ rest) × SpellRun keyword own run × SayRuns (codes "sub-run") rest runs

from_sub_runs : (lines : List (List ℕ)) (runs : List Run) → SpellRuns lines runs → SayRuns (codes "sub-run") lines runs
from_sub_runs lines [] none = none
from_sub_runs lines (run ∷ runs) (own, rest, divided, spelled, later) = (own, rest, divided, spelled, from_sub_runs rest runs later)

to_sub_runs : (lines : List (List ℕ)) (runs : List Run) → SayRuns (codes "sub-run") lines runs → SpellRuns lines runs
to_sub_runs lines [] none = none
to_sub_runs lines (run ∷ runs) (own, rest, divided, spelled, later) = (own, rest, divided, spelled, to_sub_runs rest runs later)

-- lines that describe at least one run, and are not too many, have this reading
pub reading-made : (lines : List (List ℕ)) (runs : List Run) → 0 < length lines → length lines ≤ 10000 → SayRuns (codes "run") lines runs → IsReading lines runs
reading-made lines [] some few none = absurd (omega (arith, some, ap length none))
reading-made lines (run ∷ runs) some few (own, rest, divided, spelled, later) = record {
  first = run;
  more = runs;
  begun = refl;
  own = own;
  rest = rest;
  divided = divided;
  few = few;
  run = spelled;
  sub_runs = to_sub_runs rest runs later;
}

-- a line that begins a run with this keyword
pub say-first : (keyword line : List ℕ) (start : RunStart) → SpellsStart keyword line start → SayRuns keyword (line ∷ []) (begun start ∷ [])
say-first keyword line start is = (line ∷ [], [], refl, record { first = line; others = []; divided = refl; start = is; units = tt }, refl)

units-more : (lines : List (List ℕ)) (units : List UnitView) (line : List ℕ) (unit : UnitView)
    → SpellUnits lines units → SpellsUnit line unit → SpellUnits (lines ++ line ∷ []) (units ++ unit ∷ [])
units-more [] [] line unit spelled is = (is, tt)
units-more (l ∷ lines) (u ∷ units) line unit spelled is = (spelled.0, units-more lines units line unit spelled.1 is)
units-more _ _ line unit spelled is = absurd spelled

-- one more line after those of the last run, which gives other runs
say-last : (keyword : List ℕ) (lines : List (List ℕ)) (over : List Run) (run : Run) (line : List ℕ) (runs : List Run)
    → ((word : List ℕ) (own : List (List ℕ)) → SpellRun word own run → SayRuns word (own ++ line ∷ []) runs)
    → SayRuns keyword lines (over ++ run ∷ []) → SayRuns keyword (lines ++ line ∷ []) (over ++ runs)
say-last keyword lines [] run line runs last (own, rest, divided, spelled, none) = rw (divided, none, append-nil) (last keyword own spelled)
say-last keyword lines (next ∷ over) run line runs last (own, rest, divided, spelled, later) =
    (own, rest ++ line ∷ [], rw (divided, append_assoc) refl, spelled, say-last (codes "sub-run") rest over run line runs last later)

-- one more line, which spells a unit of the last run
pub say-unit : (keyword : List ℕ) (lines : List (List ℕ)) (over : List Run) (run : Run) (line : List ℕ) (unit : UnitView)
    → SayRuns keyword lines (over ++ run ∷ []) → SpellsUnit line unit → SayRuns keyword (lines ++ line ∷ []) (over ++ with_unit run unit ∷ [])
say-unit keyword lines over run line unit said is =
    say-last keyword lines over run line (with_unit run unit ∷ []) (λ word own spelled. (
      own ++ line ∷ [],
      [],
      sym (append-nil (own ++ line ∷ [])),
      record {
        first = spelled.first;
        others = spelled.others ++ line ∷ [];
        divided = ap (λ ls. ls ++ line ∷ []) spelled.divided;
        start = spelled.start;
        units = units-more spelled.others run.units line unit spelled.units is;
      },
      refl,
    )) said

-- one more line, which begins a sub-run
pub say-sub_run : (keyword : List ℕ) (lines : List (List ℕ)) (over : List Run) (run : Run) (line : List ℕ) (start : RunStart)
    → SayRuns keyword lines (over ++ run ∷ []) → SpellsStart (codes "sub-run") line start
    → SayRuns keyword (lines ++ line ∷ []) ((over ++ run ∷ []) ++ begun start ∷ [])
say-sub_run keyword lines over run line start said is =
    let begins : SayRuns (codes "sub-run") (line ∷ []) (begun start ∷ []) = say-first (codes "sub-run") line start is in
    rw append_assoc (say-last keyword lines over run line (run ∷ begun start ∷ []) (λ word own spelled. (own, line ∷ [], refl, spelled, begins)) said)

-- each of these lines spells an entry
units_have : (lines : List (List ℕ)) (units : List UnitView) → SpellUnits lines units → All HasEntry lines
units_have [] units spelled = All-nil HasEntry
units_have (line ∷ lines) [] spelled = absurd spelled
units_have (line ∷ lines) (unit ∷ units) spelled = All-cons HasEntry line lines (inl (unit, spelled.0)) (units_have lines units spelled.1)

runs_have : (lines : List (List ℕ)) (runs : List Run) → SayRuns (codes "sub-run") lines runs → All HasEntry lines
runs_have lines [] none = rw none (All-nil HasEntry)
runs_have lines (run ∷ runs) (own, rest, divided, spelled, later) = rw (divided, spelled.divided) (All-cons HasEntry _ _ (inr (run.start, spelled.start))
    (All-append HasEntry spelled.others rest (units_have spelled.others run.units spelled.units) (runs_have rest runs later)))

-- a line that spells no entry comes after them
past_entries : (lines left : List (List ℕ)) (k : ℕ) (line : List ℕ) → All HasEntry lines → slice_get (lines ++ left) k ≡ Some line → ¬ HasEntry line
    → length lines ≤ k
past_entries [] left k line have at none = omega arith
past_entries (l ∷ lines) left zero line have at none = let same : l ≡ line = cc in absurd (none (subst HasEntry same (All-head HasEntry l lines have)))
past_entries (l ∷ lines) left (suc k) line have at none = omega (arith, past_entries lines left k line (All-tail HasEntry l lines have) at none)

-- the same after line 1
past_first : (first : List ℕ) (behind left : List (List ℕ)) (start : RunStart) (k : ℕ) → SpellsStart (codes "run") first start
    → All HasEntry behind → length behind < 10000 → IsBadLine (first ∷ (behind ++ left)) k → (length behind + 1 < k) × (k ≤ length behind + length left + 1)
past_first first behind left start k is have few (inl (one, none)) = absurd cc
past_first first behind left start k is have few (inr (inl (late, there))) = (omega (arith, late, few), omega (arith, there, length-append behind left))
past_first first behind left start zero is have few (inr (inr (positive, at))) = absurd (omega (arith, positive))
past_first first behind left start (suc zero) is have few (inr (inr (positive, (line, at, unread)))) =
    let same : first ≡ line = cc in
    absurd (unread (inl (refl, (start, rw same at is))))
past_first first behind left start (suc (suc k)) is have few (inr (inr (positive, (line, at, unread)))) =
    let place : suc k ≡ suc (suc k) - 1 = omega arith in
    let here : slice_get (behind ++ left) k ≡ Some line = ap (slice_get (first ∷ (behind ++ left))) place ∙ at in
    let past = past_entries behind left k line have here (λ entry. unread (inr (λ one. absurd (omega (arith, one)), entry))) in
    (omega (arith, past), omega (arith, slice_get_within (behind ++ left) k line here, length-append behind left))

-- lines that describe runs have no bad line
pub past_said : (said left : List (List ℕ)) (runs : List Run) (k : ℕ) → SayRuns (codes "run") said runs → 0 < length said → length said ≤ 10000
    → IsBadLine (said ++ left) k → (length said < k) × (k ≤ length said + length left)
past_said said left [] k none some few bad = absurd (omega (arith, some, ap length none))
past_said said left (run ∷ runs) k (own, rest, divided, spelled, later) some few bad =
    let behind : List (List ℕ) = spelled.others ++ rest in
    let whole : said ≡ spelled.first ∷ behind = divided ∙ ap (λ ls. ls ++ rest) spelled.divided in
    let have = All-append HasEntry spelled.others rest (units_have spelled.others run.units spelled.units) (runs_have rest runs later) in
    let past = past_first spelled.first behind left run.start k spelled.start have (omega (arith, few, ap length whole)) (rw whole at bad) in
    (omega (arith, past.0, ap length whole), omega (arith, past.1, ap length whole))

-- the line after some lines
pub line_behind : (lines : List (List ℕ)) (line : List ℕ) (rest : List (List ℕ)) → slice_get (lines ++ line ∷ rest) (length lines) ≡ Some line
line_behind [] line rest = refl
line_behind (l ∷ lines) line rest = line_behind lines line rest

-- the first of these lines, if there is one, spells no unit
abbrev NoUnitFirst : List (List ℕ) → Type 0
NoUnitFirst [] = Unit {0}
NoUnitFirst (line ∷ lines) = (unit : UnitView) → ¬ SpellsUnit line unit

no_unit_first : (lines : List (List ℕ)) (runs : List Run) → SayRuns (codes "sub-run") lines runs → NoUnitFirst lines
no_unit_first lines [] none = subst NoUnitFirst (sym none) tt
no_unit_first lines (run ∷ runs) (own, rest, divided, spelled, later) =
    subst NoUnitFirst (sym (divided ∙ ap (λ ls. ls ++ rest) spelled.divided)) (λ unit is. one_entry spelled.first unit run.start is spelled.start)

-- the units of a run, and the line after them
one_units : (a b : List (List ℕ)) (xs ys : List UnitView) (rest later : List (List ℕ)) → a ++ rest ≡ b ++ later → NoUnitFirst rest → NoUnitFirst later
    → SpellUnits a xs → SpellUnits b ys → (xs ≡ ys) × (rest ≡ later)
one_units [] [] [] [] rest later same none last first second = (refl, same)
one_units [] (k ∷ b) [] (y ∷ ys) rest later same none last first second = absurd (subst NoUnitFirst same none y second.0)
one_units (l ∷ a) [] (x ∷ xs) [] rest later same none last first second = absurd (subst NoUnitFirst (sym same) last x first.0)
one_units (l ∷ a) (k ∷ b) (x ∷ xs) (y ∷ ys) rest later same none last first second =
    let line : l ≡ k = cc in
    let unit : x ≡ y = one_unit k x y (rw line at first.0) second.0 in
    let lines : a ++ rest ≡ b ++ later = cc in
    let others = one_units a b xs ys rest later lines none last first.1 second.1 in
    (cc (unit, others.0), others.1)
one_units _ _ _ _ rest later same none last first second = absurd (search rules)

one_say : (keyword : List ℕ) (lines : List (List ℕ)) (a b : List Run) → SayRuns keyword lines a → SayRuns keyword lines b → a ≡ b
one_say keyword lines [] [] first second = refl
one_say keyword lines [] (y ∷ ys) none (own, rest, divided, spelled, later) = absurd (cc (spelled.divided))
one_say keyword lines (x ∷ xs) [] (own, rest, divided, spelled, later) none = absurd (cc (spelled.divided))
one_say keyword lines (x ∷ xs) (y ∷ ys) (own, rest, divided, s, later) (own', rest', divided', t, later') =
    let same : s.first ∷ (s.others ++ rest) ≡ t.first ∷ (t.others ++ rest') =
    sym (divided ∙ ap (λ ls. ls ++ rest) s.divided) ∙ (divided' ∙ ap (λ ls. ls ++ rest') t.divided) in
    let line : s.first ≡ t.first = cc in
    let start : x.start ≡ y.start = one_start keyword t.first x.start y.start (rw line at s.start) t.start in
    let lines : s.others ++ rest ≡ t.others ++ rest' = cc in
    let units = one_units s.others t.others x.units y.units rest rest' lines (no_unit_first rest xs later) (no_unit_first rest' ys later') s.units t.units in
    ap (λ r. record { start = r; units = x.units } ∷ xs) start
    ∙ ap (λ us. record { start = y.start; units = us } ∷ xs) units.0
    ∙ ap (λ runs. y ∷ runs) (one_say (codes "sub-run") rest' xs ys (rw units.1 at later) later')

-- lines describe at most one list of runs
pub one_reading : (lines : List (List ℕ)) (a b : List Run) → IsReading lines a → IsReading lines b → a ≡ b
one_reading lines a b first second =
    first.begun
    ∙ one_say (codes "run") lines (first.first ∷ first.more) (second.first ∷ second.more)
    (first.own, first.rest, first.divided, first.run, from_sub_runs first.rest first.more first.sub_runs)
    (second.own, second.rest, second.divided, second.run, from_sub_runs second.rest second.more second.sub_runs)
    ∙ sym second.begun

-- The lines before this number describe runs that are over, which have these statistics, and a current run, which has those
-- so far. These are the lines that are left.
pub record Going (all : List (List ℕ)) (number : ℕ) (runs : List RunStats) (stats : RunStats) (left : List (List ℕ)) : Type 0 where
  pub done : List (List ℕ)
  pub divided : all ≡ done ++ left
  pub place : number ≡ length done + 1
  pub few : length done ≤ 10000
  pub over : List Run
  pub run : Run
  pub said : SayRuns (codes "run") done (over ++ run ∷ [])
  pub over_counted : AreStats runs over
  pub counted : stats ≡ run_stats run
  pub short : length run.units < length done

-- line 1 began a run
pub going-first : (line : List ℕ) (left all : List (List ℕ)) (start : RunStart) (runs : List RunStats) (stats : RunStats) → all ≡ line ∷ left
    → SpellsStart (codes "run") line start → runs ≡ [] → stats ≡ stats_of [] start → Going all 2 runs stats left
going-first line left all start runs stats divided is none counted = record {
  done = line ∷ [];
  divided = divided;
  place = refl;
  few = omega arith;
  over = [];
  run = begun start;
  said = say-first (codes "run") line start is;
  over_counted = record { is = none; fit = rw none (All-nil FailuresFit) };
  counted = counted;
  short = omega arith;
}

room : (run : Run) (entry : EntryView) → length run.units < 10000 → HasRoom (run_stats run) entry
room run (UnitEntry (ScriptUnit r)) short = rw (← stats_of-script run.units r run.start)
    (scripts-fit (run.units ++ ScriptUnit r ∷ []) run.start (simp length-append (omega arith)))
room run (UnitEntry (TestUnit t)) short = rw (← stats_of-test run.units t run.start)
    (tests-fit (run.units ++ TestUnit t ∷ []) run.start (simp length-append (omega arith)))
room run (SubRunEntry start) short = tt

-- the counters have room for the entry of a line
pub has_room : {all left : List (List ℕ)} {number : ℕ} {runs : List RunStats} {stats : RunStats} (entry : EntryView)
    → Going all number runs stats left → HasRoom stats entry
has_room entry g = rw g.counted (room g.run entry (omega (arith, g.short, g.few)))

-- one more line, after which these runs are over and this run is the current one
going-more : {all rest : List (List ℕ)} {number : ℕ} {runs : List RunStats} {stats : RunStats} {line : List ℕ} (after : List RunStats) (next : RunStats)
    (over : List Run) (run : Run) (g : Going all number runs stats (line ∷ rest)) → number ≤ 10000
    → SayRuns (codes "run") (g.done ++ line ∷ []) (over ++ run ∷ [])
    → AreStats after over → next ≡ run_stats run → length run.units ≤ length g.done → Going all (number + 1) after next rest
going-more {rest = rest} {line = line} after next over run g few said over_counted counted short =
    let long = length-append g.done (line ∷ []) in
    record {
      done = g.done ++ line ∷ [];
      divided = g.divided ∙ sym (append_assoc g.done (line ∷ []) rest);
      place = omega (arith, g.place, long);
      few = omega (arith, g.place, few, long);
      over = over;
      run = run;
      said = said;
      over_counted = over_counted;
      counted = counted;
      short = omega (arith, short, long);
    }

-- the current run is over
over-more : {all left : List (List ℕ)} {number : ℕ} {runs : List RunStats} {stats : RunStats} → (g : Going all number runs stats left)
    → AreStats (runs ++ stats ∷ []) (g.over ++ g.run ∷ [])
over-more {runs = runs} {stats = stats} g =
    let fits = failures-fit g.run.units g.run.start (omega (arith, g.short, g.few)) in
    record {
      is = rw (g.over_counted.is, g.counted) (sym (map-append run_stats g.over (g.run ∷ [])));
      fit = All-push FailuresFit runs stats g.over_counted.fit (rw g.counted fits);
    }

-- a unit was counted into the current run
unit_counted : {runs after : List RunStats} {stats next : RunStats} (run : Run) (unit : UnitView) → stats ≡ run_stats run
    → Counts (UnitEntry unit) runs stats after next → (after ≡ runs) × (next ≡ run_stats (with_unit run unit))
unit_counted run (ScriptUnit r) so_far (same, is) = (same, is ∙ ap (λ s. with_script s r) so_far ∙ sym (stats_of-script run.units r run.start))
unit_counted run (TestUnit t) so_far (same, is) = (same, is ∙ ap (λ s. with_test s t) so_far ∙ sym (stats_of-test run.units t run.start))

-- one more line
pub going-entry : {all lines rest : List (List ℕ)} {number : ℕ} {runs after : List RunStats} {stats next : RunStats} (line : List ℕ) (entry : EntryView)
    → number ≤ 10000 → SpellsEntry line entry → lines ≡ line ∷ rest → Going all number runs stats lines → Counts entry runs stats after next
    → Going all (number + 1) after next rest
going-entry line (UnitEntry unit) few is cut going counts =
    let g = rw cut at going in
    let c = unit_counted g.run unit g.counted counts in
    going-more _ _ g.over (with_unit g.run unit) g few (say-unit (codes "run") g.done g.over g.run line unit g.said is) (rw c.0 g.over_counted) c.1
    (omega (arith, g.short, length-append g.run.units (unit ∷ [])))
going-entry line (SubRunEntry start) few is cut going (same, counted) =
    let g = rw cut at going in
    going-more _ _ (g.over ++ g.run ∷ []) (begun start) g few (say-sub_run (codes "run") g.done g.over g.run line start g.said is)
    (rw same (over-more g)) counted (omega arith)

-- no line before the number is bad
past_bad : {all left : List (List ℕ)} {number : ℕ} {runs : List RunStats} {stats : RunStats} → Going all number runs stats left
    → (k : ℕ) → IsBadLine all k → (number ≤ k) × (k < number + length left)
past_bad {left = left} g k bad =
    let past = past_said g.done left (g.over ++ g.run ∷ []) k g.said (omega (arith, g.short)) g.few (rw g.divided at bad) in
    (omega (arith, past.0, g.place), omega (arith, past.1, g.place))

-- no line is left
pub going-end : (all left : List (List ℕ)) (number : ℕ) (runs : List RunStats) (stats : RunStats) → left ≡ [] → Going all number runs stats left
    → AreCounted all (runs ++ stats ∷ [])
going-end all left number runs stats none g = record {
  good = λ k bad. let past = past_bad g k bad in omega (arith, past.0, past.1, ap length none);
  runs = g.over ++ g.run ∷ [];
  reading = rw (g.divided, none, append-nil) (reading-made g.done _ (omega (arith, g.short)) g.few g.said);
  stats_are = over-more g;
}

-- a line that spells nothing
pub going-bad : (all left rest : List (List ℕ)) (number : ℕ) (runs : List RunStats) (stats : RunStats) (line : List ℕ) → left ≡ line ∷ rest → ¬ HasEntry line
    → Going all number runs stats left → IsFirstBadLine all number
going-bad all left rest number runs stats line cut none g =
    let place : length g.done ≡ number - 1 = omega (arith, g.place) in
    let here : slice_get all (number - 1) ≡ Some line = rw (g.divided, cut, ← place) (line_behind g.done line rest) in
    (inr (inr (omega (arith, g.place), (line, here, no_reading))), λ k bad. (past_bad g k bad).0)
  where
    no_reading : ¬ HasReading number line
    no_reading (inl (first, start)) = absurd (omega (arith, first, g.place, g.short))
    no_reading (inr (other, entry)) = none entry

-- line 10,001
pub going-late : (all left rest : List (List ℕ)) (number : ℕ) (runs : List RunStats) (stats : RunStats) (line : List ℕ) → left ≡ line ∷ rest → 10000 < number
    → Going all number runs stats left → IsFirstBadLine all number
going-late all left rest number runs stats line cut late g =
    let count : length all ≡ length g.done + length (line ∷ rest) = ap length (g.divided ∙ ap (λ ls. g.done ++ ls) cut) ∙ length-append g.done (line ∷ rest) in
    (inr (inl (omega (arith, g.place, g.few, late), omega (arith, count, g.place))), λ k bad. (past_bad g k bad).0)

-- line 1 is missing, or spells no start
pub first-bad : (all : List (List ℕ)) → IsBadLine all 1 → IsFirstBadLine all 1
first-bad all bad = (bad, λ k other. grind arith)

pub no_first : (all : List (List ℕ)) (line : List ℕ) (left : List (List ℕ)) → all ≡ line ∷ left
    → ((start : RunStart) → ¬ SpellsStart (codes "run") line start) → IsFirstBadLine all 1
no_first all line left cut none =
    let no_reading : ¬ HasReading 1 line = λ reading. elim reading [ inl one ↦ none one.1.0 one.1.1 | inr later ↦ later.0 refl ] in
    first-bad all (inr (inr (omega arith, (line, ap (λ ls. slice_get ls 0) cut, no_reading))))

-- the bad line of a result is the first bad line of the input
pub named : (r : Result Bool Fault) (fault : Fault) (left : Option (List ℕ)) (read bytes : List ℕ) → IsErrAnd r (λ e. e ≡ fault)
    → IfSome left (λ all. read ≡ all) → bytes ≡ read → IsRefusal (texts_of bytes) fault
    → IfSome left (λ input. (number : ℕ) → IsErrOf r (faults.BadLine number) → IsFirstBadLine (texts_of input) number)
named (Ok success) fault left read bytes failed is same why = absurd failed
named (Err e) fault left read bytes failed is same why = IfSome_then left is (λ input whole. λ number names.
    let bad : fault ≡ faults.BadLine number = cc in rw (← whole, ← same) (rw bad at why))
