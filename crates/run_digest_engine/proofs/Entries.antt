-- A line after line 1, read from its words.
use Rattle.std.proofs.Common.{◌≡◌, ℕ, ◌+◌, ◌<◌, ◌≤◌, List, [], ◌∷◌, ◌++◌, true, false, length, map, not, refl, ap, sym, ◌∙◌, arith, inl, inr, length-append, Bool, subst, cond}
use Rattle.std.specs.Prelude.{◌==◌, Some, None, Option, codes, option_and_then, option_map}
use Rattle.std.specs.List.{join_with_byte, list_all, slice_split}
use Rattle.std.proofs.lemmas.Bool.{and_parts}
use Rattle.std.proofs.lemmas.Bool.Decides.{eqb_tells}
use Rattle.std.proofs.lemmas.List.{length-map, append-nil}
use Rattle.std.proofs.lemmas.List.Splits.{join_with_byte-slice_split, length-slice_split}
use Rattle.std.proofs.lemmas.Option.{none-some, option_and_then_some, same_Some}
use Rattle.std.specs.Str.{IsUtf8, bytes_eq}
use Rattle.std.proofs.lemmas.Slice.Eq.{bytes_eq-Decides}
use Rattle.run_events_results.specs.declared.results.ExecutionResultDescription.{ExecutionResultDescription}
use Rattle.run_events_results.specs.declared.results.ExecutionResultDescription.TheVariants as result
use Rattle.run_digest_engine.specs.Reader.{named, result_of, result_words, results_from, results_of, EntryView, SubRunEntry, UnitEntry, entry_of_words, flags_of, script_of_words, start_fields, test_of_words, words_of}
use Rattle.run_digest_engine.specs.Spelling.{ResultWord, result_named, word_of, ScriptLine, SpellsStart, SpellsUnit, TestLine, flag_words, unit_said}
use Rattle.run_digest_engine.proofs.Exact.{Reads, reads-by, reads-put, reads_all, reads_only, none_spelled, reads-then, reads_one, result_found, table_reads, word_passes, chosen, word_is_plain}
use Rattle.run_digest_engine.proofs.PlainWords.{Pass, cut_joined, is_letter, is_plain, join_passes, weaker_words, joined_is_text}
use Rattle.run_events_results.specs.ViewedTest.{ViewedTest}
use Rattle.run_events_results.specs.declared.config.FlakyResult.{FlakyResult}
use Rattle.run_events_results.specs.declared.config.FlakyResult.TheVariants as setting
use Rattle.run_events_stats.specs.Counters.{ScriptUnit, TestUnit, UnitView}
use Rattle.run_events_stats.specs.declared.stats.RunStart.{RunStart}
use Rattle.run_digest_engine.specs.Reading.{HasEntry}
use Rattle.run_digest_engine.proofs.Starts.{Fields, field_words, fields_pass, fields_read, start_joined, start_spelled}

-- the word is that of this result
abbrev pub NamesResult : List ℕ → ExecutionResultDescription → Type 0
NamesResult word r = (n : ResultWord) × (word ≡ word_of n) × (r ≡ result_named n)

pub result_reads : (word : List ℕ) → Reads (NamesResult word) (result_of word)
unfolding result_of
result_reads word =
    reads-put (λ n. word ≡ word_of n) (NamesResult word) result_named (named word_of result_words word) (table_reads word_of result_words word result_found)
    (λ r is. is) (λ n is. (n, is, refl))

-- the last of these results, or the one before them
abbrev last_of : ExecutionResultDescription → List ResultWord → ExecutionResultDescription
last_of last [] = last
last_of last (n ∷ ns) = last_of (result_named n) ns

last_of-end : (r : ExecutionResultDescription) (earlier : List ResultWord) (last : ResultWord) → last_of r (earlier ++ last ∷ []) ≡ result_named last
last_of-end r [] last = refl
last_of-end r (n ∷ ns) last = last_of-end (result_named n) ns last

-- a list of results that is not empty has a last one
parted : (n : ResultWord) (ns : List ResultWord) → (earlier : List ResultWord) × (last : ResultWord) × (n ∷ ns ≡ earlier ++ last ∷ [])
parted n [] = ([], n, refl)
parted n (m ∷ ns) = let rest = parted m ns in (n ∷ rest.0, rest.1, ap (λ xs. n ∷ xs) rest.2)

-- the words of results are read, if there are not too many
words_read : (ns : List ResultWord) (last : ExecutionResultDescription) (count : ℕ) → count + length ns ≤ 100
    → results_from (map word_of ns) last count ≡ Some (last_of last ns, count + length ns)
unfolding results_from
words_read [] last count few = ap (λ k. Some (last, k)) (omega arith)
words_read (n ∷ ns) last count few =
    let less : (count == 100) ≡ false = elim (eqb_tells count 100) [ inl same ↦ absurd (omega (arith, same.1, few)) | inr different ↦ different.0 ] in
    let first = reads_all (NamesResult (word_of n)) (result_of (word_of n)) (result_named n) (result_reads (word_of n)) (n, refl, refl) in
    rw (less, first) (words_read ns (result_named n) (count + 1) (omega (arith, few)) ∙ ap (λ k. Some (last_of (result_named n) ns, k)) (omega arith))

-- words that are read are those of results
results_inverse : (words : List (List ℕ)) (last : ExecutionResultDescription) (count : ℕ) (found : ExecutionResultDescription × ℕ)
    → count ≤ 100 → results_from words last count ≡ Some found
    → (ns : List ResultWord) × (words ≡ map word_of ns) × (count + length ns ≤ 100) × (found ≡ (last_of last ns, count + length ns))
unfolding results_from
results_inverse [] last count found few e = ([], refl, omega (arith, few), sym (same_Some (last, count) found e) ∙ ap (λ k. (last, k)) (omega arith))
results_inverse (word ∷ words) last count found few e =
    elim (eqb_tells count 100) [
      | inl same ↦ absurd (none-some found (rw same.0 at e))
      | inr different ↦ option_and_then_some (λ r. results_from words r (count + 1)) (result_of word) found (rw different.0 at e) (λ r is_r more.
          let first = reads_only (NamesResult word) (result_of word) r (result_reads word) is_r in
          let rest = results_inverse words r (count + 1) found (omega (arith, few, different.1)) more in (
            first.0 ∷ rest.0,
            cc (first.1, rest.1),
            omega (arith, rest.2),
            rest.3 ∙ ap (λ d. (last_of d rest.0, count + 1 + length rest.0)) first.2 ∙ ap (λ k. (last_of (result_named first.0) rest.0, k)) (omega arith),
          ))
    ]

-- the list is one to a hundred results; this is the last one, and this is their number
abbrev pub SpellsResults : List ℕ → ExecutionResultDescription × ℕ → Type 0
SpellsResults list found =
    (earlier : List ResultWord) × (last : ResultWord) × (length earlier < 100)
    × (list ≡ join_with_byte 44 (map word_of (earlier ++ last ∷ []))) × (found ≡ (result_named last, length earlier + 1))

words_pass : (ns : List ResultWord) → Pass is_letter (map word_of ns)
words_pass [] = tt
words_pass (n ∷ ns) = (word_passes n, words_pass ns)

-- and it has no space
pub list_passes : (ns : List ResultWord) → list_all is_plain (join_with_byte 44 (map word_of ns)) ≡ true
list_passes ns =
    let plain = weaker_words is_letter is_plain (λ b e. (and_parts (is_plain b) (not (b == 44)) e).0) (map word_of ns) (words_pass ns) in
    join_passes is_plain 44 (map word_of ns) refl plain

-- a list is cut into its words
list_cut : (ns : List ResultWord) → 0 < length ns → slice_split (λ b. b == 44) (join_with_byte 44 (map word_of ns)) ≡ map word_of ns
list_cut [] some = absurd (omega (arith, some))
list_cut (n ∷ ns) some = cut_joined is_letter 44 (word_of n) (map word_of ns) refl (words_pass (n ∷ ns))

pub results_read : (list : List ℕ) → Reads (SpellsResults list) (results_of list)
unfolding results_of
results_read list = reads-by (SpellsResults list) (results_of list) all only
  where
    all : (found : ExecutionResultDescription × ℕ) → SpellsResults list found → results_of list ≡ Some found
    all found (earlier, last, few, is_list, is) =
        let count = length-append earlier (last ∷ []) in
        let read = words_read (earlier ++ last ∷ []) result.Pass 0 (omega (arith, count, few)) in
        rw (is_list, list_cut (earlier ++ last ∷ []) (omega (arith, count)), read, last_of-end, is)
        (ap (λ k. Some (result_named last, k)) (omega (arith, count)))

    only : (found : ExecutionResultDescription × ℕ) → results_of list ≡ Some found → SpellsResults list found
    only found e =
        let read = results_inverse (slice_split (λ b. b == 44) list) result.Pass 0 found (omega arith) e in
        let joined : list ≡ join_with_byte 44 (map word_of read.0) = sym (join_with_byte-slice_split 44 list) ∙ ap (join_with_byte 44) read.1 in
        let some : 0 < length read.0 = omega (arith, ap length read.1, length-map read.0 word_of, length-slice_split (λ b. b == 44) list) in
        spelled found read.0 some read.2 joined read.3
      where
        spelled : (found : ExecutionResultDescription × ℕ) (ns : List ResultWord) → 0 < length ns → 0 + length ns ≤ 100
            → list ≡ join_with_byte 44 (map word_of ns) → found ≡ (last_of result.Pass ns, 0 + length ns) → SpellsResults list found
        spelled found [] some few is_list is = absurd (omega (arith, some))
        spelled found (n ∷ ns) some few is_list is =
            let end = parted n ns in
            let count = length-append end.0 (end.1 ∷ []) in
            let same : length (n ∷ ns) ≡ length (end.0 ++ end.1 ∷ []) = ap length end.2 in (
              end.0,
              end.1,
              omega (arith, count, same, few),
              is_list ∙ ap (λ xs. join_with_byte 44 (map word_of xs)) end.2,
              is ∙ ap (λ xs. (last_of result.Pass xs, 0 + length xs)) end.2
                  ∙ rw last_of-end (ap (λ k. (result_named end.1, k)) (omega (arith, count))),
            )

-- the line is a spelling of this entry
abbrev pub SpellsEntry : List ℕ → EntryView → Type 0
SpellsEntry line (UnitEntry unit) = SpellsUnit line unit
SpellsEntry line (SubRunEntry start) = SpellsStart (codes "sub-run") line start

-- the words of these flags
abbrev flag_list : Bool → Bool → List (List ℕ)
flag_list false false = []
flag_list true false = codes "slow" ∷ []
flag_list false true = codes "flaky-fail" ∷ []
flag_list true true = codes "slow" ∷ codes "flaky-fail" ∷ []

flags_joined : (list : List ℕ) (slow fails : Bool) → join_with_byte 32 (list ∷ flag_list slow fails) ≡ list ++ flag_words slow fails
flags_joined list slow fails = grind (arith, append-nil)

flags_pass : (slow fails : Bool) → Pass is_plain (flag_list slow fails)
flags_pass slow fails = grind arith

-- the setting of a flag
abbrev setting_by : Bool → FlakyResult
setting_by fails = cond fails setting.Fail setting.Pass

-- the words are those of these flags
abbrev SpellsFlags : List (List ℕ) → Bool × FlakyResult → Type 0
SpellsFlags words f = (slow : Bool) × (fails : Bool) × (words ≡ flag_list slow fails) × (f ≡ (slow, setting_by fails))

flags_spelled : (slow fails : Bool) → flags_of (flag_list slow fails) ≡ Some (slow, setting_by fails)
unfolding flags_of
flags_spelled slow fails = grind arith

-- words that are read as flags are the words of those flags
flags_inverse : (words : List (List ℕ)) (f : Bool × FlakyResult) → flags_of words ≡ Some f → SpellsFlags words f
unfolding flags_of
flags_inverse [] f e = (false, false, refl, cc)
flags_inverse (a ∷ []) f e =
    let slow = bytes_eq-Decides a (codes "slow") in
    let fails = bytes_eq-Decides a (codes "flaky-fail") in
    (bytes_eq a (codes "slow"), not (bytes_eq a (codes "slow")), grind (arith, slow, fails), grind (arith, slow, fails))
flags_inverse (a ∷ b ∷ []) f e =
    let slow = bytes_eq-Decides a (codes "slow") in
    let fails = bytes_eq-Decides b (codes "flaky-fail") in
    (true, true, grind (arith, slow, fails), grind (arith, slow, fails))
flags_inverse (a ∷ b ∷ c ∷ words) f e = absurd cc

-- the words of flags are read
flags_read : (words : List (List ℕ)) → Reads (SpellsFlags words) (flags_of words)
flags_read words = reads-by (SpellsFlags words) (flags_of words) (λ f s. ap flags_of s.2 ∙ flags_spelled s.0 s.1 ∙ ap Some (sym s.3)) (flags_inverse words)

-- the words after the first one of an entry's line
abbrev Behind : EntryView → List (List ℕ) → Type 0
Behind (SubRunEntry start) words = Fields words start
Behind (UnitEntry (ScriptUnit r)) words = (n : ResultWord) × (words ≡ word_of n ∷ []) × (r ≡ result_named n)
Behind (UnitEntry (TestUnit t)) words =
    (earlier : List ResultWord) × (last : ResultWord) × (slow : Bool) × (fails : Bool) × (length earlier < 100)
    × (words ≡ join_with_byte 44 (map word_of (earlier ++ last ∷ [])) ∷ flag_list slow fails) × (TestUnit t ≡ unit_said (TestLine earlier last slow fails))

-- the first word of an entry's line
abbrev keyword_of : EntryView → List ℕ
keyword_of (SubRunEntry start) = codes "sub-run"
keyword_of (UnitEntry (ScriptUnit r)) = codes "script"
keyword_of (UnitEntry (TestUnit t)) = codes "test"

-- the result of a script, after the first word
script_read : (words : List (List ℕ)) → Reads (λ r. Behind (UnitEntry (ScriptUnit r)) words) (script_of_words words)
unfolding script_of_words result_of
script_read (word ∷ []) =
    reads-put (λ n. word ≡ word_of n) (λ r. Behind (UnitEntry (ScriptUnit r)) (word ∷ [])) result_named (named word_of result_words word)
    (table_reads word_of result_words word result_found) (λ r s. (s.0, cc (s.1), s.2)) (λ n is. (n, ap (λ w. w ∷ []) is, refl))
script_read _ = λ r s. absurd (let many = s.1 in cc)

-- the results and the flags of a test
test_read : (words : List (List ℕ)) → Reads (λ t. Behind (UnitEntry (TestUnit t)) words) (test_of_words words)
unfolding test_of_words
test_read [] = λ t s. absurd (let none = s.5 in cc)
test_read (list ∷ flags) =
    let P : ViewedTest → Type 0 = λ t. Behind (UnitEntry (TestUnit t)) (list ∷ flags) in
    let view : Bool × FlakyResult → ExecutionResultDescription × ℕ → ViewedTest = λ f r.
    record { result = r.0; attempts = r.1; is_slow = f.0; flaky_result = f.1 } in
    let is_view : (t : ViewedTest) → (s : P t) → t ≡ view (s.2, setting_by s.3) (result_named s.1, length s.0 + 1) = λ t s. cc (s.6) in
    reads-then (SpellsFlags flags) P (λ f. option_and_then (λ r. Some (view f r)) (results_of list)) (flags_of flags) (flags_read flags)
    (λ t s. ((s.2, setting_by s.3), (s.2, s.3, cc (s.5), refl))) (λ f is_f only_f.
    reads-then (SpellsResults list) P (λ r. Some (view f r)) (results_of list) (results_read list)
    (λ t s. ((result_named s.1, length s.0 + 1), (s.0, s.1, s.4, cc (s.5), refl))) (λ r is_r only_r. (
      (is_r.0, is_r.1, is_f.0, is_f.1, is_r.2, cc (is_r.3, is_f.2), cc (is_f.3, is_r.4)),
      λ t s. is_view t s
          ∙ ap (λ x. view x (result_named s.1, length s.0 + 1)) (only_f (s.2, setting_by s.3) (s.2, s.3, cc (s.5), refl))
          ∙ ap (view f) (only_r (result_named s.1, length s.0 + 1) (s.0, s.1, s.4, cc (s.5), refl)),
    )))

-- the words of an entry
abbrev EntryWords : List (List ℕ) → EntryView → Type 0
EntryWords words entry = (behind : List (List ℕ)) × (words ≡ keyword_of entry ∷ behind) × Behind entry behind

-- the words after a keyword, read as an entry
put_read : {A : Type 0} (kind keyword : List ℕ) (words : List (List ℕ)) (put : A → EntryView) (o : Option A) (entry : EntryView)
    → bytes_eq kind keyword ≡ true → ((a : A) → keyword_of (put a) ≡ keyword) → Reads (λ a. Behind (put a) words) o → option_map put o ≡ Some entry
    → EntryWords (kind ∷ words) entry
put_read kind keyword words put None entry same by read e = absurd cc
put_read kind keyword words put (Some a) entry same by read e =
    subst (EntryWords (kind ∷ words)) (same_Some (put a) entry e) (words, ap (λ k. k ∷ words) ((bytes_eq-Decides kind keyword).0 same ∙ sym (by a)), read.0)

-- words from which an entry is read are the words of that entry
words_inverse : (words : List (List ℕ)) (entry : EntryView) → entry_of_words words ≡ Some entry → EntryWords words entry
unfolding entry_of_words
words_inverse [] entry e = absurd cc
words_inverse (kind ∷ words) entry e =
    let to_script : ExecutionResultDescription → EntryView = λ r. UnitEntry (ScriptUnit r) in
    let to_test : ViewedTest → EntryView = λ t. UnitEntry (TestUnit t) in
    let start = option_map SubRunEntry (start_fields words) in
    let script = option_map to_script (script_of_words words) in
    let test = option_map to_test (test_of_words words) in
    let is_script = bytes_eq kind (codes "script") in
    let is_test = bytes_eq kind (codes "test") in
    elim (chosen (bytes_eq kind (codes "sub-run")) start (cond is_script script (cond is_test test None)) (Some entry) e) [
      | inl held ↦ put_read kind (codes "sub-run") words SubRunEntry (start_fields words) entry held.0 (λ _. refl) (fields_read words) held.1
      | inr failed ↦ elim (chosen is_script script (cond is_test test None) (Some entry) failed.1) [
        | inl held ↦ put_read kind (codes "script") words to_script (script_of_words words) entry held.0 (λ _. refl) (script_read words) held.1
        | inr failed ↦ elim (chosen is_test test None (Some entry) failed.1) [
          | inl held ↦ put_read kind (codes "test") words to_test (test_of_words words) entry held.0 (λ _. refl) (test_read words) held.1
          | inr none ↦ absurd cc
        ]
      ]
    ]

-- and the entry is read from its words
words_spelled : (words : List (List ℕ)) (entry : EntryView) → EntryWords words entry → entry_of_words words ≡ Some entry
unfolding entry_of_words
words_spelled words (SubRunEntry start) (behind, are, is) =
    ap entry_of_words are ∙ ap (option_map SubRunEntry) (reads_all (Fields behind) _ start (fields_read behind) is)
words_spelled words (UnitEntry (ScriptUnit r)) (behind, are, is) =
    ap entry_of_words are
    ∙ ap (option_map (λ x. UnitEntry (ScriptUnit x))) (reads_all (λ x. Behind (UnitEntry (ScriptUnit x)) behind) _ r (script_read behind) is)
words_spelled words (UnitEntry (TestUnit t)) (behind, are, is) =
    ap entry_of_words are ∙ ap (option_map (λ x. UnitEntry (TestUnit x))) (reads_all (λ x. Behind (UnitEntry (TestUnit x)) behind) _ t (test_read behind) is)

-- the words of a line that spells an entry are plain, and their join is the line
record Written (line : List ℕ) (entry : EntryView) : Type 0 where
  behind : List (List ℕ)
  is : Behind entry behind
  line_is : line ≡ join_with_byte 32 (keyword_of entry ∷ behind)
  plain : Pass is_plain (keyword_of entry ∷ behind)

-- a line that spells an entry is the join of its words
written : (line : List ℕ) (entry : EntryView) → SpellsEntry line entry → Written line entry
written line (SubRunEntry start) s = record {
  behind = field_words (codes "sub-run") line start s;
  is = (s.tests_number, s.scripts_number, refl, s.none_skipped);
  line_is = start_joined (codes "sub-run") line start s;
  plain = (refl, fields_pass (codes "sub-run") line start s);
}
written line (UnitEntry unit) (ScriptLine n, ok, is_line, is_unit) =
    rw is_unit (record { behind = word_of n ∷ []; is = (n, refl, refl); line_is = is_line; plain = (refl, (word_is_plain n, tt)) })
written line (UnitEntry unit) (TestLine earlier last slow fails, few, is_line, is_unit) =
    let list : List ℕ = join_with_byte 44 (map word_of (earlier ++ last ∷ [])) in
    rw is_unit (record {
      behind = list ∷ flag_list slow fails;
      is = (earlier, last, slow, fails, few, refl, refl);
      line_is = is_line ∙ ap (λ x. codes "test " ++ x) (sym (flags_joined list slow fails));
      plain = (refl, (list_passes (earlier ++ last ∷ []), flags_pass slow fails));
    })

-- a line that is cut into the words of an entry spells the entry
spelled : (line : List ℕ) (entry : EntryView) → EntryWords (words_of line) entry → SpellsEntry line entry
spelled line (SubRunEntry start) (behind, are, is) = start_spelled (codes "sub-run") line behind start are is
spelled line (UnitEntry (ScriptUnit r)) (behind, are, (n, word, is)) =
    (ScriptLine n, tt, sym (join_with_byte-slice_split 32 line) ∙ ap (join_with_byte 32) (are ∙ ap (λ ws. codes "script" ∷ ws) word), ap ScriptUnit is)
spelled line (UnitEntry (TestUnit t)) (behind, are, (earlier, last, slow, fails, few, words, is)) =
    let list : List ℕ = join_with_byte 44 (map word_of (earlier ++ last ∷ [])) in (
      TestLine earlier last slow fails,
      few,
      sym (join_with_byte-slice_split 32 line)
          ∙ ap (join_with_byte 32) (are ∙ ap (λ ws. codes "test" ∷ ws) words)
          ∙ ap (λ x. codes "test " ++ x) (flags_joined list slow fails),
      is,
    )

-- the entry that a line spells is read from it
pub entry_reads : (line : List ℕ) → Reads (SpellsEntry line) (entry_of_words (words_of line))
entry_reads line =
    let read = entry_of_words (words_of line) in
    reads-by (SpellsEntry line) read (λ entry s. words_spelled (words_of line) entry (words entry s))
    (λ entry e. spelled line entry (words_inverse (words_of line) entry e))
  where
    words : (entry : EntryView) → SpellsEntry line entry → EntryWords (words_of line) entry
    words entry s =
        let w = written line entry s in
        (w.behind, ap words_of w.line_is ∙ cut_joined is_plain 32 (keyword_of entry) w.behind refl w.plain, w.is)

-- a line that spells an entry is text
pub entry_is_text : (line : List ℕ) (entry : EntryView) → SpellsEntry line entry → IsUtf8 line
entry_is_text line entry s =
    let w = written line entry s in
    subst IsUtf8 (sym w.line_is) (joined_is_text (keyword_of entry ∷ w.behind) w.plain)

-- a line spells at most one unit
pub one_unit : (line : List ℕ) (a b : UnitView) → SpellsUnit line a → SpellsUnit line b → a ≡ b
one_unit line a b first second = cc (reads_one (SpellsEntry line) _ (UnitEntry a) (UnitEntry b) (entry_reads line) first second)

-- a line spells a unit or a start of a sub-run, and never both
pub one_entry : (line : List ℕ) (unit : UnitView) (start : RunStart) → SpellsUnit line unit → ¬ SpellsStart (codes "sub-run") line start
one_entry line unit start is_unit is_start =
    absurd (cc (reads_one (SpellsEntry line) _ (UnitEntry unit) (SubRunEntry start) (entry_reads line) is_unit is_start))

-- a line from which nothing is read spells no entry
pub no_entry : (line : List ℕ) → None ≡ entry_of_words (words_of line) → ¬ HasEntry line
no_entry line none (inl (unit, s)) = none_spelled (SpellsEntry line) (entry_of_words (words_of line)) (UnitEntry unit) (entry_reads line) none s
no_entry line none (inr (start, s)) = none_spelled (SpellsEntry line) (entry_of_words (words_of line)) (SubRunEntry start) (entry_reads line) none s
