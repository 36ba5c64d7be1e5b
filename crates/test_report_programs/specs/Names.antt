-- The threads that standard error names.
use Rattle.std.specs.Prelude.{◌==◌, [], ℕ, List, codes, drop, if◌then◌else◌, length, nat_eq, nat_lt, Option, Some, None}
use Rattle.std.specs.BTreeSet.{insert_key}
use Rattle.std.specs.Cmp.Lexicographic.{slice_cmp}
use Rattle.std.specs.List.{after_first, before_first, fold, position_or_len, starts_with}
use Rattle.std.specs.Option.{option_map_or}
use Rattle.std.specs.Ordering.{nat_cmp}
use Rattle.std.specs.Str.Lines.{lines}

-- the text after the name of a thread, without the thread's number: ` (N)`
abbrev pub without_number : List ℕ → List ℕ
without_number text = if starts_with nat_eq text (codes " (") then after_first (λ b. b == 41) text else text

-- the text before the first quote, if these words follow the quote, perhaps after the number of a thread
abbrev pub quoted : List ℕ → List ℕ → Option (List ℕ)
quoted words text =
    if nat_lt (position_or_len (λ b. b == 39) text) (length text)
    then (if starts_with nat_eq (without_number (after_first (λ b. b == 39) text)) words then Some (before_first (λ b. b == 39) text) else None)
    else None

-- the name of the thread in a line, which is `thread 'NAME'`, perhaps ` (N)`, and then these words
abbrev pub thread_of : List ℕ → List ℕ → Option (List ℕ)
thread_of words line = if starts_with nat_eq line (codes "thread '") then quoted words (drop 8 line) else None

-- the names with that of one more line, if the line has one
abbrev pub with_thread : List ℕ → List (List ℕ) → List ℕ → List (List ℕ)
with_thread words names line = option_map_or (insert_key (slice_cmp nat_cmp) names) (thread_of words line) names

-- the names of the threads in such lines of a text, in the order of texts
abbrev pub threads_of : List ℕ → List ℕ → List (List ℕ)
threads_of words text = fold (with_thread words) [] (lines text)
