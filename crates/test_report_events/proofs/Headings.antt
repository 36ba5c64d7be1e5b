-- The headings of cargo.
use Rattle.std.proofs.Common.{◌≡◌, ◌≢◌, ◌∙◌, ◌==◌, ◌||◌, not, refl, ℕ, ◌+◌, ◌-◌, ◌<◌, ◌≤◌, Bool, true, Option, Some, None, suc, drop-cons, append_assoc, length-append, Bor, MatchOption, List, [], ◌∷◌, ◌++◌, length, length-drop, get_or, get_or-drop, take, drop, drop-drop, take-append-drop, inl, inr, arith, sym, ap, subst, codes}
use Rattle.std.proofs.Math.Logic.{⊎_elim}
use Rattle.std.proofs.Math.Seq.{get_or-append_seam}
use Rattle.std.proofs.lemmas.Bool.{cases_Bool, false≢true}
use Rattle.std.proofs.lemmas.Bool.Decides.{nat_tests}
use Rattle.std.proofs.lemmas.List.Elements.{All-from_get_or, All-head, All-tail}
use Rattle.std.proofs.lemmas.List.{append_cancel_left, append_cancel_right}
use Rattle.std.proofs.lemmas.List.Prefix.{front_fits, front_rest}
use Rattle.std.proofs.lemmas.List.Sums.{suffix_len_is}
use Rattle.std.proofs.lemmas.Str.{NoCharPasses-byte, len_utf8_ascii}
use Rattle.std.proofs.lemmas.Str.Pattern.{NoCharPasses-char, drop_at_char}
use Rattle.std.specs.Char.{char_set_contains, is_ascii_hexdigit}
use Rattle.std.specs.List.{All, AllPass, slice_split}
use Rattle.std.specs.Str.{NoCharPasses}
use Rattle.std.specs.Str.Pattern.{RFindsBy, RFindsChar, RFindsText, SplitsAroundMatch}
use Rattle.test_report_events.proofs.LastCut.{Lacks, cut-same, lacks-later}
use Rattle.test_report_events.specs.Cargo.{CargoSays, IsBinary, IsCommand, IsFirstProgram, IsHashed, IsHeading, IsProgram, IsRunning, IsTarget, failure_of, file_name}
use Rattle.test_report_events.specs.Content.{path_of, suite_of}
use Rattle.test_report_events.specs.Event.{CargoFails, EventView, HeadingLine}
use Rattle.test_report_events.specs.declared.cargo.Heading.{Heading}
use Rattle.test_report_events.specs.declared.event.CargoFailure.{CargoFailure}

-- a text without a character has no byte of it
pub lacks_char : (c : ℕ) (name : List ℕ) → c < 128 → NoCharPasses (λ d. d == c) name → All (λ b. b ≢ c) name
lacks_char c name ascii none = All-from_get_or (λ b. b ≢ c) name 0 (λ k inside. NoCharPasses-char c name k none ascii inside)

-- the file name of a path
abbrev is_separator : ℕ → Bool
is_separator b = b == 47 || b == 92

separator-ascii : (b : ℕ) → is_separator b ≡ true → b < 128
separator-ascii b h = grind (arith, nat_tests)

no-separator : (text : List ℕ) (k : ℕ) → NoCharPasses is_separator text → k < length text → not (is_separator (get_or text k 0)) ≡ true
no-separator text k none inside = ⊎_elim
    (λ is. absurd (false≢true (sym (NoCharPasses-byte is_separator text k none inside (separator-ascii _ is)) ∙ is)))
    (λ is. ap not is) (cases_Bool (is_separator (get_or text k 0)))

-- the file name begins after the last separator
begins-after : (path : List ℕ) (n : ℕ) → n ≤ length path → NoCharPasses is_separator (drop n path)
    → (0 < n → is_separator (get_or path (n - 1) 0) ≡ true) → drop n path ≡ file_name path
begins-after path n fits none before =
    let size = suffix_len_is (λ b. not (is_separator b)) path n 0 fits
    (λ k low high. let at : get_or (drop n path) (k - n) 0 ≡ get_or path k 0 = get_or-drop n path (k - n) 0 ∙ ap (λ i. get_or path i 0) (omega arith) in
    subst (λ b. not (is_separator b) ≡ true) at (no-separator (drop n path) (k - n) none (omega (arith, length-drop n path))))
    (λ some. ap not (before some)) in
    ap (λ i. drop i path) (omega (arith, size))

pub file_after : (path file : List ℕ) (i j : ℕ) → RFindsBy is_separator path (Some (i, j)) → j ≤ length path → file ≡ drop j path → file ≡ file_name path
file_after path file i j h fits is =
    let c = h.1.0 in
    let small = separator-ascii c h.1.1 in
    let next : j ≡ i + 1 = h.1.2.ends ∙ ap (λ n. i + n) (len_utf8_ascii c small) in
    is ∙ begins-after path j fits h.0 (λ _. ap is_separator (ap (λ k. get_or path k 0) (omega (arith, next)) ∙ h.1.2.byte small) ∙ h.1.1)

pub file_whole : (path : List ℕ) → RFindsBy is_separator path None → path ≡ file_name path
file_whole path none = begins-after path 0 (omega arith) none (λ some. absurd (omega arith))

hash-lacks : (hash : List ℕ) → AllPass is_ascii_hexdigit hash → Lacks 45 hash
hash-lacks hash all i inside is = let h = all i 0 inside in absurd (false≢true (ap is_ascii_hexdigit (sym is) ∙ h))

-- a text has one name in front of a hash
pub one-hashed : (text a b : List ℕ) → IsHashed text a → IsHashed text b → a ≡ b
one-hashed text a b h k = (cut-same 45 a b h.hash k.hash (sym h.is ∙ k.is) (hash-lacks h.hash h.digits) (hash-lacks k.hash k.digits)).0

pub hashed_none : (file : List ℕ) → RFindsChar 45 file None → (name : List ℕ) → ¬ IsHashed file name
hashed_none file none name h = lacks-later 45 name h.hash (subst (Lacks 45) h.is (λ i inside. NoCharPasses-char 45 file i none (omega arith) inside))

module _ (file front back : List ℕ) (h : SplitsAroundMatch (RFindsChar 45) file front back) where
  cut-around : file ≡ front ++ 45 ∷ back
  cut-around = rw (h.3, h.4)
      (sym (take-append-drop h.0 file) ∙ ap (λ rest. take h.0 file ++ rest) (drop_at_char 45 file h.0 h.1 h.2.1 (omega arith)))

  pub hashed_found : (length back ≡ 16) × AllPass is_ascii_hexdigit back → IsHashed file front
  hashed_found hash = record { hash = back; size = hash.0; digits = hash.1; is = cut-around }

  pub hashed_other : ¬ ((length back ≡ 16) × AllPass is_ascii_hexdigit back) → (name : List ℕ) → ¬ IsHashed file name
  hashed_other other name k =
      let none : Lacks 45 back = rw h.4 (λ i inside. NoCharPasses-char 45 (drop h.1 file) i h.2.0 (omega arith) inside) in
      let same = cut-same 45 front name back k.hash (sym cut-around ∙ k.is) none (hash-lacks k.hash k.digits) in
      other (rw same.1 (k.size, k.digits))

-- a line does not begin in both ways
doc-or-running : (line name text : List ℕ) → line ≡ codes "Doc-tests " ++ name → line ≡ codes "Running " ++ text → ⊥
doc-or-running line name text h k = let e : ◌≡◌ {A = ℕ} 68 82 = ap (λ xs. get_or xs 0 0) (sym h ∙ k) in omega (arith, e)

-- the last ` (` of a text
abbrev Bare : List ℕ → Type 0
Bare text = (front back : List ℕ) → text ≢ front ++ (codes " (" ++ back)

target-same : (a b f g : List ℕ) → a ++ 32 ∷ 40 ∷ f ≡ b ++ 32 ∷ 40 ∷ g → Bare f → Bare g → (a ≡ b) × (f ≡ g)
target-same [] [] f g same m n = (refl, cc)
target-same [] (y ∷ []) f g same m n = absurd (let e : ◌≡◌ {A = ℕ} 40 32 = cc in omega (arith, e))
target-same [] (y ∷ z ∷ b) f g same m n = absurd (m b g cc)
target-same (x ∷ []) [] f g same m n = absurd (let e : ◌≡◌ {A = ℕ} 40 32 = cc in omega (arith, e))
target-same (x ∷ z ∷ a) [] f g same m n = absurd (n a f cc)
target-same (x ∷ a) (y ∷ b) f g same m n = let tails : a ++ 32 ∷ 40 ∷ f ≡ b ++ 32 ∷ 40 ∷ g = cc in let rest = target-same a b f g tails m n in (cc, rest.1)

-- the text in front of the last ` (`, and the text after it
pub record IsSplit (text front back : List ℕ) : Type 0 where
  pub is : text ≡ front ++ (codes " (" ++ back)
  pub bare : Bare back

pub split_around : (text front back : List ℕ) → SplitsAroundMatch (RFindsText (codes " (")) text front back → IsSplit text front back
split_around text front back h = record {
  is = rw (h.3, h.4) (sym (take-append-drop h.0 text) ∙ ap (λ rest. take h.0 text ++ rest) h.2.1.split);
  bare = λ x y e.
      let fits = front_fits back x _ e in
      let later : drop (h.1 + length x) text ≡ drop (length x) (drop h.1 text) = sym (drop-drop (length x) h.1 text) in
      h.2.0 (h.1 + length x) (omega (arith, h.2.1.ends)) (omega (arith, h.7)) y (later ∙ (ap (drop (length x)) (sym h.4) ∙ front_rest back x _ e));
}

one-target : (text a b p q : List ℕ) → IsTarget text a p → IsTarget text b q → (a ≡ b) × (p ≡ q)
one-target text a b p q h k =
    let same = target-same a b (p ++ codes ")") (q ++ codes ")") (sym h.is ∙ k.is) h.last k.last in
    (same.0, append_cancel_right p q (codes ")") same.1)

bare-closed : (text front back : List ℕ) → Bare text → text ++ 41 ∷ [] ≡ front ++ 32 ∷ 40 ∷ back → ⊥
bare-closed [] [] back bare e = let h : ◌≡◌ {A = ℕ} 41 32 = cc in omega (arith, h)
bare-closed [] (x ∷ []) back bare e = cc
bare-closed [] (x ∷ y ∷ front) back bare e = cc
bare-closed (a ∷ []) [] back bare e = let h : ◌≡◌ {A = ℕ} 41 40 = cc in omega (arith, h)
bare-closed (a ∷ b ∷ text) [] back bare e = bare [] text cc
bare-closed (a ∷ text) (x ∷ front) back bare e = bare-closed text front back (λ f g h. bare (a ∷ f) g (ap (λ t. a ∷ t) h)) cc

-- a text that ends with a parenthesis
module _ (text stem : List ℕ) (closed : text ≡ stem ++ codes ")") where
  stem-is : (target path : List ℕ) → IsTarget text target path → IsSplit stem target path
  stem-is target path h = record {
    is = append_cancel_right stem (target ++ (codes " (" ++ path)) (codes ")")
        (sym closed ∙ (h.is ∙ sym (append_assoc target (codes " (" ++ path) (codes ")"))));
    bare = λ f g e. h.last f (g ++ codes ")") (ap (λ p. p ++ codes ")") e ∙ append_assoc f (codes " (" ++ g) (codes ")"));
  }

  pub not_cut : RFindsText (codes " (") stem None → (target path : List ℕ) → ¬ IsTarget text target path
  not_cut none target path h =
      let is = (stem-is target path h).is in none (length target) (front_fits stem target _ is) path (front_rest stem target _ is)

  pub front_empty : (front back : List ℕ) → IsSplit stem front back → length front ≡ 0 → (target path : List ℕ) → ¬ IsTarget text target path
  front_empty front back split empty target path h =
      let k = stem-is target path h in
      omega (arith, h.some, ap length (target-same front target back path (sym split.is ∙ k.is) split.bare k.bare).0)

  pub cut_found : (target path : List ℕ) → IsSplit stem target path → 0 < length target → IsTarget text target path
  cut_found target path split some = record {
    some = some;
    is = closed ∙ (ap (λ t. t ++ codes ")") split.is ∙ append_assoc target (codes " (" ++ path) (codes ")"));
    last = λ front back. bare-closed path front back split.bare;
  }

-- what comes after `Running `, as a target
module _ (text : List ℕ) where
  abbrev Line : List ℕ
  Line = codes "Running " ++ text

  cut-of : (suite path : List ℕ) (h : IsRunning Line suite path) → IsTarget text h.target path
  cut-of suite path h = subst (λ t. IsTarget t h.target path) (append_cancel_left (codes "Running ") h.text text (sym h.is)) h.cut

  pub no_target : ((target path : List ℕ) → ¬ IsTarget text target path) → (suite path : List ℕ) → ¬ IsRunning Line suite path
  no_target none suite path h = none h.target path (cut-of suite path h)

  pub no_parenthesis : ((stem : List ℕ) → text ≢ stem ++ codes ")") → (suite path : List ℕ) → ¬ IsRunning Line suite path
  no_parenthesis none suite path h =
      let cut = cut-of suite path h in
      none (h.target ++ (codes " (" ++ path)) (cut.is ∙ sym (append_assoc h.target (codes " (" ++ path) (codes ")")))

  pub no_binary : (target path : List ℕ) → IsTarget text target path → ((name : List ℕ) → ¬ IsBinary path name)
      → (suite other : List ℕ) → ¬ IsRunning Line suite other
  no_binary target path cut none suite other h =
      none h.name (subst (λ p. IsBinary p h.name) (one-target text h.target target other path (cut-of suite other h) cut).1 h.binary)

  -- and as a command
  words-of : (suite path : List ℕ) (h : IsCommand Line suite path) → text ≡ 96 ∷ (h.words ++ codes "`")
  words-of suite path h = append_cancel_left (codes "Running ") text (96 ∷ (h.words ++ codes "`")) h.is

  pub no_start : ((rest : List ℕ) → text ≢ 96 ∷ rest) → (suite path : List ℕ) → ¬ IsCommand Line suite path
  no_start none suite path h = none (h.words ++ codes "`") (words-of suite path h)

  pub no_end : (rest : List ℕ) → text ≡ 96 ∷ rest → ((front : List ℕ) → rest ≢ front ++ codes "`") → (suite path : List ℕ) → ¬ IsCommand Line suite path
  no_end rest is none suite path h = let both = sym is ∙ words-of suite path h in none h.words cc

  pub command_of : (words : List ℕ) → text ≡ 96 ∷ (words ++ codes "`") → (found : Option Heading)
      → MatchOption found ((path name : List ℕ) → ¬ IsFirstProgram words path name)
      (λ h. (path : List ℕ) × (path_of h ≡ Some path) × IsFirstProgram words path (suite_of h))
      → MatchOption found ((suite path : List ℕ) → ¬ IsCommand Line suite path) (λ h. IsHeading Line (suite_of h) (path_of h))
  command_of words is None none = λ suite path h.
      let both = sym is ∙ words-of suite path h in
      let ends : words ++ codes "`" ≡ h.words ++ codes "`" = cc in
      none path suite (subst (λ t. IsFirstProgram t path suite) (sym (append_cancel_right words h.words (codes "`") ends)) h.first)
  command_of words is (Some h) found = subst (IsHeading Line (suite_of h)) (sym found.1)
      (inr record { words = words; is = ap (λ t. codes "Running " ++ t) is; first = found.2 })

pub program_of : (word : List ℕ) (r : Option (Bor (List ℕ))) → All (λ b. b ≢ 61) word
    → MatchOption r ((name : List ℕ) → ¬ IsBinary word name) (λ x. IsBinary word x.now)
    → MatchOption r ((name : List ℕ) → ¬ IsProgram word name) (λ x. IsProgram word x.now)
program_of word None all h = λ name program. h name program.1
program_of word (Some x) all h = (all, h)

-- the first program of words
module _ (words : List ℕ) (n : ℕ) (path name : List ℕ) where
  abbrev Words : List (List ℕ)
  Words = slice_split (λ b. b == 32) words

  pub first_here : (earlier : List (List ℕ)) → earlier ≡ take n Words → All (λ word. (other : List ℕ) → ¬ IsProgram word other) earlier
      → n < length Words → path ≡ get_or Words n path → IsProgram path name → IsFirstProgram words path name
  first_here earlier is none inside here program =
      let divided : take n Words ++ drop n Words ≡ take n Words ++ path ∷ drop (suc n) Words =
      ap (λ ws. take n Words ++ ws) (drop-cons Words n path inside ∙ ap (λ w. w ∷ drop (suc n) Words) (sym here)) in
      record {
        earlier = earlier;
        later = drop (suc n) Words;
        divided = sym (take-append-drop n Words) ∙ (divided ∙ ap (λ ws. ws ++ path ∷ drop (suc n) Words) (sym is));
        others = none;
        program = program;
      }

pub no_first : (words : List ℕ) → All (λ word. (other : List ℕ) → ¬ IsProgram word other) (slice_split (λ b. b == 32) words)
    → (path name : List ℕ) → ¬ IsFirstProgram words path name
no_first words none path name h =
    let all = subst (All (λ word. (other : List ℕ) → ¬ IsProgram word other)) h.divided none in
    All-head (λ word. (other : List ℕ) → ¬ IsProgram word other) path h.later
    (All-drop-front h.earlier (path ∷ h.later) all) name h.program
  where
    All-drop-front : (xs ys : List (List ℕ)) → All (λ word. (other : List ℕ) → ¬ IsProgram word other) (xs ++ ys)
        → All (λ word. (other : List ℕ) → ¬ IsProgram word other) ys
    All-drop-front [] ys h = h
    All-drop-front (x ∷ xs) ys h = All-drop-front xs ys (All-tail (λ word. (other : List ℕ) → ¬ IsProgram word other) x (xs ++ ys) h)

first-same : (es fs ls ms : List (List ℕ)) (p q a b : List ℕ) → es ++ p ∷ ls ≡ fs ++ q ∷ ms
    → All (λ word. (other : List ℕ) → ¬ IsProgram word other) es → All (λ word. (other : List ℕ) → ¬ IsProgram word other) fs
    → IsProgram p a → IsProgram q b → p ≡ q
first-same [] [] ls ms p q a b e h k m n = cc
first-same [] (y ∷ fs) ls ms p q a b e h k m n =
    let same : p ≡ y = cc in absurd (All-head (λ word. (other : List ℕ) → ¬ IsProgram word other) y fs k a (subst (λ w. IsProgram w a) same m))
first-same (x ∷ es) [] ls ms p q a b e h k m n =
    let same : q ≡ x = cc in absurd (All-head (λ word. (other : List ℕ) → ¬ IsProgram word other) x es h b (subst (λ w. IsProgram w b) same n))
first-same (x ∷ es) (y ∷ fs) ls ms p q a b e h k m n =
    let tails : es ++ p ∷ ls ≡ fs ++ q ∷ ms = cc in
    first-same es fs ls ms p q a b tails (All-tail (λ word. (other : List ℕ) → ¬ IsProgram word other) x es h)
    (All-tail (λ word. (other : List ℕ) → ¬ IsProgram word other) y fs k) m n

one-first : (words p q a b : List ℕ) → IsFirstProgram words p a → IsFirstProgram words q b → (a ≡ b) × (p ≡ q)
one-first words p q a b h k =
    let same = first-same h.earlier k.earlier h.later k.later p q a b (sym h.divided ∙ k.divided) h.others k.others h.program k.program in
    (one-hashed _ a b h.program.1 (subst (λ w. IsBinary w b) (sym same) k.program.1), same)

-- a line is not both
last-same : (a b : List ℕ) (x y : ℕ) → a ++ x ∷ [] ≡ b ++ y ∷ [] → x ≡ y
last-same a b x y e =
    let size : length a ≡ length b = omega (arith, ap length e, length-append a (x ∷ []), length-append b (y ∷ [])) in
    sym (get_or-append_seam a x [] 0) ∙ (ap (λ l. get_or l (length a) 0) e ∙ (ap (λ n. get_or (b ++ y ∷ []) n 0) size ∙ get_or-append_seam b y [] 0))

target-or-command : (line s t p q : List ℕ) → IsRunning line s p → IsCommand line t q → ⊥
target-or-command line s t p q h k =
    let same : h.text ≡ 96 ∷ (k.words ++ codes "`") = append_cancel_left (codes "Running ") h.text (96 ∷ (k.words ++ codes "`")) (sym h.is ∙ k.is) in
    let front : h.text ≡ (h.target ++ (codes " (" ++ p)) ++ 41 ∷ [] = h.cut.is ∙ sym (append_assoc h.target (codes " (" ++ p) (codes ")")) in
    let e : ◌≡◌ {A = ℕ} 41 96 = last-same (h.target ++ (codes " (" ++ p)) (96 ∷ k.words) 41 96 (sym front ∙ same) in omega (arith, e)

one-running : (line a b p q : List ℕ) → IsRunning line a p → IsRunning line b q → (a ≡ b) × (p ≡ q)
one-running line a b p q h k =
    let text : k.text ≡ h.text = append_cancel_left (codes "Running ") k.text h.text (sym k.is ∙ h.is) in
    let same = one-target h.text h.target k.target p q h.cut (subst (λ t. IsTarget t k.target q) text k.cut) in
    let name = one-hashed _ h.name k.name h.binary (subst (λ w. IsBinary w k.name) (sym same.1) k.binary) in (
      h.announces ∙ (ap (λ n. n ++ (codes " (" ++ (h.target ++ codes ")"))) name
          ∙ (ap (λ t. k.name ++ (codes " (" ++ (t ++ codes ")"))) same.0 ∙ sym k.announces)),
      same.1,
    )

one-command : (line a b p q : List ℕ) → IsCommand line a p → IsCommand line b q → (a ≡ b) × (p ≡ q)
one-command line a b p q h k =
    let both : h.words ++ codes "`" ≡ k.words ++ codes "`" =
    append_cancel_left (codes "Running `") (h.words ++ codes "`") (k.words ++ codes "`") (sym h.is ∙ k.is) in
    one-first h.words p q a b h.first (subst (λ t. IsFirstProgram t q b) (sym (append_cancel_right h.words k.words (codes "`") both)) k.first)

-- a heading announces one name, and has one path
pub one-heading : (line a b : List ℕ) (p q : Option (List ℕ)) → IsHeading line a p → IsHeading line b q → (a ≡ b) × (p ≡ q)
one-heading line a b None None h k =
    let same : h.name ≡ k.name = append_cancel_left (codes "Doc-tests ") h.name k.name (sym h.is ∙ k.is) in
    (h.announces ∙ (ap (λ n. n ++ codes " (doc tests)") same ∙ sym k.announces), refl)
one-heading line a b None (Some q) h k =
    absurd (⊎_elim (λ r. doc-or-running line h.name r.text h.is r.is) (λ r. doc-or-running line h.name (96 ∷ (r.words ++ codes "`")) h.is r.is) k)
one-heading line a b (Some p) None h k =
    absurd (⊎_elim (λ r. doc-or-running line k.name r.text k.is r.is) (λ r. doc-or-running line k.name (96 ∷ (r.words ++ codes "`")) k.is r.is) h)
one-heading line a b (Some p) (Some q) (inl h) (inl k) = let one = one-running line a b p q h k in (one.0, ap (λ x. Some x) one.1)
one-heading line a b (Some p) (Some q) (inl h) (inr k) = absurd (target-or-command line a b p q h k)
one-heading line a b (Some p) (Some q) (inr h) (inl k) = absurd (target-or-command line b a q p k h)
one-heading line a b (Some p) (Some q) (inr h) (inr k) = let one = one-command line a b p q h k in (one.0, ap (λ x. Some x) one.1)

-- a heading is no failure
doc-tests-fail : (rest : List ℕ) → failure_of (codes "Doc-tests " ++ rest) ≡ None
unfolding failure_of
doc-tests-fail rest = refl

running-fails : (rest : List ℕ) → failure_of (codes "Running " ++ rest) ≡ None
unfolding failure_of
running-fails rest = refl

heading-or-failure : (line suite : List ℕ) (path : Option (List ℕ)) (failure : CargoFailure) → IsHeading line suite path → failure_of line ≡ Some failure → ⊥
heading-or-failure line suite None failure h is = let both = sym (doc-tests-fail h.name) ∙ (ap failure_of (sym h.is) ∙ is) in cc
heading-or-failure line suite (Some path) failure (inl h) is = let both = sym (running-fails h.text) ∙ (ap failure_of (sym h.is) ∙ is) in cc
heading-or-failure line suite (Some path) failure (inr h) is =
    let both = sym (running-fails (96 ∷ (h.words ++ codes "`"))) ∙ (ap failure_of (sym h.is) ∙ is) in cc

pub same-failure : (text : List ℕ) (f g : CargoFailure) → failure_of text ≡ Some f → failure_of text ≡ Some g → f ≡ g
same-failure text f g h k = let both = sym h ∙ k in cc

-- a text of cargo says one event
pub one-cargo : (shown text : List ℕ) (a b : EventView) → CargoSays shown text a → CargoSays shown text b → a ≡ b
one-cargo shown text a b (inl h) (inl k) =
    let one = one-heading text h.0 k.0 h.1 k.1 h.2 k.2 in h.3 ∙ ((λ i. HeadingLine (one.0 i) (one.1 i)) ∙ sym k.3)
one-cargo shown text a b (inl h) (inr k) = absurd (heading-or-failure text h.0 h.1 k.0 h.2 k.1)
one-cargo shown text a b (inr h) (inl k) = absurd (heading-or-failure text k.0 k.1 h.0 k.2 h.1)
one-cargo shown text a b (inr h) (inr k) = h.2 ∙ (ap (λ f. CargoFails f shown text) (same-failure text h.0 k.0 h.1 k.1) ∙ sym k.2)

pub separators : (c : ℕ) → char_set_contains (47 ∷ 92 ∷ []) c ≡ is_separator c
separators c = grind (arith, nat_tests)
