-- A parser returns the one value that is spelled, or nothing if none is. The same holds for a search of a word among those
-- of some values.
use Rattle.std.proofs.Common.{◌≡◌, refl, ap, sym, ◌∙◌, subst, ℕ, List, [], ◌∷◌, Bool, true, false, cond, arith, inl, inr}
use Rattle.std.specs.Prelude.{None, Option, Some, option_and_then, option_map, ◌⊎◌}
use Rattle.std.proofs.lemmas.Option.{none-some, same_Some}
use Rattle.std.specs.List.{list_all}
use Rattle.std.specs.Str.{bytes_eq}
use Rattle.std.proofs.lemmas.Slice.Eq.{bytes_eq-Decides}
use Rattle.run_events_results.specs.declared.results.CancelReason.{CancelReason}
use Rattle.run_events_results.specs.declared.results.CancelReason.TheVariants as reason
use Rattle.run_digest_engine.specs.Reader.{named, reasons, result_words}
use Rattle.run_digest_engine.specs.Spelling.{ResultWord, reason_word, word_of}
use Rattle.run_digest_engine.proofs.PlainWords.{is_letter, is_plain}

-- the result, if any, has the property, and no other value has it
abbrev pub Reads : {A : Type 0} → (A → Type 0) → Option A → Type 0
Reads {A} P None = (a : A) → ¬ P a
Reads {A} P (Some a) = P a × ((b : A) → P b → b ≡ a)

-- a parser that returns every value that is spelled, and nothing else
pub reads-by : {A : Type 0} (P : A → Type 0) (o : Option A) → ((a : A) → P a → o ≡ Some a) → ((a : A) → o ≡ Some a → P a) → Reads P o
reads-by P None all only = λ a is. none-some a (all a is)
reads-by P (Some a) all only = (only a refl, λ b is. sym (same_Some a b (all b is)))

-- a value that is spelled is returned
pub reads_all : {A : Type 0} (P : A → Type 0) (o : Option A) (a : A) → Reads P o → P a → o ≡ Some a
reads_all P None a none is = absurd (none a is)
reads_all P (Some b) a read is = ap Some (sym (read.1 a is))

-- a value that is returned is spelled
pub reads_only : {A : Type 0} (P : A → Type 0) (o : Option A) (a : A) → Reads P o → o ≡ Some a → P a
reads_only P None a none e = absurd (none-some a e)
reads_only P (Some b) a read e = subst P (same_Some b a e) read.0

-- nothing is returned if nothing is spelled
pub reads_none : {A : Type 0} (P : A → Type 0) (o : Option A) → Reads P o → ((a : A) → ¬ P a) → None ≡ o
reads_none P None read none = refl
reads_none P (Some a) read none = absurd (none a read.0)

-- and nothing is spelled if nothing is returned
pub none_spelled : {A : Type 0} (P : A → Type 0) (o : Option A) (a : A) → Reads P o → None ≡ o → ¬ P a
none_spelled P o a read e is = none-some a (e ∙ reads_all P o a read is)

-- two values that are spelled are the same
pub reads_one : {A : Type 0} (P : A → Type 0) (o : Option A) (a b : A) → Reads P o → P a → P b → a ≡ b
reads_one P o a b read first second = same_Some a b (sym (reads_all P o a read first) ∙ reads_all P o b read second)

-- a value is read, and then another one that depends on it
pub reads-then : {A B : Type 0} (P : A → Type 0) (Q : B → Type 0) (f : A → Option B) (o : Option A) → Reads P o → ((b : B) → Q b → (a : A) × P a)
    → ((a : A) → P a → ((b : A) → P b → b ≡ a) → Reads Q (f a)) → Reads Q (option_and_then f o)
reads-then P Q f None none back next = λ b is. none (back b is).0 (back b is).1
reads-then P Q f (Some a) read back next = next a read.0 read.1

-- a value is read, and becomes a part of another one
pub reads-put : {A B : Type 0} (P : A → Type 0) (Q : B → Type 0) (put : A → B) (o : Option A) → Reads P o → ((b : B) → Q b → (a : A) × P a × (b ≡ put a))
    → ((a : A) → P a → Q (put a)) → Reads Q (option_map put o)
reads-put P Q put None none back to = λ b is. none (back b is).0 (back b is).1
reads-put P Q put (Some a) read back to = (to a read.0, λ b is. (back b is).2 ∙ ap put (read.1 (back b is).0 (back b is).1))

-- a choice that returned a value
pub chosen : {A : Type 0} (b : Bool) (x y z : A) → cond b x y ≡ z → ((b ≡ true) × (x ≡ z)) ⊎ ((b ≡ false) × (y ≡ z))
chosen true x y z e = inl (refl, e)
chosen false x y z e = inr (refl, e)

-- the value that a word names has this word
named_is : {A : Type 0} (spell : A → List ℕ) (xs : List A) (word : List ℕ) (x : A) → named spell xs word ≡ Some x → word ≡ spell x
named_is spell [] word x e = absurd (none-some x e)
named_is spell (y ∷ ys) word x e =
    elim (chosen (bytes_eq word (spell y)) (Some y) (named spell ys word) (Some x) e) [
      | inl held ↦ (bytes_eq-Decides word (spell y)).0 held.0 ∙ ap spell (same_Some y x held.1)
      | inr failed ↦ named_is spell ys word x failed.1
    ]

-- if the word of each value names it, a word names the value that has it
pub table_reads : {A : Type 0} (spell : A → List ℕ) (xs : List A) (word : List ℕ) → ((a : A) → named spell xs (spell a) ≡ Some a)
    → Reads (λ a. word ≡ spell a) (named spell xs word)
table_reads spell xs word found = reads-by (λ a. word ≡ spell a) (named spell xs word) (λ a is. ap (named spell xs) is ∙ found a) (named_is spell xs word)

pub result_found : (r : ResultWord) → named word_of result_words (word_of r) ≡ Some r
result_found r = grind arith

pub word_passes : (r : ResultWord) → list_all is_letter (word_of r) ≡ true
word_passes r = grind arith

pub word_is_plain : (r : ResultWord) → list_all is_plain (word_of r) ≡ true
word_is_plain r = grind arith

pub reason_found : (why : Option CancelReason) → named reason_word reasons (reason_word why) ≡ Some why
unfolding reason_word
reason_found (Some reason.Signal) = refl
reason_found _ = refl

pub reason_passes : (why : Option CancelReason) → list_all is_plain (reason_word why) ≡ true
unfolding reason_word
reason_passes why = grind arith
