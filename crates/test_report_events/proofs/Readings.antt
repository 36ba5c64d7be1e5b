-- What is read of a line.
use Rattle.std.proofs.Common.{◌≡◌, ◌∙◌, ◌∷◌, ◌++◌, ◌<◌, [], Bool, true, false, ltb-true, codes, nat_lt, length-append, refl, sym, ap, arith, ℕ, List, Option, Some, None, inl, inr, subst, take_all, MatchOption, IfSome, option_map}
use Rattle.std.proofs.Math.Logic.{⊎_elim}
use Rattle.std.proofs.lemmas.Bool.{ltb-false}
use Rattle.std.specs.Bool.{then_some}
use Rattle.std.specs.Prelude.{drop, length, option_to_list, take}
use Rattle.serde_json.specs.Data.{Data}
use Rattle.serde_json.specs.View.{view}
use Rattle.serde_json.specs.declared.value.Value.{Value}
use Rattle.test_report_events.proofs.Escapes.{one-plain}
use Rattle.test_report_events.proofs.Events.{object-only, object-says, one-object, test-tells}
use Rattle.test_report_events.proofs.Headings.{one-cargo, one-heading, same-failure}
use Rattle.test_report_events.proofs.LastAt.{one-last}
use Rattle.test_report_events.proofs.Times.{one-time}
use Rattle.test_report_events.specs.Cargo.{IsHeading, failure_of}
use Rattle.test_report_events.specs.Content.{program_of}
use Rattle.test_report_events.specs.Damage.{IsDamage}
use Rattle.test_report_events.specs.Event.{CargoFails, EventView, HeadingLine, Prints, TestStarts}
use Rattle.test_report_events.specs.Line.{EndSays, EndsWithFailure, EndsWithHeading, EventSays, HeadingBegins, Holds, HoldsEvent, IsJson, IsLastAt, IsPrint, LineSays, ObjectBegins, RestOf, TextSays}
use Rattle.test_report_events.specs.Plain.{IsPlain, line_text}
use Rattle.test_report_events.specs.Program.{ProgramLineView, TellsProgram, object_tells, program_view}
use Rattle.test_report_events.specs.Said.{IsTime, ObjectSays, Says}
use Rattle.test_report_events.specs.Table.{object_said}
use Rattle.test_report_events.specs.Time.{without_spaces}
use Rattle.test_report_events.specs.declared.line.Line.{Line}
use Rattle.test_report_events.specs.declared.program.ProgramLine.{ProgramLine}

-- this was read of a line: the value that it holds and where it begins, if it holds one
abbrev pub Reads : List ℕ → Option (ℕ × Value) → Type 0
Reads line found = MatchOption found ((at : ℕ) (d : Data) → ¬ Holds line at d) (λ f. Holds line f.0 (view f.1))

-- no object begins in it
pub holds_none : (line : List ℕ) → ((d : Data) → ¬ IsJson line d) → ((k : ℕ) → ¬ ObjectBegins line k) → (at : ℕ) (d : Data) → ¬ Holds line at d
holds_none line whole none at d = ⊎_elim (λ h. whole d h.1) (λ h. none at h.1.holds)

-- its end is the value, from the last object on, or no value is there
abbrev pub IsValueAt : List ℕ → ℕ → Option (ℕ × Value) → Type 0
IsValueAt line at found = MatchOption found ((d : Data) → ¬ IsJson (drop at line) d) (λ f. (f.0 ≡ at) × IsJson (drop at line) (view f.1))

pub holds_later : (line : List ℕ) (at : ℕ) (found : Option (ℕ × Value)) → ((d : Data) → ¬ IsJson line d) → IsLastAt (ObjectBegins line) at
    → IsValueAt line at found → Reads line found
holds_later line at None whole last ends = λ k d. ⊎_elim (λ h. whole d h.1)
    (λ h. ends d (subst (λ i. IsJson (drop i line) d) (one-last (ObjectBegins line) _ _ h.1 last) h.2))
holds_later line at (Some f) whole last ends =
    subst (λ k. Holds line k (view f.1)) (sym ends.0) (inr (whole, last, ends.1))

-- a line holds one value
value-one : (bytes : List ℕ) (d e : Data) → IsJson bytes d → IsJson bytes e → d ≡ e
value-one bytes d e h k = let both = sym h.1 ∙ k.1 in cc

holds-one : (line : List ℕ) (a b : ℕ) (d e : Data) → Holds line a d → Holds line b e → (a ≡ b) × (d ≡ e)
holds-one line a b d e (inl h) (inl k) = (h.0 ∙ sym k.0, value-one line d e h.1 k.1)
holds-one line a b d e (inl h) (inr k) = absurd (k.0 d h.1)
holds-one line a b d e (inr h) (inl k) = absurd (h.0 e k.1)
holds-one line a b d e (inr h) (inr k) =
    let same = one-last (ObjectBegins line) a b h.1 k.1 in
    (same, value-one (drop b line) d e (subst (λ at. IsJson (drop at line) d) same h.2) k.2)

one-event-held : (line : List ℕ) (a b : ℕ) (e f : EventView) → HoldsEvent line a e → HoldsEvent line b f → (a ≡ b) × (e ≡ f)
one-event-held line a b e f h k =
    let one = holds-one line a b h.0 k.0 h.1 k.1 in
    (one.0, one-object line k.0 e f (subst (λ d. ObjectSays line d e) one.1 h.2) k.2)

-- the event of an object, or none
pub object_is : (line : List ℕ) (at : ℕ) (d : Data) (time : Option ℕ) (e : EventView) → Holds line at d → IsTime line d time → object_said time d ≡ Some e
    → HoldsEvent line at e
object_is line at d time e holds timed is = (d, holds, (time, timed, subst (λ o. IfSome o (Says time d)) is (object-says d time)))

pub object_none : (line : List ℕ) (at : ℕ) (d : Data) (time : Option ℕ) → Holds line at d → IsTime line d time → object_said time d ≡ None
    → (k : ℕ) (e : EventView) → ¬ HoldsEvent line k e
object_none line at d time holds timed none k e h =
    let one = holds-one line k at h.0 d h.1 holds in
    let said = subst (λ x. ObjectSays line x e) one.1 h.2 in
    let says = object-only d time e (subst (λ t. Says t d e) (one-time line d said.0 time said.1 timed) said.2) in
    let both = sym none ∙ says in cc

pub value_print : (line : List ℕ) (at : ℕ) (d : Data) (e : EventView) → Holds line at d → ((k : ℕ) (other : EventView) → ¬ HoldsEvent line k other)
    → IsPrint line e → EventSays line None e
value_print line at d e holds none prints = inr (none, inl (refl, (at, d, holds), prints))

pub no_value : (line : List ℕ) → ((at : ℕ) (d : Data) → ¬ Holds line at d) → (at : ℕ) (e : EventView) → ¬ HoldsEvent line at e
no_value line none at e h = none at h.0 h.1

pub text_says : (line : List ℕ) (before : Option EventView) (e : EventView) → ((at : ℕ) (d : Data) → ¬ Holds line at d)
    → (plain : List ℕ) × IsPlain line plain × TextSays line plain before e → EventSays line before e
text_says line before e none says = inr (no_value line none, inr (none, says))

-- what a line says of a program is what its value says
pub tells_held : (line : List ℕ) (at : ℕ) (d : Data) (found : Option ProgramLineView) → Holds line at d → found ≡ object_tells d → TellsProgram line found
tells_held line at d None holds is = λ k e h. ap object_tells (holds-one line k at e d h holds).1 ∙ sym is
tells_held line at d (Some p) holds is = (at, d, holds, sym is)

-- and nothing, if it starts a test
pub start_tells : (line : List ℕ) (at : ℕ) (name : List ℕ) → HoldsEvent line at (TestStarts name) → TellsProgram line None
start_tells line at name h = tells_held line at h.0 None h.1 (sym (test-tells h.0 h.2.0 h.2.2.0))

-- what was kept of it
pub tells_kept : (line : List ℕ) (kept : Line) (program : Option ProgramLine) → TellsProgram line (option_map program_view program) → kept.program ≡ program
    → TellsProgram line (program_of kept)
tells_kept line kept program tells is = subst (λ p. TellsProgram line (option_map program_view p)) (sym is) tells

-- what is in front of an event at an offset
abbrev pub IsFront : ℕ → Option ℕ → Type 0
IsFront at rest = MatchOption rest (at ≡ 0) (λ size. (0 < at) × (size ≡ at))

front_by : (at : ℕ) (later : Bool) → nat_lt 0 at ≡ later → IsFront at (then_some later at)
front_by at true is = (ltb-true 0 at is, refl)
front_by at false is = let none = ltb-false 0 at is in omega arith

pub front_of : (at : ℕ) (rest : Option ℕ) → rest ≡ then_some (nat_lt 0 at) at → IsFront at rest
front_of at rest is = subst (IsFront at) (sym is) (front_by at _ refl)

-- no text is no damage
undamaged : (damage : Option EventView) → IsDamage [] damage → damage ≡ None
undamaged None h = refl
undamaged (Some e) h =
    let m = h.0.1 in let size = ap length m.is in
    absurd (omega (arith, size, length-append m.front (codes "\"event\"" ++ m.back)))

-- the events of a line
pub held_rest : (line : List ℕ) (at : ℕ) (e : EventView) (rest : Option ℕ) → HoldsEvent line at e → IsFront at rest → RestOf line rest
held_rest line at e None holds front = (e, subst (λ k. HoldsEvent line k e) front holds)
held_rest line at e (Some size) holds front = inl (omega (arith, front.1), (e, subst (λ k. HoldsEvent line k e) (sym front.1) holds))

held_damage : (line : List ℕ) (at : ℕ) (rest : Option ℕ) (damage : Option EventView) → IsFront at rest → IsDamage (take at line) damage
    → MatchOption rest (damage ≡ None) (λ size. IsDamage (take size line) damage)
held_damage line at None damage front damaged = undamaged damage (subst (λ k. IsDamage (take k line) damage) front damaged)
held_damage line at (Some size) damage front damaged = subst (λ k. IsDamage (take k line) damage) (sym front.1) damaged

-- the line is wholly this event
pub whole_line : (line : List ℕ) (e : EventView) → HoldsEvent line 0 e → LineSays line (e ∷ [])
whole_line line e holds = record {
  before = None;
  event = e;
  rest = None;
  damage = None;
  says = inl (refl, (0, holds));
  is_rest = (e, holds);
  damaged = refl;
  are = refl;
}

pub held_line : (line : List ℕ) (events : List EventView) (at : ℕ) (e : EventView) (damage : Option EventView) (rest : Option ℕ) → HoldsEvent line at e
    → IsDamage (take at line) damage → IsFront at rest → events ≡ e ∷ option_to_list damage → LineSays line events
held_line line events at e damage rest holds damaged front are = record {
  before = None;
  event = e;
  rest = rest;
  damage = damage;
  says = inl (refl, (at, holds));
  is_rest = held_rest line at e rest holds front;
  damaged = held_damage line at rest damage front damaged;
  are = are;
}

pub other_line : (line : List ℕ) (events : List EventView) (before damage : Option EventView) (e : EventView)
    → ((at : ℕ) (other : EventView) → ¬ HoldsEvent line at other) → EventSays line before e → IsDamage line damage
    → events ≡ option_to_list before ++ e ∷ option_to_list damage → LineSays line events
other_line line events before damage e none says damaged are = record {
  before = before;
  event = e;
  rest = Some (length line);
  damage = damage;
  says = says;
  is_rest = inr (none, refl);
  damaged = subst (λ text. IsDamage text damage) (sym (take_all (length line) line (omega arith))) damaged;
  are = are;
}

-- they are determined by the line
one-print : (line : List ℕ) (a b : EventView) → IsPrint line a → IsPrint line b → a ≡ b
one-print line a b h k = h.2 ∙ (ap (Prints (line_text line)) (one-plain line h.0 k.0 h.1 k.1) ∙ sym k.2)

one-heading-end : (plain : List ℕ) (i j : ℕ) (a b : EventView) → EndsWithHeading plain i a → EndsWithHeading plain j b → (i ≡ j) × (a ≡ b)
one-heading-end plain i j a b h k =
    let at = one-last (HeadingBegins plain) i j h.0 k.0 in
    let one = one-heading (without_spaces (drop j plain)) h.1.0 k.1.0 h.1.1 k.1.1
    (subst (λ n. IsHeading (without_spaces (drop n plain)) h.1.0 h.1.1) at h.1.2) k.1.2 in
    (at, h.1.3 ∙ ((λ x. HeadingLine (one.0 x) (one.1 x)) ∙ sym k.1.3))

one-failure-end : (plain : List ℕ) (i j : ℕ) (a b : EventView) → EndsWithFailure plain i a → EndsWithFailure plain j b → (i ≡ j) × (a ≡ b)
one-failure-end plain i j a b h k =
    let at = one-last _ i j h.0 k.0 in
    let same = same-failure (drop j plain) h.1.0 k.1.0 (subst (λ n. failure_of (drop n plain) ≡ Some h.1.0) at h.1.1) k.1.1 in
    (at, h.1.2 ∙ ((λ x. CargoFails (same x) (drop (at x) plain) (drop (at x) plain)) ∙ sym k.1.2))

one-end : (plain : List ℕ) (i j : ℕ) (a b : EventView) → EndSays plain i a → EndSays plain j b → (i ≡ j) × (a ≡ b)
one-end plain i j a b (inl h) (inl k) = one-heading-end plain i j a b h k
one-end plain i j a b (inl h) (inr k) = absurd (k.0 i a h)
one-end plain i j a b (inr h) (inl k) = absurd (h.0 j b k)
one-end plain i j a b (inr h) (inr k) = one-failure-end plain i j a b h.1 k.1

one-text : (line plain : List ℕ) (x y : Option EventView) (a b : EventView) → TextSays line plain x a → TextSays line plain y b → (x ≡ y) × (a ≡ b)
one-text line plain x y a b (inl h) (inl k) = (h.0 ∙ sym k.0, one-cargo (line_text line) (without_spaces plain) a b h.1 k.1)
one-text line plain x y a b (inl h) (inr k) = absurd (k.0 a h.1)
one-text line plain x y a b (inr h) (inl k) = absurd (h.0 b k.1)
one-text line plain x y a b (inr (n, inl h)) (inr (m, inl k)) =
    let one = one-end plain h.0 k.0 a b h.1 k.1 in
    (h.2 ∙ (ap (λ i. Some (Prints (take i plain) (take i plain))) one.0 ∙ sym k.2), one.1)
one-text line plain x y a b (inr (n, inl h)) (inr (m, inr k)) = absurd (k.0 h.0 a h.1)
one-text line plain x y a b (inr (n, inr h)) (inr (m, inl k)) = absurd (h.0 k.0 b k.1)
one-text line plain x y a b (inr (n, inr h)) (inr (m, inr k)) = (h.1 ∙ sym k.1, h.2 ∙ sym k.2)

one-event : (line : List ℕ) (x y : Option EventView) (a b : EventView) → EventSays line x a → EventSays line y b → (x ≡ y) × (a ≡ b)
one-event line x y a b (inl h) (inl k) = (h.0 ∙ sym k.0, (one-event-held line h.1.0 k.1.0 a b h.1.1 k.1.1).1)
one-event line x y a b (inl h) (inr k) = absurd (k.0 h.1.0 a h.1.1)
one-event line x y a b (inr h) (inl k) = absurd (h.0 k.1.0 b k.1.1)
one-event line x y a b (inr (n, inl h)) (inr (m, inl k)) = (h.0 ∙ sym k.0, one-print line a b h.2 k.2)
one-event line x y a b (inr (n, inl h)) (inr (m, inr k)) = absurd (k.0 h.1.0 h.1.1 h.1.2)
one-event line x y a b (inr (n, inr h)) (inr (m, inl k)) = absurd (h.0 k.1.0 k.1.1 k.1.2)
one-event line x y a b (inr (n, inr h)) (inr (m, inr k)) =
    one-text line k.1.0 x y a b (subst (λ p. TextSays line p x a) (one-plain line h.1.0 k.1.0 h.1.1 k.1.1) h.1.2) k.1.2

pub one-rest : (line : List ℕ) (a b : Option ℕ) → RestOf line a → RestOf line b → a ≡ b
one-rest line None None h k = refl
one-rest line None (Some n) h (inl k) = absurd (let one = one-event-held line 0 n h.0 k.1.0 h.1 k.1.1 in omega (arith, one.0, k.0))
one-rest line None (Some n) h (inr k) = absurd (k.0 0 h.0 h.1)
one-rest line (Some m) None (inl h) k = absurd (let one = one-event-held line m 0 h.1.0 k.0 h.1.1 k.1 in omega (arith, one.0, h.0))
one-rest line (Some m) None (inr h) k = absurd (h.0 0 k.0 k.1)
one-rest line (Some m) (Some n) (inl h) (inl k) = ap (λ x. Some x) (one-event-held line m n h.1.0 k.1.0 h.1.1 k.1.1).0
one-rest line (Some m) (Some n) (inl h) (inr k) = absurd (k.0 m h.1.0 h.1.1)
one-rest line (Some m) (Some n) (inr h) (inl k) = absurd (h.0 n k.1.0 k.1.1)
one-rest line (Some m) (Some n) (inr h) (inr k) = ap (λ x. Some x) (h.1 ∙ sym k.1)

one-damage : (text : List ℕ) (a b : Option EventView) → IsDamage text a → IsDamage text b → a ≡ b
one-damage text None None h k = refl
one-damage text None (Some b) h k = absurd (h k.0)
one-damage text (Some a) None h k = absurd (k h.0)
one-damage text (Some a) (Some b) h k = ap (λ x. Some x) (h.1 ∙ sym k.1)

abbrev Damaged : List ℕ → Option ℕ → Option EventView → Type 0
Damaged line rest damage = MatchOption rest (damage ≡ None) (λ size. IsDamage (take size line) damage)

one-damage-of-rest : (line : List ℕ) (rest : Option ℕ) (a b : Option EventView) → Damaged line rest a → Damaged line rest b → a ≡ b
one-damage-of-rest line None a b h k = h ∙ sym k
one-damage-of-rest line (Some size) a b h k = one-damage (take size line) a b h k

pub one-reading-of-line : (line : List ℕ) (a b : List EventView) → LineSays line a → LineSays line b → a ≡ b
one-reading-of-line line a b h k =
    let event = one-event line h.before k.before h.event k.event h.says k.says in
    let damage = one-damage-of-rest line k.rest h.damage k.damage
    (subst (λ r. Damaged line r h.damage) (one-rest line h.rest k.rest h.is_rest k.is_rest) h.damaged) k.damaged in
    h.are ∙ ((λ i. option_to_list (event.0 i) ++ event.1 i ∷ option_to_list (damage i)) ∙ sym k.are)
