-- Members in text that is no event.
use Rattle.std.proofs.Common.{◌≡◌, ◌∙◌, ◌+◌, ◌<◌, ℕ, List, ◌∷◌, ◌++◌, Bool, None, Some, append_assoc, arith, drop, drop-drop, get_or, get_or-append-add, length, length-append, take, take-append-drop, sym, ap, subst, IsTrue}
use Rattle.std.proofs.Math.Logic.{⊎_elim}
use Rattle.std.proofs.lemmas.Bool.{cases_lt}
use Rattle.std.proofs.lemmas.List.{drop-append-le, get_or_append_left}
use Rattle.std.proofs.lemmas.List.Prefix.{at_from_reads, front_rest}
use Rattle.std.proofs.lemmas.Bool.Decides.{Decides-eqb}
use Rattle.std.proofs.lemmas.Slice.Eq.{starts_is}
use Rattle.std.specs.List.{starts_with}
use Rattle.std.specs.Prelude.{◌==◌}
use Rattle.bstr.specs.Find.{FindsNeedle, OccursAt}
use Rattle.test_report_events.specs.Damage.{HasMember, IsFollowedBy}
use Rattle.test_report_events.specs.Time.{without_spaces}

-- a text that occurs divides the rest
pub occurs_split : (text needle : List ℕ) (at : ℕ) → OccursAt text needle at → drop at text ≡ needle ++ drop (at + length needle) text
occurs_split text needle at h = at_from_reads 0 text needle at h.fits h.reads

pub occurs_here : (text needle front back : List ℕ) → text ≡ front ++ (needle ++ back) → OccursAt text needle (length front)
occurs_here text needle front back is = record {
  fits = let size = ap length is in omega (arith, size, length-append front (needle ++ back), length-append needle back);
  reads = λ j low. ap (λ t. get_or t (length front + j) 0) is
      ∙ (get_or-append-add front (needle ++ back) j 0 ∙ get_or_append_left needle back 0 j low);
}

module _ (text key value : List ℕ) (at : ℕ) (found : FindsNeedle text key 0 (Some at)) where
  -- the first key has the value
  pub member_here : IsFollowedBy (drop (at + length key) text) value → HasMember text key value
  member_here followed = record {
    front = take at text;
    back = drop (at + length key) text;
    is = sym (take-append-drop at text) ∙ ap (λ rest. take at text ++ rest) (occurs_split text key at found.1);
    followed = followed;
  }

  -- it has not, and so a member begins later
  pub member_later : ¬ IsFollowedBy (drop (at + length key) text) value → HasMember text key value → HasMember (drop (at + 1) text) key value
  member_later none h = ⊎_elim
      (λ before. absurd (found.0.before (length h.front) (omega arith) before here))
      (λ le. ⊎_elim after (λ same. absurd (none (subst (λ b. IsFollowedBy b value) (back-is (omega arith)) h.followed))) (cases_lt at (length h.front)))
      (cases_lt (length h.front) at)
    where
      here : OccursAt text key (length h.front)
      here = occurs_here text key h.front h.back h.is

      back-is : length h.front ≡ at → h.back ≡ drop (at + length key) text
      back-is same = sym (front_rest (drop (length h.front) text) key h.back (front_rest text h.front (key ++ h.back) h.is))
          ∙ (drop-drop (length key) (length h.front) text ∙ ap (λ k. drop (k + length key) text) same)

      after : at < length h.front → HasMember (drop (at + 1) text) key value
      after lt = record {
        front = drop (at + 1) h.front;
        back = h.back;
        is = ap (drop (at + 1)) h.is ∙ drop-append-le (at + 1) h.front (key ++ h.back) (omega arith);
        followed = h.followed;
      }

-- a member of the end of a text is one of the text
pub member_earlier : (text key value : List ℕ) (n : ℕ) → HasMember (drop n text) key value → HasMember text key value
member_earlier text key value n h = record {
  front = take n text ++ h.front;
  back = h.back;
  is = sym (take-append-drop n text) ∙ (ap (λ rest. take n text ++ rest) h.is ∙ sym (append_assoc (take n text) h.front (key ++ h.back)));
  followed = h.followed;
}

pub member_none : (text key value : List ℕ) → FindsNeedle text key 0 None → ¬ HasMember text key value
member_none text key value none h =
    let here = occurs_here text key h.front h.back h.is in
    none (length h.front) (omega arith) (omega (arith, here.fits)) here

-- a value after a colon
pub follows : (text value after : List ℕ) (r : Bool) → without_spaces text ≡ 58 ∷ after → r ≡ starts_with (λ a b. a == b) (without_spaces after) value
    → (IsTrue r → IsFollowedBy text value) × (IsFollowedBy text value → IsTrue r)
follows text value after r colon starts =
    let is = starts_is Decides-eqb (without_spaces after) value r starts in (
      (λ same. record { after = after; back = drop (length value) (without_spaces after); colon = colon; is = is.0 same }),
      (λ f.
          let both : 58 ∷ f.after ≡ 58 ∷ after = sym f.colon ∙ colon in
          let one : f.after ≡ after = cc in
          is.1 f.back (subst (λ a. without_spaces a ≡ value ++ f.back) one f.is)),
    )
