-- What is kept of the members of an object.
use Rattle.std.proofs.Common.{◌≡◌, ◌∙◌, ℕ, Bool, true, false, List, [], ◌∷◌, ◌++◌, None, Option, Some, ap, cond, sym, refl, subst, option_map, string_bytes, Bor}
use Rattle.std.proofs.lemmas.Bool.{false≢true}
use Rattle.std.proofs.lemmas.Slice.Eq.{bytes_eq-Decides}
use Rattle.std.specs.List.Sorted.{IsStrictlySortedBy}
use Rattle.std.specs.Map.{keys_of}
use Rattle.std.specs.Str.{bytes_eq}
use Rattle.std.specs.String.{string_cmp}
use Rattle.serde_json.specs.Data.{Data, Members as MemberList, array, boolean, null, number, object, put, string}
use Rattle.serde_json.specs.Find.{as_object, get, get_member}
use Rattle.serde_json.specs.View.{members_view, view}
use Rattle.serde_json.specs.declared.value.Value.{Value}
use Rattle.serde_json.proofs.Views.{Entry, get_member-put, get_member-put_other, put_last}
use Rattle.test_report_events.specs.Members.{AreMembersOf}
use Rattle.test_report_events.specs.declared.members.Members.{Members}

-- the value at a word, after one more member
pub kept_is : (word key : List ℕ) (value : Bor Value) (old new : Option (Bor Value)) (ms : MemberList)
    → new ≡ cond (bytes_eq key word) (Some value) old → option_map (λ v. view v.now) old ≡ get word (object ms)
    → option_map (λ v. view v.now) new ≡ get word (object (put key (view value.now) ms))
kept_is word key value old new ms is before = rw is (cases (bytes_eq key word) refl)
  where
    cases : (b : Bool) → bytes_eq key word ≡ b
        → option_map (λ v. view v.now) (cond b (Some value) old) ≡ get_member word (put key (view value.now) ms)
    cases true same =
        sym (subst (λ w. get_member w (put key (view value.now) ms) ≡ Some (view value.now)) ((bytes_eq-Decides key word).0 same)
        (get_member-put key (view value.now) ms))
    cases false differ =
        before ∙ sym (get_member-put_other word key (view value.now) ms (λ e. false≢true (sym differ ∙ (bytes_eq-Decides key word).1 (sym e))))

-- one more member of a map goes last
pub one_more_member : (done : List Entry) (e : Entry) (more : List Entry) (m : Members) → IsStrictlySortedBy string_cmp (keys_of (done ++ e ∷ more))
    → AreMembersOf (object (put (string_bytes e.0) (view e.1) (members_view done))) m → AreMembersOf (object (members_view (done ++ e ∷ []))) m
one_more_member done e more m sorted are = subst (λ ms. AreMembersOf (object ms) m) (put_last done e more sorted) are

-- an object has the members that it is made of, and what is none has no member
pub object_of : (d : Data) (ms : MemberList) → Some ms ≡ as_object d → object ms ≡ d
object_of null ms is = cc
object_of (boolean b) ms is = cc
object_of (number n) ms is = cc
object_of (string s) ms is = cc
object_of (array ds) ms is = cc
object_of (object other) ms is = let same : ms ≡ other = cc in ap object same

pub no_members : (d : Data) (value : Bor Value) → None ≡ as_object d
    → AreMembersOf d record { object = value; kind = None; event = None; name = None; stdout = None; message = None; reason = None; time = None }
no_members null value is = record { kind = refl; event = refl; name = refl; stdout = refl; message = refl; reason = refl; time = refl }
no_members (boolean b) value is = record { kind = refl; event = refl; name = refl; stdout = refl; message = refl; reason = refl; time = refl }
no_members (number n) value is = record { kind = refl; event = refl; name = refl; stdout = refl; message = refl; reason = refl; time = refl }
no_members (string s) value is = record { kind = refl; event = refl; name = refl; stdout = refl; message = refl; reason = refl; time = refl }
no_members (array ds) value is = record { kind = refl; event = refl; name = refl; stdout = refl; message = refl; reason = refl; time = refl }
no_members (object ms) value is = cc
