-- The names of `std`, of `bstr` and of `specs/` that most proofs cite, in one place. Declares nothing.
pub use Rattle.std.proofs.Common.{All, AllPairs, Bool, Bor, Contains, Decides, IfSome, IsSome, IsTrue, IsUtf8, List, MatchOption, None, Option, Some, [], add-zero, ap, append-nil, append_assoc, arith, chars, codes, drop, drop-drop, drop_at, encode_utf8, encode_utf8_all, eq-eqb, ext_get_or, get_or, get_or-append-add, get_or-drop, get_or-set_other, get_or-set_same, get_or-take, inl, inr, length, length-append, length-drop, length-take, length-take-le, map, max, min, nat_le, not, option_map, refl, set, subst, suc, sum_by, sym, take, take-append-drop, take_all, take_at, true, unwrap_or, zero, ℕ, ◌&&◌, ◌*◌, ◌++◌, ◌+◌, ◌-◌, ◌<◌, ◌==◌, ◌^◌, ◌||◌, ◌↔◌, ◌∙◌, ◌∷◌, ◌≡◌, ◌≢◌, ◌≤◌, ◌⊎◌}
pub use Rattle.bstr.proofs.lemmas.EncodeLemmas.{decoded-encode}
pub use Rattle.bstr.proofs.lemmas.PieceLemmas.{StartsClean, decoded_by-cut, piece-bounds, pieces-append, pieces-nil, pieces-step}
pub use Rattle.bstr.proofs.lemmas.SoundLemmas.{SpellsChar-decoded}
pub use Rattle.bstr.specs.Find.{FindsLastNeedle, FindsNeedle, IsFirst, IsLast, Nowhere, OccursAt, is_byte}
pub use Rattle.bstr.specs.Text.{lines_of, part, without_terminator}
pub use Rattle.output_slice.specs.Head.{IsDigit, IsHead, IsLineStart, IsName, IsNumber, IsTail}
pub use Rattle.output_slice.specs.Lines.{AreLines, IsLine}
pub use Rattle.output_slice.specs.Search.{AllHeadsEndBy, IsLastOpening, IsOpening, MayAllBeCrossed, MayCross}
pub use Rattle.output_slice.specs.Shown.{extract_of, slice_of}
pub use Rattle.output_slice.specs.Signs.{AreQuiet, IsNoteQuiet, IsQuietFrom}
pub use Rattle.output_slice.specs.Slices.{IsBlank, IsBreak, IsErrorLine, IsErrorSlice, IsErrorStart, IsNote, IsNoteLine, IsPanicSlice, IsPart, IsTrimmed, IsTrimmedSlice, IsWidened, Slice}
pub use Rattle.output_slice.specs.Steps.{AgreesFor, AreBreaks, AreDigits, ArePlain, AreSpaces, FewReads, HeadReads, HeadReadsTo, IsCharAt, IsDigitRun, IsLineEnd, IsNamedHeadEnd, IsNextQuote, IsOpened, IsOpenedHeadEnd, IsSpace, IsTailEnd, IsTextEnd, NoDigitAt, NoFeedBetween, NoQuoteBetween, QuoteReads, ReadsAll, ReadsUpTo, TextReads}
pub use Rattle.output_slice.specs.Taken.{IsLastTaken, IsTaken, last_of}
pub use Rattle.output_slice.specs.declared.panic_head.HeadSpan.{HeadSpan}
pub use Rattle.std.proofs.Math.ListN.{get_or-append}
pub use Rattle.std.proofs.Math.Seq.{get_or-append_right, take-append-add}
pub use Rattle.std.proofs.lemmas.Bool.{and_from, and_parts, cases_Bool, cases_eq, cases_lt, not-true}
pub use Rattle.std.proofs.lemmas.Bool.Decides.{Decides-by_and, nat_tests}
pub use Rattle.std.proofs.lemmas.List.{drop_all, get_or_default, get_or_past, get_or_push, length-map, length_push, take-append-drop, take-append-le, take_rest}
pub use Rattle.std.proofs.lemmas.List.Elements.{All-cons, All-contains, All-head, All-nil, All-push, All-tail, All-weaker, Contains-append_right, Contains-get_or}
pub use Rattle.std.proofs.lemmas.List.Folds.{concat-append, list_all-append}
pub use Rattle.std.proofs.lemmas.List.Kept.{AllPairs-cons}
pub use Rattle.std.proofs.lemmas.List.Prefix.{at_from_reads, at_reads, front_from_reads, front_reads}
pub use Rattle.std.proofs.lemmas.List.Sums.{AllPass-from_list_all, list_all-from_AllPass, sum_by-cons}
pub use Rattle.std.proofs.lemmas.Option.{get_or_from_slice_get, same_Some, slice_get-get_or, slice_get-map, slice_get_within}
pub use Rattle.std.proofs.lemmas.Str.{IsCharBoundary-start, IsUtf8-append, IsUtf8-encode, IsUtf8-from_is_utf8, IsUtf8-past_char, char_from_byte, chars-encodes, encode_ascii, encode_same, encodes-append, inside_one, is_utf8-from_IsUtf8, len_utf8_bounds, length-encode, length-le-encodes}
pub use Rattle.std.specs.Char.{IsScalar, is_whitespace}
pub use Rattle.std.specs.List.{concat, list_all}
