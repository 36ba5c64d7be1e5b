use Rattle.std.proofs.Common.{◌≡◌, ◌∙◌, MatchOption, ap, subst, sym}
use Rattle.std.specs.Option.{option_copied}
use Rattle.std.specs.Int.NonZero.{non_zero_usize_get}
use Rattle.c_values.specs.Layout.{captured, slice_out}
use Rattle.output_slice.specs.Extraction.{IsCappedExtract}
use Rattle.deodarsieve.proofs.slices.deodarsieve_slice_extract_capped.Goals as goal

-- the capped extraction of these streams is that of the streams that were passed
pub returns-clause-only : goal.returns-clause-only
returns-clause-only c positive found is =
    let limit : non_zero_usize_get c.in-Some.limit ≡ c.args.limit =
    subst (λ o. MatchOption o (c.args.limit ≡ 0) (λ x. non_zero_usize_get x ≡ c.args.limit)) c.in-Some.is c.new.ensures in
    let out = captured c.args.is_out_captured c.args.out.now in
    let err = captured c.args.is_err_captured c.args.err.now in
    let limited = subst (λ n. IsCappedExtract n out err found) (sym limit) is in
    let of_out = subst (λ o. IsCappedExtract (non_zero_usize_get c.in-Some.limit) o err found) (sym c.stream.ensures) limited in
    let of_both = subst (λ e. IsCappedExtract (non_zero_usize_get c.in-Some.limit) (option_copied c.stream.result) e found) (sym c.stream-2.ensures) of_out in
    c.written_slice.ensures ∙ ap slice_out (sym (c.heuristic_extract_capped-capped.ensures.only found of_both))
