-- Each part of the law is computed by itself, so that the name of a refused declaration says what is wrong.
use Rattle.std.proofs.Common.{◌≡◌, ◌++◌, ◌∷◌, [], refl, ℕ, zero, suc, true, List, bytes_eq, codes, drop, if◌then◌else◌, length, take}
use Rattle.std.specs.Char.{encode_utf8}
use Rattle.std.specs.Option.{IsSome}
use Rattle.std.specs.Str.{chars}
use Rattle.report_templates.proofs.Parsed.{parts-of, passed, passes}
use Rattle.report_templates.specs.Sound.{FailedIsInSummary, failed_section, summary_parts}
use Rattle.report_templates.specs.declared.markdown_template.TheConstants.{FAILED, MARKDOWN}
use Rattle.template.specs.Clean.{is_clean}
use Rattle.template.specs.Marks.{is_markdown}
use Rattle.template.specs.Parse.{parse}
use Rattle.report_templates.proofs.laws.markdown_is_sound.Goals as goal

is-template : IsSome (parse MARKDOWN.now)
unfolding parse chars encode_utf8
is-template = refl

places-values : passes is_markdown (parse MARKDOWN.now) ≡ true
unfolding is_markdown parse chars encode_utf8
places-values = refl

has-no-controls : passes is_clean (parse MARKDOWN.now) ≡ true
unfolding parse chars encode_utf8
has-no-controls = refl

failed-is-template : IsSome (parse FAILED.now)
unfolding parse chars encode_utf8
failed-is-template = refl

-- the number of bytes before the first place with this text
abbrev before : List ℕ → List ℕ → ℕ
before sought [] = zero
before sought (b ∷ text) = if bytes_eq (take (length sought) (b ∷ text)) sought then zero else suc (before sought text)

abbrev row_size : ℕ
row_size = before (codes "<details>") FAILED.now

abbrev sections_text : List ℕ
sections_text = failed_section (take row_size FAILED.now) ++ (codes "\n" ++ failed_section (drop row_size FAILED.now))

abbrev sections_at : ℕ
sections_at = before (codes "{{#failed}}") MARKDOWN.now

two-parts : FAILED.now ≡ take row_size FAILED.now ++ drop row_size FAILED.now
two-parts = refl

has-sections : MARKDOWN.now ≡ take sections_at MARKDOWN.now ++ (sections_text ++ drop (length sections_text) (drop sections_at MARKDOWN.now))
has-sections = refl

failed-is-in-summary : FailedIsInSummary
failed-is-in-summary = record {
  row = take row_size FAILED.now;
  details = drop row_size FAILED.now;
  is = two-parts;
  within = record {
    before = take sections_at MARKDOWN.now;
    after = drop (length sections_text) (drop sections_at MARKDOWN.now);
    is = has-sections;
  };
}

pub returns : goal.returns
unfolding summary_parts
returns c = record {
  parsed = parts-of (parse MARKDOWN.now) is-template;
  markdown = passed is_markdown (parse MARKDOWN.now) places-values;
  clean = passed is_clean (parse MARKDOWN.now) has-no-controls;
  failed_parsed = failed-is-template;
  failed = failed-is-in-summary;
}
