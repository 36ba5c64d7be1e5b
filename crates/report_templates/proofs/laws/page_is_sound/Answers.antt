-- Each part of the law is computed by itself, so that the name of a refused declaration says what is wrong.
use Rattle.std.proofs.Common.{◌≡◌, refl, true}
use Rattle.std.specs.Char.{encode_utf8}
use Rattle.std.specs.Option.{IsSome}
use Rattle.std.specs.Str.{chars}
use Rattle.report_templates.proofs.Parsed.{parts-of, passed, passes}
use Rattle.report_templates.specs.Sound.{page_parts}
use Rattle.report_templates.specs.declared.page_template.TheConstants.{PAGE}
use Rattle.template.specs.Clean.{is_clean}
use Rattle.template.specs.Document.{is_document}
use Rattle.template.specs.Html.{is_html}
use Rattle.template.specs.Parse.{parse}
use Rattle.template.specs.Reader.{step}
use Rattle.report_templates.proofs.laws.page_is_sound.Goals as goal

is-template : IsSome (parse PAGE.now)
unfolding parse chars encode_utf8
is-template = refl

is-one-element : passes is_document (parse PAGE.now) ≡ true
unfolding is_document parse step chars encode_utf8
is-one-element = refl

ends-as-in-html : passes is_html (parse PAGE.now) ≡ true
unfolding is_html parse step chars encode_utf8
ends-as-in-html = refl

has-no-controls : passes is_clean (parse PAGE.now) ≡ true
unfolding parse chars encode_utf8
has-no-controls = refl

pub returns : goal.returns
unfolding page_parts
returns c = record {
  parsed = parts-of (parse PAGE.now) is-template;
  document = passed is_document (parse PAGE.now) is-one-element;
  html = passed is_html (parse PAGE.now) ends-as-in-html;
  clean = passed is_clean (parse PAGE.now) has-no-controls;
}
