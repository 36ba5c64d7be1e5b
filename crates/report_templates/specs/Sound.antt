-- The parts of each template, and what is required of them.
use Rattle.std.specs.Prelude.{◌≡◌, ◌++◌, ℕ, true, List, codes, Some}
use Rattle.std.specs.Option.{IsSome}
use Rattle.report_templates.specs.declared.junit_template.TheConstants.{JUNIT}
use Rattle.report_templates.specs.declared.markdown_template.TheConstants.{FAILED, MARKDOWN}
use Rattle.report_templates.specs.declared.page_template.TheConstants.{PAGE}
use Rattle.template.specs.Clean.{is_clean}
use Rattle.template.specs.Document.{is_document}
use Rattle.template.specs.Html.{is_html}
use Rattle.template.specs.Marks.{is_markdown}
use Rattle.template.specs.Parse.{parse, template_parts}
use Rattle.template.specs.Shows.{HasPart}
use Rattle.template.specs.Template.{Parts}

-- the parts of the page
unfoldable pub page_parts : Parts
page_parts = template_parts PAGE.now

-- the parts of the XML of JUnit
unfoldable pub junit_parts : Parts
junit_parts = template_parts JUNIT.now

-- the parts of the summary
unfoldable pub summary_parts : Parts
summary_parts = template_parts MARKDOWN.now

-- The page is a template of one element without control characters. It ends by `/>` only elements that have no content in HTML, and none of these by an
-- end tag.
pub record PageIsSound : Type 0 where
  pub parsed : parse PAGE.now ≡ Some page_parts
  pub document : is_document page_parts ≡ true
  pub html : is_html page_parts ≡ true
  pub clean : is_clean page_parts ≡ true

-- The XML of JUnit is a template of one element without control characters.
pub record JunitIsSound : Type 0 where
  pub parsed : parse JUNIT.now ≡ Some junit_parts
  pub document : is_document junit_parts ≡ true
  pub clean : is_clean junit_parts ≡ true

-- the section `failed` of a template, with this text
abbrev pub failed_section : List ℕ → List ℕ
failed_section text = codes "{{#failed}}" ++ (text ++ codes "{{/failed}}")

-- The template of one failed test is the texts of two sections of the summary, one after the other: that of its row, and that of its details.
pub record FailedIsInSummary : Type 0 where
  pub row : List ℕ
  pub details : List ℕ
  pub is : FAILED.now ≡ row ++ details
  pub within : HasPart MARKDOWN.now (failed_section row ++ (codes "\n" ++ failed_section details))

-- The summary is a template without control characters, in which no value is a mark of Markdown. Of one failed test it has what `FAILED` has.
pub record MarkdownIsSound : Type 0 where
  pub parsed : parse MARKDOWN.now ≡ Some summary_parts
  pub markdown : is_markdown summary_parts ≡ true
  pub clean : is_clean summary_parts ≡ true
  pub failed_parsed : IsSome (parse FAILED.now)
  pub failed : FailedIsInSummary
