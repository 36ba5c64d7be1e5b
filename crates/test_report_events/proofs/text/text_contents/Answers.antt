use Rattle.std.proofs.Common.{◌∙◌, None, Option, option_map, string_bytes, subst}
use Rattle.test_report_events.proofs.Endings.{contents_say, print_says}
use Rattle.test_report_events.specs.Content.{content_event}
use Rattle.test_report_events.specs.Event.{EventView, Prints}
use Rattle.test_report_events.specs.Line.{TextSays}
use Rattle.test_report_events.specs.Table.{CargoContents}
use Rattle.test_report_events.specs.declared.content.Content.{Content}
use Rattle.test_report_events.proofs.text.text_contents.Goals as goal

-- the events of the contents of a line
abbrev events : Option Content × Content → Option EventView × EventView
events contents = (option_map content_event contents.0, content_event contents.1)

pub returns-in-Some : goal.returns-in-Some
returns-in-Some c =
    let line = c.args.line.now in
    let contents = c.in-Some.contents in
    let before = option_map content_event contents.0 in
    let e = content_event contents.1 in
    let found = subst (λ o. CargoContents c.as_str.result.now c.as_str-2.result.now (option_map events o)) c.in-Some.is c.in_ok-contents.ensures in
    let says = contents_say line c.as_str.result.now c.as_str-2.result.now (c.as_str.ensures.value ∙ c.in_ok-shown.ensures) before e found in
    (string_bytes c.in_ok-plain.plain, c.in_ok-plain.ensures, subst (λ t. TextSays line t before e) c.as_str-2.ensures.value says)

pub returns-in-None : goal.returns-in-None
returns-in-None c =
    let line = c.args.line.now in
    let none = subst (λ o. CargoContents c.as_str.result.now c.as_str-2.result.now (option_map events o)) c.in-None.is c.in_ok-contents.ensures in
    let says = print_says line c.as_str.result.now c.as_str-2.result.now (c.as_str.ensures.value ∙ c.in_ok-shown.ensures) none in
    let shown = subst (λ t. TextSays line c.as_str-2.result.now None (Prints t c.as_str-2.result.now)) c.as_str.ensures.value says in (
      string_bytes c.in_ok-plain.plain,
      c.in_ok-plain.ensures,
      subst (λ t. TextSays line t None (Prints (string_bytes c.in_ok-shown.shown) t)) c.as_str-2.ensures.value shown,
    )
