-- The paragraph is one tree, in which the name is data.
use Rattle.std.proofs.Common.{true, ◌≡◌, ◌∙◌, refl, sym, ap, ℕ, List, [], ◌∷◌, ◌++◌, append_assoc, codes, map, string_bytes, Some}
use Rattle.std.proofs.lemmas.List.{append-nil}
use Rattle.std.specs.List.{fold}
use Rattle.std.specs.Option.{option_map}
use Rattle.std.specs.Str.{chars}
use Rattle.std.specs.Char.{encode_utf8}
use Rattle.template.proofs.Document.{renders_one_tree}
use Rattle.template.specs.Document.{filled_tree, is_document}
use Rattle.template.specs.Filled.{read_part, read_parts}
use Rattle.template.specs.Parse.{parse}
use Rattle.template.specs.Reader.{Content, Open, read_tree, step, whole, with_byte}
use Rattle.template.specs.Shown.{shown}
use Rattle.template.specs.Template.{HolePart, NoParts, NoValues, OnePart, OneValue, Parts, TextPart, TextValue, Values, parts_text, parts_view, value_view, values_of}
use Rattle.template.specs.Tree.{ElementTree, NoTrees, OneTree, TextTree, TreeView}
use Rattle.template.specs.declared.hole.Hole.TheVariants as hole
use Rattle.report_uses.proofs.of_template.greeting.Goals as goal

-- the parts of the template, and its values
abbrev page : Parts
page =
    OnePart (TextPart (codes "<p>Hello, ")) (OnePart (HolePart hole.Text (codes "name"))
    (OnePart (TextPart (codes "!\n")) (OnePart (TextPart (codes "</p>")) NoParts)))

abbrev values : List ℕ → Values
values name = OneValue (TextValue (codes "name") name) NoValues

is-page : parse (codes "<p>Hello, {{name}}!\n</p>") ≡ Some page
unfolding parse chars encode_utf8
is-page = refl

one-element : is_document page ≡ true
unfolding is_document step chars encode_utf8
one-element = refl

-- data after a text is more of this text
more-data : (bytes text : List ℕ) (trees : List TreeView) → fold with_byte (TextTree text ∷ trees) bytes ≡ TextTree (text ++ bytes) ∷ trees
more-data [] text trees = ap (λ t. TextTree t ∷ trees) (sym (append-nil text))
more-data (b ∷ bytes) text trees = more-data bytes (text ++ b ∷ []) trees ∙ ap (λ t. TextTree t ∷ trees) (append_assoc text (b ∷ []) bytes)

-- the tree
abbrev paragraph : List ℕ → TreeView
paragraph text = ElementTree (codes "p") [] (OneTree (TextTree text) NoTrees)

abbrev in_paragraph : List Open
in_paragraph = record { name = codes "p"; attributes = []; before = [] } ∷ []

filled : (name : List ℕ) → filled_tree page (values name) ≡ Some (paragraph (codes "Hello, " ++ (shown name ++ codes "!\n")))
unfolding filled_tree read_part read_parts step
filled name =
    ap (λ l. whole (fold step (fold step (Content (record { trees = l; around = in_paragraph })) (codes "!\n")) (codes "</p>")))
    (more-data (shown name) (codes "Hello, ") [])
    ∙ ap (λ t. Some (paragraph (codes "Hello, " ++ t))) (append_assoc (shown name) (codes "!") (codes "\n"))

page-read : (name : List ℕ) → read_tree (parts_text page (values name)) ≡ Some (paragraph (codes "Hello, " ++ (shown name ++ codes "!\n")))
page-read name = let one = renders_one_tree page (values name) one-element in one.1 ∙ (sym one.2 ∙ filled name)

pub returns-in_default-clause-is_some : goal.returns-in_default-clause-is_some
returns-in_default-clause-is_some c =
    let e = ap (option_map (λ v. parts_view v.items)) (sym c.in_default.is) ∙ (c.in_ok-parts.ensures ∙ is-page) in cc

pub returns-clause-reads : goal.returns-clause-reads
returns-clause-reads c =
    let same-page : parts_view c.in-Some.parts.items ≡ page =
    (let e = ap (option_map (λ v. parts_view v.items)) (sym c.in-Some.is) ∙ (c.in_ok-parts.ensures ∙ is-page) in cc) in
    let named : map value_view c.push_text.new.values.items ≡ TextValue (codes "name") c.args.name.now ∷ [] =
    rw (c.new-values.ensures.items, c.in_ok-from_str.ensures.ok) at c.in_ok-push_text.ensures in
    let written : string_bytes c.render.new.text ≡ parts_text (parts_view c.in-Some.parts.items) (values_of (map value_view c.push_text.new.values.items)) =
    rw (c.new-page.ensures.bytes, c.as_slice.ensures.value, c.as_slice-2.ensures.value) at c.in_ok-render.ensures in
    ap read_tree (written ∙ (ap (λ ps. parts_text ps (values_of (map value_view c.push_text.new.values.items))) same-page
    ∙ ap (λ vs. parts_text page (values_of vs)) named))
    ∙ page-read c.args.name.now
