-- Where HTML ends elements.
use Rattle.std.specs.Prelude.{◌∷◌, [], ℕ, Bool, true, false, not, List, codes}
use Rattle.std.specs.List.{list_any}
use Rattle.std.specs.Str.{str_eq_ignore_ascii_case}
use Rattle.template.specs.Check.{at_start, parts_pass}
use Rattle.template.specs.Reader.{EndTag, Open, Reading, Slash}
use Rattle.template.specs.Template.{Parts}

-- the elements of HTML that are one tag
abbrev pub void_names : List (List ℕ)
void_names =
    codes "meta" ∷ codes "br" ∷ codes "hr" ∷ codes "img" ∷ codes "input" ∷ codes "link" ∷ codes "area" ∷ codes "base" ∷ codes "col" ∷ codes "embed"
    ∷ codes "source" ∷ codes "track" ∷ codes "wbr" ∷ []

-- an element of HTML is one tag
abbrev pub is_void : List ℕ → Bool
is_void name = list_any (str_eq_ignore_ascii_case name) void_names

-- the innermost open element is one tag
abbrev pub is_in_void : List Open → Bool
is_in_void [] = false
is_in_void (o ∷ os) = is_void o.name

-- HTML ends an element here, too: by `/>` one that is one tag, and by an end tag another one
abbrev pub ends_in_html : Reading → Bool
ends_in_html (Slash t) = is_void t.name
ends_in_html (EndTag p rest) = not (is_in_void p.around)
ends_in_html _ = true

-- HTML ends each element of a template where the reader ends it
unfoldable pub is_html : Parts → Bool
is_html ps = parts_pass ends_in_html ps at_start
