-- Markup: how the elements, classes and attributes of a page are written.
-- HTML and SVG, as in the "HTML Standard", sections 4 and 13.1.2.
use Rattle.std.specs.Prelude.{ℕ, List, [], ◌∷◌, ◌++◌, codes, decimal}
use Rattle.sf_page.specs.declared.markup.Attribute.{Attribute}
use Rattle.sf_page.specs.declared.markup.Attribute.TheVariants.{Bend, Depth, Frame, FromColumn, FromLine, Gone, Height, IdLine, IdStep, Last, MoveX, MoveY, ToEndColumn, ToEndLine, ToLine, ToStep, Whose, Width, X, Y}
use Rattle.sf_page.specs.declared.markup.Class.{Class}
use Rattle.sf_page.specs.declared.markup.Class.TheVariants.{Arrow, At, Bad, Bar, Beside, Caption, Cell, Content, Dashed, Doing, Fails, Field, Figure, Fine, Group, Heap, Helps, Kind, Line, Loose, Marked, Name, Note, Owner, Owners, Pointers, Row, Rule, Said, Scene, Source, Step, Steps, Summary, Tag, Task, Tasks, Term, Title, Top, Tracks, Unknown, Value, Values, Verdict, View, Wanted, Words}
use Rattle.sf_page.specs.declared.markup.Element.{Element}
use Rattle.sf_page.specs.declared.markup.Element.TheVariants.{A, Code, Div, G, H1, H2, H3, Label, Li, Ol, P, Path, Rect, Section, Span, Svg}
use Rattle.sf_page.specs.declared.markup.Number.{Number}

-- a text as its bytes
abbrev pub Bytes : Type 0
Bytes = List ℕ

-- the name of an element
abbrev pub element_text : Element → Bytes
element_text Div = codes "div"
element_text Span = codes "span"
element_text A = codes "a"
element_text Section = codes "section"
element_text Ol = codes "ol"
element_text Li = codes "li"
element_text H1 = codes "h1"
element_text H2 = codes "h2"
element_text H3 = codes "h3"
element_text P = codes "p"
element_text Code = codes "code"
element_text Svg = codes "svg"
element_text G = codes "g"
element_text Rect = codes "rect"
element_text Label = codes "text"
element_text Path = codes "path"

-- the names of a class
abbrev pub class_text : Class → Bytes
class_text Top = codes "top"
class_text Title = codes "title"
class_text Summary = codes "summary"
class_text Note = codes "note"
class_text Source = codes "source"
class_text Line = codes "line"
class_text Marked = codes "line marked"
class_text Row = codes "row"
class_text Words = codes "words"
class_text Said = codes "said"
class_text Tracks = codes "tracks"
class_text Fine = codes "track fine"
class_text Bad = codes "track bad"
class_text Unknown = codes "track unknown"
class_text Verdict = codes "verdict"
class_text Steps = codes "steps"
class_text Step = codes "step"
class_text Fails = codes "step fails"
class_text Tag = codes "tag"
class_text Rule = codes "rule"
class_text View = codes "view"
class_text Scene = codes "scene"
class_text Group = codes "group"
class_text Caption = codes "caption"
class_text Values = codes "values"
class_text Value = codes "value"
class_text Name = codes "name"
class_text Term = codes "term"
class_text Wanted = codes "wanted"
class_text Helps = codes "helps"
class_text Beside = codes "beside"
class_text Tasks = codes "tasks"
class_text Task = codes "task"
class_text Doing = codes "doing"
class_text Owners = codes "owners"
class_text Owner = codes "owner"
class_text Heap = codes "heap"
class_text Figure = codes "figure"
class_text Cell = codes "cell"
class_text Dashed = codes "dashed"
class_text Bar = codes "bar"
class_text At = codes "at"
class_text Kind = codes "kind"
class_text Field = codes "field"
class_text Content = codes "content"
class_text Pointers = codes "pointers"
class_text Arrow = codes "arrow"
class_text Loose = codes "arrow loose"

-- what stands before the value of an attribute
abbrev pub number_before : Attribute → Bytes
number_before X = codes " x=\""
number_before Y = codes " y=\""
number_before Width = codes " width=\""
number_before Height = codes " height=\""
number_before Frame = codes " viewBox=\"0 0 "
number_before MoveX = codes " d=\"M"
number_before MoveY = []
number_before Bend = []
number_before Last = []
number_before IdLine = codes " id=\"L"
number_before ToLine = codes " href=\"#L"
number_before IdStep = codes " id=\"step-"
number_before ToStep = codes " href=\"#step-"
number_before Depth = codes " style=\"--depth:"
number_before FromLine = codes " data-line=\""
number_before FromColumn = codes " data-column=\""
number_before ToEndLine = codes " data-end-line=\""
number_before ToEndColumn = codes " data-end-column=\""
number_before Whose = codes " data-owner=\""
number_before Gone = codes " data-gone=\""

-- what stands behind the value of an attribute
abbrev pub number_after : Attribute → Bytes
number_after X = codes "\""
number_after Y = codes "\""
number_after Width = codes "\""
number_after Height = codes "\""
number_after Frame = codes " "
number_after MoveX = codes " "
number_after MoveY = codes " C"
number_after Bend = codes " "
number_after Last = codes "\""
number_after IdLine = codes "\""
number_after ToLine = codes "\""
number_after IdStep = codes "-"
number_after ToStep = codes "-"
number_after Depth = codes "\""
number_after FromLine = codes "\""
number_after FromColumn = codes "\""
number_after ToEndLine = codes "\""
number_after ToEndColumn = codes "\""
number_after Whose = codes "\""
number_after Gone = codes "\""

-- an attribute with its value
abbrev pub number_text : Number → Bytes
number_text n = number_before n.attribute ++ decimal n.value ++ number_after n.attribute

-- attributes with their values
abbrev pub numbers_text : List Number → Bytes
numbers_text [] = []
numbers_text (n ∷ ns) = number_text n ++ numbers_text ns

-- the tag that opens an element of that class with those attributes
abbrev pub opening_text : Element → Class → List Number → Bytes
opening_text e c ns =
    codes "<" ++ element_text e ++ codes " class=\"" ++ class_text c ++ codes "\"" ++ numbers_text ns ++ codes ">"

-- the tag that closes an element
abbrev pub closing_text : Element → Bytes
closing_text e = codes "</" ++ element_text e ++ codes ">"
