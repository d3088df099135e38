-- What the parts of a syntax tree show a printer: what they show a reader, but that a header has
-- its points in one section, and then its exports in one.
use Rattle.std.specs.Prelude.{List, [], ◌∷◌, map}
use Rattle.est_syntax.specs.declared.header.Header.{Header}
use Rattle.text_reader.specs.Shown as shown
use Rattle.text_reader.specs.Shown.{empty, pair, first, second, nodes}
use Rattle.text_reader.specs.Going.{used}
use Rattle.text_productions.specs.Productions.{Production, production}
use Rattle.text_productions.specs.Nodes as whole
use Rattle.text_productions.specs.Nodes.{Node, View, a_header, a_point, an_export}
use Rattle.text_printer.specs.Printing.{Plan}

-- parts in one section of this sort, where there are any, and then the rest
abbrev pub section : {V N : Type 0} → (shown.View V N → shown.View V N) → List N → shown.View V N
    → shown.View V N
section sort [] v = v
section sort (n ∷ ns) v = pair (sort (nodes (n ∷ ns))) v

-- a header
abbrev pub header : Header → View
header h = pair (used h.name) (pair (whole.attribute h.system) (pair (whole.parameters h.params)
    (pair (section first (map a_point h.points) (section second (map an_export h.exports) empty))
    empty)))

-- the layer of each part
abbrev pub plain_layer : Node → View
plain_layer (a_header h) = header h
plain_layer n = whole.layer n

-- specifications as they are printed
abbrev pub estelle : Plan Production Node
estelle = record { production = production; layer = whole.layer; plain = plain_layer }
