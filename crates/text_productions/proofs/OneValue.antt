-- Two parts of a tree of one sort that show one shape are the same.
use Rattle.std.proofs.Common.{◌≡◌, refl}
use Rattle.est_syntax.specs.declared.specification.Spec.{Spec}
use Rattle.text_reader.specs.Shown.{Shows, node}
use Rattle.text_reader.proofs.Alike.{same_node}
use Rattle.text_reader.specs.Going.{Shape}
use Rattle.text_productions.specs.Nodes.{Node, a_specification, layer}
use Rattle.text_productions.proofs.Sorts.{Tag, specifications, tag}
use Rattle.text_productions.proofs.Layers.{sort_of, layer_is}
use Rattle.text_productions.proofs.Told.{from, told}

-- parts of one sort that show one shape are the same
pub one_part : (n m : Node) (g : Tag) (t : Shape) → tag n ≡ g → tag m ≡ g → Shows layer (node n) t
    → Shows layer (node m) t → n ≡ m
one_part n m g t p q d e = same_node tag layer sort_of layer_is from told n m g p q d e

-- specifications that show one shape are one
pub one_specification : (a b : Spec) (t : Shape) → Shows layer (node (a_specification a)) t
    → Shows layer (node (a_specification b)) t → a ≡ b
one_specification a b t d e = let r : a_specification a ≡ a_specification b =
    one_part (a_specification a) (a_specification b) specifications t refl refl d e in cc
