-- The laws of what stays.
use Rattle.std.proofs.Common.{arith}
use Rattle.law_places.specs.Staying.{LaterIsInOrder, GrownIsLater, ConstantsStay, TextsStay}
use Rattle.law_places.specs.Staying.{DimensionsStay}
use Rattle.law_places.specs.Growth.{Anywhere}
use Rattle.law_places.proofs.FromParts.{shorts_placed}
use Rattle.law_places.proofs.FromTexts.{constant_placed, type_placed}
use Rattle.law_places.proofs.Lasting.{later_self, later_then, later_grown, before_grown}
use Rattle.law_places.proofs.Staying.{constant_stays, text_stays, dims_stay}

pub later_in_order : LaterIsInOrder
later_in_order a c o x p = (later_self a c o, λ f g. later_then a c o x p f g)

pub grown_later : GrownIsLater
grown_later unfinished a b o p l before grows = (
  before_grown Anywhere unfinished a b o p grows before l,
  λ c m. later_grown Anywhere unfinished a b o p grows before c m,
)

pub constants_stay : ConstantsStay
constants_stay a c i j o p k later h l =
    constant_stays a c o p later i j k (constant_placed k h) (λ q m n. omega arith)

pub texts_stay : TextsStay
texts_stay a c i j o p t later h l m fits =
    text_stays a c o p later i j t fits (type_placed t h) l (λ q n e. omega arith)

pub dimensions_stay : DimensionsStay
dimensions_stay a c i j o p ts later h l fits =
    dims_stay a c o p later i j ts fits (shorts_placed ts i j h) l
