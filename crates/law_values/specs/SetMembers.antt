-- The members of unions of sets and of spans (ISO 7185, 6.7.1 and 6.7.2.4).
use Rattle.std.specs.Prelude.{◌≡◌, ℤ, ◌&&◌, ◌||◌, int_le, List}
use Rattle.mean_blocks.specs.SetOperators.{is_member, united, with_span}

-- the members of a union are those of either set
abbrev pub UnitedMembersAreInEither : Type 0
UnitedMembersAreInEither = (xs ys : List ℤ) (z : ℤ)
    → is_member (united xs ys) z ≡ is_member xs z || is_member ys z

-- with the members from one to another a set has these besides its own
abbrev pub SpansAddTheirMembers : Type 0
SpansAddTheirMembers = (a b : ℤ) (xs : List ℤ) (z : ℤ)
    → is_member (with_span a b xs) z ≡ is_member xs z || (int_le a z && int_le z b)
