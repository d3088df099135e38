-- Stamps that are left where instances are released.
use Rattle.std.proofs.Common.{◌≡◌, refl, sym, ap, ◌∙◌, ℕ, nat_eq, ◌&&◌, Bool, true, false, not}
use Rattle.std.proofs.Common.{List, None}
use Rattle.std.specs.Prelude.{if◌then◌else◌}
use Rattle.std.specs.List.{filter}
use Rattle.std.specs.Option.{option_map}
use Rattle.std.proofs.lemmas.Bool.{eqb-true}
use Rattle.plain_texts.specs.mean_blocks.GlobalSituation.{Clocked}
use Rattle.plain_texts.specs.mean_blocks.InstanceEffects.{is_among}
use Rattle.plain_frames.specs.plain_systems.declared.system.Stamp.{Stamp}
use Rattle.plain_frames.specs.plain_systems.HeldSystems.{is_stamp, stamped}
use Rattle.plain_births.specs.LostRows.{stamps_without}
use Rattle.plain_frames.proofs.of_plain_systems.FirstPlaces.{found_kept, found_none}

first_of : (a b : Bool) → (a && b) ≡ true → a ≡ true
first_of true b e = refl
first_of false b e = absurd (cc)

stamp_of : (k : Clocked) (s : Stamp) → is_stamp k s ≡ true → k.instance ≡ s.instance
stamp_of k s e = eqb-true k.instance s.instance
    (first_of (nat_eq k.instance s.instance) (nat_eq k.transition s.transition) e)

abbrev Since : Stamp → ℕ
Since s = s.since

abbrev pub stays : List ℕ → Stamp → Bool
stays ns s = not (is_among ns s.instance)

kept_stamp : (ns : List ℕ) (k : Clocked) (ss : List Stamp) (c : Bool)
    → is_among ns k.instance ≡ c
    → stamped (filter (stays ns) ss) k ≡ (if c then None else stamped ss k)
kept_stamp ns k ss true e =
    ap (option_map Since) (found_none (stays ns) (is_stamp k) ss
    (λ s h. ap not (ap (is_among ns) (sym (stamp_of k s h)) ∙ e)))
kept_stamp ns k ss false e =
    ap (option_map Since) (found_kept (stays ns) (is_stamp k) ss
    (λ s h. ap not (ap (is_among ns) (sym (stamp_of k s h)) ∙ e)))

pub kept_stamps : (ns : List ℕ) (ss : List Stamp)
    → stamped (filter (stays ns) ss) ≡ stamps_without ns (stamped ss)
kept_stamps ns ss = λ i k. kept_stamp ns k ss (is_among ns k.instance) refl i
