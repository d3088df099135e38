-- Systems with their instances in order stay so where one more comes, or one goes.
use Rattle.std.proofs.Common.{◌≡◌, sym, subst, ◌++◌, List, [], ◌∷◌}
use Rattle.est_meaning.specs.mean_blocks.KeepingLaws.{AreNumbered}
use Rattle.plain_frames.specs.plain_systems.declared.system.System.{System}
use Rattle.plain_frames.specs.plain_systems.HeldSystems.{situation_of}
use Rattle.est_plain.specs.inside.NumberedSystems.{AllNumbered}

-- ONE SYSTEM MORE

last_numbered : (s : System) (below : List System) → AreNumbered (situation_of s)
    → AllNumbered below → AllNumbered (below ++ s ∷ [])
last_numbered s [] n all = (n, tt)
last_numbered s (x ∷ below) n all = (all.0, last_numbered s below n all.1)

-- all have their instances in order with one more that has
pub all_pushed : (s : System) (below after : List System) → after ≡ below ++ s ∷ []
    → AreNumbered (situation_of s) → AllNumbered below → AllNumbered after
all_pushed s below after is n all = subst AllNumbered (sym is) (last_numbered s below n all)

-- ONE SYSTEM LESS

first_numbered : (s : System) (after : List System) → AllNumbered (after ++ s ∷ [])
    → AllNumbered after
first_numbered s [] all = tt
first_numbered s (x ∷ after) all = (all.0, first_numbered s after all.1)

-- the ones before the last have their instances in order
pub all_popped : (s : System) (below after : List System) → below ≡ after ++ s ∷ []
    → AllNumbered below → AllNumbered after
all_popped s below after is all = first_numbered s after (subst AllNumbered is all)

lasts_numbered : (s : System) (after : List System) → AllNumbered (after ++ s ∷ [])
    → AreNumbered (situation_of s)
lasts_numbered s [] all = all.0
lasts_numbered s (x ∷ after) all = lasts_numbered s after all.1

-- and so has the last one
pub last_popped : (s : System) (below after : List System) → below ≡ after ++ s ∷ []
    → AllNumbered below → AreNumbered (situation_of s)
last_popped s below after is all = lasts_numbered s after (subst AllNumbered is all)
