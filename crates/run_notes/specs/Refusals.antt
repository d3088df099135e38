-- What a verdict refuses.
use Rattle.std.specs.Prelude.{◌≡◌, ℕ}
use Rattle.est_search.specs.declared.verdict.Verdict.{Verdict}
use Rattle.est_search.specs.declared.verdict.Verdict.TheVariants.{Accepted, Refused}
use Rattle.est_search.specs.declared.verdict.Verdict.TheVariants.{OverFirings, OverAction}

-- a trace is refused at the event of this number
abbrev pub IsRefusedAt : ℕ → Verdict → Type 0
IsRefusedAt number (Accepted run) = ⊥
IsRefusedAt number (Refused at run faulted) = at ≡ number
IsRefusedAt number (OverFirings tried) = ⊥
IsRefusedAt number (OverAction run events firing) = ⊥
