use Rattle.std.proofs.Common.{◌≡◌, drop}
use Rattle.plain_systems.specs.HeldSystems.{linked}
use Rattle.plain_attachments.proofs.links.linked.Given as goal

-- no link yet leads from there
abbrev pub invariant-loop-link : goal.invariant-loop-link
invariant-loop-link l = linked (drop l.link-index l.link-items) l.from ≡ linked l.links l.from
