use Rattle.std.proofs.Common.{◌≡◌, map, take}
use Rattle.std.specs.List.{filter}
use Rattle.plain_systems.specs.declared.system.Link.{Link}
use Rattle.plain_attachments.specs.LostLinks.{is_stray}
use Rattle.plain_attachments.proofs.losses.strays.Given as goal

-- the strays of so many links are there
abbrev pub invariant-loop-link : goal.invariant-loop-link
invariant-loop-link l =
    l.points ≡ map (λ (k : Link). k.from)
    (filter (is_stray l.gone l.links) (take l.link-index l.link-items))
