-- Whose statements are executed, and what their expressions see.
use Rattle.plain_frames.specs.plain_systems.declared.system.Working.{Working}
use Rattle.plain_frames.specs.plain_systems.HeldSystems.{situation_of}
use Rattle.mean_blocks.specs.BlockLevels.{site}
use Rattle.mean_blocks.specs.WorkingState as state
use Rattle.plain_operands.specs.declared.site.Site.{Site}

-- whose statements these are
abbrev pub site_of : Site → state.Site
site_of s = site s.text.now s.instance s.function s.levels

-- what an expression sees
abbrev pub view_of : Site → Working → state.View
view_of s w =
    record { site = site_of s; situation = situation_of w.system; frames = w.frames }
