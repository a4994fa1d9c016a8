-- `mending::repair_word` meets its contract.
use Rattle.std.proofs.Common.{refl}
use Rattle.mending_core.specs.MendingLaws.{handled_mended}
use Rattle.mending_core.proofs.mending.repair_word.Goals as goal

pub returns : goal.returns
returns c =
    let r = c.repair-r.ensures in
    let m = c.mend.ensures in
    (handled_mended _ _ _ _ _ _ _ _ _ _ _ c.requires.1 refl r.0 r.1 c.mark_of.ensures.0 m.0 m.1, m.2)
