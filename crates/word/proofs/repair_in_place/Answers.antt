-- `word::repair_in_place` meets its contract: what the syndromes tell is the repair that the search finds.
use Rattle.word.specs.Applying.{repaired_in_place, sound_in_place}
use Rattle.word.proofs.repair_in_place.Goals as goal

pub returns-then-v-eq0 : goal.returns-then-v-eq0
returns-then-v-eq0 c = sound_in_place _ _ _ c.requires.0 (λ j. (c.type_inv.w j).fits) c.requires.1 c.if-v-eq0.true

pub returns : goal.returns
returns c = repaired_in_place _ _ _ _ _ _ c.requires.1 c.tail_syndromes.ensures c.repair_told-r.ensures c.apply.ensures
