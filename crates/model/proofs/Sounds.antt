-- Cells that mean a table are sound.
use Rattle.std.proofs.Common.{refl}
use Rattle.model.specs.Layouts.{Layout}
use Rattle.model.specs.Tables.{Table}
use Rattle.model.specs.Sound.{Means, Sound}

pub sound_of : {V : Type 0} (l : Layout V) (t : Table V) → Means l t → Sound l t.free
sound_of l t h =
    record {
      size = refl;
      small = h.small;
      indexes = h.indexes;
      linked = h.linked;
      stores = h.stores;
      backed = h.backed;
      begins = h.begins;
      within = h.within;
      free = h.free;
      keys = h.keys;
      loose = h.loose;
      slotted = h.slotted;
      queued = h.queued;
      shared = h.shared;
      counted = h.counted;
      valued = λ _ _. refl;
    }
