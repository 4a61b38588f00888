use Rattle.std.proofs.Common.{arith}
use Rattle.rht_words.specs.Places.{Slot, LoadedSection}
use Rattle.rht_words.proofs.PlacesApart.{place_of-below}
use Rattle.rht_words.proofs.places.loaded_section.Goals as goal

pub returns-clause-within : goal.returns-clause-within
returns-clause-within c =
    λ g slots callers. omega (
      arith,
      c.slot_start.ensures,
      place_of-below g
          (Slot c.args.slot (LoadedSection c.args.caller)) (slots, callers),
    )
