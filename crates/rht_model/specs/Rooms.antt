-- Rooms for the lists that come beside replies.
use Rattle.std.specs.Prelude.{ℕ, List, [], ◌∷◌, ◌++◌, length, nat_lt, if◌then◌else◌}

-- a list, and how many items it may have
pub record Kept (A : Type 0) : Type 0 where
  pub items : List A
  pub limit : ℕ

-- the same room without the items
abbrev pub emptied : {A : Type 0} → Kept A → Kept A
emptied room = record { items = []; limit = room.limit }

-- no room: it may have no items
abbrev pub no_room : {A : Type 0} → Kept A
no_room = record { items = []; limit = 0 }

-- the room with one item more, where it isn't full
abbrev pub with_kept : {A : Type 0} → Kept A → A → Kept A
with_kept room item =
    if nat_lt (length room.items) room.limit then record {
      items = room.items ++ item ∷ [];
      limit =
          room.limit;
    }
    else room
