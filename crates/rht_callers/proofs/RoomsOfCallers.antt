-- The room of owners has a place for each node, wherever it lies: with its caller, or in a listing, which
-- takes it as it begins and gives it back as it ends. So has the room of pairs, which a walk takes. And while
-- a call goes on nothing comes into the rooms of its caller.
use Rattle.std.proofs.Common.{◌≡◌, ℕ, true, ◌++◌, ◌∷◌, [], length, nat_lt, refl, ap, ◌∙◌}
use Rattle.std.specs.Prelude.{Option, Some, None}
use Rattle.std.proofs.lemmas.Bool.{cond_both}
use Rattle.rht_words.specs.declared.env.Env.{Env}
use Rattle.rht_words.specs.declared.machine.Next.{Next}
use Rattle.rht_words.specs.declared.machine.Next.TheVariants.{Go, Done}
use Rattle.rht_words.specs.Ports.{owner_of}
use Rattle.rht_model.specs.declared.history.Call.{Call}
use Rattle.rht_model.specs.declared.history.Reply.{Reply}
use Rattle.rht_model.specs.Rooms.{Kept}
use Rattle.rht_find.specs.Find.{find_after}
use Rattle.rht_bind.specs.Bind.{bind_after}
use Rattle.rht_release.specs.Release.{release_after}
use Rattle.rht_release.specs.Rebind.{rebind_after}
use Rattle.rht_move.specs.Work.{work_after}
use Rattle.rht_release.specs.All.{AllModel, all_after, after_at, room_after, moved}
use Rattle.rht_release.specs.declared.all.AllAt.{AllAt}
use Rattle.rht_release.specs.declared.all.AllAt.TheVariants as alls
use Rattle.rht_callers.specs.declared.local.Local.{Local}
use Rattle.rht_callers.specs.declared.local.Doing.{Doing}
use Rattle.rht_callers.specs.declared.local.Doing.TheVariants.{Idle, Finding, Binding, Listing, Releasing, Rebinding, Working, Counting, Tidying, Walking}
use Rattle.rht_callers.specs.Locals.{does_nothing, is_idle, machine_from, doing_after, doing_next, without_node, owners_room, owners_beside, owners_after, room_given, pairs_room, pairs_beside, pairs_after, pairs_given}
use Rattle.rht_grace.specs.Tidy.{tidy_after}
use Rattle.rht_walk.specs.Walk.{Pairs, WalkModel, room_after as shown_after, room_at_end, walk_after}
use Rattle.rht_walk.specs.declared.walk.WalkAt.{WalkAt}
use Rattle.rht_walk.specs.declared.walk.WalkAt.TheVariants as walks
use Rattle.rht_walk.specs.declared.walk.WalkEnd.{WalkEnd}
use Rattle.rht_walk.specs.declared.walk.WalkEnd.TheVariants as ends
use Rattle.rht_grace.specs.Batch.{BatchModel}
use Rattle.rht_callers.proofs.CallBeginnings.{begins_so}

-- an operation of a listing leaves its room's limit
room_after-limit : (state : AllAt) (room : Kept ℕ) (word : ℕ)
    → (room_after state room word).limit ≡ room.limit
room_after-limit (alls.Owner found node) room word =
    cond_both (nat_lt (length room.items) room.limit)
    (record { items = room.items ++ owner_of word ∷ []; limit = room.limit }) room
    (λ (after : Kept ℕ). after.limit ≡ room.limit) (λ t. refl) (λ f. refl)
room_after-limit _ room word = refl

-- and so does one of a walk, which empties it where it has to begin anew
room_at_end-limit : (end : WalkEnd) (room : Pairs) → (room_at_end end room).limit ≡ room.limit
room_at_end-limit (ends.Walked next) room = refl
room_at_end-limit (ends.Again table) room = refl

shown_after-limit : (state : WalkAt) (room : Pairs) (word : ℕ) → (shown_after state room word).limit ≡ room.limit
shown_after-limit (walks.Owner chain node port) room word =
    cond_both (nat_lt (length room.items) room.limit)
    (record { items = room.items ++ (port, owner_of word) ∷ []; limit = room.limit }) room
    (λ (after : Pairs). after.limit ≡ room.limit) (λ t. refl) (λ f. refl)
shown_after-limit (walks.Closing end) room word = room_at_end-limit end room
shown_after-limit _ room word = refl

module _ (M : Type 0) where
  -- ---- the beginning of a call

  -- who is in no call has the room
  pub idle-limit : (local : Local M) (limit : ℕ) → is_idle local ≡ true
      → (owners_room local.doing local.owners).limit ≡ limit → local.owners.limit ≡ limit
  idle-limit local limit idle is = go local.doing idle is
    where
      go : (doing : Doing M) → does_nothing doing ≡ true → (owners_room doing local.owners).limit ≡ limit
          → local.owners.limit ≡ limit
      go Idle idle is = is
      go _ idle is = absurd (cc)

  -- who has begun has it as well, or its listing
  pub begun-limit : (env : Env) (c : ℕ) (batch : Option BatchModel) (start : ℕ) (call : Call) (machine : Doing M)
      → machine_from env c batch call start ≡ Some machine → (room : Kept ℕ) → room.limit ≡ env.geometry.nodes
      → (owners_room machine (owners_beside machine room)).limit ≡ env.geometry.nodes
  begun-limit env c batch start =
      begins_so M env c batch start
      (λ call machine. (room : Kept ℕ) → room.limit ≡ env.geometry.nodes
      → (owners_room machine (owners_beside machine room)).limit ≡ env.geometry.nodes)
      (λ port room is. is) (λ port owner once room is. is) (λ port room is. refl) (λ port owner room is. is)
      (λ port owner new room is. is) (λ room is. is) (λ room is. is) (λ own has room is. is)
      (λ from limit room is. is)

  -- whose own room is empty then
  pub owners_beside-none : (doing : Doing M) (room : Kept ℕ) → (owners_beside doing room).items ≡ []
  owners_beside-none Idle room = refl
  owners_beside-none _ room = refl

  -- ---- an operation

  -- a listing goes on with its room, or gives it back
  listed_next-limit : (m : AllModel) (after room : Kept ℕ) (next : AllAt × Next (Unit {0}))
      → let r = moved m after next in
      (owners_room (doing_next {M = M} Listing r).0 (room_given r room)).limit ≡ after.limit
  listed_next-limit m after room (state, Go) = refl
  listed_next-limit m after room (state, Done done) = refl

  -- what has no room leaves that of its caller
  beside-limit : {A : Type 0} (doing : A → Doing M) (room : Kept ℕ) → ((m : A) → owners_room (doing m) room ≡ room)
      → (r : A × Next Reply) → (owners_room (doing_next doing r).0 room).limit ≡ room.limit
  beside-limit doing room beside (m, Go) = ap (λ (k : Kept ℕ). k.limit) (beside m)
  beside-limit doing room beside (m, Done reply) = refl

  -- an operation leaves the room's limit
  pub owners_after-limit : (mix : ℕ → ℕ → ℕ → ℕ) (doing : Doing M) (room : Kept ℕ) (old : ℕ)
      → (owners_room (doing_after mix doing old).0 (owners_after mix doing room old)).limit
      ≡ (owners_room doing room).limit
  owners_after-limit mix Idle room old = refl
  owners_after-limit mix (Finding m) room old = beside-limit Finding room (λ n. refl) (find_after mix m old)
  owners_after-limit mix (Binding m) room old = beside-limit Binding room (λ n. refl) (bind_after mix m old)
  owners_after-limit mix (Listing m) room old =
      listed_next-limit m (room_after m.at m.room old) room (after_at mix m.env m.port m.at old)
      ∙ room_after-limit m.at m.room old
  owners_after-limit mix (Releasing m) room old =
      let next = release_after mix m old in beside-limit Releasing room (λ n. refl) (next.0, without_node next.1)
  owners_after-limit mix (Rebinding m) room old =
      let next = rebind_after mix m old in beside-limit Rebinding room (λ n. refl) (next.0, without_node next.1)
  owners_after-limit mix (Working m) room old = beside-limit Working room (λ n. refl) (work_after mix m old)
  owners_after-limit mix (Counting m) room old = refl
  owners_after-limit mix (Tidying m) room old = beside-limit Tidying room (λ n. refl) (tidy_after m old)
  owners_after-limit mix (Walking m) room old = beside-limit Walking room (λ n. refl) (walk_after m old)

  listed_next-stays : (m : AllModel) (after room : Kept ℕ) (next : AllAt × Next (Unit {0}))
      → let r = moved m after next in (doing_next {M = M} Listing r).1 ≡ None → room_given r room ≡ room
  listed_next-stays m after room (state, Go) is = refl
  listed_next-stays m after room (state, Done done) is = absurd (cc)

  -- and while the call goes on the room of its caller stays as it is
  pub owners_after-stay : (mix : ℕ → ℕ → ℕ → ℕ) (doing : Doing M) (room : Kept ℕ) (old : ℕ)
      → (doing_after mix doing old).1 ≡ None → owners_after mix doing room old ≡ room
  owners_after-stay mix (Listing m) room old is =
      listed_next-stays m (room_after m.at m.room old) room (after_at mix m.env m.port m.at old) is
  owners_after-stay mix _ room old is = refl

  -- ---- the room of pairs

  -- who is in no call has it
  pub idle-pairs : (local : Local M) (limit : ℕ) → is_idle local ≡ true
      → (pairs_room local.doing local.pairs).limit ≡ limit → local.pairs.limit ≡ limit
  idle-pairs local limit idle is = go local.doing idle is
    where
      go : (doing : Doing M) → does_nothing doing ≡ true → (pairs_room doing local.pairs).limit ≡ limit
          → local.pairs.limit ≡ limit
      go Idle idle is = is
      go _ idle is = absurd (cc)

  -- who has begun has it as well, or its walk
  pub begun-pairs : (env : Env) (c : ℕ) (batch : Option BatchModel) (start : ℕ) (call : Call) (machine : Doing M)
      → machine_from env c batch call start ≡ Some machine → (room : Pairs) → room.limit ≡ env.geometry.nodes
      → (pairs_room machine (pairs_beside machine room)).limit ≡ env.geometry.nodes
  begun-pairs env c batch start =
      begins_so M env c batch start
      (λ call machine. (room : Pairs) → room.limit ≡ env.geometry.nodes
      → (pairs_room machine (pairs_beside machine room)).limit ≡ env.geometry.nodes)
      (λ port room is. is) (λ port owner once room is. is) (λ port room is. is) (λ port owner room is. is)
      (λ port owner new room is. is) (λ room is. is) (λ room is. is) (λ own has room is. is)
      (λ from limit room is. refl)

  -- whose own room is empty then
  pub pairs_beside-none : (doing : Doing M) (room : Pairs) → (pairs_beside doing room).items ≡ []
  pairs_beside-none Idle room = refl
  pairs_beside-none _ room = refl

  -- a walk goes on with its room, or gives it back
  walked_next-limit : (m : WalkModel) (room : Pairs) (next : Next Reply)
      → (pairs_room (doing_next {M = M} Walking (m, next)).0 (pairs_given (m, next) room)).limit ≡ m.room.limit
  walked_next-limit m room Go = refl
  walked_next-limit m room (Done reply) = refl

  -- what has no such room leaves that of its caller
  beside-pairs : {A : Type 0} (doing : A → Doing M) (room : Pairs) → ((m : A) → pairs_room (doing m) room ≡ room)
      → (r : A × Next Reply) → (pairs_room (doing_next doing r).0 room).limit ≡ room.limit
  beside-pairs doing room beside (m, Go) = ap (λ (k : Pairs). k.limit) (beside m)
  beside-pairs doing room beside (m, Done reply) = refl

  -- an operation leaves its limit
  pub pairs_after-limit : (mix : ℕ → ℕ → ℕ → ℕ) (doing : Doing M) (room : Pairs) (old : ℕ)
      → (pairs_room (doing_after mix doing old).0 (pairs_after doing room old)).limit ≡ (pairs_room doing room).limit
  pairs_after-limit mix Idle room old = refl
  pairs_after-limit mix (Finding m) room old = beside-pairs Finding room (λ n. refl) (find_after mix m old)
  pairs_after-limit mix (Binding m) room old = beside-pairs Binding room (λ n. refl) (bind_after mix m old)
  pairs_after-limit mix (Listing m) room old = beside-pairs Listing room (λ n. refl) (all_after mix m old)
  pairs_after-limit mix (Releasing m) room old =
      let next = release_after mix m old in beside-pairs Releasing room (λ n. refl) (next.0, without_node next.1)
  pairs_after-limit mix (Rebinding m) room old =
      let next = rebind_after mix m old in beside-pairs Rebinding room (λ n. refl) (next.0, without_node next.1)
  pairs_after-limit mix (Working m) room old = beside-pairs Working room (λ n. refl) (work_after mix m old)
  pairs_after-limit mix (Counting m) room old = refl
  pairs_after-limit mix (Tidying m) room old = beside-pairs Tidying room (λ n. refl) (tidy_after m old)
  pairs_after-limit mix (Walking m) room old =
      let next = walk_after m old in
      walked_next-limit next.0 room next.1 ∙ shown_after-limit m.at m.room old

  walked_next-stays : (m : WalkModel) (room : Pairs) (next : Next Reply)
      → (doing_next {M = M} Walking (m, next)).1 ≡ None → pairs_given (m, next) room ≡ room
  walked_next-stays m room Go is = refl
  walked_next-stays m room (Done reply) is = absurd (cc)

  -- and while the call goes on the room of its caller stays as it is
  pub pairs_after-stay : (mix : ℕ → ℕ → ℕ → ℕ) (doing : Doing M) (room : Pairs) (old : ℕ)
      → (doing_after mix doing old).1 ≡ None → pairs_after doing room old ≡ room
  pairs_after-stay mix (Walking m) room old is =
      let next = walk_after m old in walked_next-stays next.0 room next.1 is
  pairs_after-stay mix _ room old is = refl
