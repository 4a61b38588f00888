-- A caller: what it is doing, the operation that it plans, what it becomes with the word's old value, and its rooms for lists.
use Rattle.std.specs.Prelude.{◌≡◌, ◌==◌, ◌&&◌, nat_le, nat_lt, if◌then◌else◌, ℕ, Bool, true, false, Option, Some, None, option_map, []}
use Rattle.rht_words.specs.declared.op.Op.{Op}
use Rattle.rht_words.specs.declared.op.Op.TheVariants.{Load, Add}
use Rattle.rht_words.specs.declared.machine.Next.{Next}
use Rattle.rht_words.specs.declared.machine.Next.TheVariants.{Go, Done}
use Rattle.rht_words.specs.declared.env.Env.{Env}
use Rattle.rht_model.specs.declared.history.Call.{Call}
use Rattle.rht_model.specs.declared.history.Call.TheVariants.{Bind, Find, Release, Rebind, All, Walk, Work, Tidy, Count}
use Rattle.rht_model.specs.declared.history.Reply.{Reply}
use Rattle.rht_model.specs.Rooms.{Kept, emptied, no_room}
use Rattle.rht_model.specs.Endings.{Ending}
use Rattle.rht_find.specs.Find.{find_new, find_plan, find_after}
use Rattle.rht_bind.specs.Bind.{bind_from, bind_plan, bind_after}
use Rattle.rht_release.specs.All.{AllModel, all_new, all_plan, all_after}
use Rattle.rht_release.specs.Release.{release_new, release_plan, release_after}
use Rattle.rht_release.specs.Rebind.{rebind_from, rebind_plan, rebind_after}
use Rattle.rht_move.specs.Work.{work_new, work_plan, work_after}
use Rattle.rht_grace.specs.Batch.{BatchModel, batch_new}
use Rattle.rht_grace.specs.Tidy.{tidy_new, tidy_plan, tidy_after}
use Rattle.rht_walk.specs.Walk.{Pairs, WalkModel, walk_new, walk_plan, walk_after}
use Rattle.rht_callers.specs.Batches.{IsBatchIn, batch_room, batch_beside, batch_after}
use Rattle.rht_callers.specs.PortCounts.{count_plan, count_after}
use Rattle.rht_callers.specs.declared.local.Local.{Local}
use Rattle.rht_callers.specs.declared.local.Doing.{Doing}
use Rattle.rht_callers.specs.declared.local.Doing.TheVariants.{Idle, Finding, Binding, Listing, Releasing, Rebinding, Working, Counting, Tidying, Walking}

-- an empty room for one item a node
abbrev pub room_for_nodes : {A : Type 0} → Env → Kept A
room_for_nodes env = record { items = []; limit = env.geometry.nodes }

-- a listing that has ended gives the room back, with the owners; until then its caller has this one
abbrev pub room_given : AllModel × Next Reply → Kept ℕ → Kept ℕ
room_given (m, Go) room = room
room_given (m, Done reply) room = m.room

-- a walk that has ended gives its room back, with the pairs; until then its caller has this one
abbrev pub pairs_given : WalkModel × Next Reply → Pairs → Pairs
pairs_given (m, Go) room = room
pairs_given (m, Done reply) room = m.room

-- ---- what a caller is doing

-- the reply, without the node that was taken out
abbrev pub without_node : Next (Reply × Option ℕ) → Next Reply
without_node Go = Go
without_node (Done end) = Done end.0

module _ {M : Type 0} where
  -- it is in no call
  abbrev pub does_nothing : Doing M → Bool
  does_nothing Idle = true
  does_nothing (Finding m) = false
  does_nothing (Binding m) = false
  does_nothing (Listing m) = false
  does_nothing (Releasing m) = false
  does_nothing (Rebinding m) = false
  does_nothing (Working m) = false
  does_nothing (Counting m) = false
  does_nothing (Tidying m) = false
  does_nothing (Walking m) = false

  -- a tidying begins with its caller's batch
  abbrev pub tidying_of : Env → Option BatchModel → Option (Doing M)
  tidying_of env None = None
  tidying_of env (Some batch) = Some (Tidying (tidy_new env.geometry batch))

  -- what a caller with this batch does that is given a call, whose search for a free node is to begin at word `start`; none for a tidying
  -- without a batch
  abbrev pub machine_from : Env → ℕ → Option BatchModel → Call → ℕ → Option (Doing M)
  machine_from env caller batch (Find port) start = Some (Finding (find_new env caller port))
  machine_from env caller batch (Bind port owner once) start = Some (Binding (bind_from env caller port owner once start))
  machine_from env caller batch (All port) start = Some (Listing (all_new env caller port (room_for_nodes env)))
  machine_from env caller batch (Release port owner) start = Some (Releasing (release_new env caller port owner))
  machine_from env caller batch (Rebind port owner new) start = Some (Rebinding (rebind_from env caller port owner new start))
  machine_from env caller batch Work start = Some (Working (work_new env caller))
  machine_from env caller batch Tidy start = tidying_of env batch
  machine_from env caller batch (Walk from limit) start = Some (Walking (walk_new env caller from limit (room_for_nodes env)))
  machine_from env caller batch Count start = Some (Counting (record { env = env }))

  -- the same with a search from the first word on
  abbrev pub machine_of : Env → ℕ → Option BatchModel → Call → Option (Doing M)
  machine_of env caller batch call = machine_from env caller batch call 0

  -- the operation that it performs next
  abbrev pub doing_plan : Doing M → Option Op
  doing_plan Idle = None
  doing_plan (Finding m) = Some (find_plan m)
  doing_plan (Binding m) = Some (bind_plan m)
  doing_plan (Listing m) = Some (all_plan m)
  doing_plan (Releasing m) = Some (release_plan m)
  doing_plan (Rebinding m) = Some (rebind_plan m)
  doing_plan (Working m) = Some (work_plan m)
  doing_plan (Counting m) = Some (count_plan m)
  doing_plan (Tidying m) = Some (tidy_plan m)
  doing_plan (Walking m) = Some (walk_plan m)

  -- while its machine goes on a caller does what that is, and is idle once its call has a reply
  abbrev pub doing_next : {A : Type 0} → (A → Doing M) → A × Next Reply → Doing M × Option Reply
  doing_next doing (m, Go) = (doing m, None)
  doing_next doing (m, Done reply) = (Idle, Some reply)

  -- what it does after its operation found this value, and the reply where the call has ended
  abbrev pub doing_after : (ℕ → ℕ → ℕ → ℕ) → Doing M → ℕ → Doing M × Option Reply
  doing_after mix Idle old = (Idle, None)
  doing_after mix (Finding m) old = doing_next Finding (find_after mix m old)
  doing_after mix (Binding m) old = doing_next Binding (bind_after mix m old)
  doing_after mix (Listing m) old = doing_next Listing (all_after mix m old)
  doing_after mix (Releasing m) old =
      let next = release_after mix m old in doing_next Releasing (next.0, without_node next.1)
  doing_after mix (Rebinding m) old =
      let next = rebind_after mix m old in doing_next Rebinding (next.0, without_node next.1)
  doing_after mix (Working m) old = doing_next Working (work_after mix m old)
  doing_after mix (Counting m) old = doing_next Counting (count_after m old)
  doing_after mix (Tidying m) old = doing_next Tidying (tidy_after m old)
  doing_after mix (Walking m) old = doing_next Walking (walk_after m old)

  -- it does this in the table of this environment
  abbrev pub IsDoingOf : Env → Doing M → Type 0
  IsDoingOf env Idle = Unit {0}
  IsDoingOf env (Finding m) = m.env ≡ env
  IsDoingOf env (Binding m) = m.env ≡ env
  IsDoingOf env (Listing m) = m.env ≡ env
  IsDoingOf env (Releasing m) = m.env ≡ env
  IsDoingOf env (Rebinding m) = m.env ≡ env
  IsDoingOf env (Working m) = m.env ≡ env
  IsDoingOf env (Counting m) = m.env ≡ env
  IsDoingOf env (Tidying m) = m.geometry ≡ env.geometry
  IsDoingOf env (Walking m) = m.env ≡ env

  -- ---- the room of owners, which a listing has while it runs

  -- the room of owners, wherever it lies: a listing has it, and otherwise its caller, whose room this is
  abbrev pub owners_room : Doing M → Kept ℕ → Kept ℕ
  owners_room Idle room = room
  owners_room (Finding m) room = room
  owners_room (Binding m) room = room
  owners_room (Listing m) room = m.room
  owners_room (Releasing m) room = room
  owners_room (Rebinding m) room = room
  owners_room (Working m) room = room
  owners_room (Counting m) room = room
  owners_room (Tidying m) room = room
  owners_room (Walking m) room = room

  -- the room of its caller once it has begun
  abbrev pub owners_beside : Doing M → Kept ℕ → Kept ℕ
  owners_beside Idle room = emptied room
  owners_beside (Finding m) room = emptied room
  owners_beside (Binding m) room = emptied room
  owners_beside (Listing m) room = no_room
  owners_beside (Releasing m) room = emptied room
  owners_beside (Rebinding m) room = emptied room
  owners_beside (Working m) room = emptied room
  owners_beside (Counting m) room = emptied room
  owners_beside (Tidying m) room = emptied room
  owners_beside (Walking m) room = emptied room

  -- the room of its caller after its operation found this value
  abbrev pub owners_after : (ℕ → ℕ → ℕ → ℕ) → Doing M → Kept ℕ → ℕ → Kept ℕ
  owners_after mix Idle room old = room
  owners_after mix (Finding m) room old = room
  owners_after mix (Binding m) room old = room
  owners_after mix (Listing m) room old = room_given (all_after mix m old) room
  owners_after mix (Releasing m) room old = room
  owners_after mix (Rebinding m) room old = room
  owners_after mix (Working m) room old = room
  owners_after mix (Counting m) room old = room
  owners_after mix (Tidying m) room old = room
  owners_after mix (Walking m) room old = room

  -- ---- the room of pairs, which a walk has while it runs

  -- the room of pairs, wherever it lies: a walk has it, and otherwise its caller, whose room this is
  abbrev pub pairs_room : Doing M → Pairs → Pairs
  pairs_room Idle room = room
  pairs_room (Finding m) room = room
  pairs_room (Binding m) room = room
  pairs_room (Listing m) room = room
  pairs_room (Releasing m) room = room
  pairs_room (Rebinding m) room = room
  pairs_room (Working m) room = room
  pairs_room (Counting m) room = room
  pairs_room (Tidying m) room = room
  pairs_room (Walking m) room = m.room

  -- the room of its caller once it has begun
  abbrev pub pairs_beside : Doing M → Pairs → Pairs
  pairs_beside Idle room = emptied room
  pairs_beside (Finding m) room = emptied room
  pairs_beside (Binding m) room = emptied room
  pairs_beside (Listing m) room = emptied room
  pairs_beside (Releasing m) room = emptied room
  pairs_beside (Rebinding m) room = emptied room
  pairs_beside (Working m) room = emptied room
  pairs_beside (Counting m) room = emptied room
  pairs_beside (Tidying m) room = emptied room
  pairs_beside (Walking m) room = no_room

  -- the room of its caller after its operation found this value
  abbrev pub pairs_after : Doing M → Pairs → ℕ → Pairs
  pairs_after Idle room old = room
  pairs_after (Finding m) room old = room
  pairs_after (Binding m) room old = room
  pairs_after (Listing m) room old = room
  pairs_after (Releasing m) room old = room
  pairs_after (Rebinding m) room old = room
  pairs_after (Working m) room old = room
  pairs_after (Counting m) room old = room
  pairs_after (Tidying m) room old = room
  pairs_after (Walking m) room old = pairs_given (walk_after m old) room

-- ---- operations of a caller that holds its section open

-- the operation adds 1 to a section word
abbrev pub turns_section : ℕ → ℕ → Bool
turns_section place by = nat_le 8 place && nat_lt place 24 && by == 1

-- the operation made for the one that a machine plans: while its caller holds its section open, one that would open or close the section
-- loads its word in its place
abbrev pub soft : Bool → Op → Op
soft over (Add place by) = if turns_section place by && over then Load place else Add place by
soft over op = op

-- the caller may make the call: any, or while it holds its section open a look-up, a walk or a reading of the count
abbrev pub may_hold : Bool → Call → Bool
may_hold false call = true
may_hold true (Find port) = true
may_hold true (Walk from limit) = true
may_hold true Count = true
may_hold true _ = false

-- ---- a caller with its rooms

module _ {M : Type 0} where
  -- it has made no call, and has rooms for all nodes, and a batch without nodes
  abbrev pub fresh : Env → Local M
  fresh env = record {
    doing = Idle;
    owners = room_for_nodes env;
    pairs = room_for_nodes env;
    batch = Some (batch_new env.geometry);
    held = false;
  }

  -- it is in no call
  abbrev pub is_idle : Local M → Bool
  is_idle local = does_nothing local.doing

  -- it may be given this call
  abbrev pub may_begin : Local M → Call → Bool
  may_begin local call = is_idle local && may_hold local.held call

  -- it begins with this: both rooms are emptied, a listing has the room of owners, a walk that of pairs, and a tidying the batch
  abbrev pub begin_with : Local M → Doing M → Local M
  begin_with local doing = record {
    doing = doing;
    owners = owners_beside doing local.owners;
    pairs = pairs_beside doing local.pairs;
    batch = batch_beside doing local.batch;
    held = local.held;
  }

  -- it begins with this, where there is a machine for its call
  abbrev pub begun_with : Local M → Option (Doing M) → Local M
  begun_with local None = local
  begun_with local (Some doing) = begin_with local doing

  -- the operation that it performs next: its machine's, but that it opens and closes no section while it holds one open
  abbrev pub plan_of : Local M → Option Op
  plan_of local = option_map (soft local.held) (doing_plan local.doing)

  -- what becomes of it after its operation found this value, and the reply where the call has ended
  abbrev pub local_after : (ℕ → ℕ → ℕ → ℕ) → Local M → ℕ → Local M × Option Reply
  local_after mix local old =
      let next = doing_after mix local.doing old in (
        record local {
          doing = next.0;
          owners = owners_after mix local.doing local.owners old;
          pairs = pairs_after local.doing local.pairs old;
          batch = batch_after mix local.doing local.batch old;
        },
        next.1,
      )

  -- how its call has ended, where there is a reply: the lists that came with it are those in its rooms
  abbrev pub ending_of : Local M → Option Reply → Option Ending
  ending_of local None = None
  ending_of local (Some reply) =
      Some (record { answer = record { reply = reply; owners = local.owners.items }; pairs = local.pairs.items })

  -- it does what it does in the table of this environment, each of its rooms may have one item a node, and
  -- its batch is one of the table
  pub record IsLocalOf (env : Env) (local : Local M) : Type 0 where
    pub doing : IsDoingOf env local.doing
    pub owners : (owners_room local.doing local.owners).limit ≡ env.geometry.nodes
    pub pairs : (pairs_room local.doing local.pairs).limit ≡ env.geometry.nodes
    pub batch : IsBatchIn env (batch_room local.doing local.batch)
