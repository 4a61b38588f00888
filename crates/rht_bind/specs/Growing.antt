-- What a bind does that finds the last table full: the states between, and what they name.
use Rattle.std.specs.Prelude.{◌≡◌, ℕ, ◌-◌, ◌*◌, ◌<◌, ◌==◌, Bool, true, min, nat_eq, Option, None, Some, if◌then◌else◌}
use Rattle.rht_words.specs.declared.machine.Next.{Next}
use Rattle.rht_words.specs.declared.machine.Next.TheVariants.{Go, Done}
use Rattle.rht_words.specs.declared.env.Env.{Env}
use Rattle.rht_words.specs.declared.geometry.Geometry.{Geometry}
use Rattle.rht_words.specs.Links.{table_of}
use Rattle.rht_words.specs.Planned.{IsWord}
use Rattle.rht_words.specs.Shapes.{size_of, unpacked}
use Rattle.rht_policy.specs.Thresholds.{is_above_75}
use Rattle.rht_nest.specs.Make.{MakeModel, make_new, IsMakeIn}
use Rattle.rht_nest.specs.Unmake.{UnmakeModel, unmake_new, IsUnmakeIn}
use Rattle.rht_chain.specs.Unlock.{IsUnlockIn}
use Rattle.rht_chain.specs.declared.unlock.Unlock.{Unlock}
use Rattle.rht_model.specs.declared.history.Reply.{Reply}
use Rattle.rht_model.specs.declared.history.Reply.TheVariants.{Again, Busy, NoTable}
use Rattle.rht_bind.specs.declared.bind.Attempt.{Attempt}
use Rattle.rht_bind.specs.declared.bind.Claimed.{Claimed}
use Rattle.rht_bind.specs.declared.bind.growth.Full.{Full}
use Rattle.rht_bind.specs.declared.bind.growth.Growing.{Growing}
use Rattle.rht_bind.specs.declared.bind.growth.Refusal.{Refusal}
use Rattle.rht_bind.specs.declared.bind.growth.Refusal.TheVariants as refusals
use Rattle.rht_bind.specs.Endings.{answering}
use Rattle.rht_bind.specs.declared.bind.ending.Ending.TheVariants as endings
use Rattle.rht_bind.specs.declared.bind.BindAt.{BindAt}
use Rattle.rht_bind.specs.declared.bind.BindAt.TheVariants as at

-- the bucket is unlocked without a change, and then a further table is wanted
abbrev pub growing_of : Claimed → Full → Growing
growing_of claimed why =
    record { attempt = claimed.attempt; table = claimed.table; shape = claimed.shape; why = why }

abbrev pub unlocking_full : Claimed → Full → BindAt
unlocking_full claimed why =
    at.UnlockingFull (growing_of claimed why) (record { place = claimed.bucket.place; word = claimed.bucket.word })

-- a table of this size is made, which may be a nested one where there is no run of pages
abbrev pub making : Env → Growing → ℕ → BindAt
making env growing size = at.Making growing size (make_new env.geometry size env.config.seed true)

-- how many buckets the last table has
abbrev pub size_grown : Growing → ℕ
size_grown growing = size_of (unpacked growing.shape)

-- With this count above three quarters of the last table a table of twice the size is wanted. Else the bind is refused
-- where that table isn't the current one, which is in slot `root`, and wants one of the same size where it is.
abbrev pub want_or_busy : Env → Growing → ℕ → ℕ → BindAt
want_or_busy env growing root count =
    if is_above_75 (min count 65536) (size_grown growing) env.config.max then making env growing (2 * size_grown growing)
    else if nat_eq root growing.table then making env growing (size_grown growing)
    else at.FutureAgain growing (refusals.Busy root)

-- a table that was made is attached; where there was no slot or there were no pages the bind is refused
abbrev pub made : Growing → ℕ → MakeModel → Next (Option (ℕ × ℕ)) → BindAt
made growing size make Go = at.Making growing size make
made growing size make (Done (Some table)) = at.Attaching growing table.0 table.1
made growing size make (Done None) = at.FutureAgain growing (refusals.NoTable size)

-- the reply that refuses a bind whose last table is in this slot
abbrev pub reply_of : Refusal → ℕ → Reply
reply_of (refusals.Busy root) last = Busy root last
reply_of (refusals.NoTable size) last = NoTable size

-- with a future table in this slot a bind that tries but once is answered, and another isn't
abbrev pub ended_attempt : Bool → ℕ → Option Reply
ended_attempt once table = if once then Some (Again table) else None

-- behind an attempt the section is closed; then the bind begins anew where there is no answer, and else it gives its node back
abbrev pub behind_attempt : Attempt → Option Reply → BindAt
behind_attempt attempt None = at.Closing (endings.Anew attempt)
behind_attempt attempt (Some reply) = answering attempt.node reply

-- the refusal stands where the last table has no future yet
abbrev pub refused_or_found : Bool → Growing → Refusal → Option ℕ → BindAt
refused_or_found once growing refusal None = answering growing.attempt.node (reply_of refusal growing.table)
refused_or_found once growing refusal (Some table) =
    behind_attempt growing.attempt (ended_attempt once table)

-- its node, by a bind that has attached a table
abbrev pub has_attached : Attempt → Attempt
has_attached attempt = record attempt { attached = true }

-- The exchange that attaches the table found this word: 0 where it did. Else it found the table that another caller has
-- attached before, and this one is given back.
abbrev pub checked_attach : Env → Bool → Growing → ℕ → ℕ → ℕ → BindAt
checked_attach env once growing slot shape found =
    if found == 0 then behind_attempt (has_attached growing.attempt) (ended_attempt once slot)
    else at.Unmaking growing.attempt (unmake_new env.geometry slot shape) (ended_attempt once (table_of (found - 1)))

-- with the table given back the attempt has ended
abbrev pub unmade : Attempt → Option Reply → UnmakeModel → Next (Unit {0}) → BindAt
unmade attempt answer unmake Go = at.Unmaking attempt unmake answer
unmade attempt answer unmake (Done done) = behind_attempt attempt answer

-- ---- what a bind names that wants a table

-- its node is the table's, and so are the last table's slot and the word of its shape
pub record IsGrowingIn (g : Geometry) (growing : Growing) : Type 0 where
  pub node_in : growing.attempt.node < g.nodes
  pub table_in : growing.table < 8
  pub shape_in : IsWord growing.shape

-- it unlocks a bucket of the last table
pub record IsUnlockingFullIn (g : Geometry) (growing : Growing) (unlock : Unlock) : Type 0 where
  pub growing_in : IsGrowingIn g growing
  pub unlock_in : IsUnlockIn g unlock

-- and the slot of the current table
pub record IsWantingIn (g : Geometry) (growing : Growing) (root : ℕ) : Type 0 where
  pub growing_in : IsGrowingIn g growing
  pub root_in : root < 8

-- it makes a table, with the config's seed
pub record IsMakingIn (env : Env) (growing : Growing) (make : MakeModel) : Type 0 where
  pub growing_in : IsGrowingIn env.geometry growing
  pub seed_same : make.seed ≡ env.config.seed
  pub make_in : IsMakeIn env.geometry make

-- its refusal names a slot, where it names one
abbrev pub IsRefusalIn : Refusal → Type 0
IsRefusalIn (refusals.Busy root) = root < 8
IsRefusalIn (refusals.NoTable size) = Unit {0}

pub record IsRefusingIn (g : Geometry) (growing : Growing) (refusal : Refusal) : Type 0 where
  pub growing_in : IsGrowingIn g growing
  pub refusal_in : IsRefusalIn refusal

-- it attaches the table of this slot and this word of a shape
pub record IsAttachingIn (g : Geometry) (growing : Growing) (slot shape : ℕ) : Type 0 where
  pub growing_in : IsGrowingIn g growing
  pub slot_in : slot < 8
  pub shape_in : IsWord shape

-- it gives a table back
pub record IsUnmakingIn (g : Geometry) (attempt : Attempt) (unmake : UnmakeModel) : Type 0 where
  pub node_in : attempt.node < g.nodes
  pub unmake_in : IsUnmakeIn g unmake
