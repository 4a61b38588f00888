-- The states behind which a call ends with no refusal any more, nor with another reply that says that nothing was changed. In such a state
-- is a bind that publishes its node, a release and a rebind that have found the node that they take out, and a resizing that has made its
-- table or finds one to move; and each stays so while it closes its section. So is a tidying that gives nodes back. Look-ups, listings and
-- readings of the count come to none.
use Rattle.std.proofs.Common.{◌≡◌, ◌≢◌, ℕ, ◌+◌, ◌==◌, Bool, true, false, Option, Some, None, refl, nat_lt, length}
use Rattle.std.proofs.lemmas.Bool.{cond_both}
use Rattle.rht_words.specs.declared.env.Env.{Env}
use Rattle.rht_words.specs.declared.geometry.Geometry.{Geometry}
use Rattle.rht_words.specs.declared.machine.Next.{Next}
use Rattle.rht_words.specs.declared.machine.Next.TheVariants.{Go, Done}
use Rattle.rht_words.specs.Links.{slot_of, node_of, head_of, unlocked}
use Rattle.rht_words.specs.Shapes.{size_of, unpacked}
use Rattle.rht_model.specs.declared.history.Call.{Call}
use Rattle.rht_model.specs.declared.history.Call.TheVariants.{Bind, Release, Rebind, Work, Tidy}
use Rattle.rht_model.specs.declared.history.Reply.{Reply}
use Rattle.rht_model.specs.declared.history.Reply.TheVariants.{Released, Clear}
use Rattle.rht_nest.specs.Place.{PlaceModel, flat_place, nested_place, place_after}
use Rattle.rht_nest.specs.declared.place.Bucket.{Bucket}
use Rattle.rht_nest.specs.declared.place.Bucket.TheVariants.{At, Absent}
use Rattle.rht_nest.specs.Unmake.{UnmakeModel, unmake_new, unmake_after}
use Rattle.rht_chain.specs.Lock.{lock_new, LockModel, lock_after}
use Rattle.rht_chain.specs.Relink.{RelinkModel, relink_after}
use Rattle.rht_bind.specs.Bind as bind_at
use Rattle.rht_bind.specs.declared.bind.FoundList.{FoundList}
use Rattle.rht_bind.specs.declared.bind.BindAt.{BindAt}
use Rattle.rht_bind.specs.declared.bind.BindAt.TheVariants as binding
use Rattle.rht_bind.specs.declared.bind.ending.Ending as bind_ending
use Rattle.rht_bind.specs.declared.bind.ending.Ending.TheVariants as bind_endings
use Rattle.rht_bind.specs.Endings as bind_ends
use Rattle.rht_release.specs.Release as release_at
use Rattle.rht_release.specs.Rebind as rebind_at
use Rattle.rht_release.specs.declared.found_port.FoundPort.{FoundPort}
use Rattle.rht_release.specs.declared.release.ReleaseAt.{ReleaseAt}
use Rattle.rht_release.specs.declared.release.ReleaseAt.TheVariants as releasing
use Rattle.rht_release.specs.declared.rebind.RebindAt.{RebindAt}
use Rattle.rht_release.specs.declared.rebind.RebindAt.TheVariants as rebinding
use Rattle.rht_release.specs.declared.rebind.RebindEnd.{RebindEnd}
use Rattle.rht_release.specs.declared.rebind.RebindEnd.TheVariants as rebind_ends
use Rattle.rht_nest.specs.Tables.{is_nested}
use Rattle.rht_move.specs.LastTable.{LastTableModel, last_table_after}
use Rattle.rht_move.specs.LastEntry.{LastEntryModel, last_entry_after}
use Rattle.rht_move.specs.Work.{after_at, bucket_of_root, next_bucket, entry_passed, locked, unlocking, entry_table_seen, with_word, entry_or_empty, walked, second_locked, cut_off, unlocked_bucket, retiring, closed, outcome_of, unmade, future_or_idle, kept}
use Rattle.rht_reclaim.specs.KeepSections.{KeepSectionsModel, keep_sections_after}
use Rattle.rht_move.specs.declared.last_table.Last.{Last}
use Rattle.rht_move.specs.declared.last_entry.Entry.{Entry}
use Rattle.rht_move.specs.declared.rehash.Rehash.{Rehash}
use Rattle.rht_move.specs.declared.rehash.Emptying.{Emptying}
use Rattle.rht_move.specs.declared.rehash.Target.{Target}
use Rattle.rht_move.specs.declared.work.Due.{Due}
use Rattle.rht_move.specs.declared.work.Due.TheVariants as dues
use Rattle.rht_move.specs.declared.work.Outcome.{Outcome}
use Rattle.rht_move.specs.declared.work.Outcome.TheVariants.{Idle, NoTable, Moved}
use Rattle.rht_move.specs.declared.work.ending.Ending.{Ending}
use Rattle.rht_move.specs.declared.work.ending.Ending.TheVariants as endings
use Rattle.rht_move.specs.declared.work.WorkAt.{WorkAt}
use Rattle.rht_move.specs.declared.work.WorkAt.TheVariants as at
use Rattle.rht_grace.specs.Batch.{BatchModel, cleared}
use Rattle.rht_grace.specs.Tidy as tidy
use Rattle.rht_grace.specs.declared.tidy.TidyAt.{TidyAt}
use Rattle.rht_grace.specs.declared.tidy.TidyAt.TheVariants as tidy_at
use Rattle.rht_core.specs.Jobs.{Job, finds, binds, lists, releases, rebinds, works, tidies, walks, counts, tidied}
use Rattle.rht_core.specs.Refused.{changes_nothing}

-- a bind is past it at the closing of its section where it has linked its node
abbrev pub ending_is_past : bind_ending.Ending → Bool
ending_is_past (bind_endings.Bound kick) = true
ending_is_past (bind_endings.Answered node reply) = false
ending_is_past (bind_endings.Anew attempt) = false

abbrev pub bind_is_past : BindAt → Bool
bind_is_past (binding.Replacing list relink) = true
bind_is_past (binding.Publish node table relink kick) = true
bind_is_past (binding.Filling new) = false
bind_is_past (binding.Opening attempt) = false
bind_is_past (binding.CurrentTable attempt) = false
bind_is_past (binding.Locating attempt locate) = false
bind_is_past (binding.Entering attempt table shape place grow) = false
bind_is_past (binding.Probing attempt table shape probe) = false
bind_is_past (binding.FoundOwner claimed found) = false
bind_is_past (binding.ListLink list) = false
bind_is_past (binding.ChainLink list) = false
bind_is_past (binding.LinkBehind list link) = false
bind_is_past (binding.Future claimed length) = false
bind_is_past (binding.Count claimed) = false
bind_is_past (binding.Link claimed) = false
bind_is_past (binding.Raise claimed) = false
bind_is_past (binding.Unlocking attempt table unlock next) = false
bind_is_past (binding.UnlockingFull growing unlock) = false
bind_is_past (binding.Root growing) = false
bind_is_past (binding.GrowthCount growing root) = false
bind_is_past (binding.Making growing size make) = false
bind_is_past (binding.FutureAgain growing refusal) = false
bind_is_past (binding.Attaching growing slot shape) = false
bind_is_past (binding.Unmaking attempt unmake answer) = false
bind_is_past (binding.Closing ending) = ending_is_past ending
bind_is_past (binding.Giving give reply) = false

-- and a rebind where its end is that it has put its node in another one's place
abbrev pub end_is_past : RebindEnd → Bool
end_is_past (rebind_ends.Rebound removed) = true
end_is_past (rebind_ends.Absent node) = false

abbrev pub rebind_is_past : RebindAt → Bool
rebind_is_past (rebinding.Filling new) = false
rebind_is_past (rebinding.Opening node) = false
rebind_is_past (rebinding.Seeking node seek) = false
rebind_is_past (rebinding.Searching node found search) = false
rebind_is_past (rebinding.LinkBehind node found old before) = true
rebind_is_past (rebinding.OwnListLink node found old before link) = true
rebind_is_past (rebinding.Swapping node found old before) = true
rebind_is_past (rebinding.ChainLink node found) = true
rebind_is_past (rebinding.Link node found link) = true
rebind_is_past (rebinding.Replacing node found relink) = true
rebind_is_past (rebinding.Unlocking table unlock end) = end_is_past end
rebind_is_past (rebinding.Closing end) = end_is_past end
rebind_is_past (rebinding.Giving give) = false

-- a release that has taken a node out
abbrev pub removed_is_past : Option ℕ → Bool
removed_is_past None = false
removed_is_past (Some node) = true

-- and a release where its reply says that it took a node out
abbrev pub reply_is_past : Reply → Bool
reply_is_past (Released kick) = true
reply_is_past reply = false

abbrev pub release_is_past : ReleaseAt → Bool
release_is_past releasing.Opening = false
release_is_past (releasing.Seeking seek) = false
release_is_past (releasing.Searching found search) = false
release_is_past (releasing.LinkBehind found node before) = true
release_is_past (releasing.CuttingOut found node before link) = true
release_is_past (releasing.ChainLink found second) = true
release_is_past (releasing.SecondLink found second link) = true
release_is_past (releasing.Promoting found relink) = true
release_is_past (releasing.Unlinking found relink) = true
release_is_past (releasing.Lowering node shape) = true
release_is_past (releasing.Unlocking table unlock removed) = removed_is_past removed
release_is_past (releasing.Closing reply removed) = reply_is_past reply

abbrev pub outcome_is_past : Outcome → Bool
outcome_is_past (NoTable size) = false
outcome_is_past Idle = false
outcome_is_past (Moved again) = true

-- where a table was due, the current one has a future
abbrev pub due_is_past : Due → Bool
due_is_past dues.Nothing = false
due_is_past dues.Attached = true
due_is_past dues.Later = true

abbrev pub work_is_past : WorkAt → Bool
work_is_past at.WorkLock = false
work_is_past (at.Returning returns) = false
work_is_past at.Opening = false
work_is_past at.CurrentTable = false
work_is_past (at.LastTable root seek) = false
work_is_past (at.Count root last) = false
work_is_past (at.Making wanted make) = false
work_is_past (at.Attaching root last slot shape) = true
work_is_past (at.Unmaking root unmake) = true
work_is_past (at.RootFuture root due) = due_is_past due
work_is_past (at.RootShape root future again) = true
work_is_past (at.Entry rehash number place) = true
work_is_past (at.Locking rehash number lock) = true
work_is_past (at.EntryTable emptying seek) = true
work_is_past (at.Seed emptying last) = true
work_is_past (at.BucketWord emptying target) = true
work_is_past (at.Walking emptying target walk) = true
work_is_past (at.Key emptying target entry) = true
work_is_past (at.LockingSecond emptying entry table lock) = true
work_is_past (at.EntryLink emptying entry second) = true
work_is_past (at.Linking emptying entry second) = true
work_is_past (at.CuttingOff emptying entry) = true
work_is_past (at.Unlocking rehash number unlock stop) = true
work_is_past (at.Publishing rehash) = true
work_is_past (at.NewFuture rehash) = true
work_is_past (at.Closing ending) = outcome_is_past (outcome_of ending)
work_is_past (at.Retiring root again) = true
work_is_past (at.KeepingSections keep again) = true
work_is_past (at.LettingGo outcome) = outcome_is_past outcome

-- a tidying is past it once it gives nodes back
abbrev pub tidy_is_past : TidyAt → Bool
tidy_is_past (tidy_at.Keeping caller) = false
tidy_is_past (tidy_at.Asking caller) = false
tidy_is_past (tidy_at.Giving index) = true

abbrev pub is_past : Job → Bool
is_past (finds port state) = false
is_past (binds port owner once state) = bind_is_past state
is_past (lists port room state) = false
is_past (releases port owner state) = release_is_past state
is_past (rebinds port owner new state) = rebind_is_past state
is_past (works state) = work_is_past state
is_past (tidies batch state) = tidy_is_past state
is_past (walks from limit room state) = false
is_past counts = false

-- ---- it stays past that

-- the next state is such a one, or the call has ended with a reply that says that it did something
abbrev pub StaysPast : {S A : Type 0} → (S → Bool) → (A → Reply) → Call → S × Next A → Type 0
StaysPast past reply call (state, Go) = past state ≡ true
StaysPast past reply call (state, Done end) = changes_nothing call (reply end) ≡ false

abbrev same_reply : Reply → Reply
same_reply reply = reply

abbrev end_reply : Reply × Option ℕ → Reply
end_reply end = end.0

module _ (port owner : ℕ) (once : Bool) where
  abbrev BindPast : BindAt × Next Reply → Type 0
  BindPast r = StaysPast bind_is_past same_reply (Bind port owner once) r

  published-past : (node table : ℕ) (kick : Bool) (relink : RelinkModel) (next : Next (Unit {0}))
      → bind_is_past (bind_at.published node table kick relink next) ≡ true
  published-past node table kick relink Go = refl
  published-past node table kick relink (Done done) = refl

  replaced-past : (list : FoundList) (relink : RelinkModel) (next : Next (Unit {0}))
      → bind_is_past (bind_at.replaced list relink next) ≡ true
  replaced-past list relink Go = refl
  replaced-past list relink (Done done) = refl

  closed-past : (env : Env) (ending : bind_ending.Ending) → ending_is_past ending ≡ true → BindPast (bind_ends.closed env ending)
  closed-past env (bind_endings.Bound kick) past = refl
  closed-past env _ past = absurd (cc)

  pub bind-past : (mix : ℕ → ℕ → ℕ → ℕ) (env : Env) (state : BindAt) (old : ℕ) → bind_is_past state ≡ true
      → BindPast (bind_at.after_at mix env port once state old)
  bind-past mix env (binding.Replacing list relink) old past = replaced-past list (relink_after relink).0 (relink_after relink).1
  bind-past mix env (binding.Publish node table relink kick) old past =
      published-past node table kick (relink_after relink).0 (relink_after relink).1
  bind-past mix env (binding.Closing ending) old past = closed-past env ending past
  bind-past mix env _ old past = absurd (cc)

module _ (port owner : ℕ) where
  abbrev ReleasePast : ReleaseAt × Next (Reply × Option ℕ) → Type 0
  ReleasePast r = StaysPast release_is_past end_reply (Release port owner) r

  taken-past : (g : Geometry) (found : FoundPort) (node link : ℕ) (before : Option ℕ)
      → release_is_past (release_at.cut_or_chain g found node link before) ≡ true
  taken-past g found node link None = refl
  taken-past g found node link (Some before) = refl

  linked-past : (g : Geometry) (found : FoundPort) (link : ℕ) (second : Option ℕ)
      → release_is_past (release_at.unlink_or_promote g found link second) ≡ true
  linked-past g found link None = refl
  linked-past g found link (Some second) = refl

  promoted-past : (found : FoundPort) (relink : RelinkModel) (next : Next (Unit {0}))
      → release_is_past (release_at.promoted found relink next) ≡ true
  promoted-past found relink Go = refl
  promoted-past found relink (Done done) = refl

  unlinked-past : (found : FoundPort) (relink : RelinkModel) (next : Next (Unit {0}))
      → release_is_past (release_at.unlinked found relink next) ≡ true
  unlinked-past found relink Go = refl
  unlinked-past found relink (Done done) = refl

  removed-past : (removed : Option ℕ) → removed_is_past removed ≡ true
      → reply_is_past (release_at.removed_reply removed) ≡ true
  removed-past None past = absurd (cc)
  removed-past (Some node) past = refl

  replied-past : (reply : Reply) → reply_is_past reply ≡ true → changes_nothing (Release port owner) reply ≡ false
  replied-past (Released kick) past = refl
  replied-past _ past = absurd (cc)

  pub release-past : (mix : ℕ → ℕ → ℕ → ℕ) (env : Env) (state : ReleaseAt) (old : ℕ) → release_is_past state ≡ true
      → ReleasePast (release_at.after_at mix env port owner state old)
  release-past mix env releasing.Opening old past = absurd (cc)
  release-past mix env (releasing.Seeking seek) old past = absurd (cc)
  release-past mix env (releasing.Searching found search) old past = absurd (cc)
  release-past mix env (releasing.LinkBehind found node before) old past = taken-past env.geometry found node old before
  release-past mix env (releasing.ChainLink found second) old past = linked-past env.geometry found old second
  release-past mix env (releasing.Promoting found relink) old past =
      promoted-past found (relink_after relink).0 (relink_after relink).1
  release-past mix env (releasing.Unlinking found relink) old past =
      unlinked-past found (relink_after relink).0 (relink_after relink).1
  release-past mix env (releasing.Unlocking table unlock removed) old past = removed-past removed past
  release-past mix env (releasing.Closing reply removed) old past = replied-past reply past
  release-past mix env _ old past = refl

module _ (port owner new : ℕ) where
  abbrev RebindPast : RebindAt × Next (Reply × Option ℕ) → Type 0
  RebindPast r = StaysPast rebind_is_past end_reply (Rebind port owner new) r

  swapped-past : (node : ℕ) (found : FoundPort) (old : ℕ) (before : Option ℕ)
      → rebind_is_past (rebind_at.swap_or_chain node found old before) ≡ true
  swapped-past node found old None = refl
  swapped-past node found old (Some before) = refl

  rebound-past : (node : ℕ) (found : FoundPort) (relink : RelinkModel) (next : Next (Unit {0}))
      → rebind_is_past (rebind_at.replaced node found relink next) ≡ true
  rebound-past node found relink Go = refl
  rebound-past node found relink (Done done) = refl

  left-past : (g : Geometry) (end : RebindEnd) → end_is_past end ≡ true → RebindPast (rebind_at.closed g end)
  left-past g (rebind_ends.Rebound removed) past = refl
  left-past g (rebind_ends.Absent node) past = absurd (cc)

  pub rebind-past : (mix : ℕ → ℕ → ℕ → ℕ) (env : Env) (state : RebindAt) (old : ℕ) → rebind_is_past state ≡ true
      → RebindPast (rebind_at.after_at mix env port owner state old)
  rebind-past mix env (rebinding.Filling new) old past = absurd (cc)
  rebind-past mix env (rebinding.Opening node) old past = absurd (cc)
  rebind-past mix env (rebinding.Seeking node seek) old past = absurd (cc)
  rebind-past mix env (rebinding.Searching node found search) old past = absurd (cc)
  rebind-past mix env (rebinding.OwnListLink node found removed before link) old past = swapped-past node found removed before
  rebind-past mix env (rebinding.Replacing node found relink) old past =
      rebound-past node found (relink_after relink).0 (relink_after relink).1
  rebind-past mix env (rebinding.Unlocking table unlock end) old past = past
  rebind-past mix env (rebinding.Closing end) old past = left-past env.geometry end past
  rebind-past mix env (rebinding.Giving give) old past = absurd (cc)
  rebind-past mix env _ old past = refl

-- ---- a resizing

abbrev WorkPast : WorkAt × Next Reply → Type 0
WorkPast r = StaysPast work_is_past same_reply Work r

unmade-past : (root : ℕ) (unmake : UnmakeModel) (next : Next (Unit {0})) → work_is_past (unmade root unmake next) ≡ true
unmade-past root unmake Go = refl
unmade-past root unmake (Done done) = refl

future-past : (root : ℕ) (due : Due) (future : Option ℕ) → future ≢ None → work_is_past (future_or_idle root due future) ≡ true
future-past root due None some = absurd (some refl)
future-past root due (Some future) some = refl

root-past : (g : Geometry) (rehash : Rehash) (number : ℕ) → work_is_past (bucket_of_root g rehash number) ≡ true
root-past g rehash number =
    cond_both (is_nested rehash.shape) (at.Entry rehash number (nested_place g rehash.shape number))
    (at.Locking rehash number (lock_new (flat_place g rehash.shape number))) (λ state. work_is_past state ≡ true)
    (λ t. refl) (λ f. refl)

locked-past : (g : Geometry) (rehash : Rehash) (number : ℕ) (lock : LockModel) (next : Next ℕ)
    → work_is_past (locked g rehash number lock next) ≡ true
locked-past g rehash number lock Go = refl
locked-past g rehash number lock (Done word) = refl

entry_table-past : (emptying : Emptying) (seek : LastTableModel) (next : Next Last)
    → work_is_past (entry_table_seen emptying seek next) ≡ true
entry_table-past emptying seek Go = refl
entry_table-past emptying seek (Done last) =
    cond_both (is_nested last.shape) (unlocking emptying true) (at.Seed emptying last) (λ state. work_is_past state ≡ true)
    (λ t. refl) (λ f. refl)

entry-past : (g : Geometry) (emptying : Emptying) (target : Target) (first : Option ℕ)
    → work_is_past (entry_or_empty g emptying target first) ≡ true
entry-past g emptying target None = refl
entry-past g emptying target (Some first) = refl

walked-past : (emptying : Emptying) (target : Target) (walk : LastEntryModel) (next : Next Entry)
    → work_is_past (walked emptying target walk next) ≡ true
walked-past emptying target walk Go = refl
walked-past emptying target walk (Done entry) = refl

second_locked-past : (emptying : Emptying) (entry : Entry) (table : ℕ) (lock : LockModel) (next : Next ℕ)
    → work_is_past (second_locked emptying entry table lock next) ≡ true
second_locked-past emptying entry table lock Go = refl
second_locked-past emptying entry table lock (Done word) = refl

cut-past : (g : Geometry) (emptying : Emptying) (before : Option ℕ) → work_is_past (cut_off g emptying before) ≡ true
cut-past g emptying None = refl
cut-past g emptying (Some before) = refl

next-past : (g : Geometry) (rehash : Rehash) (number : ℕ) → work_is_past (next_bucket g rehash number) ≡ true
next-past g rehash number =
    cond_both (nat_lt (number + 1) (size_of (unpacked rehash.shape))) (bucket_of_root g rehash (number + 1)) (at.Publishing rehash)
    (λ state. work_is_past state ≡ true) (λ t. root-past g rehash (number + 1))
    (λ f. refl)

passed-past : (g : Geometry) (rehash : Rehash) (number : ℕ) (place : PlaceModel) (next : Next Bucket)
    → work_is_past (entry_passed g rehash number place next) ≡ true
passed-past g rehash number place Go = refl
passed-past g rehash number place (Done (At word)) = refl
passed-past g rehash number place (Done (Absent entry)) = next-past g rehash number

unlocked-past : (g : Geometry) (rehash : Rehash) (number : ℕ) (stop : Bool)
    → work_is_past (unlocked_bucket g rehash number stop) ≡ true
unlocked-past g rehash number true = refl
unlocked-past g rehash number false = next-past g rehash number

retiring-past : (rehash : Rehash) (future : Option ℕ) → work_is_past (retiring rehash future) ≡ true
retiring-past rehash None = refl
retiring-past rehash (Some next) = refl

closing-past : (ending : Ending) → outcome_is_past (outcome_of ending) ≡ true → work_is_past (closed ending) ≡ true
closing-past (endings.Retiring root again) past = refl
closing-past (endings.LettingGo outcome) past = past

keeps-past : (keep : KeepSectionsModel) (again : Bool) (next : Next (Unit {0})) → work_is_past (kept keep again next) ≡ true
keeps-past keep again Go = refl
keeps-past keep again (Done done) = refl

ended-past : (mix : ℕ → ℕ → ℕ → ℕ) (env : Env) (outcome : Outcome) (old : ℕ) → outcome_is_past outcome ≡ true
    → WorkPast (after_at mix env (at.LettingGo outcome) old)
ended-past mix env Idle old past = absurd (cc)
ended-past mix env (NoTable size) old past = absurd (cc)
ended-past mix env (Moved again) old past = refl

-- where a table was due the future of the current one is found
pub work-past : (mix : ℕ → ℕ → ℕ → ℕ) (env : Env) (state : WorkAt) (old : ℕ) → work_is_past state ≡ true
    → ((root : ℕ) (due : Due) → state ≡ at.RootFuture root due → due_is_past due ≡ true → slot_of old ≢ None)
    → WorkPast (after_at mix env state old)
work-past mix env at.WorkLock old past some = absurd (cc)
work-past mix env (at.Returning returns) old past some = absurd (cc)
work-past mix env at.Opening old past some = absurd (cc)
work-past mix env at.CurrentTable old past some = absurd (cc)
work-past mix env (at.LastTable root seek) old past some = absurd (cc)
work-past mix env (at.Count root last) old past some = absurd (cc)
work-past mix env (at.Making wanted make) old past some = absurd (cc)
work-past mix env (at.Attaching root last slot shape) old past some =
    cond_both (old == 0) (at.RootFuture root dues.Attached) (at.Unmaking root (unmake_new env.geometry slot shape))
    (λ state. work_is_past state ≡ true) (λ t. refl) (λ f. refl)
work-past mix env (at.Unmaking root unmake) old past some = unmade-past root (unmake_after unmake old).0 (unmake_after unmake old).1
work-past mix env (at.RootFuture root due) old past some = future-past root due (slot_of old) (some root due refl past)
work-past mix env (at.RootShape root future again) old past some =
    root-past env.geometry (record { root = root; future = future; shape = old; again = again }) 0
work-past mix env (at.Entry rehash number place) old past some =
    passed-past env.geometry rehash number (place_after place old).0 (place_after place old).1
work-past mix env (at.Locking rehash number lock) old past some =
    locked-past env.geometry rehash number (lock_after lock old).0 (lock_after lock old).1
work-past mix env (at.EntryTable emptying seek) old past some =
    entry_table-past emptying (last_table_after seek old).0 (last_table_after seek old).1
work-past mix env (at.BucketWord emptying target) old past some =
    entry-past env.geometry (with_word emptying (unlocked old)) target
    (node_of env.geometry.nodes (head_of emptying.bucket.place (unlocked old)))
work-past mix env (at.Walking emptying target walk) old past some =
    walked-past emptying target (last_entry_after walk old).0 (last_entry_after walk old).1
work-past mix env (at.LockingSecond emptying entry table lock) old past some =
    second_locked-past emptying entry table (lock_after lock old).0 (lock_after lock old).1
work-past mix env (at.CuttingOff emptying entry) old past some = cut-past env.geometry emptying entry.before
work-past mix env (at.Unlocking rehash number unlock stop) old past some = unlocked-past env.geometry rehash number stop
work-past mix env (at.NewFuture rehash) old past some = retiring-past rehash (slot_of old)
work-past mix env (at.Closing ending) old past some = closing-past ending past
work-past mix env (at.KeepingSections keep again) old past some =
    keeps-past (keep_sections_after keep old).0 again (keep_sections_after keep old).1
work-past mix env (at.LettingGo outcome) old past some = ended-past mix env outcome old past
work-past mix env _ old past some = refl

-- ---- a tidying

-- where it gives nodes back it goes on so, or has given all back
pub tidy-past : (g : Geometry) (batch : BatchModel) (state : TidyAt) (old : ℕ) → tidy_is_past state ≡ true
    → StaysPast (λ (at : BatchModel × TidyAt). tidy_is_past at.1) same_reply Tidy (tidied (tidy.after_at g batch state old))
tidy-past g batch (tidy_at.Keeping caller) old past = absurd (cc)
tidy-past g batch (tidy_at.Asking caller) old past = absurd (cc)
tidy-past g batch (tidy_at.Giving index) old past =
    cond_both (nat_lt (index + 1) (length batch.waiting)) (batch, tidy_at.Giving (index + 1), Go)
    (cleared batch, tidy_at.Keeping 0, Done (Clear (length batch.waiting)))
    (λ came. StaysPast (λ (at : BatchModel × TidyAt). tidy_is_past at.1) same_reply Tidy (tidied came)) (λ t. refl) (λ f. refl)
