-- The binding of a port to an owner: what each state performs, and what comes after it.
use Rattle.std.specs.Prelude.{◌≡◌, ℕ, ◌+◌, ◌^◌, ◌<◌, Bool, false, ◌||◌, min, nat_le, Option, None, Some, if◌then◌else◌}
use Rattle.rht_words.specs.declared.op.Op.{Op}
use Rattle.rht_words.specs.declared.op.Op.TheVariants.{Load, Store, Exchange, Add}
use Rattle.rht_words.specs.declared.machine.Next.{Next}
use Rattle.rht_words.specs.declared.machine.Next.TheVariants.{Go, Done}
use Rattle.rht_words.specs.declared.machine.Start.{Start}
use Rattle.rht_words.specs.declared.machine.Start.TheVariants as starts
use Rattle.rht_words.specs.declared.env.Env.{Env}
use Rattle.rht_words.specs.declared.config.Kind.{Kind}
use Rattle.rht_words.specs.declared.config.Kind.TheVariants as kinds
use Rattle.rht_words.specs.declared.geometry.Geometry.{Geometry}
use Rattle.rht_words.specs.Links.{table_of, slot_of, future_of, link_of, head_of}
use Rattle.rht_words.specs.Planned.{IsWord}
use Rattle.rht_words.specs.Ports.{IsPort, word_of, owner_of}
use Rattle.rht_words.specs.Shapes.{size_of, unpacked}
use Rattle.rht_words.specs.Ways.{start_in}
use Rattle.rht_words.specs.Places.{CurrentTable, PortCount, Slot, FutureWord, Node, ChainLink, OwnerWord, ListLink, place_of}
use Rattle.rht_policy.specs.Thresholds.{is_above_75, is_above_100, is_above_max}
use Rattle.rht_grace.specs.Sections.{turning}
use Rattle.rht_nest.specs.Locate.{LocateModel, locate_new, locate_plan, locate_after, IsLocateIn}
use Rattle.rht_nest.specs.declared.locate.Located.{Located}
use Rattle.rht_nest.specs.declared.locate.LocatedBucket.{LocatedBucket}
use Rattle.rht_nest.specs.declared.locate.LocatedBucket.TheVariants as buckets
use Rattle.rht_nest.specs.declared.locate.LocateAt.TheVariants as locates
use Rattle.rht_nest.specs.Place.{PlaceModel, entry_place, entered, IsPlaceIn}
use Rattle.rht_nest.specs.Grow.{GrowModel, grow_new, grow_plan, grow_after, IsGrowIn}
use Rattle.rht_nest.specs.Make.{make_plan, make_after}
use Rattle.rht_nest.specs.Unmake.{unmake_plan, unmake_after}
use Rattle.rht_arena.specs.NewNode.{NewNodeModel, new_node_from, new_node_plan, new_node_after, IsNewNodeIn}
use Rattle.rht_arena.specs.GiveNode.{give_node_plan, IsGiveIn}
use Rattle.rht_chain.specs.Probe.{ProbeModel, probe_new, probe_plan, probe_after, IsProbeIn}
use Rattle.rht_chain.specs.declared.probe.Probed.{Probed}
use Rattle.rht_chain.specs.Relink.{RelinkModel, relink_new, relink_plan, relink_after, IsRelinkIn}
use Rattle.rht_chain.specs.Unlock.{unlock_plan, IsUnlockIn}
use Rattle.rht_chain.specs.declared.unlock.Unlock.{Unlock}
use Rattle.rht_chain.specs.Locked.{IsLockedIn, IsThenIn}
use Rattle.rht_chain.specs.LockedWalk.{IsNodeOrNone}
use Rattle.rht_chain.specs.declared.locked.Then.{Then}
use Rattle.rht_chain.specs.declared.locked.Then.TheVariants.{Table, Answer}
use Rattle.rht_model.specs.declared.history.Reply.{Reply}
use Rattle.rht_model.specs.declared.history.Reply.TheVariants.{Exists, TooBig, NoTable, NoNode}
use Rattle.rht_bind.specs.Endings.{answering, closed, IsEndingIn}
use Rattle.rht_bind.specs.Growing.{unlocking_full, want_or_busy, made, refused_or_found, checked_attach, unmade, IsGrowingIn, IsUnlockingFullIn, IsWantingIn, IsMakingIn, IsRefusingIn, IsAttachingIn, IsUnmakingIn}
use Rattle.rht_bind.specs.declared.bind.Attempt.{Attempt}
use Rattle.rht_bind.specs.declared.bind.Claimed.{Claimed}
use Rattle.rht_bind.specs.declared.bind.FoundList.{FoundList}
use Rattle.rht_bind.specs.declared.bind.ending.Ending.TheVariants as endings
use Rattle.rht_bind.specs.declared.bind.growth.Full.TheVariants as full
use Rattle.rht_bind.specs.declared.bind.BindAt.{BindAt}
use Rattle.rht_bind.specs.declared.bind.BindAt.TheVariants as at

-- what contracts see of the machine
pub record BindModel : Type 0 where
  pub env : Env
  pub caller : ℕ
  pub port : ℕ
  pub owner : ℕ
  pub once : Bool
  pub at : BindAt

-- it begins with a new node of the port and the owner, and a search for it from word `start` of the map on
abbrev pub first_state : Env → ℕ → ℕ → ℕ → BindAt
first_state env port owner start = at.Filling (new_node_from env.geometry (word_of port) owner (start_in env start))

abbrev pub bind_from : Env → ℕ → ℕ → ℕ → Bool → ℕ → BindModel
bind_from env caller port owner once start =
    record { env = env; caller = caller; port = port; owner = owner; once = once; at = first_state env port owner start }

-- or from the first one on
abbrev pub bind_new : Env → ℕ → ℕ → ℕ → Bool → BindModel
bind_new env caller port owner once = bind_from env caller port owner once 0

-- the state's one operation
abbrev pub plan_at : Env → ℕ → BindAt → Op
plan_at env caller (at.Filling new) = new_node_plan new
plan_at env caller (at.Opening attempt) = turning caller
plan_at env caller (at.CurrentTable attempt) = Load (place_of env.geometry CurrentTable)
plan_at env caller (at.Locating attempt locate) = locate_plan locate
plan_at env caller (at.Entering attempt table shape place grow) = grow_plan grow
plan_at env caller (at.Probing attempt table shape probe) = probe_plan probe
plan_at env caller (at.FoundOwner claimed found) = Load (place_of env.geometry (Node found OwnerWord))
plan_at env caller (at.ListLink list) =
    Store (place_of env.geometry (Node list.claimed.attempt.node ListLink)) (link_of list.first)
plan_at env caller (at.ChainLink list) = Load (place_of env.geometry (Node list.first ChainLink))
plan_at env caller (at.LinkBehind list link) = Store (place_of env.geometry (Node list.claimed.attempt.node ChainLink)) link
plan_at env caller (at.Replacing list relink) = relink_plan relink
plan_at env caller (at.Future claimed length) = Load (place_of env.geometry (Slot claimed.table FutureWord))
plan_at env caller (at.Count claimed) = Load (place_of env.geometry PortCount)
plan_at env caller (at.Link claimed) =
    Store (place_of env.geometry (Node claimed.attempt.node ChainLink)) (head_of claimed.bucket.place claimed.bucket.word)
plan_at env caller (at.Raise claimed) = Add (place_of env.geometry PortCount) 1
plan_at env caller (at.Publish node table relink kick) = relink_plan relink
plan_at env caller (at.Unlocking attempt table unlock next) = unlock_plan unlock
plan_at env caller (at.UnlockingFull growing unlock) = unlock_plan unlock
plan_at env caller (at.Root growing) = Load (place_of env.geometry CurrentTable)
plan_at env caller (at.GrowthCount growing root) = Load (place_of env.geometry PortCount)
plan_at env caller (at.Making growing size make) = make_plan make
plan_at env caller (at.FutureAgain growing refusal) = Load (place_of env.geometry (Slot growing.table FutureWord))
plan_at env caller (at.Attaching growing slot shape) =
    Exchange (place_of env.geometry (Slot growing.table FutureWord)) 0 (future_of slot)
plan_at env caller (at.Unmaking attempt unmake answer) = unmake_plan unmake
plan_at env caller (at.Closing ending) = turning caller
plan_at env caller (at.Giving give reply) = give_node_plan give

abbrev pub bind_plan : BindModel → Op
bind_plan m = plan_at m.env m.caller m.at

-- a new node, by a bind that has attached no table yet
abbrev pub first_attempt : ℕ → Attempt
first_attempt node = record { node = node; attached = false }

-- with a new node the section is opened; where no node was free the bind ends
abbrev pub filled : NewNodeModel → Next (Option ℕ) → BindAt × Next Reply
filled new Go = (at.Filling new, Go)
filled new (Done None) = (at.Filling new, Done NoNode)
filled new (Done (Some node)) = (at.Opening (first_attempt node), Go)

-- the port's bucket in the table of this slot is looked for
abbrev pub locating : Env → Attempt → ℕ → BindAt
locating env attempt table = at.Locating attempt (locate_new env.geometry table)

-- the bucket whose word has this place is locked
abbrev pub probing : Env → ℕ → Attempt → ℕ → ℕ → ℕ → BindAt
probing env port attempt table shape place =
    at.Probing attempt table shape (probe_new env.geometry place (word_of port))

-- A bucket that is there is locked. A missing one is empty: where a table was behind before the entries were looked at, the bind
-- goes on in that one, and else a page is entered at the entry that leads to none.
abbrev pub at_bucket : Env → ℕ → Attempt → ℕ → ℕ → LocatedBucket → BindAt
at_bucket env port attempt table shape (buckets.At place) = probing env port attempt table shape place
at_bucket env port attempt table shape (buckets.Missing place (Some next)) = locating env attempt next
at_bucket env port attempt table shape (buckets.Missing place None) =
    at.Entering attempt table shape place (grow_new env.geometry (entry_place place))

-- what comes after an operation that looks for the bucket
abbrev pub located : Env → ℕ → Attempt → LocateModel → Next Located → BindAt
located env port attempt locate Go = at.Locating attempt locate
located env port attempt locate (Done there) =
    at_bucket env port attempt locate.table there.shape there.bucket

-- Behind an entry that leads to a page the bucket is there, or a further entry is looked at. No table was behind before.
abbrev pub behind_page : Env → ℕ → Attempt → ℕ → ℕ → Start PlaceModel ℕ → BindAt
behind_page env port attempt table shape (starts.Running next) =
    at.Locating attempt (record { geometry = env.geometry; table = table; at = locates.Entry shape None next })
behind_page env port attempt table shape (starts.Done place) = probing env port attempt table shape place

-- What comes after an operation that enters a page: where none was free there is no table of this size for the port.
abbrev pub grown : Env → ℕ → Attempt → ℕ → ℕ → PlaceModel → GrowModel → Next (Option ℕ) → BindAt
grown env port attempt table shape place grow Go = at.Entering attempt table shape place grow
grown env port attempt table shape place grow (Done None) =
    answering attempt.node (NoTable (size_of (unpacked shape)))
grown env port attempt table shape place grow (Done (Some page)) =
    behind_page env port attempt table shape (entered place page)

-- of a port that is bound already the owner is loaded; in a table of lists the node goes in front of its list
abbrev pub bound_already : Kind → Claimed → ℕ → Option ℕ → BindAt
bound_already kinds.Single claimed first before = at.FoundOwner claimed first
bound_already kinds.Listed claimed first before =
    at.ListLink (record { claimed = claimed; first = first; before = before })

-- where the port was found it is bound already, and else the table's future is loaded
abbrev pub found_or_future : Kind → Claimed → Option ℕ → Option ℕ → ℕ → BindAt
found_or_future kind claimed None before length = at.Future claimed length
found_or_future kind claimed (Some first) before length = bound_already kind claimed first before

-- what comes after an operation in the bucket
abbrev pub probed : Kind → Attempt → ℕ → ℕ → ProbeModel → Next Probed → BindAt
probed kind attempt table shape probe Go = at.Probing attempt table shape probe
probed kind attempt table shape probe (Done end) =
    let claimed : Claimed = record { attempt = attempt; table = table; shape = shape; bucket = end.bucket } in
    found_or_future kind claimed end.seen.found end.seen.before end.seen.length

-- the node takes the place of the list's first one in the chain
abbrev pub replacing : Env → FoundList → BindAt
replacing env list =
    let bucket = list.claimed.bucket in
    let link = link_of list.claimed.attempt.node in
    at.Replacing list (relink_new env.geometry bucket.place bucket.word list.before link)

-- with the last store the owner is the port's first one, and the bucket unlocked; no count was raised, so there is a
-- kick only for a table that the bind has attached
abbrev pub replaced : FoundList → RelinkModel → Next (Unit {0}) → BindAt
replaced list relink Go = at.Replacing list relink
replaced list relink (Done done) = at.Closing (endings.Bound list.claimed.attempt.attached)

-- the bucket is unlocked without a change, and then the bind goes on or has its answer
abbrev pub unlocking : Claimed → Then Reply → BindAt
unlocking claimed next =
    at.Unlocking claimed.attempt claimed.table (record { place = claimed.bucket.place; word = claimed.bucket.word }) next

-- a future table is looked through next; where there is none, a chain of 16 nodes takes no further one, and before
-- another does the ports are counted
abbrev pub future_or_count : Claimed → ℕ → Option ℕ → BindAt
future_or_count claimed length None = if nat_le 16 length then unlocking_full claimed full.Chain else at.Count claimed
future_or_count claimed length (Some table) = unlocking claimed (Table table)

-- a table that may hold no more refuses the bind, and one with fewer buckets than ports takes no node where it may grow
abbrev pub checked_count : Env → Claimed → ℕ → BindAt
checked_count env claimed count =
    if is_above_max (min count 65536) env.config.max then unlocking claimed (Answer (TooBig count))
    else if is_above_100 (min count 65536) (size_of (unpacked claimed.shape)) env.config.max then
    unlocking_full claimed full.Table
    else at.Link claimed

-- the bind has attached a table; or its table is due to grow once the count, which was this, has been raised
abbrev pub kicks : Env → Claimed → ℕ → Bool
kicks env claimed count =
    claimed.attempt.attached
    || is_above_75 (min count 65535 + 1) (size_of (unpacked claimed.shape)) env.config.max

-- the node becomes the bucket's first
abbrev pub publishing : Env → Claimed → Bool → BindAt
publishing env claimed kick =
    let node = claimed.attempt.node in
    let bucket = claimed.bucket in
    at.Publish node claimed.table (relink_new env.geometry bucket.place bucket.word None (link_of node)) kick

-- with the last store the port is bound and the bucket unlocked
abbrev pub published : ℕ → ℕ → Bool → RelinkModel → Next (Unit {0}) → BindAt
published node table kick relink Go = at.Publish node table relink kick
published node table kick relink (Done done) = at.Closing (endings.Bound kick)

-- behind the unlocking the bind goes on in the future table, or has its answer
abbrev pub unlocked : Env → Attempt → Then Reply → BindAt
unlocked env attempt (Table table) = locating env attempt table
unlocked env attempt (Answer reply) = answering attempt.node reply

-- where the bind stands after a state that found this word, and what it says
abbrev pub after_at : (ℕ → ℕ → ℕ → ℕ) → Env → ℕ → Bool → BindAt → ℕ → BindAt × Next Reply
after_at mix env port once (at.Filling new) word = filled (new_node_after new word).0 (new_node_after new word).1
after_at mix env port once (at.Opening attempt) word = (at.CurrentTable attempt, Go)
after_at mix env port once (at.CurrentTable attempt) word = (locating env attempt (table_of word), Go)
after_at mix env port once (at.Locating attempt locate) word =
    (located env port attempt (locate_after mix port locate word).0 (locate_after mix port locate word).1, Go)
after_at mix env port once (at.Entering attempt table shape place grow) word =
    (grown env port attempt table shape place (grow_after grow word).0 (grow_after grow word).1, Go)
after_at mix env port once (at.Probing attempt table shape probe) word =
    (probed env.config.kind attempt table shape (probe_after probe word).0 (probe_after probe word).1, Go)
after_at mix env port once (at.FoundOwner claimed found) word =
    (unlocking claimed (Answer (Exists (owner_of word))), Go)
after_at mix env port once (at.ListLink list) word = (at.ChainLink list, Go)
after_at mix env port once (at.ChainLink list) word = (at.LinkBehind list word, Go)
after_at mix env port once (at.LinkBehind list link) word = (replacing env list, Go)
after_at mix env port once (at.Replacing list relink) word =
    (replaced list (relink_after relink).0 (relink_after relink).1, Go)
after_at mix env port once (at.Future claimed length) word = (future_or_count claimed length (slot_of word), Go)
after_at mix env port once (at.Count claimed) word = (checked_count env claimed word, Go)
after_at mix env port once (at.Link claimed) word = (at.Raise claimed, Go)
after_at mix env port once (at.Raise claimed) word = (publishing env claimed (kicks env claimed word), Go)
after_at mix env port once (at.Publish node table relink kick) word =
    (published node table kick (relink_after relink).0 (relink_after relink).1, Go)
after_at mix env port once (at.Unlocking attempt table unlock next) word = (unlocked env attempt next, Go)
after_at mix env port once (at.UnlockingFull growing unlock) word = (at.Root growing, Go)
after_at mix env port once (at.Root growing) word = (at.GrowthCount growing (table_of word), Go)
after_at mix env port once (at.GrowthCount growing root) word = (want_or_busy env growing root word, Go)
after_at mix env port once (at.Making growing size make) word =
    (made growing size (make_after make word).0 (make_after make word).1, Go)
after_at mix env port once (at.FutureAgain growing refusal) word =
    (refused_or_found once growing refusal (slot_of word), Go)
after_at mix env port once (at.Attaching growing slot shape) word =
    (checked_attach env once growing slot shape word, Go)
after_at mix env port once (at.Unmaking attempt unmake answer) word =
    (unmade attempt answer (unmake_after unmake word).0 (unmake_after unmake word).1, Go)
after_at mix env port once (at.Closing ending) word = closed env ending
after_at mix env port once (at.Giving give reply) word = (at.Giving give reply, Done reply)

abbrev pub moved : BindModel → BindAt × Next Reply → BindModel × Next Reply
moved m next = (record m { at = next.0 }, next.1)

abbrev pub bind_after : (ℕ → ℕ → ℕ → ℕ) → BindModel → ℕ → BindModel × Next Reply
bind_after mix m word = moved m (after_at mix m.env m.port m.once m.at word)

-- ---- what a bind names

-- the node that it has taken, with which it looks for a bucket
pub record IsLocatingIn (g : Geometry) (attempt : Attempt) (locate : LocateModel) : Type 0 where
  pub node_in : attempt.node < g.nodes
  pub locate_in : IsLocateIn g locate

-- for which it enters a page at an entry of a table
pub record IsEnteringIn (g : Geometry) (attempt : Attempt) (table shape : ℕ) (place : PlaceModel) (grow : GrowModel) : Type 0 where
  pub node_in : attempt.node < g.nodes
  pub table_in : table < 8
  pub shape_in : IsWord shape
  pub place_in : IsPlaceIn g place
  pub grow_in : IsGrowIn g grow

-- and with which it locks a bucket of a table and walks it
pub record IsProbingIn (g : Geometry) (attempt : Attempt) (table shape : ℕ) (probe : ProbeModel) : Type 0 where
  pub node_in : attempt.node < g.nodes
  pub table_in : table < 8
  pub shape_in : IsWord shape
  pub probe_in : IsProbeIn g probe

-- what it holds in a bucket is the table's
pub record IsClaimedIn (g : Geometry) (claimed : Claimed) : Type 0 where
  pub node_in : claimed.attempt.node < g.nodes
  pub table_in : claimed.table < 8
  pub shape_in : IsWord claimed.shape
  pub bucket_in : IsLockedIn g claimed.bucket

-- and so is the node that it has found there
pub record IsFoundIn (g : Geometry) (claimed : Claimed) (found : ℕ) : Type 0 where
  pub claimed_in : IsClaimedIn g claimed
  pub found_in : found < g.nodes

-- and so is a list that it has found there
pub record IsListIn (g : Geometry) (list : FoundList) : Type 0 where
  pub claimed_in : IsClaimedIn g list.claimed
  pub first_in : list.first < g.nodes
  pub before_in : IsNodeOrNone g list.before

-- its node gets this link
pub record IsLinkingIn (g : Geometry) (list : FoundList) (link : ℕ) : Type 0 where
  pub list_in : IsListIn g list
  pub link_in : IsWord link

-- its node goes in front of the list
pub record IsReplacingIn (g : Geometry) (list : FoundList) (relink : RelinkModel) : Type 0 where
  pub list_in : IsListIn g list
  pub relink_in : IsRelinkIn g relink

-- it links its node into a bucket of a table
pub record IsPublishingIn (g : Geometry) (node table : ℕ) (relink : RelinkModel) : Type 0 where
  pub node_in : node < g.nodes
  pub table_in : table < 8
  pub relink_in : IsRelinkIn g relink

-- it unlocks a bucket of a table
pub record IsUnlockingIn (g : Geometry) (attempt : Attempt) (table : ℕ) (unlock : Unlock) (next : Then Reply) : Type 0 where
  pub node_in : attempt.node < g.nodes
  pub table_in : table < 8
  pub unlock_in : IsUnlockIn g unlock
  pub then_in : IsThenIn next

-- all that the state names is the table's: slots, nodes and buckets; and the words that it keeps are words
abbrev pub IsBindAtIn : Env → BindAt → Type 0
IsBindAtIn env (at.Filling new) = IsNewNodeIn env.geometry new
IsBindAtIn env (at.Opening attempt) = attempt.node < env.geometry.nodes
IsBindAtIn env (at.CurrentTable attempt) = attempt.node < env.geometry.nodes
IsBindAtIn env (at.Locating attempt locate) = IsLocatingIn env.geometry attempt locate
IsBindAtIn env (at.Entering attempt table shape place grow) = IsEnteringIn env.geometry attempt table shape place grow
IsBindAtIn env (at.Probing attempt table shape probe) = IsProbingIn env.geometry attempt table shape probe
IsBindAtIn env (at.FoundOwner claimed found) = IsFoundIn env.geometry claimed found
IsBindAtIn env (at.ListLink list) = IsListIn env.geometry list
IsBindAtIn env (at.ChainLink list) = IsListIn env.geometry list
IsBindAtIn env (at.LinkBehind list link) = IsLinkingIn env.geometry list link
IsBindAtIn env (at.Replacing list relink) = IsReplacingIn env.geometry list relink
IsBindAtIn env (at.Future claimed length) = IsClaimedIn env.geometry claimed
IsBindAtIn env (at.Count claimed) = IsClaimedIn env.geometry claimed
IsBindAtIn env (at.Link claimed) = IsClaimedIn env.geometry claimed
IsBindAtIn env (at.Raise claimed) = IsClaimedIn env.geometry claimed
IsBindAtIn env (at.Publish node table relink kick) = IsPublishingIn env.geometry node table relink
IsBindAtIn env (at.Unlocking attempt table unlock next) = IsUnlockingIn env.geometry attempt table unlock next
IsBindAtIn env (at.UnlockingFull growing unlock) = IsUnlockingFullIn env.geometry growing unlock
IsBindAtIn env (at.Root growing) = IsGrowingIn env.geometry growing
IsBindAtIn env (at.GrowthCount growing root) = IsWantingIn env.geometry growing root
IsBindAtIn env (at.Making growing size make) = IsMakingIn env growing make
IsBindAtIn env (at.FutureAgain growing refusal) = IsRefusingIn env.geometry growing refusal
IsBindAtIn env (at.Attaching growing slot shape) = IsAttachingIn env.geometry growing slot shape
IsBindAtIn env (at.Unmaking attempt unmake answer) = IsUnmakingIn env.geometry attempt unmake
IsBindAtIn env (at.Closing ending) = IsEndingIn env.geometry ending
IsBindAtIn env (at.Giving give reply) = IsGiveIn env.geometry give

-- a bind of this caller in this table, all that its state names being the table's
pub record IsBindIn (env : Env) (caller : ℕ) (m : BindModel) : Type 0 where
  pub same_env : m.env ≡ env
  pub same_caller : m.caller ≡ caller
  pub port_in : IsPort m.port
  pub owner_in : m.owner < 2 ^ 32
  pub at_in : IsBindAtIn env m.at
