-- The taking out of one binding: what each state performs, and what comes after it.
use Rattle.std.specs.Prelude.{◌≡◌, ℕ, ◌-◌, ◌^◌, ◌<◌, ◌&&◌, Bool, false, min, Option, None, Some}
use Rattle.rht_words.specs.declared.op.Op.{Op}
use Rattle.rht_words.specs.declared.op.Op.TheVariants.{Load, Store, Sub}
use Rattle.rht_words.specs.declared.machine.Next.{Next}
use Rattle.rht_words.specs.declared.machine.Next.TheVariants.{Go, Done}
use Rattle.rht_words.specs.declared.env.Env.{Env}
use Rattle.rht_words.specs.declared.geometry.Geometry.{Geometry}
use Rattle.rht_words.specs.Links.{link_of, node_of}
use Rattle.rht_words.specs.Planned.{IsWord}
use Rattle.rht_words.specs.Ports.{IsPort}
use Rattle.rht_words.specs.Shapes.{size_of, unpacked}
use Rattle.rht_words.specs.Places.{PortCount, Node, ChainLink, ListLink, place_of}
use Rattle.rht_policy.specs.Thresholds.{is_below_30}
use Rattle.rht_grace.specs.Sections.{turning}
use Rattle.rht_chain.specs.LockedWalk.{IsNodeOrNone}
use Rattle.rht_chain.specs.Relink.{RelinkModel, relink_plan, relink_after, IsRelinkIn}
use Rattle.rht_chain.specs.Unlock.{unlock_plan, IsUnlockIn}
use Rattle.rht_chain.specs.declared.unlock.Unlock.{Unlock}
use Rattle.rht_model.specs.declared.history.Reply.{Reply}
use Rattle.rht_model.specs.declared.history.Reply.TheVariants.{Released, Absent}
use Rattle.rht_release.specs.FoundPort.{relink_of, unlock_of, IsFoundPortIn}
use Rattle.rht_release.specs.ListSearch.{search_new, search_plan, search_after, IsSearchIn}
use Rattle.rht_release.specs.Seek.{SeekModel, seek_new, seek_plan, seek_after, IsSeekIn}
use Rattle.rht_release.specs.declared.found_port.FoundPort.{FoundPort}
use Rattle.rht_release.specs.declared.list_search.ListPlace.{ListPlace}
use Rattle.rht_release.specs.declared.list_search.ListSearch.{ListSearch}
use Rattle.rht_release.specs.declared.release.ReleaseAt.{ReleaseAt}
use Rattle.rht_release.specs.declared.release.ReleaseAt.TheVariants as at

-- what contracts see of the machine
pub record ReleaseModel : Type 0 where
  pub env : Env
  pub caller : ℕ
  pub port : ℕ
  pub owner : ℕ
  pub at : ReleaseAt

-- it begins before its read section
abbrev pub release_new : Env → ℕ → ℕ → ℕ → ReleaseModel
release_new env caller port owner =
    record { env = env; caller = caller; port = port; owner = owner; at = at.Opening }

-- the state's one operation
abbrev pub plan_at : Env → ℕ → ReleaseAt → Op
plan_at env caller at.Opening = turning caller
plan_at env caller (at.Seeking seek) = seek_plan seek
plan_at env caller (at.Searching found search) = search_plan env.geometry search
plan_at env caller (at.LinkBehind found node before) = Load (place_of env.geometry (Node node ListLink))
plan_at env caller (at.CuttingOut found node before link) = Store (place_of env.geometry (Node before ListLink)) link
plan_at env caller (at.ChainLink found second) = Load (place_of env.geometry (Node found.node ChainLink))
plan_at env caller (at.SecondLink found second link) = Store (place_of env.geometry (Node second ChainLink)) link
plan_at env caller (at.Promoting found relink) = relink_plan relink
plan_at env caller (at.Unlinking found relink) = relink_plan relink
plan_at env caller (at.Lowering node shape) = Sub (place_of env.geometry PortCount) 1
plan_at env caller (at.Unlocking table unlock removed) = unlock_plan unlock
plan_at env caller (at.Closing reply removed) = turning caller

abbrev pub release_plan : ReleaseModel → Op
release_plan m = plan_at m.env m.caller m.at

-- the read section is closed, and then the release ends with this reply, and this node taken out, or none
abbrev pub closing : Reply → Option ℕ → ReleaseAt
closing reply removed = at.Closing reply removed

-- the reply, and the node that was taken out; where none was, the port isn't bound to the owner
abbrev pub removed_reply : Option ℕ → Reply
removed_reply None = Absent
removed_reply (Some node) = Released false

-- what comes after an operation on the way: where the port was found, its owners are looked at from the
-- first on
abbrev pub sought : SeekModel → Next (Option FoundPort) → ReleaseAt
sought seek Go = at.Seeking seek
sought seek (Done None) = closing Absent None
sought seek (Done (Some found)) = at.Searching found (search_new found.node)

-- the bucket is unlocked; where no node was taken out no owner was the one
abbrev pub unlocking : FoundPort → Option ℕ → ReleaseAt
unlocking found removed = at.Unlocking found.table (unlock_of found) removed

-- what comes after an operation along the list: a node with the owner is taken out; behind the last one the port isn't bound to the owner
abbrev pub searched : FoundPort → ListSearch → Next (Option ListPlace) → ReleaseAt
searched found search Go = at.Searching found search
searched found search (Done None) = unlocking found None
searched found search (Done (Some place)) = at.LinkBehind found place.node place.before

-- a later node of the list is cut out of it; the first one is in the chain, where a second one takes
-- its place
abbrev pub cut_or_chain : Geometry → FoundPort → ℕ → ℕ → Option ℕ → ReleaseAt
cut_or_chain g found node link None = at.ChainLink found (node_of g.nodes link)
cut_or_chain g found node link (Some before) = at.CuttingOut found node before link

-- the only node of the list is unlinked from the chain; a second one gets the first one's link
abbrev pub unlink_or_promote : Geometry → FoundPort → ℕ → Option ℕ → ReleaseAt
unlink_or_promote g found link None = at.Unlinking found (relink_of g found link)
unlink_or_promote g found link (Some second) = at.SecondLink found second link

-- the second node of the list takes the first one's place in the chain
abbrev pub promoting : Geometry → FoundPort → ℕ → ReleaseAt
promoting g found second = at.Promoting found (relink_of g found (link_of second))

-- with the last store the second node is the first, and the bucket unlocked
abbrev pub promoted : FoundPort → RelinkModel → Next (Unit {0}) → ReleaseAt
promoted found relink Go = at.Promoting found relink
promoted found relink (Done done) = closing (Released false) (Some found.node)

-- with the last store the node is in no chain, and the bucket unlocked; then there is one port less
abbrev pub unlinked : FoundPort → RelinkModel → Next (Unit {0}) → ReleaseAt
unlinked found relink Go = at.Unlinking found relink
unlinked found relink (Done done) = at.Lowering found.node found.shape

-- a table of this shape is due to shrink once the count, which was this, has been lowered
abbrev pub kicks : Env → ℕ → ℕ → Bool
kicks env shape count =
    env.config.shrink && is_below_30 (min (count - 1) 65536) (size_of (unpacked shape)) env.config.min

-- where the release stands after a state that found this word, and what it says
abbrev pub after_at : (ℕ → ℕ → ℕ → ℕ) → Env → ℕ → ℕ → ReleaseAt → ℕ → ReleaseAt × Next (Reply × Option ℕ)
after_at mix env port owner at.Opening word = (at.Seeking (seek_new env.geometry), Go)
after_at mix env port owner (at.Seeking seek) word =
    (sought (seek_after mix port seek word).0 (seek_after mix port seek word).1, Go)
after_at mix env port owner (at.Searching found search) word =
    (searched found (search_after env.geometry owner search word).0 (search_after env.geometry owner search word).1, Go)
after_at mix env port owner (at.LinkBehind found node before) word =
    (cut_or_chain env.geometry found node word before, Go)
after_at mix env port owner (at.CuttingOut found node before link) word = (unlocking found (Some node), Go)
after_at mix env port owner (at.ChainLink found second) word =
    (unlink_or_promote env.geometry found word second, Go)
after_at mix env port owner (at.SecondLink found second link) word = (promoting env.geometry found second, Go)
after_at mix env port owner (at.Promoting found relink) word =
    (promoted found (relink_after relink).0 (relink_after relink).1, Go)
after_at mix env port owner (at.Unlinking found relink) word =
    (unlinked found (relink_after relink).0 (relink_after relink).1, Go)
after_at mix env port owner (at.Lowering node shape) word =
    (closing (Released (kicks env shape word)) (Some node), Go)
after_at mix env port owner (at.Unlocking table unlock removed) word =
    (closing (removed_reply removed) removed, Go)
after_at mix env port owner (at.Closing reply removed) word = (at.Closing reply removed, Done (reply, removed))

abbrev pub moved : ReleaseModel → ReleaseAt × Next (Reply × Option ℕ) → ReleaseModel × Next (Reply × Option ℕ)
moved m next = (record m { at = next.0 }, next.1)

abbrev pub release_after : (ℕ → ℕ → ℕ → ℕ) → ReleaseModel → ℕ → ReleaseModel × Next (Reply × Option ℕ)
release_after mix m word = moved m (after_at mix m.env m.port m.owner m.at word)

-- ---- what a release names

-- it looks for the owner in the port's list
pub record IsSearchingIn (g : Geometry) (found : FoundPort) (search : ListSearch) : Type 0 where
  pub found_in : IsFoundPortIn g found
  pub search_in : IsSearchIn g search

-- it stands at a node of the port's list, behind another one or none
pub record IsInListIn (g : Geometry) (found : FoundPort) (node : ℕ) (before : Option ℕ) : Type 0 where
  pub found_in : IsFoundPortIn g found
  pub node_in : node < g.nodes
  pub before_in : IsNodeOrNone g before

-- it cuts a node out of the list, to whose place this link is to lead
pub record IsCuttingOutIn (g : Geometry) (found : FoundPort) (node before link : ℕ) : Type 0 where
  pub found_in : IsFoundPortIn g found
  pub node_in : node < g.nodes
  pub before_in : before < g.nodes
  pub link_in : IsWord link

-- it takes the first node out of the chain, and knows the second one, where there is one
pub record IsChainLinkIn (g : Geometry) (found : FoundPort) (second : Option ℕ) : Type 0 where
  pub found_in : IsFoundPortIn g found
  pub second_in : IsNodeOrNone g second

-- the second node gets this link
pub record IsSecondLinkIn (g : Geometry) (found : FoundPort) (second link : ℕ) : Type 0 where
  pub found_in : IsFoundPortIn g found
  pub second_in : second < g.nodes
  pub link_in : IsWord link

-- it changes the chain of a bucket of a table
pub record IsRelinkingIn (g : Geometry) (found : FoundPort) (relink : RelinkModel) : Type 0 where
  pub found_in : IsFoundPortIn g found
  pub relink_in : IsRelinkIn g relink

-- it has taken a node out of a table of this shape
pub record IsLoweringIn (g : Geometry) (node shape : ℕ) : Type 0 where
  pub node_in : node < g.nodes
  pub shape_in : IsWord shape

-- it unlocks a bucket of a table
pub record IsUnlockingIn (g : Geometry) (table : ℕ) (unlock : Unlock) (removed : Option ℕ) : Type 0 where
  pub table_in : table < 8
  pub unlock_in : IsUnlockIn g unlock
  pub removed_in : IsNodeOrNone g removed

-- all that the state names is the table's: slots, nodes and buckets; and the words that it keeps are words
abbrev pub IsReleaseAtIn : Env → ReleaseAt → Type 0
IsReleaseAtIn env at.Opening = Unit {0}
IsReleaseAtIn env (at.Seeking seek) = IsSeekIn env.geometry seek
IsReleaseAtIn env (at.Searching found search) = IsSearchingIn env.geometry found search
IsReleaseAtIn env (at.LinkBehind found node before) = IsInListIn env.geometry found node before
IsReleaseAtIn env (at.CuttingOut found node before link) = IsCuttingOutIn env.geometry found node before link
IsReleaseAtIn env (at.ChainLink found second) = IsChainLinkIn env.geometry found second
IsReleaseAtIn env (at.SecondLink found second link) = IsSecondLinkIn env.geometry found second link
IsReleaseAtIn env (at.Promoting found relink) = IsRelinkingIn env.geometry found relink
IsReleaseAtIn env (at.Unlinking found relink) = IsRelinkingIn env.geometry found relink
IsReleaseAtIn env (at.Lowering node shape) = IsLoweringIn env.geometry node shape
IsReleaseAtIn env (at.Unlocking table unlock removed) = IsUnlockingIn env.geometry table unlock removed
IsReleaseAtIn env (at.Closing reply removed) = IsNodeOrNone env.geometry removed

-- a release of this caller in this table, all that its state names being the table's
pub record IsReleaseIn (env : Env) (caller : ℕ) (m : ReleaseModel) : Type 0 where
  pub same_env : m.env ≡ env
  pub same_caller : m.caller ≡ caller
  pub port_in : IsPort m.port
  pub owner_in : m.owner < 2 ^ 32
  pub at_in : IsReleaseAtIn env m.at
