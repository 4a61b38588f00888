-- The putting of another owner in the place of one of a port's: what each state performs, and what comes after.
use Rattle.std.specs.Prelude.{◌≡◌, ℕ, ◌^◌, ◌<◌, Option, None, Some}
use Rattle.rht_words.specs.declared.op.Op.{Op}
use Rattle.rht_words.specs.declared.op.Op.TheVariants.{Load, Store}
use Rattle.rht_words.specs.declared.machine.Next.{Next}
use Rattle.rht_words.specs.declared.machine.Next.TheVariants.{Go, Done}
use Rattle.rht_words.specs.declared.env.Env.{Env}
use Rattle.rht_words.specs.declared.geometry.Geometry.{Geometry}
use Rattle.rht_words.specs.Links.{link_of}
use Rattle.rht_words.specs.Planned.{IsWord}
use Rattle.rht_words.specs.Ports.{IsPort, word_of}
use Rattle.rht_words.specs.Places.{Node, ChainLink, ListLink, place_of}
use Rattle.rht_arena.specs.NewNode.{NewNodeModel, new_node_from, new_node_plan, new_node_after, IsNewNodeIn}
use Rattle.rht_arena.specs.GiveNode.{give_node_plan, IsGiveIn}
use Rattle.rht_chain.specs.LockedWalk.{IsNodeOrNone}
use Rattle.rht_chain.specs.Relink.{RelinkModel, relink_plan, relink_after, IsRelinkIn}
use Rattle.rht_chain.specs.Unlock.{unlock_plan, IsUnlockIn}
use Rattle.rht_chain.specs.declared.unlock.Unlock.{Unlock}
use Rattle.rht_words.specs.Ways.{start_in}
use Rattle.rht_model.specs.declared.history.Reply.{Reply}
use Rattle.rht_model.specs.declared.history.Reply.TheVariants.{Rebound, Absent, NoNode}
use Rattle.rht_grace.specs.Sections.{turning}
use Rattle.rht_release.specs.FoundPort.{relink_of, unlock_of, IsFoundPortIn}
use Rattle.rht_release.specs.ListSearch.{search_new, search_plan, search_after, IsSearchIn}
use Rattle.rht_release.specs.Seek.{SeekModel, seek_new, seek_plan, seek_after, IsSeekIn}
use Rattle.rht_release.specs.declared.found_port.FoundPort.{FoundPort}
use Rattle.rht_release.specs.declared.list_search.ListPlace.{ListPlace}
use Rattle.rht_release.specs.declared.list_search.ListSearch.{ListSearch}
use Rattle.rht_release.specs.declared.rebind.RebindEnd.{RebindEnd}
use Rattle.rht_release.specs.declared.rebind.RebindEnd.TheVariants as ends
use Rattle.rht_release.specs.declared.rebind.RebindAt.{RebindAt}
use Rattle.rht_release.specs.declared.rebind.RebindAt.TheVariants as at

-- what contracts see of the machine
pub record RebindModel : Type 0 where
  pub env : Env
  pub caller : ℕ
  pub port : ℕ
  pub owner : ℕ
  pub new_owner : ℕ
  pub at : RebindAt

-- it begins with a new node of the port and the new owner, and a search for it from word `start` of the map on
abbrev pub first_state : Env → ℕ → ℕ → ℕ → RebindAt
first_state env port new start = at.Filling (new_node_from env.geometry (word_of port) new (start_in env start))

abbrev pub rebind_from : Env → ℕ → ℕ → ℕ → ℕ → ℕ → RebindModel
rebind_from env caller port owner new start = record {
  env = env;
  caller = caller;
  port = port;
  owner = owner;
  new_owner = new;
  at = first_state env port new start;
}

-- or from the first one on
abbrev pub rebind_new : Env → ℕ → ℕ → ℕ → ℕ → RebindModel
rebind_new env caller port owner new = rebind_from env caller port owner new 0

-- the state's one operation
abbrev pub plan_at : Env → ℕ → RebindAt → Op
plan_at env caller (at.Filling new) = new_node_plan new
plan_at env caller (at.Opening node) = turning caller
plan_at env caller (at.Seeking node seek) = seek_plan seek
plan_at env caller (at.Searching node found search) = search_plan env.geometry search
plan_at env caller (at.LinkBehind node found old before) = Load (place_of env.geometry (Node old ListLink))
plan_at env caller (at.OwnListLink node found old before link) =
    Store (place_of env.geometry (Node node ListLink)) link
plan_at env caller (at.Swapping node found old before) =
    Store (place_of env.geometry (Node before ListLink)) (link_of node)
plan_at env caller (at.ChainLink node found) = Load (place_of env.geometry (Node found.node ChainLink))
plan_at env caller (at.Link node found link) = Store (place_of env.geometry (Node node ChainLink)) link
plan_at env caller (at.Replacing node found relink) = relink_plan relink
plan_at env caller (at.Unlocking table unlock end) = unlock_plan unlock
plan_at env caller (at.Closing end) = turning caller
plan_at env caller (at.Giving give) = give_node_plan give

abbrev pub rebind_plan : RebindModel → Op
rebind_plan m = plan_at m.env m.caller m.at

-- with a new node the read section is opened; where no node was free the rebind ends
abbrev pub filled : NewNodeModel → Next (Option ℕ) → RebindAt × Next (Reply × Option ℕ)
filled new Go = (at.Filling new, Go)
filled new (Done None) = (at.Filling new, Done (NoNode, None))
filled new (Done (Some node)) = (at.Opening node, Go)

-- the read section is closed where the port isn't bound to the old owner
abbrev pub absent : ℕ → RebindAt
absent node = at.Closing (ends.Absent node)

-- what comes after an operation on the way: where the port was found, its owners are looked at from the first on
abbrev pub sought : ℕ → SeekModel → Next (Option FoundPort) → RebindAt
sought node seek Go = at.Seeking node seek
sought node seek (Done None) = absent node
sought node seek (Done (Some found)) = at.Searching node found (search_new found.node)

-- the bucket is unlocked, and with this end the read section closed
abbrev pub unlocking : FoundPort → RebindEnd → RebindAt
unlocking found end = at.Unlocking found.table (unlock_of found) end

-- what comes after an operation along the list: a node with the old owner is replaced; behind the last one the port isn't bound to it
abbrev pub searched : ℕ → FoundPort → ListSearch → Next (Option ListPlace) → RebindAt
searched node found search Go = at.Searching node found search
searched node found search (Done None) = unlocking found (ends.Absent node)
searched node found search (Done (Some place)) = at.LinkBehind node found place.node place.before

-- a later node of the list is replaced in the list; the first one is in the chain, and is replaced there
abbrev pub swap_or_chain : ℕ → FoundPort → ℕ → Option ℕ → RebindAt
swap_or_chain node found old None = at.ChainLink node found
swap_or_chain node found old (Some before) = at.Swapping node found old before

-- the new node takes the old one's place in the chain
abbrev pub replacing : Geometry → ℕ → FoundPort → RebindAt
replacing g node found = at.Replacing node found (relink_of g found (link_of node))

-- with the last store the new owner has the old one's place, and the bucket is unlocked
abbrev pub replaced : ℕ → FoundPort → RelinkModel → Next (Unit {0}) → RebindAt
replaced node found relink Go = at.Replacing node found relink
replaced node found relink (Done done) = at.Closing (ends.Rebound found.node)

-- the node is given back, and then the rebind ends
abbrev pub giving : Geometry → ℕ → RebindAt
giving g node = at.Giving (record { geometry = g; node = node })

-- behind the closing the rebind ends where it was made, and else its node is given back
abbrev pub closed : Geometry → RebindEnd → RebindAt × Next (Reply × Option ℕ)
closed g (ends.Rebound removed) = (at.Closing (ends.Rebound removed), Done (Rebound, Some removed))
closed g (ends.Absent node) = (giving g node, Go)

-- where the rebind stands after a state that found this word, and what it says
abbrev pub after_at : (ℕ → ℕ → ℕ → ℕ) → Env → ℕ → ℕ → RebindAt → ℕ → RebindAt × Next (Reply × Option ℕ)
after_at mix env port owner (at.Filling new) word =
    filled (new_node_after new word).0 (new_node_after new word).1
after_at mix env port owner (at.Opening node) word = (at.Seeking node (seek_new env.geometry), Go)
after_at mix env port owner (at.Seeking node seek) word =
    (sought node (seek_after mix port seek word).0 (seek_after mix port seek word).1, Go)
after_at mix env port owner (at.Searching node found search) word =
    (searched node found (search_after env.geometry owner search word).0 (search_after env.geometry owner search word).1, Go)
after_at mix env port owner (at.LinkBehind node found old before) word =
    (at.OwnListLink node found old before word, Go)
after_at mix env port owner (at.OwnListLink node found old before link) word =
    (swap_or_chain node found old before, Go)
after_at mix env port owner (at.Swapping node found old before) word = (unlocking found (ends.Rebound old), Go)
after_at mix env port owner (at.ChainLink node found) word = (at.Link node found word, Go)
after_at mix env port owner (at.Link node found link) word = (replacing env.geometry node found, Go)
after_at mix env port owner (at.Replacing node found relink) word =
    (replaced node found (relink_after relink).0 (relink_after relink).1, Go)
after_at mix env port owner (at.Unlocking table unlock end) word = (at.Closing end, Go)
after_at mix env port owner (at.Closing end) word = closed env.geometry end
after_at mix env port owner (at.Giving give) word = (at.Giving give, Done (Absent, None))

abbrev pub moved : RebindModel → RebindAt × Next (Reply × Option ℕ) → RebindModel × Next (Reply × Option ℕ)
moved m next = (record m { at = next.0 }, next.1)

abbrev pub rebind_after : (ℕ → ℕ → ℕ → ℕ) → RebindModel → ℕ → RebindModel × Next (Reply × Option ℕ)
rebind_after mix m word = moved m (after_at mix m.env m.port m.owner m.at word)

-- ---- what a rebind names

-- the node that it has taken, with which it looks for the port
pub record IsSeekingIn (g : Geometry) (node : ℕ) (seek : SeekModel) : Type 0 where
  pub node_in : node < g.nodes
  pub seek_in : IsSeekIn g seek

-- and with which it has found it
pub record IsHoldingIn (g : Geometry) (node : ℕ) (found : FoundPort) : Type 0 where
  pub node_in : node < g.nodes
  pub found_in : IsFoundPortIn g found

-- it looks for the old owner in the port's list
pub record IsSearchingIn (g : Geometry) (node : ℕ) (found : FoundPort) (search : ListSearch) : Type 0 where
  pub node_in : node < g.nodes
  pub found_in : IsFoundPortIn g found
  pub search_in : IsSearchIn g search

-- it stands at a node of the list, behind another one or none
pub record IsAtOldIn (g : Geometry) (node : ℕ) (found : FoundPort) (old : ℕ) (before : Option ℕ) : Type 0 where
  pub node_in : node < g.nodes
  pub found_in : IsFoundPortIn g found
  pub old_in : old < g.nodes
  pub before_in : IsNodeOrNone g before

-- and its node is to get the link behind that one
pub record IsCopyingIn (g : Geometry) (node : ℕ) (found : FoundPort) (old : ℕ) (before : Option ℕ) (link : ℕ)
    : Type 0 where
  pub at_old : IsAtOldIn g node found old before
  pub link_in : IsWord link

-- its node gets this link
pub record IsLinkingIn (g : Geometry) (node : ℕ) (found : FoundPort) (link : ℕ) : Type 0 where
  pub node_in : node < g.nodes
  pub found_in : IsFoundPortIn g found
  pub link_in : IsWord link

-- it changes the chain of a bucket of a table
pub record IsReplacingIn (g : Geometry) (node : ℕ) (found : FoundPort) (relink : RelinkModel) : Type 0 where
  pub node_in : node < g.nodes
  pub found_in : IsFoundPortIn g found
  pub relink_in : IsRelinkIn g relink

-- a node that was taken out, or is to be given back
abbrev pub IsRebindEndIn : Geometry → RebindEnd → Type 0
IsRebindEndIn g (ends.Rebound removed) = removed < g.nodes
IsRebindEndIn g (ends.Absent node) = node < g.nodes

-- it unlocks a bucket of a table
pub record IsUnlockingIn (g : Geometry) (table : ℕ) (unlock : Unlock) (end : RebindEnd) : Type 0 where
  pub table_in : table < 8
  pub unlock_in : IsUnlockIn g unlock
  pub end_in : IsRebindEndIn g end

-- all that the state names is the table's: slots, nodes and buckets; and the words that it keeps are words
abbrev pub IsRebindAtIn : Env → RebindAt → Type 0
IsRebindAtIn env (at.Filling new) = IsNewNodeIn env.geometry new
IsRebindAtIn env (at.Opening node) = node < env.geometry.nodes
IsRebindAtIn env (at.Seeking node seek) = IsSeekingIn env.geometry node seek
IsRebindAtIn env (at.Searching node found search) = IsSearchingIn env.geometry node found search
IsRebindAtIn env (at.LinkBehind node found old before) = IsAtOldIn env.geometry node found old before
IsRebindAtIn env (at.OwnListLink node found old before link) =
    IsCopyingIn env.geometry node found old before link
IsRebindAtIn env (at.Swapping node found old before) = IsAtOldIn env.geometry node found old (Some before)
IsRebindAtIn env (at.ChainLink node found) = IsHoldingIn env.geometry node found
IsRebindAtIn env (at.Link node found link) = IsLinkingIn env.geometry node found link
IsRebindAtIn env (at.Replacing node found relink) = IsReplacingIn env.geometry node found relink
IsRebindAtIn env (at.Unlocking table unlock end) = IsUnlockingIn env.geometry table unlock end
IsRebindAtIn env (at.Closing end) = IsRebindEndIn env.geometry end
IsRebindAtIn env (at.Giving give) = IsGiveIn env.geometry give

-- a rebind of this caller in this table, all that its state names being the table's
pub record IsRebindIn (env : Env) (caller : ℕ) (m : RebindModel) : Type 0 where
  pub same_env : m.env ≡ env
  pub same_caller : m.caller ≡ caller
  pub port_in : IsPort m.port
  pub owner_in : m.owner < 2 ^ 32
  pub new_owner_in : m.new_owner < 2 ^ 32
  pub at_in : IsRebindAtIn env m.at
