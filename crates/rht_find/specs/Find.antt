-- The look-up of a port, which takes no lock: what each state performs, and what comes after it.
use Rattle.std.specs.Prelude.{◌≡◌, ℕ, ◌+◌, ◌-◌, ◌^◌, ◌<◌, ◌≤◌, ◌==◌, nat_lt, Option, None, Some, if◌then◌else◌}
use Rattle.rht_words.specs.declared.op.Op.{Op}
use Rattle.rht_words.specs.declared.op.Op.TheVariants.{Load}
use Rattle.rht_words.specs.declared.machine.Next.{Next}
use Rattle.rht_words.specs.declared.machine.Next.TheVariants.{Go, Done}
use Rattle.rht_words.specs.declared.env.Env.{Env}
use Rattle.rht_words.specs.declared.geometry.Geometry.{Geometry}
use Rattle.rht_words.specs.Links.{table_of, slot_of, node_of, head_of, marker_of}
use Rattle.rht_words.specs.Ports.{IsPort, word_of, owner_of}
use Rattle.rht_words.specs.Places.{CurrentTable, Slot, FutureWord, Node, KeyWord, ChainLink, OwnerWord, IsBucketPlace, place_of}
use Rattle.rht_grace.specs.Sections.{turning}
use Rattle.rht_nest.specs.Reach.{ReachModel, reach_new, reach_plan, reach_after, IsReachIn}
use Rattle.rht_nest.specs.declared.place.Bucket.{Bucket}
use Rattle.rht_nest.specs.declared.place.Bucket.TheVariants as buckets
use Rattle.rht_model.specs.declared.history.Reply.{Reply}
use Rattle.rht_model.specs.declared.history.Reply.TheVariants.{Found, Missing}
use Rattle.rht_find.specs.declared.find.Head.{Head}
use Rattle.rht_find.specs.declared.find.FindAt.{FindAt}
use Rattle.rht_find.specs.declared.find.FindAt.TheVariants as at

-- what contracts see of the machine
pub record FindModel : Type 0 where
  pub env : Env
  pub caller : ℕ
  pub port : ℕ
  pub at : FindAt

-- it begins before its read section
abbrev pub find_new : Env → ℕ → ℕ → FindModel
find_new env caller port = record { env = env; caller = caller; port = port; at = at.Opening }

-- the state's one operation
abbrev pub plan_at : Env → ℕ → FindAt → Op
plan_at env caller at.Opening = turning caller
plan_at env caller at.CurrentTable = Load (place_of env.geometry CurrentTable)
plan_at env caller (at.Locating reach) = reach_plan reach
plan_at env caller (at.Heading head) = Load head.place
plan_at env caller (at.Key head node visited) = Load (place_of env.geometry (Node node KeyWord))
plan_at env caller (at.Link head node visited) = Load (place_of env.geometry (Node node ChainLink))
plan_at env caller (at.Future table) = Load (place_of env.geometry (Slot table FutureWord))
plan_at env caller (at.Owner node) = Load (place_of env.geometry (Node node OwnerWord))
plan_at env caller (at.Closing reply) = turning caller

abbrev pub find_plan : FindModel → Op
find_plan m = plan_at m.env m.caller m.at

-- ---- the ways between states

-- the port's bucket in the table of this slot is looked for
abbrev pub locating : Env → ℕ → FindAt
locating env table = at.Locating (reach_new env.geometry table)

-- where the bucket is there its word is loaded, and else the table's future
abbrev pub headed : Env → ReachModel → Bucket → FindAt
headed env reach (buckets.At place) =
    at.Heading (record { table = reach.table; place = place; left = env.config.rewalks })
headed env reach (buckets.Absent entry) = at.Future reach.table

-- what comes after an operation that looks for the bucket
abbrev pub reached : Env → ReachModel → Next Bucket → FindAt
reached env reach Go = at.Locating reach
reached env reach (Done bucket) = headed env reach bucket

-- behind a strange end the bucket is walked anew, where that may be still
abbrev pub walked_anew : Head → FindAt
walked_anew head =
    if nat_lt 0 head.left then at.Heading (record head { left = head.left - 1 }) else at.Future head.table

-- a chain ends at the marker of its own bucket; any other end is strange
abbrev pub chain_ended : Head → ℕ → FindAt
chain_ended head link = if link == marker_of head.place then at.Future head.table else walked_anew head

-- a link leads to a node, where fewer were visited than there are
abbrev pub led_to : Geometry → Head → ℕ → ℕ → Option ℕ → FindAt
led_to g head visited link None = chain_ended head link
led_to g head visited link (Some node) =
    if nat_lt visited g.nodes then at.Key head node visited else chain_ended head link

abbrev pub led_on : Geometry → Head → ℕ → ℕ → FindAt
led_on g head visited link = led_to g head visited link (node_of g.nodes link)

-- where the node has the port's key its owner is loaded, and else its link; it is one more that was visited
abbrev pub compared : ℕ → Head → ℕ → ℕ → ℕ → FindAt
compared port head node visited key =
    if key == word_of port then at.Owner node else at.Link head node (visited + 1)

-- a future table is looked through next; where there is none the port is missing
abbrev pub next_table : Env → Option ℕ → FindAt
next_table env None = at.Closing Missing
next_table env (Some table) = locating env table

-- ---- what comes after a state that found this word

abbrev pub goes : (ℕ → ℕ → ℕ → ℕ) → Env → ℕ → FindAt → ℕ → FindAt
goes mix env port at.Opening word = at.CurrentTable
goes mix env port at.CurrentTable word = locating env (table_of word)
goes mix env port (at.Locating reach) word =
    reached env (reach_after mix port reach word).0 (reach_after mix port reach word).1
goes mix env port (at.Heading head) word = led_on env.geometry head 0 (head_of head.place word)
goes mix env port (at.Key head node visited) word = compared port head node visited word
goes mix env port (at.Link head node visited) word = led_on env.geometry head visited word
goes mix env port (at.Future table) word = next_table env (slot_of word)
goes mix env port (at.Owner node) word = at.Closing (Found (owner_of word))
goes mix env port (at.Closing reply) word = at.Closing reply

-- it answers once its read section is closed
abbrev pub says : FindAt → Next Reply
says at.Opening = Go
says at.CurrentTable = Go
says (at.Locating reach) = Go
says (at.Heading head) = Go
says (at.Key head node visited) = Go
says (at.Link head node visited) = Go
says (at.Future table) = Go
says (at.Owner node) = Go
says (at.Closing reply) = Done reply

abbrev pub after_at : (ℕ → ℕ → ℕ → ℕ) → Env → ℕ → FindAt → ℕ → FindAt × Next Reply
after_at mix env port state word = (goes mix env port state word, says state)

abbrev pub find_after : (ℕ → ℕ → ℕ → ℕ) → FindModel → ℕ → FindModel × Next Reply
find_after mix m word = (record m { at = goes mix m.env m.port m.at word }, says m.at)

-- ---- what a look-up names

-- a bucket of a table
pub record IsHeadIn (g : Geometry) (head : Head) : Type 0 where
  pub table_in : head.table < 8
  pub place_in : IsBucketPlace g head.place

-- a node to which it has come from there, after this many others
pub record IsKeyIn (g : Geometry) (head : Head) (node visited : ℕ) : Type 0 where
  pub head_in : IsHeadIn g head
  pub node_in : node < g.nodes
  pub few : visited < g.nodes

-- and one whose key it has loaded, with this many
pub record IsLinkIn (g : Geometry) (head : Head) (node visited : ℕ) : Type 0 where
  pub head_in : IsHeadIn g head
  pub node_in : node < g.nodes
  pub few : visited ≤ g.nodes

-- all that the state names is the table's: slots, nodes and buckets
abbrev pub IsFindAtIn : Env → FindAt → Type 0
IsFindAtIn env at.Opening = Unit {0}
IsFindAtIn env at.CurrentTable = Unit {0}
IsFindAtIn env (at.Locating reach) = IsReachIn env.geometry reach
IsFindAtIn env (at.Heading head) = IsHeadIn env.geometry head
IsFindAtIn env (at.Key head node visited) = IsKeyIn env.geometry head node visited
IsFindAtIn env (at.Link head node visited) = IsLinkIn env.geometry head node visited
IsFindAtIn env (at.Future table) = table < 8
IsFindAtIn env (at.Owner node) = node < env.geometry.nodes
IsFindAtIn env (at.Closing reply) = Unit {0}

-- a look-up of this caller in this table, all that its state names being the table's
pub record IsFindIn (env : Env) (caller : ℕ) (m : FindModel) : Type 0 where
  pub same_env : m.env ≡ env
  pub same_caller : m.caller ≡ caller
  pub port_in : IsPort m.port
  pub at_in : IsFindAtIn env m.at
