-- A port that was found in a bucket, which stays locked.
use Rattle.std.specs.Prelude.{ℕ, ◌<◌}
use Rattle.rht_words.specs.declared.geometry.Geometry.{Geometry}
use Rattle.rht_words.specs.Planned.{IsWord}
use Rattle.rht_chain.specs.Locked.{IsLockedIn}
use Rattle.rht_chain.specs.LockedWalk.{IsNodeOrNone}
use Rattle.rht_chain.specs.Relink.{RelinkModel, relink_new}
use Rattle.rht_chain.specs.declared.unlock.Unlock.{Unlock}
use Rattle.rht_release.specs.declared.found_port.FoundPort.{FoundPort}

-- the place before the port's first node gets this link, and the bucket is unlocked
abbrev pub relink_of : Geometry → FoundPort → ℕ → RelinkModel
relink_of g found link = relink_new g found.bucket.place found.bucket.word found.before link

-- the bucket is unlocked without a change
abbrev pub unlock_of : FoundPort → Unlock
unlock_of found = record { place = found.bucket.place; word = found.bucket.word }

-- the slot, the bucket and the nodes are the table's, and what is kept of the words are words
pub record IsFoundPortIn (g : Geometry) (found : FoundPort) : Type 0 where
  pub table_in : found.table < 8
  pub shape_in : IsWord found.shape
  pub bucket_in : IsLockedIn g found.bucket
  pub node_in : found.node < g.nodes
  pub before_in : IsNodeOrNone g found.before

-- and so is a node of its list
pub record IsAtNodeIn (g : Geometry) (found : FoundPort) (node : ℕ) : Type 0 where
  pub found_in : IsFoundPortIn g found
  pub node_in : node < g.nodes
