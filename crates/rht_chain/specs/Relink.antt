-- Giving the place before a node another link: what each state performs, and what comes after it.
use Rattle.std.specs.Prelude.{◌≡◌, ℕ, ◌<◌, ◌⊎◌, Bool, true, false, Option, None, Some}
use Rattle.rht_words.specs.declared.op.Op.{Op}
use Rattle.rht_words.specs.declared.op.Op.TheVariants.{Store}
use Rattle.rht_words.specs.declared.machine.Next.{Next}
use Rattle.rht_words.specs.declared.machine.Next.TheVariants.{Go, Done}
use Rattle.rht_words.specs.declared.geometry.Geometry.{Geometry}
use Rattle.rht_words.specs.Links.{plain_of}
use Rattle.rht_words.specs.Operations.{op_place}
use Rattle.rht_words.specs.Places.{Node, ChainLink, IsBucketPlace, place_of, words_in}
use Rattle.rht_words.specs.Planned.{IsWord}
use Rattle.rht_chain.specs.declared.relink.RelinkAt.{RelinkAt}
use Rattle.rht_chain.specs.declared.relink.RelinkAt.TheVariants as at

-- what contracts see of the machine
pub record RelinkModel : Type 0 where
  pub geometry : Geometry
  pub place : ℕ
  pub word : ℕ
  pub link : ℕ
  pub at : RelinkAt

-- it begins at the node before, or at the bucket's word where there is none
abbrev pub relink_at : ℕ → ℕ → Option ℕ → RelinkAt
relink_at place link None = at.Word (plain_of place link)
relink_at place link (Some before) = at.ChainLink before

abbrev pub relink_new : Geometry → ℕ → ℕ → Option ℕ → ℕ → RelinkModel
relink_new g place word before link =
    record { geometry = g; place = place; word = word; link = link; at = relink_at place link before }

-- the state's one operation
abbrev pub relink_plan_at : RelinkModel → RelinkAt → Op
relink_plan_at m (at.ChainLink before) = Store (place_of m.geometry (Node before ChainLink)) m.link
relink_plan_at m (at.Word word) = Store m.place word

abbrev pub relink_plan : RelinkModel → Op
relink_plan m = relink_plan_at m m.at

-- what comes after a state, whatever it found
abbrev pub relink_after_at : RelinkModel → RelinkAt → RelinkModel × Next (Unit {0})
relink_after_at m (at.ChainLink before) = (record m { at = at.Word m.word }, Go)
relink_after_at m (at.Word word) = (m, Done tt)

abbrev pub relink_after : RelinkModel → RelinkModel × Next (Unit {0})
relink_after m = relink_after_at m m.at

-- a change with this node before has stored the link, and has still to unlock the bucket; with none
-- before, one store does both
abbrev pub has_relinked : Option ℕ → RelinkAt → Bool
has_relinked None (at.ChainLink before) = false
has_relinked None (at.Word word) = false
has_relinked (Some node) (at.ChainLink before) = false
has_relinked (Some node) (at.Word word) = true

-- the node before is one of the nodes
abbrev pub IsRelinkAtIn : Geometry → RelinkAt → Type 0
IsRelinkAtIn g (at.ChainLink before) = before < g.nodes
IsRelinkAtIn g (at.Word word) = Unit {0}

-- the word that it stores is a word
abbrev pub IsRelinkWord : RelinkAt → Type 0
IsRelinkWord (at.ChainLink before) = Unit {0}
IsRelinkWord (at.Word word) = IsWord word

-- the change is in a bucket of this table, and what it stores are words
pub record IsRelinkIn (g : Geometry) (m : RelinkModel) : Type 0 where
  pub geometry_same : m.geometry ≡ g
  pub place_in : IsBucketPlace g m.place
  pub word_in : IsWord m.word
  pub link_in : IsWord m.link
  pub at_in : IsRelinkAtIn g m.at
  pub store_in : IsRelinkWord m.at

-- the operation is on the word at this place, or on a word of the table
abbrev pub IsRelinkPlace : Geometry → ℕ → Op → Type 0
IsRelinkPlace g place op = (op_place op ≡ place) ⊎ (op_place op < words_in g)
