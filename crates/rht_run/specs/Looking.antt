-- A look-up that is driven part by part: in which state it stands behind each part.
use Rattle.std.specs.Prelude.{ℕ, Option, None, Some}
use Rattle.rht_words.specs.declared.env.Env.{Env}
use Rattle.rht_words.specs.declared.geometry.Geometry.{Geometry}
use Rattle.rht_nest.specs.Place.{nested_place}
use Rattle.rht_nest.specs.Reach.{ReachModel, reach_new}
use Rattle.rht_nest.specs.declared.reach.ReachAt.TheVariants.{Entry}
use Rattle.rht_find.specs.Find.{chain_ended}
use Rattle.rht_find.specs.declared.find.Head.{Head}
use Rattle.rht_find.specs.declared.find.FindAt.{FindAt}
use Rattle.rht_find.specs.declared.find.FindAt.TheVariants as at
use Rattle.rht_run.specs.declared.finding.Walked.{Walked}
use Rattle.rht_run.specs.declared.finding.Walked.TheVariants as walks
use Rattle.rht_run.specs.declared.locating.Way.{Way}
use Rattle.rht_run.specs.declared.locating.Way.TheVariants as ways

-- it has loaded the shape and the seed of a nested table, and goes over the entries next
abbrev pub nested_reach : Geometry → ℕ → ℕ → ℕ → ReachModel
nested_reach g table shape bucket = record (reach_new g table) { at = Entry (nested_place g shape bucket) }

-- the bucket of this word is walked for the first time
abbrev pub bucket_begun : Env → ℕ → ℕ → FindAt
bucket_begun env table place = at.Heading (record { table = table; place = place; left = env.config.rewalks })

-- in a flat table the bucket is found once the shape and the seed are known
abbrev pub way_on : Env → ℕ → Way → FindAt
way_on env table (ways.Flat shape place) = bucket_begun env table place
way_on env table (ways.Nested shape bucket) = at.Locating (nested_reach env.geometry table shape bucket)

-- a walk has come to this
abbrev pub walked : Head → Walked → FindAt
walked head (walks.Found node) = at.Owner node
walked head (walks.Ended link) = chain_ended head link

-- and so have all walks of a bucket: the port's node, or none
abbrev pub bucket_walked : ℕ → Option ℕ → FindAt
bucket_walked table None = at.Future table
bucket_walked table (Some node) = at.Owner node
