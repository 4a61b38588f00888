-- What the machines keep of a bucket that they have locked.
use Rattle.std.specs.Prelude.{◌<◌, Option, None, Some}
use Rattle.rht_words.specs.declared.geometry.Geometry.{Geometry}
use Rattle.rht_words.specs.Places.{IsBucketPlace}
use Rattle.rht_words.specs.Planned.{IsWord}
use Rattle.rht_chain.specs.declared.locked.Locked.{Locked}
use Rattle.rht_chain.specs.declared.locked.Then.{Then}
use Rattle.rht_chain.specs.declared.locked.Then.TheVariants.{Table, Answer}

-- the bucket is one of the table's, and what is kept of its word is a word
pub record IsLockedIn (g : Geometry) (bucket : Locked) : Type 0 where
  pub place_in : IsBucketPlace g bucket.place
  pub word_in : IsWord bucket.word

-- the answer that is given behind the unlocking of a bucket; none where the call goes on in a table
abbrev pub answer_behind : {R : Type 0} → Then R → Option R
answer_behind (Table table) = None
answer_behind (Answer answer) = Some answer

-- where the call goes on in a table, that is in one of the slots
abbrev pub IsThenIn : {R : Type 0} → Then R → Type 0
IsThenIn (Table table) = table < 8
IsThenIn (Answer answer) = Unit {0}
