-- Letting go of a bucket's lock.
use Rattle.rht_words.specs.declared.op.Op.{Op}
use Rattle.rht_words.specs.declared.op.Op.TheVariants.{Store}
use Rattle.rht_words.specs.declared.geometry.Geometry.{Geometry}
use Rattle.rht_words.specs.Places.{IsBucketPlace}
use Rattle.rht_words.specs.Planned.{IsWord}
use Rattle.rht_chain.specs.declared.unlock.Unlock.{Unlock}

-- its one operation stores the word
abbrev pub unlock_plan : Unlock → Op
unlock_plan m = Store m.place m.word

-- it stores a word at a bucket's place
pub record IsUnlockIn (g : Geometry) (m : Unlock) : Type 0 where
  pub place_in : IsBucketPlace g m.place
  pub word_in : IsWord m.word
