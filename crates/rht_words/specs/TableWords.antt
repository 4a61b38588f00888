-- The words of a slot that say what its table is like.
use Rattle.rht_words.specs.Places.{SlotWord, ShapeWord, SeedWord, FutureWord, SerialWord, StateWord, LoadedSection}

-- the word is one of a slot's that say something of its table
abbrev pub IsTableWord : SlotWord → Type 0
IsTableWord ShapeWord = Unit {0}
IsTableWord SeedWord = Unit {0}
IsTableWord FutureWord = Unit {0}
IsTableWord SerialWord = Unit {0}
IsTableWord StateWord = ⊥
IsTableWord (LoadedSection caller) = ⊥
