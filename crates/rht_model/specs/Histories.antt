-- Which lists of entries are legal histories of a multimap.
use Rattle.std.specs.Prelude.{◌≡◌, ◌⊎◌, if◌then◌else◌, false, Some, List, [], ◌∷◌}
use Rattle.rht_words.specs.declared.config.Kind.{Kind}
use Rattle.rht_model.specs.declared.history.Entry.{Entry}
use Rattle.rht_model.specs.declared.history.Reply.{Reply}
use Rattle.rht_model.specs.declared.history.Reply.TheVariants.{Bound, Released}
use Rattle.rht_model.specs.Multimap.{Multimap, unbound}
use Rattle.rht_model.specs.Answers.{answer_of, bindings_after, is_refusal, MayRefuse}

-- a reply as a history looks at it: whether `work` has something to do isn't looked at
abbrev pub without_kick : Reply → Reply
without_kick (Bound kick) = Bound false
without_kick (Released kick) = Released false
without_kick reply = reply

-- the entry's reply and list are the answer of its call on these bindings
abbrev pub IsAnswered : Kind → Multimap → Entry → Type 0
IsAnswered kind bindings entry =
    answer_of kind bindings entry.call ≡ Some (record {
      reply = without_kick entry.reply;
      owners =
          entry.owners;
    })

-- the entry's reply is a refusal that its call may give
abbrev pub IsRefused : Entry → Type 0
IsRefused entry = MayRefuse entry.call entry.reply × (entry.owners ≡ [])

-- the entry is answered or refused on these bindings
abbrev pub IsLegalAt : Kind → Multimap → Entry → Type 0
IsLegalAt kind bindings entry = IsAnswered kind bindings entry ⊎ IsRefused entry

-- the bindings that an entry leaves
abbrev pub left_by : Kind → Multimap → Entry → Multimap
left_by kind bindings entry = if is_refusal entry.reply then bindings else bindings_after kind bindings
    entry.call

-- from these bindings on, each entry is legal where it stands
abbrev pub IsLegalFrom : Kind → Multimap → List Entry → Type 0
IsLegalFrom kind bindings [] = Unit {0}
IsLegalFrom kind bindings (entry ∷ history) =
    IsLegalAt kind bindings entry × IsLegalFrom kind (left_by kind bindings entry) history

-- a legal history begins with nothing bound
abbrev pub IsLegal : Kind → List Entry → Type 0
IsLegal kind history = IsLegalFrom kind unbound history

-- the bindings that a history leaves
abbrev pub bindings_left : Kind → Multimap → List Entry → Multimap
bindings_left kind bindings [] = bindings
bindings_left kind bindings (entry ∷ history) = bindings_left kind (left_by kind bindings entry) history
