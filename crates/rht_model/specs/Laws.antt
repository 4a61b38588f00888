-- What follows from the definitions alone, of all bindings and all histories.
use Rattle.std.specs.Prelude.{◌≡◌, ◌≢◌, ◌↔◌, ℕ, false, List, [], ◌∷◌, ◌++◌, Contains}
use Rattle.rht_words.specs.declared.config.Kind.{Kind}
use Rattle.rht_words.specs.declared.config.Kind.TheVariants as kinds
use Rattle.rht_model.specs.declared.history.Entry.{Entry}
use Rattle.rht_model.specs.Multimap.{Port, Multimap, Agree, IsSingle, unbound}
use Rattle.rht_model.specs.Listing.{Lists, listing_of}
use Rattle.rht_model.specs.Answers.{port_of, is_change}
use Rattle.rht_model.specs.Histories.{without_kick, IsAnswered, IsRefused, IsLegalAt, left_by, IsLegal, bindings_left}

-- two listings of the same bindings are the same list
abbrev pub ListsOnce : Type 0
ListsOnce =
    (pairs others : List (Port × List ℕ)) (bindings same : Multimap)
    → Lists pairs bindings → Lists others same → Agree bindings same → pairs ≡ others

-- where the bound ports are among these, the listing of these is a listing of the bindings
abbrev pub ListsBoundPorts : Type 0
ListsBoundPorts =
    (ports : List Port) (bindings : Multimap)
    → ((port : Port) → bindings port ≢ [] → Contains ports port) → Lists (listing_of ports bindings) bindings

-- in a table of one owner each, a history that begins with nothing bound gives no port two
abbrev pub KeepsOneOwner : Type 0
KeepsOneOwner = (history : List Entry) → IsSingle (bindings_left kinds.Single unbound history)

-- on the same bindings a call has one answer: one reply, `kick` aside, and one list
abbrev pub AnswersOnce : Type 0
AnswersOnce =
    (kind : Kind) (bindings same : Multimap) (first second : Entry)
    → Agree bindings same → first.call ≡ second.call
    → IsAnswered kind bindings first → IsAnswered kind same second
    → (without_kick first.reply ≡ without_kick second.reply) × (first.owners ≡ second.owners)

-- no entry is both an answer and a refusal
abbrev pub TellsRefusalsApart : Type 0
TellsRefusalsApart =
    (kind : Kind) (bindings : Multimap) (entry : Entry) → IsAnswered kind bindings entry → ¬ IsRefused entry

-- a refusal leaves the bindings as they were
abbrev pub RefusesWithoutChange : Type 0
RefusesWithoutChange =
    (kind : Kind) (bindings : Multimap) (entry : Entry)
    → IsRefused entry → Agree (left_by kind bindings entry) bindings

-- and so does every answer but that something was bound, released or rebound
abbrev pub ChangesByThreeReplies : Type 0
ChangesByThreeReplies =
    (kind : Kind) (bindings : Multimap) (entry : Entry)
    → IsLegalAt kind bindings entry → is_change entry.reply ≡ false
    → Agree (left_by kind bindings entry) bindings

-- a history with one entry more is legal where the others are and the entry is, on what they leave
abbrev pub ExtendsByOne : Type 0
ExtendsByOne =
    (kind : Kind) (history : List Entry) (entry : Entry)
    → IsLegal kind (history ++ entry ∷ []) ↔ (IsLegal kind history
    × IsLegalAt kind (bindings_left kind unbound history) entry)

-- what a legal history begins with is legal
abbrev pub HasLegalPrefixes : Type 0
HasLegalPrefixes = (kind : Kind) (history more : List Entry) → IsLegal kind (history ++ more)
    → IsLegal kind history

-- legal histories that leave the same bindings go on alike, and again leave the same
abbrev pub GoesOnAlike : Type 0
GoesOnAlike =
    (kind : Kind) (first second more : List Entry)
    → Agree (bindings_left kind unbound first) (bindings_left kind unbound second)
    → IsLegal kind second → IsLegal kind (first ++ more)
    → IsLegal kind (second ++ more)
    × Agree (bindings_left kind unbound (first ++ more)) (bindings_left kind unbound (second ++ more))

-- two entries in a row whose calls speak of different ports may change places
abbrev pub SwapsPortsApart : Type 0
SwapsPortsApart =
    (kind : Kind) (before behind : List Entry) (first second : Entry)
    → port_of first.call ≢ port_of second.call
    → IsLegal kind (before ++ first ∷ second ∷ behind)
    → IsLegal kind (before ++ second ∷ first ∷ behind)
    × Agree
    (bindings_left kind unbound (before ++ first ∷ second ∷ behind))
    (bindings_left kind unbound (before ++ second ∷ first ∷ behind))

-- where an entry is legal and changes nothing, a history is legal with it exactly if it is without it,
-- and leaves the same bindings
abbrev pub AddsWhatChangesNothing : Type 0
AddsWhatChangesNothing =
    (kind : Kind) (before behind : List Entry) (entry : Entry)
    → IsLegalAt kind (bindings_left kind unbound before) entry
    → Agree (left_by kind (bindings_left kind unbound before) entry) (bindings_left kind unbound before)
    → (IsLegal kind (before ++ entry ∷ behind) ↔ IsLegal kind (before ++ behind))
    × Agree
    (bindings_left kind unbound (before ++ entry ∷ behind))
    (bindings_left kind unbound (before ++ behind))
