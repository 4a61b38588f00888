-- What replies each call may have, the lists beside them, and which of them say that a node was taken out.
use Rattle.std.specs.Prelude.{◌≡◌, ℕ, Bool, true, false, List, [], length}
use Rattle.rht_model.specs.declared.history.Call.{Call}
use Rattle.rht_model.specs.declared.history.Call.TheVariants.{Bind, Find, All, Release, Rebind, Walk, Work, Tidy, Count}
use Rattle.rht_model.specs.declared.history.Reply.{Reply}
use Rattle.rht_model.specs.declared.history.Reply.TheVariants.{Bound, Exists, Found, Missing, Listed, Released, Absent, Rebound, TooBig, Again, Busy, NoTable, NoNode, Pending, Elsewhere, Walked, Moved, Idle, Clear, Counted}
use Rattle.rht_model.specs.declared.history.Reply.TheVariants as replies
use Rattle.rht_model.specs.Multimap.{Port}

-- ---- the replies of each call

-- a bind that isn't tried once alone never answers that it has to be made again
abbrev pub IsBindReply : Bool → Reply → Type 0
IsBindReply once (Bound kick) = Unit {0}
IsBindReply once (Exists owner) = Unit {0}
IsBindReply once (TooBig count) = Unit {0}
IsBindReply once (Again table) = once ≡ true
IsBindReply once (Busy root last) = Unit {0}
IsBindReply once (NoTable size) = Unit {0}
IsBindReply once NoNode = Unit {0}
IsBindReply once _ = ⊥

abbrev pub IsFindReply : Reply → Type 0
IsFindReply (Found owner) = Unit {0}
IsFindReply Missing = Unit {0}
IsFindReply _ = ⊥

abbrev pub IsAllReply : Reply → Type 0
IsAllReply (Listed len) = Unit {0}
IsAllReply _ = ⊥

abbrev pub IsReleaseReply : Reply → Type 0
IsReleaseReply (Released kick) = Unit {0}
IsReleaseReply Absent = Unit {0}
IsReleaseReply _ = ⊥

abbrev pub IsRebindReply : Reply → Type 0
IsRebindReply Rebound = Unit {0}
IsRebindReply Absent = Unit {0}
IsRebindReply NoNode = Unit {0}
IsRebindReply _ = ⊥

abbrev pub IsWalkReply : Reply → Type 0
IsWalkReply (Walked len next) = Unit {0}
IsWalkReply (Again table) = Unit {0}
IsWalkReply _ = ⊥

abbrev pub IsWorkReply : Reply → Type 0
IsWorkReply (Moved again) = Unit {0}
IsWorkReply replies.Idle = Unit {0}
IsWorkReply (NoTable size) = Unit {0}
IsWorkReply Elsewhere = Unit {0}
IsWorkReply _ = ⊥

abbrev pub IsTidyReply : Reply → Type 0
IsTidyReply (Clear returned) = Unit {0}
IsTidyReply (Pending caller section) = Unit {0}
IsTidyReply _ = ⊥

abbrev pub IsCountReply : Reply → Type 0
IsCountReply (Counted count) = Unit {0}
IsCountReply _ = ⊥

-- the reply is one of those that the call may have; a call of which there is no machine yet never ends
abbrev pub IsReplyTo : Call → Reply → Type 0
IsReplyTo (Bind port owner once) reply = IsBindReply once reply
IsReplyTo (Find port) reply = IsFindReply reply
IsReplyTo (All port) reply = IsAllReply reply
IsReplyTo (Release port owner) reply = IsReleaseReply reply
IsReplyTo (Rebind port owner new) reply = IsRebindReply reply
IsReplyTo (Walk from limit) reply = IsWalkReply reply
IsReplyTo Work reply = IsWorkReply reply
IsReplyTo Tidy reply = IsTidyReply reply
IsReplyTo Count reply = IsCountReply reply

-- ---- the lists beside them

-- these owners come with the reply: as many as Listed says, and none with another one
abbrev pub AreOwnersWith : Reply → List ℕ → Type 0
AreOwnersWith (Listed len) owners = length owners ≡ len
AreOwnersWith _ owners = owners ≡ []

-- these pairs come with it: as many as Walked says, and none with another one
abbrev pub ArePairsWith : Reply → List (Port × ℕ) → Type 0
ArePairsWith (Walked len next) pairs = length pairs ≡ len
ArePairsWith _ pairs = pairs ≡ []

-- a call with this reply has taken a node out of a port's list
abbrev pub takes_out : Reply → Bool
takes_out (Released kick) = true
takes_out Rebound = true
takes_out (Bound kick) = false
takes_out (Exists owner) = false
takes_out (Found owner) = false
takes_out Missing = false
takes_out (Listed len) = false
takes_out Absent = false
takes_out (TooBig count) = false
takes_out (Again table) = false
takes_out (Busy root last) = false
takes_out (NoTable size) = false
takes_out NoNode = false
takes_out (Pending caller section) = false
takes_out Elsewhere = false
takes_out (Walked len next) = false
takes_out (Moved again) = false
takes_out Idle = false
takes_out (Clear returned) = false
takes_out (replies.Counted count) = false
