-- What a rebind answers where its owner stands somewhere among the port's owners, or nowhere, and what it leaves of them.
use Rattle.std.proofs.Common.{◌≡◌, ℕ, List, ◌∷◌, ◌++◌, if◌then◌else◌, ap}
use Rattle.rht_words.specs.Members.{NotIn}
use Rattle.rht_model.specs.declared.history.Reply.TheVariants.{Rebound, Absent}
use Rattle.rht_model.specs.Answers.{rebind_reply, owners_rebound}
use Rattle.rht_model.proofs.FirstOwners.{IsAtFirst-rebound, has_owner-there, has_owner-none, changed-there, changed-none}

-- the owner stands behind others, before which it doesn't stand
pub rebind_reply-there : (owner : ℕ) (front rear : List ℕ) → NotIn owner front
    → rebind_reply owner (front ++ owner ∷ rear) ≡ Rebound
rebind_reply-there owner front rear none =
    ap (λ found. if found then Rebound else Absent) (has_owner-there owner front rear none)

pub owners_rebound-there : (owner new : ℕ) (front rear : List ℕ) → NotIn owner front
    → owners_rebound owner new (front ++ owner ∷ rear) ≡ front ++ new ∷ rear
owners_rebound-there owner new =
    changed-there owner (owners_rebound owner new) (λ others. new ∷ others) (IsAtFirst-rebound owner new)

-- the owner is none of these
pub rebind_reply-none : (owner : ℕ) (owners : List ℕ) → NotIn owner owners → rebind_reply owner owners ≡ Absent
rebind_reply-none owner owners none =
    ap (λ found. if found then Rebound else Absent) (has_owner-none owner owners none)

pub owners_rebound-none : (owner new : ℕ) (owners : List ℕ) → NotIn owner owners → owners_rebound owner new owners ≡ owners
owners_rebound-none owner new owners none =
    changed-none owner (owners_rebound owner new) (λ others. new ∷ others) (IsAtFirst-rebound owner new) owners
    (has_owner-none owner owners none)
