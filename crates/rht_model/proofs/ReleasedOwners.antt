-- What a release answers where its owner stands somewhere among the port's owners, or nowhere, and what it leaves of them.
use Rattle.std.proofs.Common.{◌≡◌, ◌≢◌, ℕ, suc, List, [], ◌∷◌, ◌++◌, length, if◌then◌else◌, false, ap, arith}
use Rattle.rht_words.specs.Members.{NotIn}
use Rattle.rht_model.specs.declared.history.Reply.TheVariants.{Released, Absent}
use Rattle.rht_model.specs.Answers.{release_reply, owners_released}
use Rattle.rht_model.proofs.FirstOwners.{IsAtFirst-released, has_owner-there, has_owner-none, changed-there, changed-none}

-- the owner stands behind others, before which it doesn't stand
pub release_reply-there : (owner : ℕ) (front rear : List ℕ) → NotIn owner front
    → release_reply owner (front ++ owner ∷ rear) ≡ Released false
release_reply-there owner front rear none =
    ap (λ found. if found then Released false else Absent) (has_owner-there owner front rear none)

pub owners_released-there : (owner : ℕ) (front rear : List ℕ) → NotIn owner front
    → owners_released owner (front ++ owner ∷ rear) ≡ front ++ rear
owners_released-there owner = changed-there owner (owners_released owner) (λ others. others) (IsAtFirst-released owner)

-- the owner is none of these
pub release_reply-none : (owner : ℕ) (owners : List ℕ) → NotIn owner owners → release_reply owner owners ≡ Absent
release_reply-none owner owners none =
    ap (λ found. if found then Released false else Absent) (has_owner-none owner owners none)

pub owners_released-none : (owner : ℕ) (owners : List ℕ) → NotIn owner owners → owners_released owner owners ≡ owners
owners_released-none owner owners none =
    changed-none owner (owners_released owner) (λ others. others) (IsAtFirst-released owner) owners
    (has_owner-none owner owners none)

-- owners of which one is taken out are other ones
pub without_differs : (owner : ℕ) (front rear : List ℕ) → front ++ rear ≢ front ++ owner ∷ rear
without_differs owner [] rear same = let longer : length rear ≡ suc (length rear) = ap length same in absurd (omega (arith, longer))
without_differs owner (first ∷ front) rear same =
    without_differs owner front rear (let rest : front ++ rear ≡ front ++ owner ∷ rear = cc in rest)
