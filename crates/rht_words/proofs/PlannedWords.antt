-- Where an operation that a machine plans is on: a word that is named by what it is there for, or the
-- word of a bucket. And what it brings is a word, so that it leaves a word behind.
use Rattle.std.proofs.Common.{◌≡◌, ℕ, ◌<◌, refl, sym, subst, ◌∙◌, List, arith}
use Rattle.std.specs.Prelude.{◌==◌}
use Rattle.std.specs.List.{AllByRecursion}
use Rattle.std.specs.Int.{bit_not, w64}
use Rattle.std.proofs.Math.Pow.{pow-lt}
use Rattle.std.proofs.lemmas.Bool.{cond_both}
use Rattle.std.proofs.lemmas.Nat.{and_le_l, or_lt}
use Rattle.rht_words.specs.declared.op.Op.{Op}
use Rattle.rht_words.specs.declared.op.Op.TheVariants.{Load, Store, Exchange, Add, Sub, And, Or}
use Rattle.rht_words.specs.declared.geometry.Geometry.{Geometry}
use Rattle.rht_words.specs.Links.{head_of, plain_of, link_of, marker_of, unlocked}
use Rattle.rht_words.specs.Maps.{bit_of}
use Rattle.rht_words.specs.Operations.{op_place, op_value, old_of, word_after, applied}
use Rattle.rht_words.specs.Places.{Address, EnrolledCallers, IsAddress, IsBucketPlace, place_of, words_in}
use Rattle.rht_words.specs.Planned.{IsWord, IsPlannedIn}
use Rattle.rht_words.proofs.EachElement.{AllByRecursion-set, AllByRecursion-get_or}
use Rattle.rht_words.proofs.PlacesApart.{parts_in_order, place_of-apart, place_of-below}

-- the word isn't that of the enrolled callers
abbrev pub IsOtherWord : Address → Type 0
IsOtherWord EnrolledCallers = ⊥
IsOtherWord _ = Unit {0}

-- an operation on another word than that of the enrolled callers
pub planned-at : (g : Geometry) (op : Op) (address : Address) → IsAddress g address → IsOtherWord address
    → op_place op ≡ place_of g address → IsWord (op_value op) → IsPlannedIn g op
planned-at g op address there other is fits = record {
  within = subst (λ place. place < words_in g) (sym is) (place_of-below g address there);
  apart = λ same. subst IsOtherWord (place_of-apart g address EnrolledCallers there tt (sym is ∙ same)) other;
  fits = fits;
}

-- a load of another word than that of the enrolled callers
pub planned_load : (g : Geometry) (address : Address) → IsAddress g address → IsOtherWord address
    → IsPlannedIn g (Load (place_of g address))
planned_load g address there other = planned-at g _ address there other refl (omega arith)

-- an operation on the word of a bucket
pub planned_bucket : (g : Geometry) (op : Op) → IsBucketPlace g (op_place op) → IsWord (op_value op)
    → IsPlannedIn g op
planned_bucket g op there fits =
    let parts = parts_in_order g in
    record { within = there.1; apart = λ e. omega (arith, there.0); fits = fits }

-- ---- what is stored

-- an operation that brings a word makes a word of one
pub word_after-fits : (word : ℕ) (op : Op) → IsWord word → IsWord (op_value op) → IsWord (word_after word op)
word_after-fits word (Load place) fits brings = fits
word_after-fits word (Store place value) fits brings = brings
word_after-fits word (Exchange place old new) fits brings =
    cond_both (word == old) new word IsWord (λ t. brings) (λ f. fits)
word_after-fits word (Add place by) fits brings = omega arith
word_after-fits word (Sub place by) fits brings = omega arith
word_after-fits word (And place mask) fits brings = omega (arith, fits, and_le_l word mask)
word_after-fits word (Or place mask) fits brings = or_lt 64 word mask fits brings

-- the word that an operation finds
pub old_of-fits : (words : List ℕ) (op : Op) → AllByRecursion IsWord words → IsWord (old_of words op)
old_of-fits words op all = AllByRecursion-get_or IsWord words (op_place op) 0 (omega arith) all

-- and so it leaves words behind
pub applied-fit : (words : List ℕ) (op : Op) → IsWord (op_value op) → AllByRecursion IsWord words
    → AllByRecursion IsWord (applied words op)
applied-fit words op brings all =
    AllByRecursion-set IsWord words (op_place op) _
    (word_after-fits (old_of words op) op (old_of-fits words op all) brings) all

-- one bit is a word, and so is a word without some of its bits
pub bit_of-fits : (bit : ℕ) → bit < 64 → IsWord (bit_of bit)
bit_of-fits bit low = pow-lt {i = bit} {j = 64} (omega arith)

pub bit_not-fits : (word : ℕ) → IsWord (bit_not w64 word)
bit_not-fits word = omega arith

-- the first link of a chain is a word where its bucket's word is one
pub head_of-fits : (place word : ℕ) → IsWord word → IsWord (head_of place word)
head_of-fits place word fits =
    cond_both (unlocked word == 0) (marker_of place) (unlocked word) IsWord (λ t. omega arith)
    (λ f. omega (arith, fits))

-- and so is the bucket's word where its first link is one
pub plain_of-fits : (place link : ℕ) → IsWord link → IsWord (plain_of place link)
plain_of-fits place link fits =
    cond_both (link == marker_of place) 0 link IsWord (λ t. omega arith) (λ f. fits)

-- the link to a node is a word
pub link_of-fits : (g : Geometry) (node : ℕ) → node < g.nodes → IsWord (link_of node)
link_of-fits g node below = let within = g.within.nodes_within in omega arith
