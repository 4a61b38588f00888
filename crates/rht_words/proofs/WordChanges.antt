-- An operation changes the word of its address alone.
use Rattle.std.proofs.Common.{◌≡◌, ◌≢◌, ℕ, ◌<◌, List, length, get_or, sym, ap, ◌∙◌, arith}
use Rattle.std.proofs.Math.ListN.{length-set}
use Rattle.std.proofs.lemmas.List.{get_or-set_same, get_or-set_other}
use Rattle.rht_words.specs.Operations.{op_place, old_of, word_after, applied}
use Rattle.rht_words.specs.Places.{Address, IsAddress, place_of, words_in}
use Rattle.rht_words.specs.Laws.{ChangesOneWord}
use Rattle.rht_words.specs.declared.op.Op.{Op}
use Rattle.rht_words.specs.declared.geometry.Geometry.{Geometry}
use Rattle.rht_words.proofs.PlacesApart.{place_of-apart, place_of-below}

-- an operation keeps the number of words
pub length-applied : (words : List ℕ) (op : Op) → length (applied words op) ≡ length words
length-applied words op = length-set words (op_place op) (word_after (old_of words op) op)

-- the word on which it works becomes what it says
pub applied-same : (words : List ℕ) (op : Op) → op_place op < length words
    → get_or (applied words op) (op_place op) 0 ≡ word_after (old_of words op) op
applied-same words op l = get_or-set_same words (op_place op) (word_after (old_of words op) op) 0 l

-- any other word stays
pub applied-other : (words : List ℕ) (op : Op) (place : ℕ) → place ≢ op_place op
    → get_or (applied words op) place 0 ≡ get_or words place 0
applied-other words op place other =
    get_or-set_other words (op_place op) place (word_after (old_of words op) op) 0 other

pub changes_one_word : (g : Geometry) (words : List ℕ) (address : Address) (op : Op)
    → length words ≡ words_in g → IsAddress g address → op_place op ≡ place_of g address
    → ChangesOneWord g words address op
changes_one_word g words address op whole there is =
    let place = place_of g address in
    let inside : op_place op < length words = omega (arith, place_of-below g address there) in
    record {
      count = length-applied words op;
      changed =
          (ap (λ p. get_or (applied words op) p 0) (sym is) ∙ applied-same words op inside)
          ∙ ap (λ p. word_after (get_or words p 0) op) is;
      others =
          λ other its differ. applied-other words op (place_of g other)
          (λ same. differ (place_of-apart g other address its there (same ∙ is)));
    }
