-- A node behind the first one of a port's list, which a caller has found while it has locked the port's bucket: how it lies in the list, and
-- what is so before a store to the list link of the node before it.
use Rattle.std.proofs.Common.{◌≡◌, ◌≢◌, ℕ, ◌<◌, List, [], ◌∷◌, ◌++◌, Option, Some, sym, ◌∙◌, ap, subst}
use Rattle.rht_words.specs.declared.env.Env.{Env}
use Rattle.rht_words.specs.Members.{In}
use Rattle.rht_words.proofs.Members.{in-middle, In-append_left}
use Rattle.rht_words.proofs.Memory.{Memory}
use Rattle.rht_ghost.proofs.Theory.Ghosts.{Behind, Ghost}
use Rattle.rht_ghost.proofs.Theory.Wholes.{list_of, word_index, MovesNone, Whole, at-there}
use Rattle.rht_ghost.proofs.Theory.Passed.{stays_in}
use Rattle.rht_ghost.proofs.Theory.Knowns.{IsAmong, last_of, list_link}
use Rattle.rht_ghost.proofs.Theory.Knowledge.{IsAtHome, IsFound}
use Rattle.rht_ghost.proofs.Moves.Relinking.{last_in}
use Rattle.rht_ghost.proofs.Moves.Relisting.{IsBehindFirst}
use Rattle.rht_ghost.proofs.Pieces.Lists.{segment_link, list_among, list_rest}

-- how a node lies behind the first one of a list
pub record LiesBehind (first : ℕ) (behind : List ℕ) (node before : ℕ) (front rear : List ℕ) : Type 0 where
  pub others : List ℕ
  pub front_is : front ≡ first ∷ others
  pub split : behind ≡ others ++ node ∷ rear
  pub last : last_of (first ∷ others) ≡ Some before

-- one with another node before it does
pub lies_behind : (first : ℕ) (behind : List ℕ) (node before : ℕ) (among : IsAmong (first ∷ behind) node (Some before))
    → LiesBehind first behind node before among.front among.rear
lies_behind first behind node before among = go among.front among.split among.last
  where
    go : (front : List ℕ) → first ∷ behind ≡ front ++ node ∷ among.rear → Some before ≡ last_of front
        → LiesBehind first behind node before front among.rear
    go [] split last = absurd (cc)
    go (n ∷ others) split last =
        let same : first ≡ n = cc in
        record {
          others = others;
          front_is = ap (λ k. k ∷ others) (sym same);
          split = cc;
          last = ap (λ k. last_of (k ∷ others)) same ∙ sym last;
        }

module _ (env : Env) (mix : ℕ → ℕ → ℕ → ℕ) (c port place word first : ℕ) (ahead : Option ℕ) (M : Memory) (G : Ghost)
    (whole : Whole env mix M G) (found : IsFound env mix c M G place word port first ahead) (behind : List ℕ)
    (bound_to : G.bound port ≡ first ∷ behind) where
  abbrev j : ℕ
  j = word_index env mix place

  there : In first (G.bucket j).nodes
  there =
      let stands = found.standing.stands in
      subst (In first) (sym stands.split) (in-middle first stands.front stands.rear)

  -- the first one isn't on its way out of any bucket, where the caller has come to this one for the port
  pub first_stays : (slot : ℕ) (shape : Option ℕ) → IsAtHome env mix c G port slot shape place → MovesNone env mix G c
      → (i : ℕ) → (G.bucket i).out ≢ Some first
  first_stays slot shape home none =
      let passing = home.passing in
      stays_in env mix M G whole c port passing.at.table j first behind passing.passed (at-there passing.at) home.here
      found.standing.lock.holder none bound_to (whole.owned.member j first there)

  module _ (node before : ℕ) (among : IsAmong (first ∷ behind) node (Some before)) where
    abbrev lies : LiesBehind first behind node before among.front among.rear
    lies = lies_behind first behind node before among

    -- it is the port's
    pub later_behind : G.node node ≡ Behind port
    later_behind =
        (whole.owned.bound_to port first behind bound_to).each node
        (subst (In node) (sym lies.split) (in-middle node lies.others among.rear))

    -- its link in the list leads to those behind it
    pub later_link : list_of M node ≡ list_link among.rear
    later_link =
        segment_link (list_of M) (list_of M node) among.rear
        (list_rest env mix M G whole port first behind bound_to node (Some before) among)

    -- the one before it is one of the nodes
    pub before_among : before < env.geometry.nodes
    before_among =
        list_among env mix M G whole port first behind bound_to before
        (subst (λ ns. In before (first ∷ ns)) (sym lies.split)
        (In-append_left before (first ∷ lies.others) (node ∷ among.rear) (last_in (first ∷ lies.others) before lies.last)))

    -- so the store to the link of that can be made
    pub behind_first : (M' : Memory) → MovesNone env mix G c → ((i : ℕ) → (G.bucket i).out ≢ Some first)
        → IsBehindFirst env mix c port j first node before lies.others among.rear M M' G
    behind_first M' none not_out = record {
      holder = found.standing.lock.holder;
      there = there;
      key_is = found.key_is;
      bound_to = bound_to ∙ ap (λ ns. first ∷ ns) lies.split;
      last = lies.last;
      moves_none = none;
      not_out = not_out;
    }
