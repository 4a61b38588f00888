-- The store that puts a caller's own node into the place of a node of a port's list behind the port's first node.
use Rattle.std.proofs.Common.{◌≡◌, ◌≢◌, ℕ, List, [], ◌∷◌, ◌++◌, refl, sym, ◌∙◌, ap, subst, inl, inr}
use Rattle.rht_words.specs.declared.env.Env.{Env}
use Rattle.rht_words.specs.Chains.{IsSegment}
use Rattle.rht_words.specs.Links.{link_of}
use Rattle.rht_words.specs.Places.{Node, ListLink}
use Rattle.rht_words.specs.Members.{In}
use Rattle.rht_words.proofs.Members.{not_in_from, in-middle, In-append_left, In-append_right, In-append_cases, IsDistinct-with}
use Rattle.rht_words.proofs.Memory.{Memory, IsWrite}
use Rattle.rht_ghost.proofs.Theory.Ghosts.{Behind, Taken, Ghost, seat_of, is_used, held_not_used, lock_bit}
use Rattle.rht_ghost.proofs.Theory.Wholes.{list_of, key_of, IsBuilt, Whole}
use Rattle.rht_ghost.proofs.Theory.Knowledge.{HasNode}
use Rattle.rht_ghost.proofs.Theory.Frames.{Made}
use Rattle.rht_ghost.proofs.Theory.Readiness.{Change, changed, IsRebinding}
use Rattle.rht_ghost.proofs.Moves.Relisting.{IsBehindFirst, relisting, relist, was_behind, list_behind, others_distinct, others_used}

module _ (env : Env) (mix : ℕ → ℕ → ℕ → ℕ) (d port j m q p n : ℕ) (us vs : List ℕ) (M M' : Memory)
    (G : Ghost) where
  -- the caller's own node has the port's key, and the link behind the node into whose place it comes
  pub record CanSwap : Type 0 where
    pub has : HasNode env mix d G n
    pub key_is : key_of M n ≡ port
    pub list_is : list_of M n ≡ list_of M q

  -- the node goes to the caller, and the caller's own one to the port
  abbrev pub swapping : Change
  swapping = relisting env mix d port j m q p us vs M M' G (n ∷ []) n (Behind port)

  module _ (whole : Whole env mix M G) (found : IsBehindFirst env mix d port j m q p us vs M M' G) (can : CanSwap) where
    mine : G.node q ≡ Behind port
    mine = was_behind env mix d port j m q p us vs M M' G whole found

    -- the caller's own node is none of those to which the port is bound
    pub swap_differs : n ≢ q
    swap_differs e = held_not_used (G.node n) d can.has.mine (ap is_used (ap G.node e ∙ mine))

    others_differ : (x : ℕ) → In x (m ∷ (us ++ vs)) → x ≢ n
    others_differ x i e =
        held_not_used (G.node x) d (ap G.node e ∙ can.has.mine)
        (others_used env mix d port j m q p us vs M M' G whole found x i)

    pub swap_made : IsBuilt env mix (Taken d) → IsWrite env.geometry M M' (Node p ListLink) (link_of n)
        → Made env mix d M G M' (changed G d swapping)
    swap_made built =
        relist env mix d port j m q p us vs M M' G whole built found (n ∷ []) n (Behind port) (link_of n) (record {
          rest = (
            refl,
            subst (λ l. IsSegment (list_of M) l vs 0) (sym can.list_is)
                (list_behind env mix d port j m q p us vs M M' G whole found),
          );
          distinct = IsDistinct-with (m ∷ us) n vs (others_distinct env mix d port j m q p us vs M M' G whole found)
              (not_in_from n (m ∷ us) (λ i. others_differ n (In-append_left n (m ∷ us) vs i) refl))
              (not_in_from n vs (λ i. others_differ n (In-append_right n (m ∷ us) vs i) refl));
          comes = λ x i. elim i [ inl e ↦ (e, refl) | inr none ↦ absurd none ];
          back = λ k e. (let same : port ≡ k = cc in sym same, inl refl);
          from = inr can.has.mine;
          among = can.has.among;
          no_first = refl;
          other_changed = record {
            before = inr can.has.mine;
            key_is = can.key_is;
            used = refl;
            stays = λ i e. cc;
            built = tt;
            no_others = λ c ne. refl;
          };
        })

    -- what is known of this change
    pub swap_known : IsRebinding env mix swapping M G
    swap_known = inr (inr (inr (record {
      first = m;
      behind = us ++ q ∷ vs;
      rest = us ++ n ∷ vs;
      bound_to = found.bound_to;
      now = refl;
      listed = λ x i. elim (In-append_cases x us (n ∷ vs) i) [
        | inl l ↦ inr (In-append_left x us (q ∷ vs) l)
        | inr r ↦ elim r [ inl e ↦ inl e | inr k ↦ inr (In-append_right x us (q ∷ vs) (inr k)) ]
      ];
      locked = ap lock_bit found.holder;
      same = refl;
      differs = swap_differs;
      member = in-middle q us vs;
      seatless = ap seat_of mine;
      used = ap is_used mine;
      gone = refl;
      from = ap is_used can.has.mine;
      owner = refl;
      among = can.has.among;
      key_is = can.key_is;
    })))
