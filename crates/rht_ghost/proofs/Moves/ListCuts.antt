-- The store that takes a node out of a port's list behind the port's first node.
use Rattle.std.proofs.Common.{◌≡◌, ℕ, List, [], ◌∷◌, ◌++◌, refl, ap, subst, inl}
use Rattle.rht_words.specs.declared.env.Env.{Env}
use Rattle.rht_words.specs.Chains.{IsSegment}
use Rattle.rht_words.specs.Places.{Node, ListLink}
use Rattle.rht_words.proofs.Members.{in-middle}
use Rattle.rht_words.proofs.Memory.{Memory, IsWrite}
use Rattle.rht_ghost.proofs.Theory.Ghosts.{Taken, Ghost, seat_of, is_used, lock_bit}
use Rattle.rht_ghost.proofs.Theory.Wholes.{list_of, IsBuilt, Whole}
use Rattle.rht_ghost.proofs.Theory.Frames.{Made}
use Rattle.rht_ghost.proofs.Theory.Readiness.{Change, changed, IsShortening}
use Rattle.rht_ghost.proofs.Moves.Relisting.{in_with, IsBehindFirst, relisting, relist, was_behind, list_behind, others_distinct, one_changed}

module _ (env : Env) (mix : ℕ → ℕ → ℕ → ℕ) (d port j m q p : ℕ) (us vs : List ℕ) (M M' : Memory)
    (G : Ghost) where
  -- the node goes to the caller
  abbrev pub cutting : Change
  cutting = relisting env mix d port j m q p us vs M M' G [] q (Taken d)

  pub cut_list : Whole env mix M G → IsBuilt env mix (Taken d) → (link : ℕ) → list_of M q ≡ link
      → IsBehindFirst env mix d port j m q p us vs M M' G → IsWrite env.geometry M M' (Node p ListLink) link
      → Made env mix d M G M' (changed G d cutting)
  cut_list whole built link link_is found write =
      relist env mix d port j m q p us vs M M' G whole built found [] q (Taken d) link (record {
        rest = subst (λ l. IsSegment (list_of M) l vs 0) link_is
            (list_behind env mix d port j m q p us vs M M' G whole found);
        distinct = others_distinct env mix d port j m q p us vs M M' G whole found;
        comes = λ n i. absurd i;
        back = λ k e. absurd (cc);
        from = inl (refl, refl);
        among = (whole.owned.behind_in q port (was_behind env mix d port j m q p us vs M M' G whole found)).among;
        no_first = refl;
        other_changed = one_changed env mix d port j m q p us vs M M' G whole found built [] q (Taken d) link;
      }) write

  -- what is known of this change
  pub cutting_known : Whole env mix M G → IsBehindFirst env mix d port j m q p us vs M M' G
      → IsShortening env mix cutting G
  cutting_known whole found =
      let mine = was_behind env mix d port j m q p us vs M M' G whole found in
      record {
        first = m;
        behind = us ++ q ∷ vs;
        rest = us ++ vs;
        bound_to = found.bound_to;
        now = refl;
        listed = λ n. in_with n q us vs;
        locked = ap lock_bit found.holder;
        same = refl;
        one = refl;
        member = in-middle q us vs;
        seatless = ap seat_of mine;
        used = ap is_used mine;
        gone = refl;
      }
