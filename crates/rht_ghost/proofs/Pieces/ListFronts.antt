-- The store by which a caller puts its own node in front of the list to which a port is bound: the node
-- comes into the place of the list's first one in the chain, and that one is behind it from then on.
use Rattle.std.proofs.Common.{◌≡◌, ◌≢◌, ◌⊎◌, ℕ, List, [], ◌∷◌, ◌++◌, Option, Some, None, false, refl, sym, ◌∙◌, ap, subst, inl, inr, arith, true}
use Rattle.rht_words.specs.declared.env.Env.{Env}
use Rattle.rht_words.specs.declared.config.Kind.TheVariants.{Single, Listed}
use Rattle.rht_words.specs.Links.{link_of}
use Rattle.rht_words.specs.Members.{In}
use Rattle.rht_words.proofs.Members.{in-middle, not_in_from}
use Rattle.rht_words.proofs.Memory.{Memory, IsWrite}
use Rattle.rht_ghost.proofs.Theory.Ghosts.{put, put-same, put-all, NodeHeld, First, Behind, Ghost, is_taken_by, held_not_used, with_owner}
use Rattle.rht_ghost.proofs.Theory.Wholes.{list_of, key_of, place_at, word_index, place_at-index, home, MovesNone, outs, Whole, IsThere}
use Rattle.rht_ghost.proofs.Theory.Passed.{Passed, stays_in}
use Rattle.rht_ghost.proofs.Theory.Knowns.{Replaces, StandsAt}
use Rattle.rht_ghost.proofs.Theory.Knowledge.{HasOnly, HoldsLock, IsInList}
use Rattle.rht_ghost.proofs.Theory.Reliance.{bound_used}
use Rattle.rht_ghost.proofs.Theory.Frames.{Made}
use Rattle.rht_ghost.proofs.Theory.Readiness.{Change, changed, IsRebinding}
use Rattle.rht_ghost.proofs.Theory.Steps.{reowned-outs}
use Rattle.rht_ghost.proofs.Moves.Relinking.{relink_address, relink_value, relinked}
use Rattle.rht_ghost.proofs.Moves.Removing.{IsFoundIn, CanReplace, replace, replacing, replacing_known}
use Rattle.rht_ghost.proofs.Pieces.Rebounds.{lock_stays}

-- the lock that is left behind the store, by the node before
abbrev pub lock_left : ℕ → Option ℕ → Option ℕ
lock_left place None = None
lock_left place (Some before) = Some place

module _ (env : Env) (mix : ℕ → ℕ → ℕ → ℕ) (c port place word first n : ℕ) (before : Option ℕ)
    (M M' : Memory) (G : Ghost)
    (whole : Whole env mix M G) (is : IsInList env mix c M G place word port first before (Replaces n)) where
  abbrev j : ℕ
  j = word_index env mix place

  abbrev stands : StandsAt M (G.bucket j).nodes port first before
  stands = is.found.standing.stands

  abbrev pub change : Change
  change = replacing env mix c port j first stands.front stands.rear before M M' G n (first ∷ is.behind)
      (Behind port)

  abbrev pub fronted : Ghost
  fronted = changed G c change

  back : place_at env mix j ≡ place
  back = place_at-index env mix place is.found.standing.lock.bucket

  -- the caller has no entry on its way, and has come to the bucket by this table
  module _ (none : MovesNone env mix G c) (τ : ℕ) (passed : Passed env mix G port τ)
      (is_there : IsThere G τ) (at : home env mix G port τ ≡ Some j) where
    found_in : IsFoundIn env mix c port j first stands.front stands.rear before M M' G is.behind
    found_in =
        let lock = is.found.standing.lock in
        let there : In first (G.bucket j).nodes =
        subst (In first) (sym stands.split) (in-middle first stands.front stands.rear) in
        record {
          holder = lock.holder;
          split = stands.split;
          last = stands.last;
          key_is = is.found.key_is;
          bound_to = is.bound_to;
          moves_none = none;
          not_out = stays_in env mix M G whole c port τ j first is.behind passed is_there at lock.holder none is.bound_to
              (whole.owned.member j first there);
        }

  -- the caller's node is none of those to which the port is bound
  listed_differs : (m : ℕ) → In m (first ∷ is.behind) → m ≢ n
  listed_differs m i e =
      let used = bound_used env mix M G whole port (first ∷ is.behind) is.bound_to m i in
      held_not_used (G.node n) c is.means.has.mine (rw (sym e) used.1)

  module _ (listed : env.config.kind ≡ Listed) (key_is : key_of M n ≡ port)
      (list_is : list_of M n ≡ link_of first) where
    can : CanReplace env mix c port j first stands.front stands.rear before M M' G is.behind n
        (first ∷ is.behind) (Behind port)
    can =
        let to = whole.owned.bound_to port first is.behind is.bound_to in
        record {
          among = is.means.has.among;
          differs = λ e. listed_differs first (inl refl) (sym e);
          key_is = key_is;
          chain_is = is.means.alike;
          from = inl is.means.has.mine;
          list = (list_is, to.list);
          distinct = (not_in_from n (first ∷ is.behind) (λ i. listed_differs n i refl), to.distinct);
          used = refl;
          stays = λ i e. cc;
          built = tt;
          no_first = refl;
          no_others = λ d ne. refl;
          listed = λ m i. elim i [ inl e ↦ inl (e, refl) | inr k ↦ inr (k, listed_differs m (inr k)) ];
          back = λ m i ne. inr i;
          back_one = λ p e. (let same : port ≡ p = cc in sym same, inl refl);
          single = λ one. absurd (let both : Single ≡ Listed = sym one ∙ listed in cc);
        }

    pub front_known : MovesNone env mix G c → (τ : ℕ) → Passed env mix G port τ → IsThere G τ
        → home env mix G port τ ≡ Some j → IsRebinding env mix change M G
    front_known none τ passed is_there at =
        inr (inl (replacing_known env mix c port j first stands.front stands.rear before M M' G is.behind
        (found_in none τ passed is_there at) n (first ∷ is.behind) (Behind port) can))

    pub front_made : MovesNone env mix G c → (τ : ℕ) → Passed env mix G port τ → IsThere G τ
        → home env mix G port τ ≡ Some j
        → IsWrite env.geometry M M' (relink_address j before)
        (relink_value (place_at env mix j) (link_of n) before)
        → Made env mix c M G M' fronted
    front_made none τ passed is_there at write =
        replace env mix c port j first stands.front stands.rear before M M' G whole is.behind
        (found_in none τ passed is_there at) n
        (first ∷ is.behind) (Behind port) can write

  -- ---- what the caller has behind it

  -- its node is a port's from then on, and without a node before the bucket is unlocked
  pub front_only : HasOnly env mix c G (Some n) (Some place) None false None [] false true
      → HasOnly env mix c fronted None (lock_left place before) None false None [] false true
  front_only only = record {
    nodes = put-all (λ m o. o ≡ NodeHeld c → ◌≡◌ {A = Option ℕ} None (Some m)) (put G.node first (Behind port))
        n (First j) (λ e. absurd (cc))
        (λ m ne. put-all (λ k o. k ≢ n → o ≡ NodeHeld c → ◌≡◌ {A = Option ℕ} None (Some k)) G.node first
        (Behind port) (λ apart e. absurd (cc))
        (λ k other apart held. let q = only.nodes k held in absurd (apart (cc))) m ne);
    locks = put-all (λ i b. b.holder ≡ Some c → IsLeft before i) G.bucket j change.bucket (left before)
        (λ i ne holds. elim (only.locks i holds) [
          | inl here ↦
              absurd (ne (let q : place ≡ place_at env mix i = cc in let r = back in omega (arith, q, r)))
          | inr second ↦ absurd (cc)
        ]);
    raising = put-same G.raised c (G.raised c) ∙ only.raising;
    slots = only.slots;
    pages_in = only.pages_in;
    works = only.works;
    reads = only.reads;
  }
    where
      IsLeft : Option ℕ → ℕ → Type 0
      IsLeft b i =
          let there : Option ℕ = Some (place_at env mix i) in
          (lock_left place b ≡ there) ⊎ (◌≡◌ {A = Option ℕ} None there)

      nodes : List ℕ
      nodes = stands.front ++ ((n ∷ []) ++ stands.rear)

      left : (b : Option ℕ) → (relinked (place_at env mix j) (link_of n) (G.bucket j) nodes b).holder ≡ Some c
          → IsLeft b j
      left None holds = absurd (cc)
      left (Some p) holds = inl (ap Some (sym back))

  -- with one it is still locked
  pub front_locks : (p : ℕ) → before ≡ Some p → HoldsLock env mix c fronted place word
  front_locks p e =
      let nodes : List ℕ = stands.front ++ ((n ∷ []) ++ stands.rear) in
      lock_stays env mix c G change place word nodes refl
      (ap (relinked (place_at env mix j) (link_of n) (G.bucket j) nodes) e) is.found.standing.lock

  -- no node was taken out of a list
  pub front_outs : outs env mix fronted c ≡ outs env mix G c
  front_outs =
      let there : In first (G.bucket j).nodes =
      subst (In first) (sym stands.split) (in-middle first stands.front stands.rear) in
      reowned-outs env mix c n (First j) (with_owner G first (Behind port)) new refl
      ∙ reowned-outs env mix c first (Behind port) G (ap (is_taken_by c) (whole.owned.member j first there))
      refl
    where
      new : is_taken_by c (put G.node first (Behind port) n) ≡ false
      new = put-all (λ m o. m ≡ n → is_taken_by c o ≡ false) G.node first (Behind port) (λ e. refl)
          (λ m ne e. ap (λ k. is_taken_by c (G.node k)) e ∙ ap (is_taken_by c) is.means.has.mine) n refl
