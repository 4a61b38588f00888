-- Which operations give back a node that a call had taken out: those that are made for it, and no others.
use Rattle.std.proofs.Common.{◌≡◌, ◌⊎◌, ℕ, List, ◌++◌, ◌∷◌, false, true, refl, sym, ◌∙◌, ap, subst, inl, inr}
use Rattle.std.proofs.lemmas.Bool.{cases_eq}
use Rattle.rht_words.specs.declared.env.Env.{Env}
use Rattle.rht_words.specs.Members.{In}
use Rattle.rht_words.proofs.Members.{in-middle}
use Rattle.rht_words.proofs.Memory.{Memory}
use Rattle.rht_ghost.proofs.Theory.Ghosts.{put, put-same, put-other, Owner, Free, First, Behind, Taken, Ghost, is_used}
use Rattle.rht_ghost.proofs.Theory.Wholes.{Whole}
use Rattle.rht_ghost.proofs.Theory.Frames.{Made, OwnersStay}
use Rattle.rht_ghost.proofs.Theory.Readiness.{Change, changed, IsRebinding}
use Rattle.rht_ghost.proofs.Theory.Steps.{Move, TakesNode, GivesNode, Links, Rebinds, Leaves, Arrives, ReturnsNode, ghost_after, ReadyFor}

-- where one owner is put, a node becomes free that gets this one, or that is so before
put-free : (owners : ℕ → Owner) (m : ℕ) (owner : Owner) (n : ℕ) → (n ≡ m → owner ≡ Free → ⊥) → (owners n ≡ Free → ⊥)
    → put owners m owner n ≡ Free → ⊥
put-free owners m owner n this other is = elim (cases_eq n m) [
  | inl same ↦ this same (sym (ap (put owners m owner) same ∙ put-same owners m owner) ∙ is)
  | inr ne ↦ other (sym (put-other owners m owner n ne) ∙ is)
]

module _ (env : Env) (mix : ℕ → ℕ → ℕ → ℕ) (c : ℕ) (M : Memory) (G : Ghost) (whole : Whole env mix M G) (n : ℕ)
    (was : G.node n ≡ Taken c) where
  not_free : G.node n ≡ Free → ⊥
  not_free is = let both : Taken c ≡ Free = sym was ∙ is in cc

  -- a node that is in a bucket wasn't taken out, nor one to which a port is bound behind its first one
  not_first : (m j : ℕ) (front rear : List ℕ) → (G.bucket j).nodes ≡ front ++ m ∷ rear → n ≡ m → ⊥
  not_first m j front rear split same =
      let first = whole.owned.member j m (subst (In m) (sym split) (in-middle m front rear)) in
      let both : Taken c ≡ First j = sym was ∙ ap G.node same ∙ first in cc

  not_behind : (m port first : ℕ) (behind : List ℕ) → G.bound port ≡ first ∷ behind → In m behind → n ≡ m → ⊥
  not_behind m port first behind bound there same =
      let is = (whole.owned.bound_to port first behind bound).each m there in
      let both : Taken c ≡ Behind port = sym was ∙ ap G.node same ∙ is in cc

  not_unused : (m : ℕ) → is_used (G.node m) ≡ false → n ≡ m → ⊥
  not_unused m unused same = let both : true ≡ false = sym (ap is_used was) ∙ ap (λ k. is_used (G.node k)) same ∙ unused in cc

  -- nor one that a port loses
  changes : (change : Change) → (n ≡ change.one → ⊥) → (n ≡ change.other → ⊥) → (changed G c change).node n ≡ Free → ⊥
  changes change one other =
      put-free (put G.node change.one change.one_owner) change.other change.other_owner n (λ same free. other same)
      (put-free G.node change.one change.one_owner n (λ same free. one same) not_free)

  rebinds_none : (change : Change) → IsRebinding env mix change M G → (changed G c change).node n ≡ Free → ⊥
  rebinds_none change (inl is) =
      let gone = not_first is.first change.place is.front is.rear is.split in
      changes change (λ same. gone (same ∙ is.one)) (λ same. gone (same ∙ is.other))
  rebinds_none change (inr (inl is)) =
      changes change (not_first change.one change.place is.front is.rear is.split) (λ same. elim is.from [
        | inl unused ↦ not_unused change.other unused same
        | inr there ↦ not_behind change.other change.port change.one is.behind is.bound_to there same
      ])
  rebinds_none change (inr (inr (inl is))) =
      let gone = not_behind change.other change.port is.first is.behind is.bound_to is.member in
      changes change (λ same. gone (same ∙ is.one)) gone
  rebinds_none change (inr (inr (inr is))) =
      changes change (not_behind change.one change.port is.first is.behind is.bound_to is.member)
      (not_unused change.other is.from)

  -- so it is this operation that gives it back
  pub gives_back : (move : Move) → ReadyFor env mix c M G move → (ghost_after env mix c move G).node n ≡ Free → move ≡ ReturnsNode n
  gives_back (TakesNode m) ready free = absurd (put-free G.node m _ n (λ same is. cc) not_free free)
  gives_back (GivesNode m) ready free =
      absurd (put-free G.node m _ n (λ same is. not_unused m (ap is_used ready) same) not_free free)
  gives_back (Links m port j) ready free = absurd (put-free G.node m _ n (λ same is. cc) not_free free)
  gives_back (Rebinds change) ready free = absurd (rebinds_none change ready free)
  gives_back (Leaves j i entry nodes) ready free = absurd (put-free G.node entry _ n (λ same is. cc) not_free free)
  gives_back (Arrives j i entry) ready free = absurd (put-free G.node entry _ n (λ same is. cc) not_free free)
  gives_back (ReturnsNode m) ready free = elim (cases_eq n m) [
    | inl same ↦ ap ReturnsNode (sym same)
    | inr ne ↦ absurd (not_free (sym (put-other G.node m Free n ne) ∙ free))
  ]
  gives_back move ready free = absurd (not_free free)

-- whether an operation gives one back
pub returned : (move : Move) → ((n : ℕ) × (move ≡ ReturnsNode n)) ⊎ ((n : ℕ) → move ≡ ReturnsNode n → ⊥)
returned (ReturnsNode n) = inl (n, refl)
returned _ = inr (λ n is. absurd (cc))

-- one that gives back none leaves which nodes are or were ports', and which were taken out
pub owners_stay : (env : Env) (mix : ℕ → ℕ → ℕ → ℕ) (c : ℕ) (M M' : Memory) (G : Ghost) → Whole env mix M G → (move : Move)
    → ReadyFor env mix c M G move → Made env mix c M G M' (ghost_after env mix c move G)
    → ((n : ℕ) → move ≡ ReturnsNode n → ⊥) → OwnersStay env mix G (ghost_after env mix c move G)
owners_stay env mix c M M' G whole move ready made none = record {
  out = λ n e is. elim (made.stale.owners.out n e is) [
    | inl stays ↦ stays
    | inr back ↦ absurd (none n (gives_back env mix c M G whole n back.was move ready back.now))
  ];
  used = λ n used. elim (made.stale.owners.used n used) [
    | inl stays ↦ stays
    | inr back ↦ absurd (none n (gives_back env mix c M G whole n back.was move ready back.now))
  ];
}
