-- Segments of chains: how they are cut and joined, and what a store to one link does to them.
use Rattle.std.proofs.Common.{◌≡◌, ◌≢◌, ℕ, List, [], ◌∷◌, ◌++◌, Some, refl, inl, inr, sym, ◌∙◌, subst}
use Rattle.std.proofs.lemmas.List.Elements.{All-head, All-tail}
use Rattle.std.specs.List.{All, last_or}
use Rattle.rht_words.specs.Links.{link_of}
use Rattle.rht_words.specs.Chains.{IsSegment}
use Rattle.rht_words.specs.Members.{In, IsDistinct}
use Rattle.rht_words.proofs.EachElement.{last_or-All}
use Rattle.rht_words.proofs.Members.{NotIn-All}

-- two segments, of which the second begins where the first one stops
pub IsSegment-append : (chain : ℕ → ℕ) (nodes behind : List ℕ) (link middle stop : ℕ)
    → IsSegment chain link nodes middle → IsSegment chain middle behind stop
    → IsSegment chain link (nodes ++ behind) stop
IsSegment-append chain [] behind link middle stop front rest =
    subst (λ l. IsSegment chain l behind stop) (sym front) rest
IsSegment-append chain (node ∷ nodes) behind link middle stop front rest =
    (front.0, IsSegment-append chain nodes behind (chain node) middle stop front.1 rest)

-- what is before a node ends with the link to it
pub IsSegment-cut : (chain : ℕ → ℕ) (nodes : List ℕ) (node : ℕ) (behind : List ℕ) (link stop : ℕ)
    → IsSegment chain link (nodes ++ node ∷ behind) stop
    → IsSegment chain link nodes (link_of node) × IsSegment chain (chain node) behind stop
IsSegment-cut chain [] node behind link stop whole = (whole.0, whole.1)
IsSegment-cut chain (first ∷ nodes) node behind link stop whole =
    let cut = IsSegment-cut chain nodes node behind (chain first) stop whole.1 in
    ((whole.0, cut.0), cut.1)

-- a segment stays where the links behind its nodes do
pub IsSegment-same : (chain stored : ℕ → ℕ) (nodes : List ℕ) (link stop : ℕ)
    → All (λ node. stored node ≡ chain node) nodes → IsSegment chain link nodes stop
    → IsSegment stored link nodes stop
IsSegment-same chain stored [] link stop same segment = segment
IsSegment-same chain stored (node ∷ nodes) link stop same segment =
    let behind =
    IsSegment-same chain stored nodes (chain node) stop
    (All-tail (λ n. stored n ≡ chain n) node nodes same) segment.1 in (
      segment.0,
      subst (λ l. IsSegment stored l nodes stop)
          (sym (All-head (λ n. stored n ≡ chain n) node nodes same)) behind,
    )

-- a segment stays where the links behind its members do
pub IsSegment-members : (chain stored : ℕ → ℕ) (link : ℕ) (nodes : List ℕ) (stop : ℕ)
    → ((node : ℕ) → In node nodes → stored node ≡ chain node) → IsSegment chain link nodes stop
    → IsSegment stored link nodes stop
IsSegment-members chain stored link [] stop same segment = segment
IsSegment-members chain stored link (node ∷ nodes) stop same segment =
    let behind = IsSegment-members chain stored (chain node) nodes stop (λ other i. same other (inr i))
    segment.1 in
    (segment.0, rw (same node (inl refl)) behind)

-- The link behind the last node of a segment is stored, and what is behind it then is another segment. By induction
-- over the nodes before the last one, whose links stay.
pub IsSegment-relinked : (chain stored : ℕ → ℕ) (last link stop : ℕ) (behind : List ℕ) → stored last ≡ link
    → IsSegment chain link behind stop
    → (node : ℕ) (nodes : List ℕ) (first middle : ℕ) → last_or (Some node) nodes ≡ Some last
    → All (λ n. n ≢ last → stored n ≡ chain n) ((node ∷ nodes) ++ behind)
    → IsDistinct ((node ∷ nodes) ++ behind)
    → IsSegment chain first (node ∷ nodes) middle → IsSegment stored first ((node ∷ nodes) ++ behind) stop
IsSegment-relinked chain stored last link stop behind links rest node [] first middle is others distinct
    front =
    let same : node ≡ last = cc in
    let kept = All-tail (λ n. n ≢ last → stored n ≡ chain n) node behind others in
    let off = NotIn-All node behind distinct.0 in
    let framed =
    IsSegment-same chain stored behind link stop (λ k d l. kept k d l (λ e. off k d l (e ∙ sym same))) rest in (
      front.0,
      subst (λ l. IsSegment stored l behind stop)
          (sym (subst (λ n. stored n ≡ link) (sym same) links)) framed,
    )
IsSegment-relinked chain stored last link stop behind links rest node (next ∷ nodes) first middle is
    others distinct front =
    let Stays : ℕ → Type 0 = λ n. n ≢ last → stored n ≡ chain n in
    let differ : last ≢ node =
    last_or-All (λ n. n ≢ node) next last nodes behind is
    (NotIn-All node ((next ∷ nodes) ++ behind) distinct.0) in
    let stays : stored node ≡ chain node =
    All-head Stays node ((next ∷ nodes) ++ behind) others (λ e. differ (sym e)) in
    let further =
    IsSegment-relinked chain stored last link stop behind links rest next nodes (chain node) middle is
    (All-tail Stays node ((next ∷ nodes) ++ behind) others) distinct.1 front.1 in
    (front.0, subst (λ l. IsSegment stored l ((next ∷ nodes) ++ behind) stop) (sym stays) further)
