-- As many ports are bound as there are nodes in chains.
-- Each node in a chain is what the port of its key is bound to, and all that it is bound to: so different nodes have different ports,
-- and each bound port has its own node.
use Rattle.std.proofs.Common.{◌≡◌, ◌≢◌, ℕ, zero, suc, ◌*◌, ◌<◌, ◌≤◌, Bool, true, false, List, [], ◌∷◌, length, map, refl, sym, ap, ◌∙◌, inl, inr, arith, Some}
use Rattle.std.specs.List.{AllByRecursion}
use Rattle.rht_words.specs.declared.env.Env.{Env}
use Rattle.rht_words.specs.Ports.{owner_of}
use Rattle.rht_words.specs.Places.{Node, OwnerWord}
use Rattle.rht_words.specs.Members.{In, NotIn, IsDistinct}
use Rattle.rht_words.proofs.Members.{count_below, one_if, not_in_from, AllByRecursion-In, In-AllByRecursion, length-count_below}
use Rattle.rht_words.proofs.EachElement.{AllByRecursion-weaker}
use Rattle.rht_model.specs.Multimap.{Multimap}
use Rattle.rht_stands.specs.StandsFor.{stands_for, AreBound, AreAllBound}
use Rattle.rht_ghost.proofs.Theory.Ghosts.{Owner, First, Leaving, Ghost, is_first, seat-first, seat_of, is_entry}
use Rattle.rht_ghost.proofs.Theory.Wholes.{key_of, firsts, Whole, seated_at}
use Rattle.rht_ghost.proofs.Theory.Steps.{mem, owners_in}
use Rattle.rht_core.proofs.Meaning.BoundPorts.{stands_for_bound}

-- ---- the ports that are bound

-- what has a property that this number hasn't is another number
none_of : (P : ℕ → Type 0) (x : ℕ) → ((y : ℕ) → P y → x ≢ y) → (ys : List ℕ) → AllByRecursion P ys
    → NotIn x ys
none_of P x other ys all = not_in_from x ys (λ i. other x (AllByRecursion-In P x ys all i) refl)

-- a node of which this is said has a seat
first_in : (owner : Owner) → is_first owner ≡ true → (j : ℕ) × (seat_of owner ≡ Some j)
first_in (First j) is = (j, refl)
first_in (Leaving j) is = (j, refl)
first_in _ is = absurd (cc)

module _ (bindings : Multimap) where
  abbrev IsBound : ℕ → Type 0
  IsBound port = bindings port ≢ []

  -- so many of these ports, each of which is one of them
  record FirstPorts (few : ℕ) (all : List ℕ) : Type 0 where
    ports : List ℕ
    distinct : IsDistinct ports
    bound : AllByRecursion IsBound ports
    many : length ports ≡ few
    within : (port : ℕ) → NotIn port all → NotIn port ports

  first_ports : (few : ℕ) (all : List ℕ) → few ≤ length all → IsDistinct all → AllByRecursion IsBound all
      → FirstPorts few all
  first_ports zero all less distinct bound =
      record { ports = []; distinct = tt; bound = tt; many = refl; within = λ port out. tt }
  first_ports (suc few) [] less distinct bound = absurd (omega (arith, less))
  first_ports (suc few) (port ∷ all) less distinct bound =
      let rest = first_ports few all (omega (arith, less)) distinct.1 bound.1 in
      record {
        ports = port ∷ rest.ports;
        distinct = (rest.within port distinct.0, rest.distinct);
        bound = (bound.0, rest.bound);
        many = ap suc rest.many;
        within = λ other out. (out.0, rest.within other out.1);
      }

  -- where so many ports are bound, so are fewer
  pub fewer-AreBound : (many few : ℕ) → few ≤ many → AreBound bindings many → AreBound bindings few
  fewer-AreBound many few less are =
      let all = are.many in
      let front = first_ports few are.ports (omega (arith, less, all)) are.distinct are.bound in
      record { ports = front.ports; distinct = front.distinct; bound = front.bound; many = front.many }

module _ (env : Env) (mix : ℕ → ℕ → ℕ → ℕ) (words : List ℕ) (G : Ghost)
    (whole : Whole env mix (mem env mix words) G) where
  abbrev in_chain : ℕ → Bool
  in_chain node = is_first (G.node node)

  -- the first node to which the port is bound is below this one
  record IsBoundBelow (bound port : ℕ) : Type 0 where
    node : ℕ
    below : node < bound
    behind : List ℕ
    bound_to : G.bound port ≡ node ∷ behind

  -- as many different ports as there are nodes in chains below a bound, each bound to such a node
  record PortsBelow (bound : ℕ) : Type 0 where
    ports : List ℕ
    distinct : IsDistinct ports
    each : AllByRecursion (IsBoundBelow bound) ports
    many : length ports ≡ count_below in_chain bound

  -- what is bound below a bound is so below the next one
  further : (n : ℕ) (ports : List ℕ) → AllByRecursion (IsBoundBelow n) ports
      → AllByRecursion (IsBoundBelow (suc n)) ports
  further n ports all =
      AllByRecursion-weaker (IsBoundBelow n) (IsBoundBelow (suc n))
      (λ port is. let below = is.below in record {
        node = is.node;
        below = omega arith;
        behind =
            is.behind;
        bound_to = is.bound_to;
      }) ports all

  -- the port of one more node in a chain is another one, since it is bound to that node
  one_more : (n : ℕ) → PortsBelow n → (in_it : Bool) → in_chain n ≡ in_it → PortsBelow (suc n)
  one_more n before true is =
      let first = first_in (G.node n) is in
      let here = seated_at env mix (mem env mix words) G whole n first.0 first.1 in
      let port = key_of (mem env mix words) n in
      record {
        ports = port ∷ before.ports;
        distinct = (
          none_of (IsBoundBelow n) port (λ other below same.
              let q : ◌≡◌ {A = List ℕ} (n ∷ here.behind) (below.node ∷ below.behind) = sym here.bound_to
              ∙ ap G.bound same ∙ below.bound_to in
              let node : n ≡ below.node = (cc) in
              let less = below.below in
              absurd (omega arith)) before.ports before.each,
          before.distinct,
        );
        each = (
          record { node = n; below = omega arith; behind = here.behind; bound_to = here.bound_to },
          further n before.ports before.each,
        );
        many = let many = before.many in let one : one_if (in_chain n) ≡ 1 = ap one_if is in omega arith;
      }
  one_more n before false is = record {
    ports = before.ports;
    distinct = before.distinct;
    each = further n before.ports before.each;
    many = let many = before.many in let none : one_if (in_chain n) ≡ 0 = ap one_if is in omega arith;
  }

  ports_below : (bound : ℕ) → PortsBelow bound
  ports_below zero = record { ports = []; distinct = tt; each = tt; many = refl }
  ports_below (suc n) = one_more n (ports_below n) (in_chain n) refl

  -- a port that is bound to a node has that node's owner
  is_bound : (bound port : ℕ) → IsBoundBelow bound port → stands_for env.geometry words port ≢ []
  is_bound bound port is empty =
      let M = mem env mix words in
      let owners : stands_for env.geometry words port ≡ owner_of (M (Node is.node OwnerWord)) ∷ owners_in env mix M is.behind =
      stands_for_bound env mix words G whole port ∙ ap (owners_in env mix M) is.bound_to in
      absurd (cc)

  -- so many different ports are bound as there are nodes in chains
  pub firsts-AreBound : AreBound (stands_for env.geometry words) (firsts env mix G)
  firsts-AreBound =
      let nodes = env.geometry.nodes in
      let all = ports_below nodes in
      record {
        ports = all.ports;
        distinct = all.distinct;
        bound =
            AllByRecursion-weaker (IsBoundBelow nodes) (λ port. stands_for env.geometry words port ≢ [])
            (is_bound nodes)
            all.ports all.each;
        many = all.many;
      }

  -- and no fewer than there are nodes in one of them
  pub members-AreBound : (j few : ℕ) → j < 64 * env.geometry.pages → is_entry G j ≡ false → few ≤ length (G.bucket j).nodes
      → AreBound (stands_for env.geometry words) few
  members-AreBound j few below plain less =
      let bucket = (G.bucket j).nodes in
      let among = In-AllByRecursion (λ n. n < env.geometry.nodes) bucket
      (λ n i. (whole.owned.first_at n j (whole.owned.member j n i)).among) in
      let most = length-count_below in_chain env.geometry.nodes bucket (whole.buckets j below plain).chained.distinct
      among
      (λ n i. ap is_first (whole.owned.member j n i)) in
      fewer-AreBound (stands_for env.geometry words) (firsts env mix G) few (omega (arith, less, most)) firsts-AreBound

  -- the node to which a port is bound; some node where it is bound to none
  abbrev node_for : List ℕ → ℕ
  node_for [] = 0
  node_for (n ∷ behind) = n

  abbrev node_of_port : ℕ → ℕ
  node_of_port port = node_for (G.bound port)

  -- a port that is bound has its own node, which is in a chain
  record HasFirst (port : ℕ) : Type 0 where
    among : node_of_port port < env.geometry.nodes
    first : is_first (G.node (node_of_port port)) ≡ true
    key : key_of (mem env mix words) (node_of_port port) ≡ port

  has_first : (port : ℕ) → stands_for env.geometry words port ≢ [] → HasFirst port
  has_first port some = go (G.bound port) refl
    where
      go : (nodes : List ℕ) → G.bound port ≡ nodes → HasFirst port
      go [] b =
          absurd (some (stands_for_bound env mix words G whole port
          ∙ ap (owners_in env mix (mem env mix words)) b))
      go (n ∷ behind) b =
          let to = whole.owned.bound_to port n behind b in
          let here : node_of_port port ≡ n = ap node_for b in
          record {
            among = rw here (seated_at env mix (mem env mix words) G whole n to.bucket to.first).among;
            first = ap (λ m. is_first (G.node m)) here ∙ seat-first (G.node n) to.bucket to.first;
            key = ap (key_of (mem env mix words)) here ∙ to.key_is;
          }

  -- different bound ports have different nodes
  other_nodes : (port : ℕ) (ports : List ℕ) → NotIn port ports → HasFirst port
      → AllByRecursion HasFirst ports → NotIn (node_of_port port) (map node_of_port ports)
  other_nodes port [] none here all = tt
  other_nodes port (q ∷ ports) none here all = (
    (λ same. none.0 (sym here.key ∙ ap (key_of (mem env mix words)) same ∙ all.0.key)),
    other_nodes
        port ports none.1 here all.1,
  )

  nodes_distinct : (ports : List ℕ) → IsDistinct ports → AllByRecursion HasFirst ports
      → IsDistinct (map node_of_port ports)
  nodes_distinct [] distinct all = tt
  nodes_distinct (port ∷ ports) distinct all =
      (other_nodes port ports distinct.0 all.0 all.1, nodes_distinct ports distinct.1 all.1)

  nodes_below : (ports : List ℕ) → AllByRecursion HasFirst ports
      → AllByRecursion (λ n. n < env.geometry.nodes) (map node_of_port ports)
  nodes_below [] all = tt
  nodes_below (port ∷ ports) all = (all.0.among, nodes_below ports all.1)

  nodes_first : (ports : List ℕ) → AllByRecursion HasFirst ports → (n : ℕ)
      → In n (map node_of_port ports) → is_first (G.node n) ≡ true
  nodes_first [] all n i = absurd i
  nodes_first (port ∷ ports) all n (inl e) = ap (λ m. is_first (G.node m)) e ∙ all.0.first
  nodes_first (port ∷ ports) all n (inr i) = nodes_first ports all.1 n i

  all_first : (ports : List ℕ) → AllByRecursion (λ port. stands_for env.geometry words port ≢ []) ports
      → AllByRecursion HasFirst ports
  all_first [] all = tt
  all_first (port ∷ ports) all = (has_first port all.0, all_first ports all.1)

  same_length : (ports : List ℕ) → length (map node_of_port ports) ≡ length ports
  same_length [] = refl
  same_length (port ∷ ports) = ap suc (same_length ports)

  -- as many ports are bound as there are nodes in chains, and no more
  pub firsts-AreAllBound : AreAllBound (stands_for env.geometry words) (firsts env mix G)
  firsts-AreAllBound = record {
    are = firsts-AreBound;
    most = λ more bound.
        let all = all_first bound.ports bound.bound in
        let few = length-count_below (λ n. is_first (G.node n)) env.geometry.nodes
        (map node_of_port bound.ports)
        (nodes_distinct bound.ports bound.distinct all) (nodes_below bound.ports all)
        (nodes_first bound.ports all) in
        let many : length (map node_of_port bound.ports) ≡ more = same_length bound.ports ∙ bound.many in
        omega (arith, few, many);
  }
