-- What links, bucket words and entries say comes back from the words that are made of it.
-- They are read totally, so what any word names is there or is none.
use Rattle.std.proofs.Common.{◌≡◌, ℕ, ◌-◌, ◌/◌, ◌%◌, ◌<◌, ◌≤◌, refl, arith}
use Rattle.std.specs.Prelude.{Option, Some, None, IfSome, ◌==◌, ◌&&◌, nat_lt, nat_le}
use Rattle.std.proofs.lemmas.Bool.{cond_both, and_parts, ltb-true, leb-true}
use Rattle.std.proofs.lemmas.Bool.Decides.{nat_tests}
use Rattle.rht_words.specs.declared.geometry.Geometry.{Geometry}
use Rattle.rht_words.specs.Links.{link_of, plain_of, node_of, slot_of}
use Rattle.rht_words.specs.Laws.{LinksTellApart, HeadsComeBack, EntriesComeBack}

pub links_tell_apart : LinksTellApart
links_tell_apart = record {
  link_even = λ node. omega arith;
  marker_odd = λ place. omega arith;
  never_meet = λ node place same. absurd (omega arith);
  link_names = λ nodes node l. grind (arith, nat_tests);
  marker_names_no_node = λ nodes place. grind (arith, nat_tests);
  named_by_link = λ nodes link node is. grind (arith, nat_tests);
  marker_names = λ place other l m same. omega arith;
}

pub heads_come_back : HeadsComeBack
heads_come_back = record {
  plain_head = λ place word. grind (arith, nat_tests);
  head_link = λ place node. grind (arith, nat_tests);
  head_marker = λ place. grind (arith, nat_tests);
}

-- the word of a bucket whose first link leads to a node is that link
pub plain_of-link : (place node : ℕ) → plain_of place (link_of node) ≡ link_of node
plain_of-link place node = grind (arith, nat_tests)

pub entries_come_back : EntriesComeBack
entries_come_back = record {
  future_names = λ slot l. grind (arith, nat_tests);
  no_future = refl;
  entry_names = λ pages page l. grind (arith, nat_tests);
  no_entry = λ pages. refl;
}

-- a link leads to one of the nodes, where it leads to one
pub node_of-in : (g : Geometry) (link : ℕ) → IfSome (node_of g.nodes link) (λ node. node < g.nodes)
node_of-in g link =
    cond_both ((link % 2 == 0) && nat_le 2 link && nat_lt (link / 2 - 1) g.nodes) (Some (link / 2 - 1)) None
    (λ found. IfSome found (λ node. node < g.nodes))
    (λ t.
    let parts = and_parts ((link % 2 == 0) && nat_le 2 link) (nat_lt (link / 2 - 1) g.nodes) t in
    ltb-true (link / 2 - 1) g.nodes parts.1)
    (λ f. tt)

-- one of the slots, where it is one
abbrev pub IsSlotOrNone : Option ℕ → Type 0
IsSlotOrNone found = IfSome found (λ slot. slot < 8)

-- a future word leads to one of the slots, where it leads to one
pub slot_of-in : (future : ℕ) → IsSlotOrNone (slot_of future)
slot_of-in future =
    cond_both (nat_le 1 future && nat_le future 8) (Some (future - 1)) None IsSlotOrNone
    (λ t.
    let parts = and_parts (nat_le 1 future) (nat_le future 8) t in
    let low : 1 ≤ future = leb-true 1 future parts.0 in
    let high : future ≤ 8 = leb-true future 8 parts.1 in
    omega arith)
    (λ f. tt)
