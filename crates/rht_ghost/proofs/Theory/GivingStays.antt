-- What is known of a retired table that is given back outlives a step of anybody else. Nobody else gives its slot to anybody, keeps words
-- there, or opens a section that comes to it; and nobody touches a table to which no open section comes.
use Rattle.std.proofs.Common.{◌≡◌, ℕ, ◌*◌, ◌+◌, ◌<◌, sym, ◌∙◌, ap, subst, arith}
use Rattle.rht_words.specs.declared.env.Env.{Env}
use Rattle.rht_words.proofs.Memory.{Memory}
use Rattle.rht_nest.specs.Tables.{is_nested}
use Rattle.rht_ghost.proofs.Theory.Ghosts.{has_entries, Retired, Table, Ghost, has_table, table_of_slot, IsSince}
use Rattle.rht_ghost.proofs.Theory.Wholes.{Whole, IsThere, pages_of, slot-there}
use Rattle.rht_ghost.proofs.Theory.Knowns.{KnownGiving, Over, InRun, AtTop, AtLeaf, ClearsLeaf, ClearsTop}
use Rattle.rht_ghost.proofs.Theory.Knowledge.{IsAsking, IsComparing, IsOverAt, AreBare, IsTakenDown, IsAtLeaf, GivingMeans}
use Rattle.rht_ghost.proofs.Theory.Ways.{first_page}
use Rattle.rht_ghost.proofs.Theory.SectionFrames.{retired-before}
use Rattle.rht_ghost.proofs.Theory.Reliance.{WorkStays, IsUntouched}

module _ (env : Env) (mix : ℕ → ℕ → ℕ → ℕ) where
  module _ (M : Memory) (G : Ghost) (whole : Whole env mix M G) (slot τ : ℕ) (retired : G.slot slot ≡ Retired τ) where
    -- a retired table is there, in its slot
    pub retired-slot : (G.table τ).slot ≡ slot
    retired-slot =
        ap (λ t. (G.table t).slot) (sym (ap table_of_slot retired)) ∙ (whole.tables.slots slot (ap has_table retired)).slot

    pub retired-there : IsThere G τ
    retired-there = subst (IsThere G) (ap table_of_slot retired) (slot-there env mix whole.tables slot (ap has_table retired))

    -- whose number is one of a slot
    pub retired-within : slot < 8
    retired-within = subst (λ s. s < 8) retired-slot (whole.tables.each τ retired-there).slot_in

  module _ (c : ℕ) (M M' : Memory) (G G' : Ghost) (whole : Whole env mix M G) (stays : WorkStays env mix c M G M' G') where
    -- it is retired still, and no section comes to it that didn't before
    retired-stays : (slot τ : ℕ) → G.slot slot ≡ Retired τ → G'.slot slot ≡ Retired τ
    retired-stays slot τ retired =
        let before = retired-before env mix M G whole.tables slot τ retired in
        stays.left slot (ap has_table retired) (omega (arith, before, ap table_of_slot retired)) ∙ retired

    none-comes : (slot τ d : ℕ) → G.slot slot ≡ Retired τ → IsSince (G'.from d) τ → IsSince (G.from d) τ
    none-comes slot τ d retired since = (stays.sections d τ (retired-before env mix M G whole.tables slot τ retired) since).0

    abbrev IsAsking-stay : (slot count : ℕ) → IsAsking env mix G slot count → IsAsking env mix G' slot count
    IsAsking-stay slot count is = record {
      table = is.table;
      retired = retired-stays slot is.table is.retired;
      before = λ d l since. is.before d l (none-comes slot is.table d is.retired since);
    }

    pub asking_stays : (slot count : ℕ) → IsAsking env mix G slot count → IsAsking env mix G' slot count
    asking_stays slot count is = IsAsking-stay slot count is

    pub comparing_stays : (slot count kept : ℕ) → IsComparing env mix M G slot count kept → IsComparing env mix M' G' slot count kept
    comparing_stays slot count kept is = record {
      asking = IsAsking-stay slot count is.asking;
      among = is.among;
      kept_is = stays.kept slot count (retired-within M G whole slot is.asking.table is.asking.retired) is.among ∙ is.kept_is;
    }

    -- ---- once no section comes to it

    untouched : (slot : ℕ) (is : IsOverAt env mix G slot) → IsUntouched env mix is.table G G'
    untouched slot is = stays.over is.table (retired-before env mix M G whole.tables slot is.table is.retired) is.over

    abbrev IsOverAt-stay : (slot : ℕ) → IsOverAt env mix G slot → IsOverAt env mix G' slot
    IsOverAt-stay slot is = record {
      table = is.table;
      retired = retired-stays slot is.table is.retired;
      over = λ d since. is.over d (none-comes slot is.table d is.retired since);
    }

    AreBare-stay : (slot : ℕ) (is : IsOverAt env mix G slot) (page count : ℕ) → AreBare env mix G is.table page count
        → AreBare env mix G' is.table page count
    AreBare-stay slot is page count bare i l =
        ap (λ (t : Table). t.entry (64 * page + i)) (untouched slot is).table ∙ bare i l

    abbrev IsTakenDown-stay : (slot shape top : ℕ) → IsTakenDown env mix G slot shape top → IsTakenDown env mix G' slot shape top
    IsTakenDown-stay slot shape top is = record {
      going = IsOverAt-stay slot is.going;
      shape_is = ap (λ (t : Table). t.shape) (untouched slot is.going).table ∙ is.shape_is;
      nested = is.nested;
      bare = AreBare-stay slot is.going (first_page shape) top is.bare;
    }

    abbrev IsAtLeaf-stay : (slot shape top page leaf : ℕ) → IsAtLeaf env mix G slot shape top page leaf
        → IsAtLeaf env mix G' slot shape top page leaf
    IsAtLeaf-stay slot shape top page leaf is =
        let going = is.down.going in
        record {
          down = IsTakenDown-stay slot shape top is.down;
          deep = is.deep;
          leads = ap (λ (t : Table). t.entry (64 * first_page shape + top)) (untouched slot going).table ∙ is.leads;
          bare = AreBare-stay slot going page leaf is.bare;
        }

    pub GivingMeans-stay : (slot : ℕ) (known : KnownGiving) → GivingMeans env mix G slot known
        → GivingMeans env mix G' slot known
    GivingMeans-stay slot Over is = IsOverAt-stay slot is
    GivingMeans-stay slot (InRun first pages) is =
        let shape = ap (λ (t : Table). t.shape) (untouched slot is.going).table in
        record {
          going = IsOverAt-stay slot is.going;
          flat = ap is_nested shape ∙ is.flat;
          first_is = ap first_page shape ∙ is.first_is;
          pages_are = ap (pages_of env mix) shape ∙ is.pages_are;
        }
    GivingMeans-stay slot (AtTop shape top) is = IsTakenDown-stay slot shape top is
    GivingMeans-stay slot (AtLeaf shape top page leaf) is = IsAtLeaf-stay slot shape top page leaf is
    GivingMeans-stay slot (ClearsLeaf shape top page leaf below) is = record {
      at = IsAtLeaf-stay slot shape top page leaf is.at;
      leads_on = ap (λ (t : Table). t.entry (64 * page + leaf)) (untouched slot is.at.down.going).table ∙ is.leads_on;
    }
    GivingMeans-stay slot (ClearsTop shape top page) is =
        let going = is.down.going in
        let same = (untouched slot going).table in
        record {
          down = IsTakenDown-stay slot shape top is.down;
          leads = ap (λ (t : Table). t.entry (64 * first_page shape + top)) same ∙ is.leads;
          bare = λ has. AreBare-stay slot going page 64
              (is.bare (sym (ap (λ (t : Table). has_entries (t.part page)) same) ∙ has));
        }
