-- A worker that has made a table holds the pages that the making took, as the table's shape tells them.
use Rattle.std.proofs.Common.{◌≡◌, ℕ, ◌≤◌, ◌+◌, ◌-◌, ◌/◌, ◌%◌, max, Bool, true, false, cond, ap, ◌∙◌, arith}
use Rattle.std.proofs.lemmas.Bool.{lt-ltb}
use Rattle.std.specs.List.{range_with_len}
use Rattle.rht_words.specs.declared.shape.Shape.{Shape}
use Rattle.rht_words.specs.Shapes.{unpacked, size_of}
use Rattle.rht_nest.specs.Tables.{flat_shape, nested_shape, table_pages, pages_of_shape}
use Rattle.rht_nest.specs.Make.{made_shape, pages_taken}
use Rattle.rht_move.specs.Laws.{HoldsWhatWasMade}

-- the shape of a table comes back from its word, and it has the pages that were taken for it
pages_made : (exponent page : ℕ) (nested : Bool) → exponent ≤ 17 → page ≤ 4096
    → pages_of_shape (made_shape exponent nested page) ≡ range_with_len page (pages_taken exponent nested)
pages_made exponent page false few low =
    let read : unpacked (made_shape exponent false page) ≡ flat_shape exponent page = grind arith in
    ap (λ (s : Shape). range_with_len s.page (table_pages s)) read
pages_made exponent page true few low =
    let read : unpacked (made_shape exponent true page) ≡ nested_shape exponent page = grind arith in
    ap (λ (s : Shape). range_with_len s.page (table_pages s)) read
    ∙ ap (λ t. range_with_len page (cond t 1 (max 1 (size_of (nested_shape exponent page) / 64))))
    (lt-ltb 0 ((exponent - 1) % 6 + 1) (omega arith))

pub holds_what_was_made : HoldsWhatWasMade
holds_what_was_made g exponent allowed slot shape few made =
    let within = made.run_in.within in
    let most = g.within.pages_within in
    ap pages_of_shape made.shape_is
    ∙ pages_made exponent made.page made.nested few (omega (arith, within, most))
