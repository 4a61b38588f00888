-- From which word of the node map on a caller looks for a free node: from one that there is, and in the plain ways from the first.
use Rattle.std.proofs.Common.{◌≡◌, ℕ, zero, suc, ◌<◌, Bool, true, false, nat_lt, refl, ap, ◌∙◌, arith}
use Rattle.std.proofs.lemmas.Bool.{cond_both, ltb-true, ltb-false}
use Rattle.rht_words.specs.declared.env.Env.{Env}
use Rattle.rht_words.specs.declared.ways.Ways.{Ways}
use Rattle.rht_words.specs.Places.{map_words}
use Rattle.rht_words.specs.Settled.{plain_ways}
use Rattle.rht_words.specs.Ways.{word_begun, start_in}
use Rattle.rht_words.specs.Laws.{CallersBeginWithin}

word_begun-within : (spread : Bool) (words start : ℕ) → 0 < words → word_begun spread words start < words
word_begun-within spread words zero some = some
word_begun-within false words (suc index) some = some
word_begun-within true words (suc index) some =
    cond_both (nat_lt (suc index) words) (suc index) 0 (λ n. n < words) (λ t. ltb-true (suc index) words t) (λ f. some)

-- it is one of the map's words
pub start_in-within : (env : Env) (start : ℕ) → start_in env start < map_words env.geometry.nodes
start_in-within env start =
    word_begun-within env.ways.spread (map_words env.geometry.nodes) start (omega (arith, env.geometry.within.nodes_within))

-- where callers may begin at any, it is the one that is given
word_begun-given : (words start : ℕ) → start < words → word_begun true words start ≡ start
word_begun-given words zero within = refl
word_begun-given words (suc index) within =
    cond_both (nat_lt (suc index) words) (suc index) 0 (λ n. n ≡ suc index) (λ t. refl)
    (λ f. absurd (omega (arith, within, ltb-false (suc index) words f)))

pub start_in-given : (env : Env) (start : ℕ) → env.ways.spread ≡ true → start < map_words env.geometry.nodes
    → start_in env start ≡ start
start_in-given env start spread within =
    ap (λ s. word_begun s (map_words env.geometry.nodes) start) spread
    ∙ word_begun-given (map_words env.geometry.nodes) start within

word_begun-first : (words start : ℕ) → word_begun false words start ≡ 0
word_begun-first words zero = refl
word_begun-first words (suc index) = refl

-- in the plain ways it is the first
pub start_in-plain : (env : Env) (start : ℕ) → env.ways ≡ plain_ways → start_in env start ≡ 0
start_in-plain env start plain =
    ap (λ (w : Ways). word_begun w.spread (map_words env.geometry.nodes) start) plain
    ∙ word_begun-first (map_words env.geometry.nodes) start

pub callers_begin_within : CallersBeginWithin
callers_begin_within env start = record {
  within = start_in-within env start;
  plain = start_in-plain env start;
  given = start_in-given env start;
}
