use Rattle.std.proofs.Common.{ℕ, ◌≡◌, ◌<◌, ◌++◌, List, take, drop, sym, ◌∙◌, ap, arith}
use Rattle.std.specs.Prelude.{length}
use Rattle.std.proofs.lemmas.List.{length-set, drop_all, take_all, append-nil}
use Rattle.rht_words.specs.Operations.{old_of, op_place, word_after, applied}
use Rattle.rht_core.proofs.Events.ReachedStates.{put_now, stepped_now}
use Rattle.rht_core.proofs.state.step.Goals as goal

-- a vector of which all was written
all_written : (n : ℕ) (xs ys : List ℕ) → n ≡ length ys → length xs ≡ length ys → take n (xs ++ drop (length xs) ys) ≡ xs
all_written n xs ys is long =
    rw (drop_all (length xs) ys (omega (arith, long)), append-nil) (take_all n xs (omega (arith, is, long)))

pub take-requires : goal.take-requires
take-requires g c =
    let low : c.args.caller < c.args.enrolled = omega (arith, c.if-caller-enrolled.false) in
    let place : c.args.caller < length c.args.locals.now.items =
    omega (arith, low, c.requires.sound.few_enrolled, c.requires.sound.all_locals) in
    record {
      put = put_now g.row.M.Denot g.M.Mix.mix_of c.args.env c.args.words.now.items c.args.enrolled c.args.locals.now.items c.args.caller
          c.apply-old.result c.index_mut-local.result.now c.in-Some.op c.requires.put low place c.index_mut-local.ensures.value
          (sym c.plan.ensures.plan ∙ c.in-Some.is)
          (c.apply-old.ensures.old ∙ ap (λ words. old_of words c.in-Some.op) c.as_mut_slice.ensures.value);
    }

pub returns : goal.returns
returns g c =
    let low : c.args.caller < c.args.enrolled = omega (arith, c.if-caller-enrolled.false) in
    let place : c.args.caller < length c.args.locals.now.items =
    omega (arith, low, c.requires.sound.few_enrolled, c.requires.sound.all_locals) in
    let words = c.args.words.now in
    let op = c.in-Some.op in
    let written : c.apply-old.new.words ≡ applied words.items op =
    c.apply-old.ensures.words ∙ ap (λ ws. applied ws op) c.as_mut_slice.ensures.value in
    let long : length c.apply-old.new.words ≡ length words.items =
    ap length written ∙ length-set words.items (op_place op) (word_after (old_of words.items op) op) in
    stepped_now g.row.M.Denot g.M.Mix.mix_of c.args.env c.args.words.now.items c.args.enrolled c.args.locals.now.items c.args.caller
    c.apply-old.result c.index_mut-local.result.now c.in-Some.op _ c.take.new.self c.take.result low place
    c.index_mut-local.ensures.value (sym c.plan.ensures.plan ∙ c.in-Some.is)
    (c.apply-old.ensures.old ∙ ap (λ words. old_of words c.in-Some.op) c.as_mut_slice.ensures.value)
    (all_written words.len c.apply-old.new.words words.items words.ok.0 long ∙ written)
    c.take.ensures.taken
