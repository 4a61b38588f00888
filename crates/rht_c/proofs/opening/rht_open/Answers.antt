use Rattle.std.proofs.Common.{inl, inr, refl, sym, ap, ◌∙◌, subst}
use Rattle.std.specs.Prelude.{Ok, Err}
use Rattle.rht_words.specs.declared.config.Config.{Config}
use Rattle.rht_session.specs.declared.refused.NotOpened.TheVariants as reasons
use Rattle.rht_session.specs.Plain.{c_config}
use Rattle.rht_session.specs.Handles.{AreToOpen, AreOpenedHandles, IsWhyNotOpened}
use Rattle.rht_c.proofs.opening.rht_open.Goals as goal

pub returns-then-not-has_no_spare : goal.returns-then-not-has_no_spare
returns-then-not-has_no_spare c = record {
  answer = Err reasons.Config;
  told = c.told_opening.ensures;
  opened = tt;
  fit = tt;
  due = tt;
  written = tt;
  why = inl (sym c.has_no_spare.ensures ∙ c.if-not-has_no_spare.true, refl);
  same = (refl, refl);
}

pub returns-in-Ok : goal.returns-in-Ok
returns-in-Ok c =
    let rounded = c.config-rounded.ensures in
    let done = c.in-Ok.ensures in
    record {
      answer = Ok c.in-Ok.field-0;
      told = c.told_opening-in-Ok.ensures;
      opened = subst (λ (config : Config). AreOpenedHandles config c.open.new.into) rounded done.opened;
      fit = done.fit;
      due = (
        sym c.has_no_spare.ensures ∙ c.if-not-has_no_spare.false,
        subst (λ (config : Config). AreToOpen config c.args.handles.now) rounded done.due,
      );
      written = c.of.ensures ∙ ap c_config rounded;
      why = tt;
      same = tt;
    }

pub returns-in-Err : goal.returns-in-Err
returns-in-Err c =
    let rounded = c.config-rounded.ensures in
    let done = c.in-Err.ensures in
    record {
      answer = Err c.in-Err.why;
      told = c.told_opening-in-Err.ensures;
      opened = tt;
      fit = tt;
      due = tt;
      written = tt;
      why = inr (
        sym c.has_no_spare.ensures ∙ c.if-not-has_no_spare.false,
        subst (λ (config : Config). IsWhyNotOpened config c.args.handles.now c.in-Err.why) rounded done.why,
      );
      same = (refl, done.same);
    }
