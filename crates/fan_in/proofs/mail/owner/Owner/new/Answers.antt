-- Nothing came, so nothing is noted.
use Rattle.std.proofs.Common.{◌≡◌, ◌≢◌, ◌∙◌, ℕ, zero, suc, [], get_or, replicate, refl, sym, subst, inl}
use Rattle.std.proofs.lemmas.List.{append-nil}
use Rattle.std.proofs.lemmas.List.Elements.{All-nil}
use Rattle.fan_in.specs.declared.outcome.Outcome.TheVariants.{Done}
use Rattle.fan_in.specs.Owning.{note_of}
use Rattle.fan_in.specs.Ports.{IsAbout}
use Rattle.fan_in.proofs.mail.owner.Owner.new.Goals as goal

none_noted : (many source : ℕ) → get_or (replicate many Done) source Done ≡ Done
none_noted zero source = refl
none_noted (suc many) zero = refl
none_noted (suc many) (suc source) = none_noted many source

pub returns : goal.returns
returns c = record {
  nothing = record {
    number_is = refl;
    sources_are = refl;
    defs_are = refl;
    strayed = λ e. absurd cc;
    noted = λ e. record {
      rest = [];
      parts = sym (append-nil c.args.shard.journal ∙ c.requires.blank);
      noted = All-nil (λ e. note_of e.source (replicate 16 Done) ≢ Done);
      about = λ source. subst (IsAbout c.args.number) (sym (none_noted 16 source)) tt;
      full = λ source is. let done = none_noted 16 source in absurd cc;
      open_or_full = λ e. inl refl;
    };
  };
}
