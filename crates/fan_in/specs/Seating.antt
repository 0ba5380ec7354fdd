-- A pass as what a feed hands its entries in with.
use Rattle.std.proofs.Common.{◌≡◌, ◌<◌, ◌+◌, ℕ, length, sym, refl, subst, ◌∙◌, Option}
use Rattle.std.specs.Prelude.{IfSome}
use Rattle.stream_base.specs.declared.entry.Entry.{Entry}
use Rattle.stream_base.specs.declared.limits.TheConstants.{JOURNAL_MAX}
use Rattle.turnstile.specs.declared.keeps.Keeps.{Ghosts}
use Rattle.turnstile.specs.declared.pass.Pass.{Pass}
use Rattle.turnstile.specs.declared.turnstile.Turnstile.{Turnstile}
use Rattle.turnstile.specs.Passes.{number, fixed, made, seen, IsPassOf, IsSamePass}
use Rattle.fan_in.specs.Desks.{BookedState}
use Rattle.fan_in.specs.Ports.{PortLaws}
use Rattle.fan_in.specs.declared.port.Port.{Ghosts as Port}
use Rattle.fan_in.specs.declared.fixed_part.FixedPart.{FixedPart}

module _ {g : Ghosts BookedState Entry FixedPart} where
  -- what is said of a pass
  abbrev pub pass_port : Port (Pass BookedState Entry FixedPart g) (Turnstile BookedState Entry FixedPart)
  pass_port = record {
    is_at = λ desk pass. IsPassOf desk pass;
    is_of = λ source pass. (number pass ≡ source + 1) × IfSome (fixed pass) (λ f. source < f.sources);
    is_same = λ old new. IsSamePass old new;
    handed = λ pass. made pass;
    is_full = λ pass. length (seen pass) ≡ JOURNAL_MAX;
  }

  -- the same pass stays of its desk and of its source
  pub pass_laws : PortLaws {I = Turnstile BookedState Entry FixedPart} {P = Pass BookedState Entry FixedPart g} (λ desk pass. IsPassOf desk pass) (λ source pass. (number pass ≡ source + 1) × IfSome (fixed pass) (λ f. source < f.sources)) (λ old new. IsSamePass old new)
  pass_laws = record {
    first = λ a. record { turnstile = refl; number_same = refl; room_same = refl; fixed_same = refl; born_same = refl };
    more = λ a b c x y. record {
      turnstile = y.turnstile ∙ x.turnstile;
      number_same = y.number_same ∙ x.number_same;
      room_same = y.room_same ∙ x.room_same;
      fixed_same = y.fixed_same ∙ x.fixed_same;
      born_same = y.born_same ∙ x.born_same;
    };
    inlet = λ i a b s own. s.turnstile ∙ own;
    source = λ n a b s own. (s.number_same ∙ own.0, known n (fixed a) (fixed b) s.fixed_same own.1);
  }
    where
      known : (n : ℕ) (x y : Option FixedPart) → y ≡ x → IfSome x (λ f. n < f.sources) → IfSome y (λ f. n < f.sources)
      known n x y e h = subst (λ (o : Option FixedPart). IfSome o (λ f. n < f.sources)) (sym e) h
