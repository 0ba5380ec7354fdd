-- A sender of a lane as what a feed hands its entries in with.
use Rattle.std.proofs.Common.{◌≡◌, ◌<◌, ◌∙◌, length, refl}
use Rattle.stream_base.specs.declared.entry.Entry.{Entry}
use Rattle.stream_base.specs.declared.limits.TheConstants.{JOURNAL_MAX}
use Rattle.mail_lane.specs.Lane.{Lane, SenderState, IsSenderOf}
use Rattle.fan_in.specs.Ports.{PortLaws}
use Rattle.fan_in.specs.declared.port.Port.{Ghosts}

-- the same sender, whatever it has sent
pub record IsSameSender (old new : SenderState Entry) : Type 0 where
  pub lane : new.lane ≡ old.lane
  pub number : new.number ≡ old.number

-- what is said of a sender as a port
abbrev pub sender_port : Ghosts (SenderState Entry) Lane
sender_port = record {
  is_at = λ mail sender. IsSenderOf mail sender;
  is_of = λ source sender. sender.number ≡ source;
  is_same = λ old new. IsSameSender old new;
  handed = λ sender. sender.sent;
  is_full = λ sender. JOURNAL_MAX < length sender.sent;
}

-- the same sender stays of its lane and of its source
pub sender_laws : PortLaws {I = Lane} {P = SenderState Entry} (λ mail sender. IsSenderOf mail sender) (λ source sender. sender.number ≡ source) (λ old new. IsSameSender old new)
sender_laws = record {
  first = λ a. record { lane = refl; number = refl };
  more = λ a b c x y. record { lane = y.lane ∙ x.lane; number = y.number ∙ x.number };
  inlet = λ i a b s own. s.lane ∙ own;
  source = λ n a b s own. s.number ∙ own;
}
