-- One fresh part more comes behind the others.
use Rattle.std.proofs.Common.{◌≡◌, ◌++◌, [], ◌∷◌, rules}
use Rattle.stream_base.specs.Model.Moments.{moment}
use Rattle.key_slicer.proofs.AheadFacts.{credit_pushed, each_pushed}
use Rattle.key_slicer.proofs.parts.Parts.fresh.Goals as goal

pub loop-window-preserved : goal.loop-window-preserved
loop-window-preserved g c =
    let d = c.args.defs.now in
    let i = c.loop-window.window in
    let parts = c.loop-window.list.items in
    let later = c.push_reserved.new.self.items in
    let h = c.loop-window.invariant in
    let pushed : later ≡ parts ++ c.fresh.result ∷ [] = search rules in
    record {
      as_many = search rules;
      room = search rules;
      each = λ water s none. each_pushed (λ j part. g.P.KeyPart.stands d j (moment [] [] water) 0 s part) i parts later c.fresh.result h.as_many pushed (h.each water s none) (c.fresh.ensures.stands water s none);
      credit = credit_pushed g.P.KeyPart.credit parts later c.fresh.result pushed h.credit c.fresh.ensures.credit;
      ahead = λ water s none. each_pushed (λ j part. g.P.KeyPart.is_ahead d j water s part) i parts later c.fresh.result h.as_many pushed (h.ahead water s none) (c.fresh.ensures.ahead water s none);
    }
