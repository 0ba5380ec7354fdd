-- A move of the watermark brings the completions.
use Rattle.std.proofs.Common.{◌∙◌, length, ap, sym, rules}
use Rattle.stream_base.specs.Model.Changes.{Moment}
use Rattle.stream_base.specs.Model.Moments.{moment}
use Rattle.plain_windows.specs.Changing.{all_completions}
use Rattle.plain_keys.specs.States.{State}
use Rattle.plain_keys.proofs.Keeps.{move_is}
use Rattle.plain_keys.proofs.plain_key.PlainKeyKeyWindows.reserve_water.Goals as goal

pub returns : goal.returns
returns c =
    let s = c.self.inside in
    let d = c.args.defs.now in
    record {
      key = search rules;
      next = search rules;
      stays = search rules;
      ready = record {
        promised = λ reached key.
            c.count_completions-count.ensures key
            ∙ ap (λ (m : Moment). length (all_completions d.windows key m c.args.new)) (c.view.ensures ∙ ap (λ (t : State). moment t.kept t.marks c.args.old) (sym c.self.view_is))
            ∙ ap length (sym (move_is d key s.kept.items s.marks.items c.args.old c.args.new c.windows-windows.ensures.limits c.self.invariant.lists c.requires.to_come.rises));
      };
      promised = search rules;
      credit = search rules;
      ahead = search rules;
    }
