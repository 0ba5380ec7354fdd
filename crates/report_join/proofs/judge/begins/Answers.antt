-- The front of each form.
use Rattle.std.proofs.Common.{◌≡◌, ◌++◌, ◌↔◌, ℕ, Bool, List, IsTrue, codes, subst, sym}
use Rattle.report_join.specs.ShardReports.{form_told}
use Rattle.report_join.proofs.judge.begins.Goals as goal

pub returns-then-second : goal.returns-then-second
returns-then-second c =
    subst (λ (b : Bool). IsTrue c.begins_second.result ↔ ((later : List ℕ) × (c.args.text.now ≡ ((form_told b).front ++ codes "shard 0\n") ++ later))) (sym c.if-second.true) c.begins_second.ensures

pub returns-else-second : goal.returns-else-second
returns-else-second c =
    subst (λ (b : Bool). IsTrue c.begins_first.result ↔ ((later : List ℕ) × (c.args.text.now ≡ ((form_told b).front ++ codes "shard 0\n") ++ later))) (sym c.if-second.false) c.begins_first.ensures
